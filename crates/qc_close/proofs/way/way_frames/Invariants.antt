use Rattle.std.proofs.Common.{◌≡◌, ◌<◌, List, Option, ℕ, get_or, length, map, take}
use Rattle.qc_close.specs.Model.{Frame, barred_frame, way_frame, crane_numbers}
use Rattle.qc_close.specs.Moves.{IsMoving}
use Rattle.qc_close.proofs.way.way_frames.Given as goal

abbrev pub invariant-loop-crane : goal.invariant-loop-crane
invariant-loop-crane l = record {
  many : length l.ways ≡ 8;
  frames : (w : ℕ) (d : Frame) → w < l.crane → (cranes : List (Option ℕ)) → IsMoving l.inst cranes l.spots l.table l.trips
      → take (length l.inst.cranes) l.frames ≡ map (barred_frame l.inst l.turn cranes) (crane_numbers l.inst)
      → get_or l.ways w d ≡ way_frame l.inst l.turn cranes w;
}
