use Rattle.std.proofs.Common.{◌≡◌, ℕ, ◌<◌, length, get_or}
use Rattle.qc_close.specs.Model.{Frame, barred_frame}
use Rattle.qc_close.specs.Counts.{IsNear}
use Rattle.qc_close.proofs.frames.frames.Given as goal

abbrev pub invariant-loop-crane : goal.invariant-loop-crane
invariant-loop-crane l = record {
  many : length l.frames ≡ 8;
  frames : (w : ℕ) (d : Frame) → w < l.crane → get_or l.frames w d ≡ barred_frame l.inst l.turn l.cranes w;
  near : (w : ℕ) (d : Frame) → w < l.crane → IsNear (get_or l.frames w d);
}
