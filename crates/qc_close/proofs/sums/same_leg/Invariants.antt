use Rattle.std.proofs.Common.{◌≡◌, ℕ, ◌-◌, ◌<◌, get_or}
use Rattle.qc_close.specs.Model.{Frame, bays_to}
use Rattle.qc_close.specs.Counts.{apart}
use Rattle.qc_close.proofs.sums.same_leg.Given as goal

abbrev pub invariant-loop-frame : goal.invariant-loop-frame
invariant-loop-frame l =
    (i : ℕ) (d : Frame) → i < l.frame-index
    → bays_to l.way (get_or l.frames i d) l.to - bays_to l.way (get_or l.frames i d) l.from ≡ apart l.way l.from l.to
