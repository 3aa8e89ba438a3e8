-- What a sweep takes for granted holds of an instance and a schedule that goes one way.
use Rattle.std.proofs.Common.{◌≡◌, ℕ, ◌<◌, ℤ, List, length, sym, subst, arith}
use Rattle.qc_model.specs.declared.direction.Direction.{Direction}
use Rattle.qc_model.specs.declared.direction.Direction.TheVariants.{Up, Down}
use Rattle.qc_model.specs.declared.schedule.Slot.{Slot}
use Rattle.qc_model.specs.Instance.{InstanceView, Valid}
use Rattle.qc_model.specs.Judge.{Goes}
use Rattle.qc_model.specs.Judged.{Judged}
use Rattle.qc_model.specs.Motion.{IsFloor}
use Rattle.qc_model.specs.OneWay.{GoesUp}
use Rattle.qc_model.specs.Seen.{seen, seen_schedule}
use Rattle.qc_model.proofs.MirrorLemmas.{seen_valid}
use Rattle.qc_model.proofs.SeenLemmas.{seen-crane_count}
use Rattle.qc_motion.specs.Sweep.{IsSound}

goes_up : (inst : InstanceView) (sched : List Slot) (way : Direction) → Goes inst sched way
    → GoesUp (seen inst way) (seen_schedule inst sched way)
goes_up inst sched Up g = g
goes_up inst sched Down g = g.mirrored

pub sound_of : (inst : InstanceView) (sched : List Slot) (way : Direction) (it : Judged) (k : ℕ) (x : ℤ)
    → Valid inst → Goes inst sched way → it ≡ record { inst = seen inst way; sched = seen_schedule inst sched way }
    → k < length inst.cranes → IsFloor it.inst it.sched k x
    → IsSound (record { inst = it.inst; sched = it.sched; crane = k; floor = x })
sound_of inst sched way it k x v g e low floor = record {
  valid = subst (λ (j : Judged). Valid j.inst) (sym e) (seen_valid inst v way);
  goes = subst (λ (j : Judged). GoesUp j.inst j.sched) (sym e) (goes_up inst sched way g);
  range = subst (λ (j : Judged). k < length j.inst.cranes) (sym e) (omega (arith, seen-crane_count inst way));
  floor = floor;
}
