-- What is known of the best schedule of a search.
use Rattle.std.proofs.Common.{◌≡◌, ◌≤◌, arith, List, Option, None, Some, inl, inr, subst, ◌∙◌, IfSome}
use Rattle.std.proofs.lemmas.List.{length-map}
use Rattle.qc_gantt.specs.Plan.{HasShortEnds}
use Rattle.qc_close.specs.Model.{Direction, Up, Down, Slot, Turn, InstanceView, Goes, IsJudgeable, most_start, GoesOneWay, IsAllowed, IsAllowedBy, ends, starts}
use Rattle.qc_model.specs.declared.turn.Turn.TheVariants as turn
use Rattle.qc_model.proofs.NodeLemmas.{ends_by, start_at}
use Rattle.qc_starts.specs.Tight.{IsAllowedSo, IsTight}

goes_one_way : (inst : InstanceView) (sched : List Slot) (way : Direction) → Goes inst sched way
    → GoesOneWay inst sched
goes_one_way inst sched Up goes = inl goes
goes_one_way inst sched Down goes = inr goes

-- one that cranes may follow as it is seen they may follow
allowed_so : (t : Turn) (inst : InstanceView) (sched : List Slot) (way : Direction) → IsAllowedSo t inst sched way
    → IsAllowedBy t inst sched
allowed_so turn.OneWay inst sched way goes = goes_one_way inst sched way goes
allowed_so turn.Free inst sched way goes = goes.0

pub tight_allowed : (inst : InstanceView) (sched : List Slot) → IsTight inst sched → IsAllowed inst sched
tight_allowed inst sched tight = allowed_so inst.turn inst sched tight.way tight.goes

-- what holds of a value that is there
pub of_some : {A : Type 0} (P : A → Type 0) (o : Option A) (a : A) → o ≡ Some a → IfSome o P → P a
of_some P None a e h = absurd (cc e)
of_some P (Some b) a e h = let same : b ≡ a = cc in subst P same h

-- where a schedule ends soon, each task does
pub short_ends : (inst : InstanceView) (sched : List Slot) → IsJudgeable inst sched
    → ends inst sched ≤ most_start
    → HasShortEnds inst sched
short_ends inst sched judged soon = λ j low.
    let size = length-map sched (λ (s : Slot). s.start) ∙ judged.all_tasks in
    let by = ends_by inst.tasks (starts sched) j size low in
    omega (arith, by, start_at sched j, soon)
