-- Tasks and waiting cranes stand on the rail, seen either way.
use Rattle.std.proofs.Common.{◌≡◌, ℕ, ◌<◌, ◌≤◌, ℤ, List, length, slice_index_or, ap, ◌∙◌, arith, to_z, of_z, w32}
use Rattle.std.proofs.lemmas.Int.{ints}
use Rattle.std.proofs.lemmas.List.{get_or_read}
use Rattle.qc_model.specs.declared.crane.Crane.{Crane}
use Rattle.std.proofs.lemmas.List.Sums.{get_or-le-sum_by}
use Rattle.qc_model.specs.declared.direction.Direction.{Direction}
use Rattle.qc_model.specs.declared.direction.Direction.TheVariants.{Up, Down}
use Rattle.qc_model.specs.Instance.{InstanceView, Valid, no_task, no_crane, IsOnRail, bay_of, ticks_of, crane}
use Rattle.qc_model.specs.Seen.{seen_bay, seen_crane}
use Rattle.qc_model.proofs.LimitsOf.{limits_of}

pub task_on_rail : (inst : InstanceView) → Valid inst → (way : Direction) (j : ℕ) → j < length inst.tasks → IsOnRail (seen_bay inst way (bay_of inst j))
task_on_rail inst v Up j h =
    let l = limits_of inst v in
    let b = v.tasks.bays j h in
    (omega (arith, ints), omega (arith, ints))
task_on_rail inst v Down j h =
    let l = limits_of inst v in
    let b = v.tasks.bays j h in
    (omega (arith, ints), omega (arith, ints))

pub berth_on_rail : (inst : InstanceView) → Valid inst → (way : Direction) (k : ℕ) → k < length inst.cranes → IsOnRail (seen_bay inst way (crane inst k).bay)
berth_on_rail inst v Up k h = ((limits_of inst v).berths k h).0
berth_on_rail inst v Down k h = ((limits_of inst v).berths k h).1

pub reach_on_rail : (inst : InstanceView) → Valid inst → (k : ℕ) → k < length inst.cranes → IsOnRail (crane inst k).from × IsOnRail (crane inst k).to
reach_on_rail inst v k h =
    let l = limits_of inst v in
    let r = v.cranes.reach k h in
    ((omega (arith, ints), omega (arith, ints)), (omega (arith, ints), omega (arith, ints)))

pub seen_on_rail : (inst : InstanceView) → Valid inst → (way : Direction) (k : ℕ) → k < length inst.cranes → IsOnRail (seen_crane inst way (crane inst k)).bay
seen_on_rail inst v Up k h = berth_on_rail inst v Up k h
seen_on_rail inst v Down k h = berth_on_rail inst v Down k h

-- a bay as the code reads it
pub read_bay : (x y : ℤ) → x ≡ y → IsOnRail y → to_z w32 (of_z w32 x) ≡ y
read_bay x y e h = omega (arith, ints)

-- a bay as the code reads it and sees it
pub read_seen : (inst : InstanceView) (way : Direction) (r x y : ℤ) → r ≡ seen_bay inst way (to_z w32 (of_z w32 x)) → x ≡ y → IsOnRail y → IsOnRail (seen_bay inst way y) → to_z w32 (of_z w32 r) ≡ seen_bay inst way y
read_seen inst way r x y e p g h = read_bay r (seen_bay inst way y) (e ∙ ap (seen_bay inst way) (read_bay x y p g)) h

-- no task takes longer than all together
pub ticks_bounded : (inst : InstanceView) → Valid inst → (j : ℕ) → j < length inst.tasks → ticks_of inst j ≤ 502400000
ticks_bounded inst v j h = omega (arith, get_or-le-sum_by (λ t. t.ticks) inst.tasks j no_task h, v.tasks.work)

-- a crane that is read is that of the instance
pub read_crane : (inst : InstanceView) (cs : List Crane) (i k : ℕ) (x : Crane) → cs ≡ inst.cranes → i ≡ k → i < length inst.cranes → x ≡ slice_index_or cs i x → x ≡ crane inst k
read_crane inst cs i k x e p h is =
    let g : i < length cs = rw e h in
    get_or_read cs i x g is no_crane ∙ ap (λ ys. slice_index_or ys i no_crane) e ∙ ap (crane inst) p
