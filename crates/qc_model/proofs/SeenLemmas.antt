-- What is seen of an instance and a schedule, part by part.
use Rattle.std.proofs.Common.{◌≡◌, ℕ, ◌+◌, ◌-◌, ◌<◌, List, [], ◌∷◌, length, get_or, map, max, refl, ap, ◌∙◌, arith}
use Rattle.std.proofs.lemmas.List.{get_or-map, get_or-reverse, length-map}
use Rattle.std.proofs.Math.ListN.{length-reverse}
use Rattle.qc_model.specs.declared.direction.Direction.{Direction}
use Rattle.qc_model.specs.declared.direction.Direction.TheVariants.{Up, Down}
use Rattle.qc_model.specs.declared.schedule.Slot.{Slot}
use Rattle.qc_model.specs.declared.task.Task.{Task}
use Rattle.qc_model.specs.Instance.{InstanceView, no_task, no_crane, bay_of, ticks_of, release_of, crane}
use Rattle.qc_model.specs.Rules.{no_slot, crane_of, ends, last_end, start_of, starts}
use Rattle.qc_model.specs.OneWay.{mirror, mirror_task, mirror_crane, mirror_slot}
use Rattle.qc_model.specs.Seen.{seen, seen_schedule, seen_bay, seen_crane, seen_number}

pub seen-task_count : (inst : InstanceView) (way : Direction) → length (seen inst way).tasks ≡ length inst.tasks
seen-task_count inst Up = refl
seen-task_count inst Down = length-map inst.tasks (mirror_task inst)

pub seen-crane_count : (inst : InstanceView) (way : Direction) → length (seen inst way).cranes ≡ length inst.cranes
seen-crane_count inst Up = refl
seen-crane_count inst Down = length-reverse (map (mirror_crane inst) inst.cranes) ∙ length-map inst.cranes (mirror_crane inst)

pub seen-bay_of : (inst : InstanceView) (way : Direction) (j : ℕ) → j < length inst.tasks → bay_of (seen inst way) j ≡ seen_bay inst way (bay_of inst j)
seen-bay_of inst Up j h = refl
seen-bay_of inst Down j h = ap (λ t. t.bay) (get_or-map (mirror_task inst) inst.tasks j no_task no_task h)

pub seen-ticks_of : (inst : InstanceView) (way : Direction) (j : ℕ) → j < length inst.tasks → ticks_of (seen inst way) j ≡ ticks_of inst j
seen-ticks_of inst Up j h = refl
seen-ticks_of inst Down j h = ap (λ t. t.ticks) (get_or-map (mirror_task inst) inst.tasks j no_task no_task h)

pub seen-release_of : (inst : InstanceView) (way : Direction) (j : ℕ) → j < length inst.tasks → release_of (seen inst way) j ≡ release_of inst j
seen-release_of inst Up j h = refl
seen-release_of inst Down j h = ap (λ t. t.release) (get_or-map (mirror_task inst) inst.tasks j no_task no_task h)

pub seen-crane_of : (inst : InstanceView) (sched : List Slot) (way : Direction) (j : ℕ) → j < length sched → crane_of (seen_schedule inst sched way) j ≡ seen_number inst way (crane_of sched j)
seen-crane_of inst sched Up j h = refl
seen-crane_of inst sched Down j h = ap (λ s. s.crane) (get_or-map (mirror_slot inst) sched j no_slot no_slot h)

pub seen-start_of : (inst : InstanceView) (sched : List Slot) (way : Direction) (j : ℕ) → j < length sched → start_of (seen_schedule inst sched way) j ≡ start_of sched j
seen-start_of inst sched Up j h = refl
seen-start_of inst sched Down j h = ap (λ s. s.start) (get_or-map (mirror_slot inst) sched j no_slot no_slot h)

-- a crane of the mirror is the mirror of the crane with the mirrored number
mirror-crane : (inst : InstanceView) (k : ℕ) → k < length inst.cranes → crane (mirror inst) k ≡ mirror_crane inst (crane inst (length inst.cranes - 1 - k))
mirror-crane inst k h =
    let n : length (map (mirror_crane inst) inst.cranes) ≡ length inst.cranes = length-map inst.cranes (mirror_crane inst) in
    let a : k < length (map (mirror_crane inst) inst.cranes) = omega arith in
    let b : length inst.cranes - 1 - k < length inst.cranes = omega arith in
    get_or-reverse (map (mirror_crane inst) inst.cranes) k no_crane a
    ∙ ap (λ m. get_or (map (mirror_crane inst) inst.cranes) (m - 1 - k) no_crane) n
    ∙ get_or-map (mirror_crane inst) inst.cranes (length inst.cranes - 1 - k) no_crane no_crane b

-- a crane that is seen is one of the instance, as it is seen
pub seen-crane : (inst : InstanceView) (way : Direction) (k : ℕ) → k < length inst.cranes → crane (seen inst way) k ≡ seen_crane inst way (crane inst (seen_number inst way k))
seen-crane inst Up k h = refl
seen-crane inst Down k h = mirror-crane inst k h

pub seen-ends : (inst : InstanceView) (sched : List Slot) (way : Direction) → ends (seen inst way) (seen_schedule inst sched way) ≡ ends inst sched
seen-ends inst sched Up = refl
seen-ends inst sched Down = go inst.tasks sched
  where
    go : (ts : List Task) (ss : List Slot) → last_end (map (mirror_task inst) ts) (starts (map (mirror_slot inst) ss)) ≡ last_end ts (starts ss)
    go [] ss = refl
    go (t ∷ ts) [] = refl
    go (t ∷ ts) (s ∷ ss) = ap (λ n. max (s.start + t.ticks) n) (go ts ss)
