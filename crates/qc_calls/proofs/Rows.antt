-- What the definitions of nodes give on examples that are worked out by hand. Tasks and cranes are counted from 0, and
-- decisions are newest first. Hatches 2, 6, 10 and 14 are at bays 1 to 4; travel takes 1 tick a bay. With a margin of 1
-- cranes k places apart keep 2 k bays between them; where bays are missing, one goes clear of the other by as many ticks.
use Rattle.std.proofs.Common.{◌≡◌, ℕ, ◌+◌, pos, true, false, List, [], ◌∷◌, codes, None, Some, is_some, inl, inr, refl, sym, ap, ◌∙◌, arith}
use Rattle.std.proofs.lemmas.Bool.{false≢true}
use Rattle.qc_model.specs.declared.decision.Decision.{Decision}
use Rattle.qc_model.specs.declared.decision.Decision.TheVariants.{Assign, Order}
use Rattle.qc_model.specs.declared.turn.Turn.TheVariants.{OneWay}
use Rattle.qc_model.specs.declared.task.Phase.{Phase}
use Rattle.qc_model.specs.declared.task.Phase.TheVariants.{DeckOut, HoldOut}
use Rattle.qc_model.specs.declared.task.Task.{Task}
use Rattle.qc_model.specs.declared.crane.Crane.{Crane}
use Rattle.qc_model.specs.declared.pair.Pair.{Pair}
use Rattle.qc_model.specs.declared.schedule.Slot.{Slot}
use Rattle.qc_model.specs.Closed.{grain}
use Rattle.qc_model.specs.Instance.{InstanceView, bay_of, ticks_of, release_of, crane, pair_of}
use Rattle.qc_model.specs.Leaves.{leaf_value, chain, packed}
use Rattle.qc_model.specs.Leaves as leaves
use Rattle.qc_model.specs.Rules.{KeepsReady}
use Rattle.qc_num.specs.declared.bound.Bound.TheVariants.{Least}
use Rattle.qc_model.specs.Nodes.{IsSettled, assigned, forced, free, head, reaches}
use Rattle.qc_model.specs.OneWay.{mirror}
use Rattle.qc_model.specs.Ticks.{task_distance, travel_between}
use Rattle.qc_tasks.specs.Rings.{has_ring, leads}
use Rattle.qc_model.proofs.NodeLemmas.{settled_cases}

-- a crane that works from one bay to another
abbrev reaching : List ℕ → ℕ → ℕ → ℕ → ℕ → Crane
reaching name ready bay from to = record { name = name; ready = ready; bay = pos bay; from = pos from; to = pos to }

-- one that is ready at once and works at all bays
abbrev at : List ℕ → ℕ → Crane
at name bay = reaching name 0 bay 1 4

abbrev c1 : Crane
c1 = at (codes "C1") 1

abbrev c2 : Crane
c2 = at (codes "C2") 3

abbrev c3 : Crane
c3 = at (codes "C3") 5

abbrev work : ℕ → Phase → ℕ → ℕ → Task
work hatch phase bay ticks = record { hatch = hatch; phase = phase; bay = pos bay; ticks = ticks; release = 0 }

abbrev deck : ℕ → ℕ → ℕ → Task
deck hatch bay ticks = work hatch DeckOut bay ticks

-- what these cranes have to do, with pairs of which one task comes first and pairs that are apart
abbrev with_pairs : List Crane → List Task → List Pair → List Pair → InstanceView
with_pairs cranes tasks before apart = record {
  bays = 4;
  travel = 1;
  gap = 2;
  tasks = tasks;
  cranes = cranes;
  before = before;
  apart = apart;
  turn = OneWay;
}

abbrev plan : List Crane → List Task → InstanceView
plan cranes tasks = with_pairs cranes tasks [] []

-- tasks at bays 1 and 2 of 20 ticks, and cranes at 1 and 3
abbrev near : InstanceView
near = plan (c1 ∷ c2 ∷ []) (deck 2 1 20 ∷ deck 6 2 20 ∷ [])

-- tasks at bays 1 and 4 of 20 and 30 ticks
abbrev far_tasks : List Task
far_tasks = deck 2 1 20 ∷ deck 14 4 30 ∷ []

abbrev far : InstanceView
far = plan (c1 ∷ c2 ∷ []) far_tasks

-- the same apart
abbrev split : InstanceView
split = with_pairs (c1 ∷ c2 ∷ []) far_tasks [] (pair_of 0 1 ∷ [])

-- tasks at bays 1 and 4 of 10 ticks, for two cranes and for three
abbrev short_tasks : List Task
short_tasks = deck 2 1 10 ∷ deck 14 4 10 ∷ []

abbrev ends : InstanceView
ends = plan (c1 ∷ c2 ∷ []) short_tasks

abbrev outer : InstanceView
outer = plan (c1 ∷ c2 ∷ c3 ∷ []) short_tasks

-- a task on deck and one in the hold below, of 10 ticks, and one crane
abbrev stack : InstanceView
stack = with_pairs (c1 ∷ []) (deck 2 1 10 ∷ work 2 HoldOut 1 10 ∷ []) (pair_of 0 1 ∷ []) []

-- a task at bay 3 of 10 ticks, and cranes at 2, which is ready at 100, and at 4
abbrev late : InstanceView
late = plan (reaching (codes "C1") 100 2 1 4 ∷ at (codes "C2") 4 ∷ []) (deck 10 3 10 ∷ [])

-- the tasks at bays 1 and 2, and one crane, which works at bay 1 alone, or from bay 2 on
abbrev to_1 : InstanceView
to_1 = plan (reaching (codes "C1") 0 1 1 1 ∷ []) near.tasks

abbrev from_2 : InstanceView
from_2 = plan (reaching (codes "C1") 0 1 2 4 ∷ []) near.tasks

-- the same task, held back until a tick
abbrev held : ℕ → Task → Task
held tick t = record t { release = tick }

-- tasks at bays 1 and 2 of 20 and 10 ticks, and the first crane alone; they are held back until these ticks
abbrev waiting : ℕ → ℕ → InstanceView
waiting one other = plan (c1 ∷ []) (held one (deck 2 1 20) ∷ held other (deck 6 2 10) ∷ [])

-- the second of these held back until 50, with the crane that doesn't reach it
abbrev out_of_reach : InstanceView
out_of_reach = record to_1 { tasks = (waiting 0 50).tasks }

-- the task at bay 3 between late cranes, held back until a tick
abbrev held_late : ℕ → InstanceView
held_late tick = record late { tasks = held tick (deck 10 3 10) ∷ [] }

-- a task at bay 1 of 10 ticks, held back until a tick, and the first crane alone, with travel of 10 ticks a bay
abbrev slow : ℕ → InstanceView
slow tick = record (plan (c1 ∷ []) (held tick (deck 2 1 10) ∷ [])) { travel = 10 }

-- a start on the first crane
abbrev on_first : ℕ → Slot
on_first start = record { crane = 0; start = start }

-- both tasks have the crane of their number, or the other one
abbrev straight : List Decision
straight = Assign 1 1 ∷ Assign 0 0 ∷ []

abbrev crossed : List Decision
crossed = Assign 1 0 ∷ Assign 0 1 ∷ []

-- both tasks have the first crane
abbrev alone : List Decision
alone = Assign 1 0 ∷ Assign 0 0 ∷ []

-- where neither task is forced to start after the other, their order is open
open_pair : (inst : InstanceView) (ds : List Decision) (i j : ℕ) → forced inst ds i j ≡ None → forced inst ds j i ≡ None
    → ¬ IsSettled inst ds i j
open_pair inst ds i j there back is = elim (settled_cases inst ds i j is) [
  | inl some ↦ false≢true (sym (ap is_some there) ∙ some)
  | inr some ↦ false≢true (sym (ap is_some back) ∙ some)
]

-- The second crane at bay 2 misses 1 of 2 bays to the first at bay 1: 20 ticks of the task and 1. The berth at bay 1 is
-- cleared by the same 1 tick, and the way from bay 3 to 2 is 1 too.
forced-by-two-cranes : (forced near (Assign 0 0 ∷ []) 1 0 ≡ None) × (forced near straight 1 0 ≡ Some 21)
    × (forced near straight 0 1 ≡ None) × IsSettled near straight 0 1 × IsSettled near straight 1 0
    × (head near straight 0 ≡ 0) × (head near straight 1 ≡ 1)
forced-by-two-cranes = (refl, refl, refl, refl, refl, refl, refl)

-- The newest decision comes back first, and what it forced is gone.
undone-in-turn : (assigned straight 1 ≡ Some 1) × (assigned (Assign 0 0 ∷ []) 1 ≡ None)
    × (assigned (Assign 0 0 ∷ []) 0 ≡ Some 0) × (forced near (Assign 0 0 ∷ []) 1 0 ≡ None)
    × ¬ IsSettled near (Assign 0 0 ∷ []) 0 1 × (assigned [] 0 ≡ None) × (forced near [] 1 0 ≡ None)
undone-in-turn = (refl, refl, refl, refl, open_pair near (Assign 0 0 ∷ []) 0 1 refl refl, refl, refl)

-- The first crane climbs from bay 1 to 2: 20 ticks of the task and 1 of travel.
forced-by-one-crane : (forced near alone 0 1 ≡ Some 21) × (forced near alone 1 0 ≡ None) × IsSettled near alone 1 0
forced-by-one-crane = (refl, refl, refl)

-- The outer of three cranes keep 4 bays and have 3: 10 ticks of the task and 1.
forced-by-outer-cranes : (task_distance outer 0 0 1 2 ≡ 1) × (forced outer (Assign 1 2 ∷ Assign 0 0 ∷ []) 1 0 ≡ Some 11)
    × (forced outer (Assign 1 2 ∷ Assign 0 0 ∷ []) 0 1 ≡ None)
forced-by-outer-cranes = (refl, refl, refl)

-- With the cranes at bays 1 and 2 there is 1 bay of 2, so 1 is missing; crossed there are -1, so 3 are; at one bay there is
-- none, so 2 are. One crane keeps none from itself.
distances : (task_distance near 0 0 1 1 ≡ 1) × (task_distance near 1 1 0 0 ≡ 1) × (task_distance near 0 1 1 0 ≡ 3)
    × (task_distance near 0 0 0 1 ≡ 2) × (task_distance near 0 1 1 1 ≡ 0)
distances = (refl, refl, refl, refl, refl)

abbrev span : InstanceView → ℕ → ℕ → ℕ
span inst i j = ticks_of inst i + travel_between inst (bay_of inst i) (bay_of inst j)

-- A task and the way of 1 bay; 20 and 30 ticks and the way of 3 bays.
span-of-near-tasks : (span near 0 1 ≡ 21) × (span near 1 0 ≡ 21) × (span near 0 0 ≡ 20)
span-of-near-tasks = (refl, refl, refl)

span-of-far-tasks : (span far 0 1 ≡ 23) × (span far 1 0 ≡ 33)
span-of-far-tasks = (refl, refl)

-- Work on deck of 10 ticks ends before that in the hold starts, whoever does it.
deck-first : (forced stack [] 0 1 ≡ Some 10) × (forced stack [] 1 0 ≡ None) × IsSettled stack [] 1 0
deck-first = (refl, refl, refl)

-- To bay 4 the first crane goes 3 bays, and the other at bay 3 misses 3 bays of 2 above it. The second goes 1 bay, and the
-- first is 3 bays away. While the task has no crane, the lesser counts.
earlier-of-two-cranes : (reaches ends 1 0 ≡ true) × (reaches ends 1 1 ≡ true) × (free ends 1 0 ≡ 3) × (free ends 1 1 ≡ 1)
    × (head ends [] 1 ≡ 1) × (head ends (Assign 1 0 ∷ []) 1 ≡ 3) × (head ends (Assign 1 1 ∷ []) 1 ≡ 1)
earlier-of-two-cranes = (refl, refl, refl, refl, refl, refl, refl)

-- The first crane leaves bay 2 at 100 and misses 1 of 2 bays to bay 3: at 101 the second can be there, who else were there at
-- 1. The first itself leaves at 100 and goes 1 bay.
waits-for-a-berth : (free late 0 0 ≡ 101) × (free late 0 1 ≡ 101) × (head late [] 0 ≡ 101)
    × (head late (Assign 0 1 ∷ []) 0 ≡ 101) × (head late (Assign 0 0 ∷ []) 0 ≡ 101)
waits-for-a-berth = (refl, refl, refl, refl, refl)

-- The only crane works at bay 1 alone: for bay 2 no head counts until the task is given to it, and it goes 1 bay.
above-every-reach : (reaches to_1 0 0 ≡ true) × (reaches to_1 1 0 ≡ false) × (head to_1 [] 1 ≡ 0) × (free to_1 1 0 ≡ 1)
    × (head to_1 (Assign 1 0 ∷ []) 1 ≡ 1)
above-every-reach = (refl, refl, refl, refl, refl)

-- The only crane works from bay 2 on, and goes there 1 bay from where it stands.
below-every-reach : (reaches from_2 0 0 ≡ false) × (reaches from_2 1 0 ≡ true) × (head from_2 [] 1 ≡ 1)
below-every-reach = (refl, refl, refl)

-- The task that is decided to be first takes 30 ticks, and 20 the other way round.
order-forces-the-first-length : ¬ IsSettled split [] 0 1 × (forced split (Order 1 0 ∷ []) 1 0 ≡ Some 30)
    × (forced split (Order 1 0 ∷ []) 0 1 ≡ None) × IsSettled split (Order 1 0 ∷ []) 0 1 × (forced split [] 1 0 ≡ None)
    × (forced split (Order 0 1 ∷ []) 0 1 ≡ Some 20) × (forced split (Order 0 1 ∷ []) 1 0 ≡ None)
order-forces-the-first-length = (open_pair split [] 0 1 refl refl, refl, refl, refl, refl, refl, refl)

-- One crane for both climbs 3 bays after 20 ticks; the order alone asks for 20.
the-greater-is-forced : (forced split (Assign 0 0 ∷ Order 0 1 ∷ []) 0 1 ≡ Some 20)
    × (forced split (Assign 1 0 ∷ Assign 0 0 ∷ Order 0 1 ∷ []) 0 1 ≡ Some 23)
the-greater-is-forced = (refl, refl)

-- The pair is apart, and no order is decided: one crane climbs 3 bays after 20 ticks. Crossed cranes have -3 bays of 2, so 5
-- are missing after 20 ticks.
settled-by-its-cranes : ¬ IsSettled split (Assign 0 0 ∷ []) 0 1 × IsSettled split alone 0 1
    × (forced split alone 0 1 ≡ Some 23) × (forced split crossed 0 1 ≡ Some 25) × IsSettled split crossed 1 0
settled-by-its-cranes = (open_pair split (Assign 0 0 ∷ []) 0 1 refl refl, refl, refl, refl, refl)

-- The higher crane has the higher task, 3 bays away, which are enough; the order asks for 30 ticks.
left-open-by-its-cranes : ¬ IsSettled split straight 0 1 × (forced split (Order 1 0 ∷ straight) 1 0 ≡ Some 30)
    × IsSettled split (Order 1 0 ∷ straight) 0 1
left-open-by-its-cranes = (open_pair split straight 0 1 refl refl, refl, refl)

-- Of 4 bays, bay x is 5 - x from the other end: tasks at 1 and 2, cranes at 1 and 3.
mirror-of-two-cranes : (bay_of (mirror near) 0 ≡ pos 4) × (bay_of (mirror near) 1 ≡ pos 3)
    × (crane (mirror near) 0 ≡ at (codes "C2") 2) × (crane (mirror near) 1 ≡ at (codes "C1") 4)
    × (mirror (mirror near) ≡ near)
mirror-of-two-cranes = (refl, refl, refl, refl, refl)

-- Tasks at bays 1 and 4, cranes at 1, 3 and 5.
mirror-of-three-cranes : (bay_of (mirror outer) 0 ≡ pos 4) × (bay_of (mirror outer) 1 ≡ pos 1)
    × (crane (mirror outer) 0 ≡ at (codes "C3") 0) × (crane (mirror outer) 1 ≡ at (codes "C2") 2)
    × (crane (mirror outer) 2 ≡ at (codes "C1") 4) × (mirror (mirror outer) ≡ outer)
mirror-of-three-cranes = (refl, refl, refl, refl, refl, refl)

-- A task at bay 4; the pair speaks of numbers, which stay.
mirror-with-an-apart-pair : (bay_of (mirror split) 1 ≡ pos 1) × (mirror (mirror split) ≡ split)
mirror-with-an-apart-pair = (refl, refl)

-- ---- tasks that are held back

-- The way of 1 bay takes 1 tick; held back until 50 the task begins no earlier, whether it has its crane or not.
starts-when-released : (free (waiting 0 50) 0 0 ≡ 0) × (free (waiting 0 50) 1 0 ≡ 50) × (head (waiting 0 50) [] 1 ≡ 50)
    × (head (waiting 0 50) (Assign 1 0 ∷ []) 1 ≡ 50)
starts-when-released = (refl, refl, refl, refl)

-- The other task is held back until 7: a start at 6 is too early, and one at 7 is not. The second is held back until no tick,
-- but the crane comes to it at 1.
ready-when-released : (¬ KeepsReady (waiting 7 0) (on_first 6 ∷ on_first 27 ∷ []) 0)
    × KeepsReady (waiting 7 0) (on_first 7 ∷ on_first 28 ∷ []) 0
    × (¬ KeepsReady (waiting 7 0) (on_first 7 ∷ on_first 0 ∷ []) 1)
    × KeepsReady (waiting 7 0) (on_first 7 ∷ on_first 1 ∷ []) 1
ready-when-released = (λ r. absurd (omega (arith, r.0)), (omega arith, omega arith), λ r. absurd (omega (arith, r.1)), (omega arith, omega arith))

-- Of the tick of the task and that at which both cranes can be there, 101, the later counts.
later-of-both : (free (held_late 50) 0 0 ≡ 101) × (free (held_late 50) 0 1 ≡ 101) × (free (held_late 200) 0 0 ≡ 200)
    × (free (held_late 200) 0 1 ≡ 200) × (head (held_late 200) [] 0 ≡ 200)
later-of-both = (refl, refl, refl, refl, refl)

-- While no crane reaches a task no head counts, however long it is held back.
released-out-of-reach : (head out_of_reach [] 1 ≡ 0) × (head out_of_reach (Assign 1 0 ∷ []) 1 ≡ 50)
released-out-of-reach = (refl, refl)

-- From the other end of the ship a task is held back as long.
mirror-of-a-release : (release_of (mirror (waiting 7 50)) 0 ≡ 7) × (release_of (mirror (waiting 7 50)) 1 ≡ 50)
    × (bay_of (mirror (waiting 7 50)) 1 ≡ pos 3) × (mirror (mirror (waiting 7 50)) ≡ waiting 7 50)
mirror-of-a-release = (refl, refl, refl, refl)

-- Travel of 10 ticks a bay and a task of 10: all ticks are multiples of 10, of 5 with a release of 5, and of 1 with one of 3.
grain-with-a-release : (grain (slow 0) ≡ 10) × (grain (slow 20) ≡ 10) × (grain (slow 5) ≡ 5) × (grain (slow 3) ≡ 1)
grain-with-a-release = (refl, refl, refl, refl)

-- Held back until 3 it ends at 13, by a chain of one task and packed by itself. The count of time sees its 10 ticks alone.
leaves-with-a-release : (leaf_value (slow 3) [] (chain (0 ∷ [])) ≡ Some (Least 13))
    × (leaf_value (slow 3) [] (packed (0 ∷ [])) ≡ Some (Least 13))
    × (leaf_value (slow 3) [] (leaves.work 10) ≡ Some (Least 10)) × (leaf_value (slow 3) [] (leaves.work 11) ≡ None)
leaves-with-a-release = (refl, refl, refl, refl)

-- ---- rings over pairs

-- 0 before 1, 1 before 2, and 2 before 0: a ring, in whatever order the pairs stand
ring_of_three : has_ring 3 (pair_of 0 1 ∷ pair_of 1 2 ∷ pair_of 2 0 ∷ []) ≡ true
unfolding leads
ring_of_three = refl

ring_turned : has_ring 3 (pair_of 2 0 ∷ pair_of 0 1 ∷ pair_of 1 2 ∷ []) ≡ true
unfolding leads
ring_turned = refl

-- with 0 before 2 in place of 2 before 0 there is none
no_ring_of_three : has_ring 3 (pair_of 0 1 ∷ pair_of 1 2 ∷ pair_of 0 2 ∷ []) ≡ false
unfolding leads
no_ring_of_three = refl

-- a task before itself
ring_of_one : has_ring 2 (pair_of 1 1 ∷ []) ≡ true
unfolding leads
ring_of_one = refl
