-- public: when an assignment is closed at an end: a count of time shows that a crane can't be done before it with its own
-- tasks, or that the cranes that can come to where tasks have none have too little. An end that isn't closed need not be
-- reachable.
use Rattle.std.specs.Prelude.{ℕ, zero, suc, ◌+◌, ◌-◌, ◌*◌, ◌/◌, ◌%◌, ◌≤◌, max, pos, Bool, true, not, ◌&&◌, ◌||◌, ◌==◌, nat_lt, nat_le, List, [], ◌∷◌, map, filter, reverse, length, slice_index, sum, sum_by, is_none, Option}
use Rattle.std.specs.List.{flat_map, list_all, list_any, range_with_len}
use Rattle.qc_model.specs.Bays.{at_least_zero, bays_up}
use Rattle.qc_model.specs.Instance.{InstanceView, bay_of}
use Rattle.qc_model.specs.Nodes.{greatest}
use Rattle.qc_model.specs.Work.{crane_numbers, task_numbers, ticks_over}
use Rattle.qc_model.specs.declared.schedule.Slot.{Slot}
use Rattle.qc_model.specs.Rules.{ends}
use Rattle.qc_model.specs.declared.frame.Frame.{Frame}
use Rattle.qc_model.specs.declared.direction.Direction.{Direction}
use Rattle.qc_model.specs.declared.direction.Direction.TheVariants.{Up, Down}
use Rattle.qc_model.specs.declared.turn.Turn.{Turn}
use Rattle.qc_model.specs.Assignments.{Follows, crane_in, no_cranes}
use Rattle.qc_model.specs.Barred.{barred_frame}
use Rattle.qc_model.specs.Frames.{GoesBy}
use Rattle.qc_model.specs.Ways.{way_frame}

-- the greatest sum of n of these numbers: of all where there are fewer
abbrev pub most : ℕ → List ℕ → ℕ
most zero xs = 0
most (suc n) [] = 0
most (suc n) (x ∷ xs) = max (x + most n xs) (most (suc n) xs)

-- the least sum of n of these numbers: what the greatest of the others leave
abbrev pub fewest : ℕ → List ℕ → ℕ
fewest n xs = sum xs - most (length xs - n) xs

-- the tasks at bay x that have no crane
abbrev pub left_at : InstanceView → List (Option ℕ) → ℕ → List ℕ
left_at inst cranes x =
    filter (λ j. is_none (crane_in cranes j) && (at_least_zero (bay_of inst j) == x)) (task_numbers inst)

-- the ticks of these
abbrev pub work_at : InstanceView → List (Option ℕ) → ℕ → ℕ
work_at inst cranes x = ticks_over inst (left_at inst cranes x)

-- the bays with such tasks, along the ship
abbrev pub left_bays : InstanceView → List (Option ℕ) → List ℕ
left_bays inst cranes = filter (λ x. nat_lt 0 (length (left_at inst cranes x))) (range_with_len 1 inst.bays)

-- the bays that a crane must still go, up or down, to come to bay x
abbrev pub bays_to : Direction → Frame → ℕ → ℕ
bays_to Up f x = bays_up f.high (pos x)
bays_to Down f x = bays_up (pos x) f.low

-- bays with work to be done by a tick, by cranes that have spent so much and need so many ticks for each bay that they go
pub record Try : Type 0 where
  pub travel : ℕ
  pub frames : List Frame
  -- the bays along the ship, and the ticks of work at each
  pub bays : List ℕ
  pub work : ℕ → ℕ
  pub tick : ℕ

-- the bays in the order in which cranes that go this way come to them
abbrev pub along : Try → Direction → List ℕ
along t Up = t.bays
along t Down = reverse t.bays

abbrev pub first : Try → Direction → ℕ
first t way = slice_index (along t way) 0

-- the ticks that are left to a crane once it has gone so many bays more
abbrev pub room : Try → ℕ → Frame → ℕ
room t bays f = t.tick - f.gone - t.travel * bays

-- the bays that n cranes go together from bay x on to bay y, at the least
abbrev pub leg : Try → Direction → ℕ → ℕ → ℕ → ℕ
leg t way n x y = fewest n (map (λ f. bays_to way f y - bays_to way f x) t.frames)

-- the bays that cranes go together along these at the least, where so many come to each
abbrev pub legs : Try → Direction → List ℕ → List ℕ → ℕ
legs t way (x ∷ y ∷ ys) (n ∷ m ∷ ms) = leg t way m x y + legs t way (y ∷ ys) (m ∷ ms)
legs t way xs ns = 0

-- the crane time that is needed at these bays, with the travel along them
abbrev pub load : Try → Direction → List ℕ → List ℕ → ℕ
load t way xs ns = sum_by t.work xs + t.travel * legs t way xs ns

-- where so many cranes come to each of these bays, they have the time that is needed from there on
abbrev pub suffices : Try → Direction → List ℕ → List ℕ → Bool
suffices t way (x ∷ xs) (n ∷ ns) =
    nat_le (load t way (x ∷ xs) (n ∷ ns)) (most n (map (λ f. room t (bays_to way f x) f) t.frames))
    && suffices t way xs ns
suffices t way xs ns = true

-- all lists of len numbers, each from 0 to most
abbrev pub lists_to : ℕ → ℕ → List (List ℕ)
lists_to most zero = [] ∷ []
lists_to most (suc len) =
    flat_map (λ ns. map (λ n. n ∷ ns) (range_with_len 0 (most + 1))) (lists_to most len)

-- the numbers of cranes that suffice, one for each bay
abbrev pub numbers : Try → Direction → List (List ℕ)
numbers t way = filter (suffices t way (along t way)) (lists_to (length t.frames) (length t.bays))

-- all cranes together have the time for all that is needed, from both sides
abbrev pub has_room : Try → List ℕ → List ℕ → Bool
has_room t ns ms =
    nat_le (sum_by t.work t.bays + t.travel * (legs t Up (along t Up) ns + legs t Down (along t Down) ms))
    (sum (map (λ f. room t (bays_to Up f (first t Up) + bays_to Down f (first t Down)) f) t.frames))

-- some numbers of cranes serve: they do wherever all can be done by the tick, and perhaps where not
abbrev pub is_served : Try → Bool
is_served t = list_any (λ ns. list_any (has_room t ns) (numbers t Down)) (numbers t Up)

-- the count shows that not all can be done by the tick: a crane isn't done with what it has, or no numbers serve
abbrev pub is_short : Try → Bool
is_short t = list_any (λ f. f.works && nat_lt t.tick f.gone) t.frames || not (is_served t)

-- all ticks of the instance are multiples of this number: those of a bay, of tasks, of what holds them back, of cranes
abbrev pub are_multiples : InstanceView → ℕ → Bool
are_multiples inst g =
    (inst.travel % g == 0) && list_all (λ j. j.ticks % g == 0) inst.tasks
    && list_all (λ j. j.release % g == 0) inst.tasks && list_all (λ k. k.ready % g == 0) inst.cranes

-- the greatest such number
abbrev pub grain : InstanceView → ℕ
grain inst = greatest (filter (are_multiples inst) (range_with_len 1 inst.travel))

-- the greatest multiple of a number below an end; 0 where the end is 0
abbrev pub last_before : ℕ → ℕ → ℕ
last_before g end = (end - 1) / g * g

-- the tasks without a crane are to be done by a tick, after what each crane spends by its frame
abbrev pub try_with : InstanceView → List (Option ℕ) → (ℕ → Frame) → ℕ → Try
try_with inst cranes frames tick = record {
  travel = inst.travel;
  frames = map frames (crane_numbers inst);
  bays = left_bays inst cranes;
  work = work_at inst cranes;
  tick = tick;
}

-- after what each spends on its own and on waiting for its neighbours
abbrev pub try_of : InstanceView → Turn → List (Option ℕ) → ℕ → Try
try_of inst turn cranes tick = try_with inst cranes (barred_frame inst turn cranes) tick

-- the count shows that not all can be done before the end
abbrev pub is_short_before : InstanceView → Turn → List (Option ℕ) → ℕ → Bool
is_short_before inst turn cranes end = is_short (try_of inst turn cranes (last_before (grain inst) end))

-- it shows so where each crane goes the longest of its ways
abbrev pub is_short_along : InstanceView → Turn → List (Option ℕ) → ℕ → Bool
is_short_along inst turn cranes end =
    is_short (try_with inst cranes (way_frame inst turn cranes) (last_before (grain inst) end))

-- the assignment is closed at the end: the count shows that not all can be done before it with the cranes that tasks
-- have, with the longest ways or without, or it shows so even if no task had one
abbrev pub is_closed : InstanceView → Turn → List (Option ℕ) → ℕ → Bool
is_closed inst turn cranes end =
    is_short_before inst turn (no_cranes inst) end
    || (is_short_before inst turn cranes end || is_short_along inst turn cranes end)

-- no schedule that follows the assignment ends before this end: of those that go up where cranes go one way, and of all
-- that are feasible where they go to and fro
abbrev pub IsClosedBound : InstanceView → Turn → List (Option ℕ) → ℕ → Type 0
IsClosedBound inst turn cranes end =
    (sched : List Slot) → GoesBy turn inst sched → Follows inst cranes sched → end ≤ ends inst sched
