-- public: the instance of a ship and the moves of a stowage list.
use Rattle.std.specs.Prelude.{ℕ, ◌+◌, ◌*◌, pos, Bool, true, false, ◌&&◌, ◌||◌, ◌==◌, nat_lt, min, max, if◌then◌else◌, List, [], ◌∷◌, length, map, filter, count_by, slice_index_or, find}
use Rattle.std.specs.Option.{option_map_or}
use Rattle.std.specs.List.{list_any, flat_map, range_with_len, zip}
use Rattle.std.specs.Str.{bytes_eq}
use Rattle.qc_ship.specs.Cells.{is_on_deck}
use Rattle.qc_model.specs.declared.task.Phase.{Phase}
use Rattle.qc_model.specs.declared.task.Phase.TheVariants.{DeckOut, HoldOut, HoldIn, DeckIn}
use Rattle.qc_model.specs.declared.task.Task.{Task}
use Rattle.qc_model.specs.declared.pair.Pair.{Pair}
use Rattle.qc_model.specs.Tasks.{phase_rank}
use Rattle.qc_model.specs.declared.turn.Turn.TheVariants.{OneWay}
use Rattle.qc_model.specs.Instance.{InstanceView, pair_of, no_task}
use Rattle.qc_ship.specs.declared.ship.HatchPair.{HatchPair}
use Rattle.qc_ship.specs.declared.ship.NamePair.{NamePair}
use Rattle.qc_ship.specs.declared.ship.NameTick.{NameTick}
use Rattle.qc_ship.specs.declared.ship.TaskName.{TaskName}
use Rattle.qc_ship.specs.Ship.{ShipView, takes, greatest_place}
use Rattle.qc_stow.specs.Moves.{is_discharge, is_load}
use Rattle.qc_stow.specs.declared.row.Move.{Move}
use Rattle.qc_stow.specs.declared.row.Move.TheVariants.{Discharge, Load}
use Rattle.qc_stow.specs.declared.row.Row.{Row}

-- the phases of a hatch in order
abbrev pub phases : List Phase
phases = DeckOut ∷ HoldOut ∷ HoldIn ∷ DeckIn ∷ []

-- the phase of a move of this kind, on deck or in the hold
abbrev pub phase_with : Move → Bool → Phase
phase_with Discharge true = DeckOut
phase_with Discharge false = HoldOut
phase_with Load false = HoldIn
phase_with Load true = DeckIn

-- the move is one of a hatch's moves in a phase
abbrev pub is_move_at : ℕ → Phase → Row → Bool
is_move_at hatch phase row = takes hatch row.cell.bay
    && (phase_rank (phase_with row.kind (is_on_deck row.cell)) == phase_rank phase)

-- how many moves a hatch has in a phase
abbrev pub moves_at : List Row → ℕ → Phase → ℕ
moves_at rows hatch phase = count_by (is_move_at hatch phase) rows

-- the ticks of so many moves in a phase; in the hold the hatch cover takes its time besides
abbrev pub ticks_in : ShipView → Phase → ℕ → ℕ
ticks_in ship DeckOut moves = moves * ship.deck_move
ticks_in ship HoldOut moves = moves * ship.hold_move + ship.cover
ticks_in ship HoldIn moves = moves * ship.hold_move + ship.cover
ticks_in ship DeckIn moves = moves * ship.deck_move

-- the name is that of the task of a hatch and a phase
abbrev pub is_name_of : ℕ → Phase → TaskName → Bool
is_name_of hatch phase name = (hatch == name.hatch) && (phase_rank phase == phase_rank name.phase)

-- the tick before which the task of a hatch and a phase doesn't start: that of the entry that names it, else 0
abbrev pub release_at : List NameTick → ℕ → Phase → ℕ
release_at entries hatch phase =
    option_map_or (λ entry. entry.tick) (find (λ entry. is_name_of hatch phase entry.name) entries) 0

-- the task of a hatch and a phase; none where it has no move
abbrev pub tasks_at : ShipView → List Row → ℕ → ℕ → Phase → List Task
tasks_at ship rows hatch place phase =
    if moves_at rows hatch phase == 0
    then []
    else record {
      hatch = hatch;
      phase = phase;
      bay = pos place;
      ticks = ticks_in ship phase (moves_at rows hatch phase);
      release = release_at ship.not_before hatch phase;
    } ∷ []

-- the tasks in order of hatch, then phase
abbrev pub tasks_of : ShipView → List Row → List Task
tasks_of ship rows = flat_map (λ hatch. flat_map (tasks_at ship rows hatch.0 hatch.1) phases)
    (zip ship.hatches ship.places)

-- the pairs of the number i and one below `count` that pass a test, in order
abbrev pub pairs_from : ℕ → (ℕ → ℕ → Bool) → ℕ → List Pair
pairs_from count test i = map (pair_of i) (filter (test i) (range_with_len 0 count))

-- the pairs of numbers below `count` that pass a test, in order of the first number and then of the
-- second
abbrev pub pairs_with : ℕ → (ℕ → ℕ → Bool) → List Pair
pairs_with count test = flat_map (pairs_from count test) (range_with_len 0 count)

-- the move is one of a task's moves
abbrev pub is_move_of : Task → Row → Bool
is_move_of t row = is_move_at t.hatch t.phase row

-- the move discharges this container, as one of a task's moves
abbrev pub discharges : Task → List ℕ → Row → Bool
discharges t id row = is_discharge row.kind && is_move_of t row && bytes_eq row.id id

-- the move is a load of task u, whose container some discharge of task t took off
abbrev pub brings_back : List Row → Task → Task → Row → Bool
brings_back rows t u row = is_load row.kind && list_any (discharges t row.id) rows && is_move_of u row

-- the task of this number
abbrev pub task_at : List Task → ℕ → Task
task_at tasks i = slice_index_or tasks i no_task

-- some discharge of task i and some load of task j have one id
abbrev pub is_restow : List Task → List Row → ℕ → ℕ → Bool
is_restow tasks rows i j = list_any (brings_back rows (task_at tasks i) (task_at tasks j)) rows

-- tasks of one hatch, the first of a lower phase
abbrev pub is_earlier_phase : Task → Task → Bool
is_earlier_phase t u = (t.hatch == u.hatch) && nat_lt (phase_rank t.phase) (phase_rank u.phase)

-- the name is that of the task
abbrev pub has_name : TaskName → Task → Bool
has_name name t = is_name_of t.hatch t.phase name

-- an entry of the planner's own order names these two tasks
abbrev pub puts_before : Task → Task → NamePair → Bool
puts_before t u entry = has_name entry.first t && has_name entry.second u

-- some entry puts task i before task j; one that names a task without a move names none of the list
abbrev pub is_put_before : List NamePair → List Task → ℕ → ℕ → Bool
is_put_before entries tasks i j = list_any (puts_before (task_at tasks i) (task_at tasks j)) entries

-- task i is asked to end before task j starts: by a restow that is kept in order, or by an entry
abbrev pub is_asked : Bool → List NamePair → List Row → List Task → ℕ → ℕ → Bool
is_asked ordered entries rows tasks i j =
    (ordered && is_restow tasks rows i j) || is_put_before entries tasks i j

-- task i must end before task j starts: it has an earlier phase of the hatch, or it is asked
abbrev pub is_before : (ℕ → ℕ → Bool) → List Task → ℕ → ℕ → Bool
is_before asked tasks i j = is_earlier_phase (task_at tasks i) (task_at tasks j) || asked i j

abbrev pub before_of : Bool → List NamePair → List Row → List Task → List Pair
before_of ordered entries rows tasks =
    pairs_with (length tasks) (is_before (is_asked ordered entries rows tasks) tasks)

-- an entry names the hatches of both tasks, of which the first has the lower one and so the lower number
abbrev pub names_both : Task → Task → HatchPair → Bool
names_both t u pair = (t.hatch == min pair.a pair.b) && (u.hatch == max pair.a pair.b)

-- tasks i and j may not run at the same time
abbrev pub is_apart : List HatchPair → List Task → ℕ → ℕ → Bool
is_apart entries tasks i j = list_any (names_both (task_at tasks i) (task_at tasks j)) entries

abbrev pub apart_of : List HatchPair → List Task → List Pair
apart_of entries tasks = pairs_with (length tasks) (is_apart entries tasks)

-- the instance of these tasks
abbrev pub instance_with : ShipView → List Row → List Task → InstanceView
instance_with ship rows tasks = record {
  bays = greatest_place ship;
  travel = ship.travel;
  gap = ship.gap;
  tasks = tasks;
  cranes = ship.cranes;
  before = before_of ship.ordered ship.before rows tasks;
  apart = apart_of ship.apart tasks;
  turn = OneWay;
}

-- the instance of a ship and its moves
abbrev pub instance_of : ShipView → List Row → InstanceView
instance_of ship rows = instance_with ship rows (tasks_of ship rows)
