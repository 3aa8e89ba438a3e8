-- public: what a tree's file shows, line by line, or its first fault.
use Rattle.std.specs.Prelude.{ℕ, ◌+◌, ◌-◌, Bool, true, false, not, ◌&&◌, ◌||◌, ◌==◌, nat_lt, nat_le, if◌then◌else◌, List, [], ◌∷◌, ◌++◌, map, length, drop, Option, Some, is_none, Result, Ok, Err, ok_or, ⊤}
use Rattle.std.specs.List.{list_all, slice_split}
use Rattle.qc_num.specs.declared.bound.Bound.{Bound}
use Rattle.qc_num.specs.declared.bound.Bound.TheVariants.{Never}
use Rattle.qc_num.specs.Bounds.{lesser, is_bound}
use Rattle.qc_num.specs.Reading.{◌>>=◌, require, with_fault}
use Rattle.qc_close.specs.Model.{Decision, Direction, Turn, InstanceView, chain, packed, ring, reach, work, leaf_value, crane_numbers, assigned, most_branchings, seen, task_distance, is_apart, is_settled}
use Rattle.qc_model.specs.declared.decision.Decision.TheVariants as decide
use Rattle.qc_model.specs.declared.direction.Direction.TheVariants as way
use Rattle.qc_model.specs.declared.turn.Turn.TheVariants as turn
use Rattle.qc_tree.specs.declared.line.Line.{Line}
use Rattle.qc_tree.specs.declared.line.Line.TheVariants as line
use Rattle.qc_tree.specs.LineIn.{line_in}
use Rattle.qc_tree.specs.Lines.{most_bytes}
use Rattle.qc_replay.specs.declared.fault.Replayed.{Replayed}
use Rattle.qc_tree.specs.declared.fault.TreeFault.{TreeFault}
use Rattle.qc_tree.specs.declared.fault.TreeKind.{TreeKind}
use Rattle.qc_tree.specs.declared.fault.TreeKind.TheVariants as kind

-- a line that must still come
pub data Coming : Type 0 where
  title up down end : Coming
  -- a node of the part that goes this way, by its decisions, newest first
  node : (way : Direction) → (decisions : List Decision) → Coming

-- how far a file is read: what must still come, the next line first, and what the lines so far come to
pub record Reading : Type 0 where
  pub coming : List Coming
  pub branched : ℕ
  pub bound : Bound

-- the lines of a tree of one node a part: where cranes go as they like it has one part, and no word begins it
abbrev pub first_lines : Turn → List Coming
first_lines turn.OneWay = title ∷ up ∷ node way.Up [] ∷ down ∷ node way.Down [] ∷ end ∷ []
first_lines turn.Free = title ∷ node way.Up [] ∷ end ∷ []

-- nothing is read
abbrev pub start : InstanceView → Reading
start inst = record {
  coming = first_lines inst.turn;
  branched = 0;
  bound = Never;
}

-- the line has come
abbrev pub came : Reading → Reading
came r = record r { coming = drop 1 r.coming }

-- a branching: its children come next
abbrev pub branched_to : Reading → List Coming → Result Reading TreeKind
branched_to r children = do
  _ ← require (nat_lt r.branched most_branchings) kind.Branchings
  Ok (record r { coming = children ++ drop 1 r.coming; branched = r.branched + 1 })

-- a leaf, with its fault where it doesn't hold
abbrev pub ended_by : Reading → TreeKind → Option Bound → Result Reading TreeKind
ended_by r fault value = do
  v ← ok_or value fault
  Ok (record (came r) { bound = lesser r.bound v })

-- a number in a file is that of a task
abbrev pub is_number : InstanceView → ℕ → Bool
is_number inst i = nat_lt 0 i && nat_le i (length inst.tasks)

-- tasks as they are numbered from 0
abbrev pub from_file : List ℕ → List ℕ
from_file list = map (λ i. i - 1) list

-- branching on a task: a node for each crane
abbrev pub on_task : InstanceView → Direction → List Decision → Reading → ℕ → Result Reading TreeKind
on_task inst d ds r j = do
  _ ← require (is_none (assigned ds j)) kind.Decided
  branched_to r (map (λ k. node d (decide.Assign j k ∷ ds)) (crane_numbers inst))

-- the two tasks conflict on the cranes that they have
abbrev pub clash : InstanceView → ℕ → ℕ → Option ℕ → Option ℕ → Bool
clash inst i j (Some v) (Some w) = not (i == j) && ((v == w) || nat_lt 0 (task_distance inst i v j w))
clash inst i j v w = false

-- the order of the two may be branched on
abbrev pub may_order : Turn → InstanceView → List Decision → ℕ → ℕ → Bool
may_order turn.OneWay inst ds i j = is_apart inst i j
may_order turn.Free inst ds i j =
    nat_lt i j && (is_apart inst i j || clash inst i j (assigned ds i) (assigned ds j))

-- the fault of a pair of which it may not
abbrev pub no_order : Turn → TreeKind
no_order turn.OneWay = kind.NotApart
no_order turn.Free = kind.NotConflict

-- branching on a pair: a node for each order
abbrev pub on_pair : InstanceView → Direction → List Decision → Reading → ℕ → ℕ → Result Reading TreeKind
on_pair inst d ds r i j = do
  _ ← require (may_order inst.turn inst ds i j) (no_order inst.turn)
  _ ← require (not (is_settled inst ds i j)) kind.Decided
  branched_to r (node d (decide.Order i j ∷ ds) ∷ node d (decide.Order j i ∷ ds) ∷ [])

-- a line where a node must stand, which is one of this instance
abbrev pub at_node : InstanceView → Direction → List Decision → Reading → Line → List ℕ → Result Reading TreeKind
at_node inst d ds r (line.Assign i) list = do
  _ ← require (is_number inst i) kind.UnknownTask
  on_task inst d ds r (i - 1)
at_node inst d ds r (line.Order i j) list = do
  _ ← require (is_number inst i && is_number inst j) kind.UnknownTask
  on_pair inst d ds r (i - 1) (j - 1)
at_node inst d ds r line.Chain list = do
  _ ← require (list_all (is_number inst) list) kind.UnknownTask
  ended_by r kind.NotForced (leaf_value inst ds (chain (from_file list)))
at_node inst d ds r line.Ring list = do
  _ ← require (list_all (is_number inst) list) kind.UnknownTask
  ended_by r kind.NotCycle (leaf_value inst ds (ring (from_file list)))
at_node inst d ds r line.Reach list = ended_by r kind.InReach (leaf_value inst ds reach)
at_node inst d ds r (line.Work v) list = ended_by r kind.WorkShort (leaf_value inst ds (work v))
at_node inst d ds r line.Clash list = do
  _ ← require (list_all (is_number inst) list) kind.UnknownTask
  ended_by r kind.NotClash (leaf_value inst ds (packed (from_file list)))
at_node inst d ds r _ list = Err kind.Place

-- a line where this must come
abbrev pub at_due : InstanceView → Reading → Coming → Line → List ℕ → Result Reading TreeKind
at_due inst r title line.Title list = Ok (came r)
at_due inst r title line.FreeTitle list = Ok (came r)
at_due inst r up line.Up list = Ok (came r)
at_due inst r down line.Down list = Ok (came r)
at_due inst r end (line.End b x) list = do
  _ ← require ((b == r.branched) && is_bound x r.bound) kind.Counts
  Ok (came r)
at_due inst r (node d ds) line list = at_node (seen inst d) d ds r line list
at_due inst r _ line list = Err kind.Place

-- the line is one of trees for cranes with this turn
abbrev pub is_known : Turn → Line → Bool
is_known turn.OneWay line.FreeTitle = false
is_known turn.OneWay line = true
is_known turn.Free line.Title = false
is_known turn.Free line.Up = false
is_known turn.Free line.Down = false
is_known turn.Free line = true

abbrev pub at : InstanceView → Reading → Coming → Line → List ℕ → Result Reading TreeKind
at inst r c line list = do
  _ ← require (is_known inst.turn line) kind.Spelling
  at_due inst r c line list

-- what must come next; after the last line nothing may
abbrev pub next_of : List Coming → Result Coming TreeKind
next_of [] = Err kind.After
next_of (c ∷ more) = Ok c

-- a text that a line feed follows
abbrev pub at_text : InstanceView → Reading → List ℕ → Result Reading TreeKind
at_text inst r text = do
  c ← next_of r.coming
  _ ← require (nat_lt (length text) most_bytes) kind.LineTooLong
  seen ← ok_or (line_in text) kind.Spelling
  at inst r c seen.line seen.list

-- the text behind the last line feed: empty after the last line, and before it the line that is missing
abbrev pub at_rest : List Coming → List ℕ → Result ⊤ TreeKind
at_rest [] rest = require (length rest == 0) kind.After
at_rest (c ∷ more) rest = Err (if nat_le most_bytes (length rest) then kind.LineTooLong else kind.Cut)

-- a fault with its line, from 1
abbrev pub numbered : {A : Type 0} → ℕ → Result A TreeKind → Result A TreeFault
numbered n = with_fault (λ why. record { line = n; kind = why })

-- what all lines come to
abbrev pub replayed : Reading → Replayed
replayed r = record { bound = r.bound; branched = r.branched }

-- what the texts between line feeds come to, the first of which is line n, or their first fault
abbrev pub texts_from : InstanceView → ℕ → Reading → List (List ℕ) → Result Replayed TreeFault
texts_from inst n r [] = do
  _ ← numbered n (at_rest r.coming [])
  Ok (replayed r)
texts_from inst n r (rest ∷ []) = do
  _ ← numbered n (at_rest r.coming rest)
  Ok (replayed r)
texts_from inst n r (text ∷ next ∷ more) = do
  now ← numbered n (at_text inst r text)
  texts_from inst (n + 1) now (next ∷ more)

-- what a tree's file shows for an instance, or its first fault
abbrev pub tree_in : InstanceView → List ℕ → Result Replayed TreeFault
tree_in inst bytes = texts_from inst 1 (start inst) (slice_split (λ b. b == 10) bytes)
