-- inner: how far a tree is read, as it is kept.
use Rattle.std.specs.Prelude.{◌≡◌, ℕ, ◌+◌, ◌-◌, ◌*◌, length, Bool, true, false, List, [], ◌∷◌, ◌++◌, map, Option, None, Some, IfSome, Result, Ok}
use Rattle.qc_num.specs.Reading.{◌>>=◌}
use Rattle.qc_close.specs.Model.{Direction, Turn, OneWay, Free, InstanceView, most_branchings, most_cranes, mirror, seen}
use Rattle.qc_model.specs.declared.direction.Direction.TheVariants as way
use Rattle.qc_tree.specs.declared.fault.TreeKind.{TreeKind}
use Rattle.qc_replay.specs.declared.node.Tally.{Tally}
use Rattle.qc_replay.specs.declared.walk.Stage.{Stage}
use Rattle.qc_replay.specs.declared.walk.Stage.TheVariants.{Title, Up, Part, Done}
use Rattle.qc_replay.specs.declared.walk.Walk.TheInside.{Inside}
use Rattle.qc_replay.specs.Part.{Standing, nodes}
use Rattle.qc_replay.specs.Walk.{Coming, Reading, down, end, node, title, up}

-- a reading of a tree of this instance
pub record WalkView : Type 0 where
  pub inst : InstanceView
  pub reading : Reading

-- nothing must come any more
abbrev pub none_due : List Coming → Bool
none_due [] = true
none_due (c ∷ more) = false

abbrev pub is_over : Reading → Bool
is_over r = none_due r.coming

-- how many lines may still come: those that must, and the children of each branching that a tree may still have
abbrev pub lines_left : Reading → ℕ
lines_left r = length r.coming + most_cranes * (most_branchings - r.branched)

-- the reading that a judged line leads to, or its fault
abbrev pub leading : {A : Type 0} → (A → Reading) → Result A TreeKind → Result Reading TreeKind
leading next result = result >>= λ a. Ok (next a)

-- the line that begins the part that goes this way
abbrev pub word_of : Direction → Coming
word_of way.Up = up
word_of way.Down = down

-- the part for the mirror before its first line, which a tree has where cranes go one way
abbrev pub second_root : Turn → InstanceView → Option Standing
second_root OneWay inst = Some (record { inst = mirror inst; decisions = []; live = true })
second_root Free inst = None

-- what stands behind the title
abbrev pub behind_title : Option Standing → Stage
behind_title (Some second) = Up
behind_title None = Part

-- what must come behind the nodes of a part: the part for the mirror, if it must still come, and the last line
abbrev pub behind_part : Option Standing → List Coming
behind_part (Some second) = down ∷ map (node way.Down) (nodes second) ++ end ∷ []
behind_part None = end ∷ []

-- what must come from these nodes of a part on
abbrev pub from_part : Direction → Standing → Option Standing → List Coming
from_part d part second = map (node d) (nodes part) ++ behind_part second

-- what must come at each stage
abbrev pub coming_at : Stage → Direction → Standing → Option Standing → List Coming
coming_at Title d part (Some second) = title ∷ up ∷ from_part d part (Some second)
coming_at Title d part None = title ∷ from_part d part None
coming_at Up d part second = up ∷ from_part d part second
coming_at Part d part second = from_part d part second
coming_at Done d part second = []

abbrev pub reading_at : Stage → Direction → Standing → Option Standing → Tally → Reading
reading_at stage d part second tally = record {
  coming = coming_at stage d part second;
  branched = tally.branched;
  bound = tally.bound;
}

abbrev pub walk_of : Inside → WalkView
walk_of w = record {
  inst = w.inst;
  reading = reading_at w.stage w.way w.part w.second w.tally;
}

-- the parts are those of the instance
pub record IsKeptWalk (w : Inside) : Type 0 where
  pub part : w.part.inst ≡ seen w.inst w.way
  pub second : IfSome w.second (λ (s : Standing). s.inst ≡ mirror w.inst)
