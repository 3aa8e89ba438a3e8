-- inner: a part of a tree as it is kept while it is read.
use Rattle.std.specs.Prelude.{◌≡◌, ℕ, ◌+◌, ◌<◌, ◌≤◌, Bool, nat_lt, if◌then◌else◌, List, [], ◌∷◌, ◌++◌, length, map, Result, Ok, Err}
use Rattle.qc_num.specs.declared.bound.Bound.{Bound}
use Rattle.qc_num.specs.Bounds.{lesser}
use Rattle.qc_num.specs.Reading.{◌>>=◌}
use Rattle.qc_dist.specs.Children.{behind}
use Rattle.qc_close.specs.Model.{Direction, most_branchings, Decision, InstanceView}
use Rattle.qc_tree.specs.declared.line.Line.{Line}
use Rattle.qc_tree.specs.declared.line.Line.TheVariants as line
use Rattle.qc_replay.specs.declared.descent.Descent.TheInside.{Inside}
use Rattle.qc_tree.specs.declared.fault.TreeKind.{TreeKind}
use Rattle.qc_tree.specs.declared.fault.TreeKind.TheVariants as kind
use Rattle.qc_replay.specs.declared.node.Tally.{Tally}
use Rattle.qc_replay.specs.Walk.{Coming, Reading, at_node, came, node}

-- the number of a task in a file
abbrev pub IsNumber : InstanceView → ℕ → Type 0
IsNumber inst i = (0 < i) × (i ≤ length inst.tasks)

-- where the reading of a part stands: the decisions of its next node, if one must still come
pub record Standing : Type 0 where
  pub inst : InstanceView
  pub decisions : List Decision
  pub live : Bool

-- the nodes that must still come, the next one first
abbrev pub nodes : Standing → List (List Decision)
nodes s = if s.live then s.decisions ∷ behind s.inst s.decisions else []

abbrev pub standing_of : Inside → Standing
standing_of f = record { inst = f.node.inst; decisions = f.node.decisions; live = f.live }

-- what a line shows at a node: the value of a leaf, or its fault
abbrev pub Shows : InstanceView → List Decision → Line → List ℕ → Result Bound TreeKind → Type 0
Shows inst ds line list result =
    (way : Direction) (r : Reading)
    → at_node inst way ds r line list
    ≡ (result >>= λ value. Ok (record (came r) { bound = lesser r.bound value }))

-- the line branches on nothing
abbrev pub IsNoBranching : Line → Type 0
IsNoBranching (line.Assign i) = ⊥
IsNoBranching (line.Order i j) = ⊥
IsNoBranching _ = Unit {0}

-- one branching more, as long as a tree may have more
abbrev pub with_branching : Tally → Result Tally TreeKind
with_branching tally =
    if nat_lt tally.branched most_branchings then Ok (record tally { branched = tally.branched + 1 })
    else Err kind.Branchings

-- a reading in a part: its nodes come next, and then what follows the part
abbrev pub within : Direction → Standing → List Coming → Tally → Reading
within way s more tally = record {
  coming = map (node way) (nodes s) ++ more;
  branched = tally.branched;
  bound = tally.bound;
}

-- what came of a line in a part: a reading further on, or a fault
abbrev pub IsJudged : Standing → Tally → Line → List ℕ → Standing → Result Tally TreeKind → Type 0
IsJudged before tally line list after result =
    (way : Direction) (more : List Coming)
    → at_node before.inst way before.decisions (within way before more tally) line list
    ≡ (result >>= λ now. Ok (within way after more now))
