-- inner: lines of a tree's file, read one after the other.
use Rattle.std.specs.Prelude.{◌≡◌, ℕ, List, [], ◌∷◌, ◌++◌, Option, IfSome, Result, Ok}
use Rattle.std.specs.List.{flat_map}
use Rattle.qc_num.specs.Reading.{◌>>=◌}
use Rattle.qc_model.specs.Instance.{InstanceView}
use Rattle.qc_tree.specs.LineIn.{Listed}
use Rattle.qc_tree.specs.Trees.{whole_line}
use Rattle.qc_tree.specs.declared.fault.TreeKind.{TreeKind}
use Rattle.qc_replay.specs.Walk.{Reading, at, at_due, next_of, start}

-- one line more
abbrev pub with_line : InstanceView → Reading → Listed → Result Reading TreeKind
with_line inst r seen = do
  c ← next_of r.coming
  at inst r c seen.line seen.list

-- one line more that trees for the turn of the instance have
abbrev pub with_known : InstanceView → Reading → Listed → Result Reading TreeKind
with_known inst r seen = do
  c ← next_of r.coming
  at_due inst r c seen.line seen.list

-- all these lines
abbrev pub with_lines : InstanceView → Reading → List Listed → Result Reading TreeKind
with_lines inst r [] = Ok r
with_lines inst r (seen ∷ lines) = with_line inst r seen >>= λ now. with_lines inst now lines

-- the lines as they stand in a file
abbrev pub lines_text : List Listed → List ℕ
lines_text = flat_map (λ (seen : Listed). whole_line seen.line seen.list)

-- so far is read by lines without a fault; where the file is told, they are what was taken of it
pub record IsReached (inst : InstanceView) (r : Reading) (file left : Option (List ℕ)) : Type 0 where
  pub lines : List Listed
  pub reading : with_lines inst (start inst) lines ≡ Ok r
  pub taken : IfSome file (λ bytes. IfSome left (λ rest. bytes ≡ lines_text lines ++ rest))
