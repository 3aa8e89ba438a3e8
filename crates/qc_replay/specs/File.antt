-- inner: the file of a tree as it is read: lines taken off the front of what is left.
use Rattle.std.specs.Prelude.{◌≡◌, ℕ, ◌==◌, ◌<◌, ◌≤◌, List, [], ◌∷◌, ◌++◌, length, Option, IfSome, IsSomeAnd, Result, Ok, Err}
use Rattle.std.specs.List.{slice_split}
use Rattle.qc_io.specs.Outside.{IsMissing, ReadCause, View}
use Rattle.qc_io.specs.Reads.{Reads}
use Rattle.qc_model.specs.Instance.{InstanceView}
use Rattle.qc_tree.specs.LineIn.{Listed}
use Rattle.qc_tree.specs.Lines.{IsTextOf, line_text, most_bytes}
use Rattle.qc_tree.specs.Trees.{whole_line}
use Rattle.qc_tree.specs.declared.line.Line.{Line}
use Rattle.qc_replay.specs.declared.fault.ReplayError.{ReplayError}
use Rattle.qc_replay.specs.declared.fault.ReplayError.TheVariants as error
use Rattle.qc_replay.specs.declared.fault.Replayed.{Replayed}
use Rattle.qc_tree.specs.declared.fault.TreeFault.{TreeFault}
use Rattle.qc_tree.specs.declared.fault.TreeKind.{TreeKind}
use Rattle.qc_replay.specs.Read.{lines_text, with_lines}
use Rattle.qc_replay.specs.Walk.{Coming, Reading, replayed, start, texts_from}

-- the texts between the line feeds of a text
abbrev pub texts : List ℕ → List (List ℕ)
texts = slice_split (λ b. b == 10)

-- some lines lead from a reading, of which line n comes next, to a later one; where what is left of the file is
-- told, they are taken off it
pub record Leads (inst : InstanceView) (n : ℕ) (r : Reading) (left : Option (List ℕ))
    (m : ℕ) (now : Reading) (rest : Option (List ℕ)) : Type 0 where
  pub lines : List Listed
  pub reading : with_lines inst r lines ≡ Ok now
  pub taken : IfSome left (λ before. IsSomeAnd rest (λ after.
      (before ≡ lines_text lines ++ after) × (texts_from inst n r (texts before) ≡ texts_from inst m now (texts after))))

-- what is left of the file has this fault
abbrev pub Fails : InstanceView → ℕ → Reading → Option (List ℕ) → TreeFault → Type 0
Fails inst n r left fault = IfSome left (λ before. texts_from inst n r (texts before) ≡ Err fault)

-- the lines of a tree were read, and nothing is left; so much they come to
pub record IsReadThrough (inst : InstanceView) (left : Option (List ℕ)) (read : Replayed) : Type 0 where
  pub number : ℕ
  pub last : Reading
  pub rest : Option (List ℕ)
  pub leads : Leads inst 1 (start inst) left number last rest
  pub over : last.coming ≡ []
  pub same : read ≡ replayed last
  pub all : IfSome rest (λ bytes. bytes ≡ [])

-- what a call says of the shelf, and of its faults, that reads the tree of this name: a name that is missing is a
-- read that failed unless memory gave out first; no file changes; and no line that it faults is past the last one that
-- a tree may have
pub record ReadsTree (before after : View) (name : List ℕ) (result : Result Replayed ReplayError) : Type 0 where
  pub missing : IsMissing before.files name → ¬ (result ≡ Err error.OutOfMemory) → result ≡ Err error.ReadFault
  pub read_fault : result ≡ Err error.ReadFault → ReadCause before after name
  pub reads : Reads before after (¬ (result ≡ Err error.ReadFault))
  pub last : (fault : TreeFault) → result ≡ Err (error.Tree fault) → fault.line ≤ 8000007

-- what is left begins with this line and its list
pub record IsNext (before : Option (List ℕ)) (line : Line) (list : List ℕ) (after : Option (List ℕ)) : Type 0 where
  pub spelled : IsTextOf (line_text line list) line list
  pub short : length (line_text line list) < most_bytes
  pub taken : IfSome before (λ b. IsSomeAnd after (λ a. b ≡ whole_line line list ++ a))

-- what is left begins with no line, wherever one must come
abbrev pub IsFaulty : Option (List ℕ) → TreeKind → Type 0
IsFaulty before why =
    IfSome before (λ b. (inst : InstanceView) (n : ℕ) (r : Reading) (c : Coming) (more : List Coming)
    → r.coming ≡ c ∷ more → texts_from inst n r (texts b) ≡ Err (record { line = n; kind = why }))
