-- A file, read from its title to its end.
use Rattle.std.proofs.Common.{◌≡◌, ℕ, List, [], ◌++◌, Option, None, Some, IfSome, Result, Ok, Err, sym, ap, subst, ◌∙◌, IfOk, IsSomeAnd, ◌<◌, length}
use Rattle.qc_model.specs.Instance.{InstanceView, Valid}
use Rattle.qc_tree.specs.Trees.{IsTree, NoneEarlier, Tree, tree_branchings, tree_text, tree_value}
use Rattle.qc_replay.specs.declared.fault.Replayed.{Replayed}
use Rattle.qc_tree.specs.declared.fault.TreeFault.{TreeFault}
use Rattle.qc_tree.specs.declared.fault.TreeKind.TheVariants as kind
use Rattle.qc_replay.specs.File.{Fails, IsReadThrough, texts}
use Rattle.qc_replay.specs.Read.{IsReached, lines_text}
use Rattle.qc_replay.specs.Shown.{IsShown}
use Rattle.qc_replay.specs.Walk.{Reading, start, texts_from, tree_in}
use Rattle.qc_replay.proofs.FileFacts.{at_end, behind_end}
use Rattle.qc_replay.proofs.ReadLemmas.{none_earlier_of, shown_of}
use Rattle.qc_replay.proofs.TreeTextLemmas.{tree_read}

-- ---- the whole file

-- what holds of a text and of what is left, where that is nothing
at_bytes : (Q : List ℕ → List ℕ → Type 0) (P : List ℕ → Option (List ℕ) → Type 0) (f rest : Option (List ℕ))
    → IfSome f (λ x. IsSomeAnd rest (Q x)) → IfSome rest (λ y. y ≡ [])
    → ((x y : List ℕ) → Q x y → y ≡ [] → P x (Some y)) → IfSome f (λ x. P x rest)
at_bytes Q P None rest h none k = tt
at_bytes Q P (Some x) None h none k = absurd h
at_bytes Q P (Some x) (Some y) h none k = k x y h none

module _ (inst : InstanceView) (file : Option (List ℕ)) (read : Replayed) (through : IsReadThrough inst file read) where
  abbrev IsLed : List ℕ → List ℕ → Type 0
  IsLed x y = (x ≡ lines_text through.leads.lines ++ y)
      × (texts_from inst 1 (start inst) (texts x) ≡ texts_from inst through.number through.last (texts y))

  pub read_in : IfSome file (λ bytes. tree_in inst bytes ≡ Ok read)
  read_in = at_bytes IsLed (λ x _. tree_in inst x ≡ Ok read) file through.rest through.leads.taken through.all
      (λ x y h none. h.1 ∙ ap (λ z. texts_from inst through.number through.last (texts z)) none
      ∙ at_end inst through.number through.last through.over ∙ ap Ok (sym through.same))

  reached : IsReached inst through.last file through.rest
  reached = record {
    lines = through.leads.lines;
    reading = through.leads.reading;
    taken = at_bytes IsLed (λ x o. IfSome o (λ y. x ≡ lines_text through.leads.lines ++ y)) file through.rest
        through.leads.taken through.all (λ x y h none. h.0);
  }

  nothing_left : IfSome file (λ _. through.rest ≡ Some [])
  nothing_left = at_bytes IsLed (λ _ o. o ≡ Some []) file through.rest through.leads.taken through.all
      (λ x y h none. ap Some none)

  pub shows : IsShown inst file read
  shows = subst (IsShown inst file) (sym through.same)
      (shown_of inst through.last file through.rest reached nothing_left through.over)

  pub no_earlier : Valid inst → NoneEarlier inst read.bound
  no_earlier v = subst (λ (r : Replayed). NoneEarlier inst r.bound) (sym through.same)
      (none_earlier_of inst through.last file through.rest v reached through.over)

-- something stands behind the last line
pub behind_fails : (inst : InstanceView) (n : ℕ) (r : Reading) (left : Option (List ℕ)) (fault : TreeFault) → r.coming ≡ []
    → (fault.line ≡ n) × (fault.kind ≡ kind.After) × IfSome left (λ bytes. 0 < length bytes) → Fails inst n r left fault
behind_fails inst n r None fault over h = tt
behind_fails inst n r (Some bytes) fault over h =
    behind_end inst n r bytes over h.2
    ∙ ap (λ line. Err (record { line = line; kind = kind.After })) (sym h.0)
    ∙ ap (λ why. Err (record { line = fault.line; kind = why })) (sym h.1)

-- what holds of each value that was answered
pub each_ok : {A E : Type 0} (P Q : A → Type 0) (result : Result A E) → ((a : A) → P a → Q a) → IfOk result P → IfOk result Q
each_ok P Q (Ok a) all h = all a h
each_ok P Q (Err e) all h = tt

-- what was read of the text of a tree is its value
pub one_value : (inst : InstanceView) → Valid inst → (file : Option (List ℕ)) (read : Replayed)
    → IsReadThrough inst file read → (tree : Tree) → IsTree inst tree → file ≡ Some (tree_text inst tree)
    → (read.bound ≡ tree_value inst tree) × (read.branched ≡ tree_branchings tree)
one_value inst v file read through tree is text =
    let told = subst (λ (f : Option (List ℕ)). IfSome f (λ bytes. tree_in inst bytes ≡ Ok read)) text
    (read_in inst file read through) in
    let same = sym told ∙ tree_read inst v tree is in
    (cc same, cc same)

-- the text of a tree has no fault
pub never_faulty : (inst : InstanceView) → Valid inst → (file : Option (List ℕ)) (fault : TreeFault)
    → Fails inst 1 (start inst) file fault → (tree : Tree) → IsTree inst tree → file ≡ Some (tree_text inst tree) → ⊥
never_faulty inst v None fault fails tree is text = cc
never_faulty inst v (Some bytes) fault fails tree is text =
    let same : bytes ≡ tree_text inst tree = cc in
    absurd (cc (fails, ap (tree_in inst) same, tree_read inst v tree is))
