-- The text that is left of a file, line by line.
use Rattle.std.proofs.Common.{◌≡◌, ◌≢◌, ℕ, ◌+◌, ◌<◌, ◌≤◌, false, ◌==◌, nat_lt, List, [], ◌∷◌, ◌++◌, length, take, drop, All, Option, None, Some, IfSome, Result, Ok, Err, refl, sym, ap, subst, ◌∙◌, append_assoc, arith, if◌then◌else◌, nat_le, ok_or}
use Rattle.std.specs.Result.{IsErrAnd}
use Rattle.std.specs.List.{join_with_byte, onto_first}
use Rattle.std.proofs.lemmas.Bool.{le-leb, le-ltb, lt-leb, lt-ltb, ne_eqb}
use Rattle.std.proofs.lemmas.List.{length-append, length-take, take-append-drop}
use Rattle.std.proofs.lemmas.List.Elements.{All-head, All-tail}
use Rattle.std.proofs.lemmas.List.Splits.{join_with_byte-slice_split, slice_split-cons_no, slice_split_at, slice_split_none}
use Rattle.qc_num.specs.Reading.{◌>>=◌, require}
use Rattle.qc_model.specs.Instance.{InstanceView}
use Rattle.qc_tree.specs.declared.line.Line.{Line}
use Rattle.qc_lines.specs.Left.{IsCut, IsTooLong, NoFeed, Takes}
use Rattle.qc_tree.specs.LineIn.{Listed, line_in}
use Rattle.qc_replay.specs.declared.fault.ReplayError.{ReplayError}
use Rattle.qc_replay.specs.declared.fault.ReplayError.TheVariants.{Tree}
use Rattle.qc_tree.specs.declared.fault.TreeFault.{TreeFault}
use Rattle.qc_tree.specs.declared.fault.TreeKind.{TreeKind}
use Rattle.qc_tree.specs.declared.fault.TreeKind.TheVariants as kind
use Rattle.qc_replay.specs.File.{IsFaulty, texts}
use Rattle.qc_tree.specs.Lines.{most_bytes}
use Rattle.qc_replay.specs.Walk.{Coming, Reading, at, at_rest, at_text, next_of, numbered, replayed, texts_from}

abbrev pub fault_at : ℕ → TreeKind → TreeFault
fault_at n why = record { line = n; kind = why }

-- ---- texts between line feeds

no_feeds : (bytes : List ℕ) → NoFeed bytes → All (λ b. (b == 10) ≡ false) bytes
no_feeds bytes none = λ i d low. ne_eqb _ 10 (none i d low)

-- the first text, and those behind it
pub record Parts (bytes : List ℕ) : Type 0 where
  pub first : List ℕ
  pub more : List (List ℕ)
  pub are : texts bytes ≡ first ∷ more

parts_of : (all : List (List ℕ)) (bytes : List ℕ) → texts bytes ≡ all → join_with_byte 10 all ≡ bytes → Parts bytes
parts_of [] [] is joined = record { first = []; more = []; are = refl }
parts_of [] (b ∷ bytes) is joined = absurd (omega (arith, ap length joined))
parts_of (first ∷ more) bytes is joined = record { first = first; more = more; are = is }

pub parts : (bytes : List ℕ) → Parts bytes
parts bytes = parts_of (texts bytes) bytes refl (join_with_byte-slice_split 10 bytes)

-- bytes without a line feed before a text
front_texts : (front bytes : List ℕ) (p : Parts bytes) → NoFeed front
    → texts (front ++ bytes) ≡ (front ++ p.first) ∷ p.more
front_texts [] bytes p none = p.are
front_texts (b ∷ front) bytes p none =
    slice_split-cons_no (λ b. b == 10) b (front ++ bytes) (ne_eqb b 10 (All-head (λ b. b ≢ 10) b front none))
    ∙ ap (onto_first b) (front_texts front bytes p (All-tail (λ b. b ≢ 10) b front none))

-- ---- what a text comes to

module _ (inst : InstanceView) (n : ℕ) (r : Reading) where
  -- a text and its line feed
  pub line_texts : (text rest : List ℕ) → NoFeed text
      → texts_from inst n r (texts (text ++ 10 ∷ rest))
      ≡ (numbered n (at_text inst r text) >>= λ now. texts_from inst (n + 1) now (texts rest))
  line_texts text rest none =
      let p = parts rest in
      ap (texts_from inst n r) (slice_split_at (λ b. b == 10) text 10 rest (no_feeds text none) refl ∙ ap (λ all. text ∷ all) p.are)
      ∙ ap (λ all. numbered n (at_text inst r text) >>= λ now. texts_from inst (n + 1) now all) (sym p.are)

  -- the last line was read
  pub at_end : r.coming ≡ [] → texts_from inst n r (texts []) ≡ Ok (replayed r)
  at_end none = ap (λ cs. numbered n (at_rest cs []) >>= λ _. Ok (replayed r)) none

  after_parts : (first : List ℕ) (more : List (List ℕ)) → r.coming ≡ []
      → 0 < length (join_with_byte 10 (first ∷ more)) → texts_from inst n r (first ∷ more) ≡ Err (fault_at n kind.After)
  after_parts first [] none some =
      ap (λ cs. numbered n (at_rest cs first) >>= λ _. Ok (replayed r)) none
      ∙ ap (λ b. numbered n (require b kind.After) >>= λ _. Ok (replayed r)) (ne_eqb (length first) 0 (λ e. absurd (omega (arith, some, e))))
  after_parts first (next ∷ more) none some =
      ap (λ cs. numbered n (next_of cs >>= λ c. require (nat_lt (length first) most_bytes) kind.LineTooLong
      >>= λ _. ok_or (line_in first) kind.Spelling >>= λ (seen : Listed). at inst r c seen.line seen.list)
      >>= λ now. texts_from inst (n + 1) now (next ∷ more)) none

  -- something stands behind it
  pub behind_end : (bytes : List ℕ) → r.coming ≡ [] → 0 < length bytes
      → texts_from inst n r (texts bytes) ≡ Err (fault_at n kind.After)
  behind_end bytes none some =
      let p = parts bytes in
      let joined = join_with_byte-slice_split 10 bytes in
      ap (texts_from inst n r) p.are
      ∙ after_parts p.first p.more none (omega (arith, some, ap length joined, ap (λ all. length (join_with_byte 10 all)) p.are))

  module _ (c : Coming) (more : List Coming) (must : r.coming ≡ c ∷ more) where
    text_at : (text : List ℕ) → at_text inst r text
        ≡ (require (nat_lt (length text) most_bytes) kind.LineTooLong >>= λ _. ok_or (line_in text) kind.Spelling
        >>= λ (seen : Listed). at inst r c seen.line seen.list)
    text_at text = ap (λ cs. next_of cs >>= λ c. require (nat_lt (length text) most_bytes) kind.LineTooLong
        >>= λ _. ok_or (line_in text) kind.Spelling >>= λ (seen : Listed). at inst r c seen.line seen.list) must

    rest_at : (text : List ℕ)
        → texts_from inst n r (text ∷ [])
        ≡ Err (fault_at n (if nat_le most_bytes (length text) then kind.LineTooLong else kind.Cut))
    rest_at text = ap (λ cs. numbered n (at_rest cs text) >>= λ _. Ok (replayed r)) must

    long_parts : (first : List ℕ) (others : List (List ℕ)) → 1200 ≤ length first
        → texts_from inst n r (first ∷ others) ≡ Err (fault_at n kind.LineTooLong)
    long_parts first [] long =
        rest_at first ∙ ap (λ b. Err (fault_at n (if b then kind.LineTooLong else kind.Cut))) (le-leb most_bytes (length first) long)
    long_parts first (next ∷ others) long =
        ap (λ now. numbered n now >>= λ now. texts_from inst (n + 1) now (next ∷ others)) (text_at first)
        ∙ ap (λ b. numbered n (require b kind.LineTooLong >>= λ _. ok_or (line_in first) kind.Spelling
        >>= λ (seen : Listed). at inst r c seen.line seen.list) >>= λ now. texts_from inst (n + 1) now (next ∷ others))
        (le-ltb (length first) most_bytes long)

    pub too_long : (bytes : List ℕ) → IsTooLong 1200 bytes → texts_from inst n r (texts bytes) ≡ Err (fault_at n kind.LineTooLong)
    too_long bytes long =
        let p = parts (drop 1200 bytes) in
        let count = length-take 1200 bytes in
        ap (λ bs. texts_from inst n r (texts bs)) (sym (take-append-drop 1200 bytes))
        ∙ ap (texts_from inst n r) (front_texts (take 1200 bytes) (drop 1200 bytes) p long.1)
        ∙ long_parts (take 1200 bytes ++ p.first) p.more (omega (arith, count, long.0, length-append (take 1200 bytes) p.first))

    pub cut_off : (bytes : List ℕ) → length bytes < 1200 → NoFeed bytes
        → texts_from inst n r (texts bytes) ≡ Err (fault_at n kind.Cut)
    cut_off bytes short none =
        ap (texts_from inst n r) (slice_split_none (λ b. b == 10) bytes (no_feeds bytes none))
        ∙ rest_at bytes ∙ ap (λ b. Err (fault_at n (if b then kind.LineTooLong else kind.Cut))) (lt-leb most_bytes (length bytes) short)

    pub misspelt : (text rest : List ℕ) → length text < 1200 → NoFeed text → line_in text ≡ None
        → texts_from inst n r (texts (text ++ 10 ∷ rest)) ≡ Err (fault_at n kind.Spelling)
    misspelt text rest short none unread =
        line_texts text rest none
        ∙ ap (λ now. numbered n now >>= λ now. texts_from inst (n + 1) now (texts rest)) (text_at text)
        ∙ rw (lt-ltb (length text) most_bytes short, unread) refl

-- ---- what is left of a file that begins with no line

abbrev tree_fault : ReplayError → TreeFault → TreeFault
tree_fault (Tree fault) other = fault
tree_fault e other = other

abbrev error_of : {A : Type 0} → Result A ReplayError → ReplayError → ReplayError
error_of (Err e) other = e
error_of (Ok line) other = other

-- the fault that was answered
pub fault_told : {A : Type 0} (e : ReplayError) (fault : TreeFault) (n : ℕ) (why : TreeKind) → e ≡ Tree (fault_at n why)
    → ◌≡◌ {A = Result A ReplayError} (Err e) (Err (Tree fault)) → fault_at n why ≡ fault
fault_told e fault n why is same = ap (λ f. tree_fault f fault) (sym is ∙ ap (λ r. error_of r e) same)

pub refused : (before : Option (List ℕ)) (n : ℕ) (why : TreeKind) (e : ReplayError) → e ≡ Tree (fault_at n why)
    → IsFaulty before why → (fault : TreeFault) → ◌≡◌ {A = Result Line ReplayError} (Err e) (Err (Tree fault))
    → (fault.line ≡ n) × IsFaulty before fault.kind
refused before n why e is faulty fault same =
    let one = fault_told e fault n why is same in
    (sym (ap (λ (f : TreeFault). f.line) one), subst (λ (f : TreeFault). IsFaulty before f.kind) one faulty)

pub long_faulty : (before : Option (List ℕ)) → IfSome before (IsTooLong 1200) → IsFaulty before kind.LineTooLong
long_faulty None long = tt
long_faulty (Some bytes) long = λ inst n r c more must. too_long inst n r c more must bytes long

pub cut_faulty : (before : Option (List ℕ)) → IfSome before (IsCut 1200) → IsFaulty before kind.Cut
cut_faulty None cut = tt
cut_faulty (Some bytes) cut = λ inst n r c more must. cut_off inst n r c more must bytes cut.1 cut.2

pub misspelt_faulty : (before : Option (List ℕ)) (text : List ℕ) (after : Option (List ℕ)) → Takes 1200 before text after
    → line_in text ≡ None → IsFaulty before kind.Spelling
misspelt_faulty None text after takes unread = tt
misspelt_faulty (Some bytes) text None takes unread = absurd (cc takes.taken)
misspelt_faulty (Some bytes) text (Some rest) takes unread = λ inst n r c more must.
    ap (λ bs. texts_from inst n r (texts bs)) (same_some takes.taken ∙ append_assoc text (10 ∷ []) rest)
    ∙ misspelt inst n r c more must text rest takes.short takes.unbroken unread
  where
    same_some : {a b : List ℕ} → Some a ≡ Some b → a ≡ b
    same_some e = cc

-- ---- errors that are handed on

-- an error that is handed on
pub handed : {A E : Type 0} (r : Result A E) (x : E) → IsErrAnd r (λ e. e ≡ x) → r ≡ Err x
handed (Ok a) x h = absurd h
handed (Err e) x h = ap Err h

-- a call that hands on the error of another
pub error_through : {A B E : Type 0} (r : Result A E) (s : Result B E) (x fault : E) → r ≡ Err x → s ≡ Err x
    → r ≡ Err fault → s ≡ Err fault
error_through r s x fault e h is = cc
