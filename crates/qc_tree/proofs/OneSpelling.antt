-- What a text that begins like a line can be.
use Rattle.std.proofs.Common.{◌≡◌, ℕ, ◌≤◌, ◌<◌, ◌^◌, List, [], ◌∷◌, ◌++◌, All, length, get_or, drop, refl, sym, ap, subst, ◌∙◌, arith, decimal, codes}
use Rattle.std.proofs.lemmas.Fmt.{decimal_nonempty}
use Rattle.std.proofs.lemmas.List.{append_assoc, flat_map_more}
use Rattle.std.proofs.lemmas.List.Elements.{All-append, All-cons, All-head, All-nil, All-tail}
use Rattle.qc_num.specs.declared.bound.Bound.{Bound}
use Rattle.qc_num.specs.declared.bound.Bound.TheVariants.{Least, Never}
use Rattle.qc_tree.specs.Fields.{EndsDigits, IsField}
use Rattle.qc_tree.specs.Lines.{AreTasks, IsTask, IsTextOf, IsValue, bound_field, fields}
use Rattle.qc_tree.specs.declared.line.Line.{Line}
use Rattle.qc_tree.specs.declared.line.Line.TheVariants.{Order, Ring, Work, End}
use Rattle.qc_num.proofs.DigitLemmas.{decimal_digits, fits}
use Rattle.qc_tree.proofs.Digits.{one_field, one_split}

-- behind a number stand further fields or nothing
pub ends_fields : (xs : List ℕ) → EndsDigits (fields xs)
ends_fields [] = tt
ends_fields (x ∷ xs) = refl

pub ends_bound : (x : Bound) → EndsDigits (bound_field x)
ends_bound (Least x) = refl
ends_bound Never = refl

-- a field that is read is the one that the text was made of
pub field_is :
    (text : List ℕ) (most n m : ℕ) (r s : List ℕ) → most ≤ 19
    → IsField text most n r → m < 10 ^ most → EndsDigits s → text ≡ 32 ∷ (decimal m ++ s) → (n ≡ m) × (r ≡ s)
field_is text most n m r s le field small ends same =
    one_field n m r s (fits most n le field.small) (fits most m le small) field.ends ends
    (ap (drop 1) (sym field.same ∙ same))

-- fields that begin with one that is read go on with the rest
pub goes_on :
    (text : List ℕ) (n : ℕ) (r xs : List ℕ) → IsField text 4 n r → All IsTask xs → text ≡ fields xs
    → (more : List ℕ) × (xs ≡ n ∷ more) × (All IsTask more) × (r ≡ fields more)
goes_on text n r [] field tasks same = absurd (omega (arith, ap length (sym field.same ∙ same)))
goes_on text n r (x ∷ xs) field tasks same =
    let one = field_is text 4 n x r (fields xs) (omega arith) field (All-head IsTask x xs tasks) (ends_fields xs) same in
    (xs, ap (λ y. y ∷ xs) (sym one.0), All-tail IsTask x xs tasks, one.1)

-- the same of fields that are written
pub one_list : (xs ys : List ℕ) → All IsTask xs → All IsTask ys → fields xs ≡ fields ys → xs ≡ ys
one_list [] [] p q same = refl
one_list [] (y ∷ ys) p q same = absurd (omega (arith, ap length same))
one_list (x ∷ xs) ys p q same =
    let first : IsField (fields (x ∷ xs)) 4 x (fields xs) = record { small = All-head IsTask x xs p; same = refl; ends = ends_fields xs } in
    let more = goes_on (fields (x ∷ xs)) x (fields xs) ys first q same in
    ap (λ zs. x ∷ zs) (one_list xs more.0 (All-tail IsTask x xs p) more.2 more.3) ∙ sym more.1

-- the word for no end is no number
pub never_digits : (x : ℕ) → x < 2 ^ 64 → decimal x ++ [] ≡ codes "never" → ⊥
never_digits x wide same =
    let none = one_split (decimal x) [] [] (codes "never") (decimal_digits x wide) refl tt refl same in
    omega (arith, decimal_nonempty x wide, ap length none.0)

-- how far a list is read: the items are the fields before the rest, and every list that the text
-- writes goes on from there
pub record SoFar (text items rest : List ℕ) : Type 0 where
  pub tasks : All IsTask items
  pub whole : text ≡ fields items ++ rest
  pub only : (tasks : List ℕ) → All IsTask tasks → text ≡ fields tasks
      → (more : List ℕ) × (tasks ≡ items ++ more) × (All IsTask more) × (rest ≡ fields more)

pub so_far_more : (text items rest now behind : List ℕ) (n : ℕ) → SoFar text items rest → IsField rest 4 n behind → now ≡ items ++ n ∷ [] → SoFar text now behind
so_far_more text items rest now behind n far field more = subst (λ t. SoFar text t behind) (sym more) (record {
  tasks = All-append IsTask items (n ∷ []) far.tasks (All-cons IsTask n [] field.small (All-nil IsTask));
  whole =
      far.whole ∙ ap (λ t. fields items ++ t) field.same
      ∙ sym (append_assoc (fields items) (32 ∷ decimal n) behind)
      ∙ ap (λ t. t ++ behind) (flat_map_more (λ k. 32 ∷ decimal k) [] items n);
  only = λ tasks are same.
      let so = far.only tasks are same in
      let go = goes_on rest n behind so.0 field so.2 so.3 in
      (go.0, so.1 ∙ ap (λ t. items ++ t) go.1 ∙ sym (append_assoc items (n ∷ []) go.0), go.2, go.3);
})

-- what fields are left begins with one
pub begins : (rest more : List ℕ) → All IsTask more → rest ≡ fields more → 0 < length rest → (n : ℕ) × (behind : List ℕ) × IsField rest 4 n behind × (0 < length more)
begins rest [] are same some = absurd (omega (arith, some, ap length same))
begins rest (n ∷ more) are same some =
    (n, fields more, record { small = All-head IsTask n more are; same = same; ends = ends_fields more }, omega arith)

pub so_far_refused :
    (text items rest tasks : List ℕ) → SoFar text items rest → 0 < length rest
    → ((n : ℕ) (behind : List ℕ) → IsField rest 4 n behind → ⊥) → All IsTask tasks → text ≡ fields tasks → ⊥
so_far_refused text items rest tasks far some none are same =
    let so = far.only tasks are same in
    let begun = begins rest so.0 so.2 so.3 some in
    none begun.0 begun.1 begun.2

module _ (rest : List ℕ) (list : List ℕ) where
  pub order_only :
      (line : Line) → IsTextOf (79 ∷ rest) line list
      → (i : ℕ) × (j : ℕ) × (line ≡ Order i j) × (list ≡ []) × IsField rest 4 i (fields (j ∷ [])) × IsTask j
  order_only (Order i j) h = (i, j, refl, h.list, record { small = h.in_range.0; same = ap (drop 1) h.same; ends = refl }, h.in_range.1)
  order_only line h = absurd (omega (arith, ap (λ t. get_or t 0 0) h.same))

  pub ring_only : (line : Line) → IsTextOf (67 ∷ rest) line list → (line ≡ Ring) × (2 ≤ length list) × (AreTasks list) × (rest ≡ fields list)
  ring_only Ring h = (refl, h.in_range.0, h.in_range.1, ap (drop 1) h.same)
  ring_only line h = absurd (omega (arith, ap (λ t. get_or t 0 0) h.same))

  pub work_only : (line : Line) → IsTextOf (87 ∷ rest) line list → (v : ℕ) × (line ≡ Work v) × (list ≡ []) × (1 ≤ v) × IsField rest 15 v []
  work_only (Work v) h = (v, refl, h.list, h.in_range.0, record { small = h.in_range.1; same = ap (drop 1) h.same; ends = tt })
  work_only line h = absurd (omega (arith, ap (λ t. get_or t 0 0) h.same))

  pub end_only :
      (line : Line) → IsTextOf (101 ∷ rest) line list
      → (b : ℕ) × (x : Bound) × (line ≡ End b x) × (list ≡ []) × (b < 10 ^ 7) × IsValue x
      × (rest ≡ 110 ∷ 100 ∷ 32 ∷ (decimal b ++ bound_field x))
  end_only (End b x) h = (b, x, refl, h.list, h.in_range.0, h.in_range.1, ap (drop 1) h.same)
  end_only line h = absurd (omega (arith, ap (λ t. get_or t 0 0) h.same))
