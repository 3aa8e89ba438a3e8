-- The moves of a list in another order, in which two change places only where neither has to do with the other.
use Rattle.std.proofs.Common.{◌≡◌, ◌≢◌, ◌∙◌, ◌⊎◌, ◌+◌, ◌++◌, ◌∷◌, [], ℕ, ◌≤◌, Bool, true, false, cond, ◌&&◌, List, Some, refl, sym, ap, inl, inr, subst, arith}
use Rattle.std.specs.Str.{bytes_eq}
use Rattle.std.specs.List.{AllByRecursion as Each}
use Rattle.std.specs.List.Sorted.{IsPermutation}
use Rattle.std.proofs.lemmas.Bool.{and_parts, cases_Bool}
use Rattle.std.proofs.lemmas.List.Sorted.{sum_by-IsPermutation}
use Rattle.qc_ship.specs.Cells.{CellView, overlap}
use Rattle.qc_stow.specs.Moves.{same_move}
use Rattle.qc_stow.specs.declared.row.Move.{Move}
use Rattle.qc_stow.specs.declared.row.Move.TheVariants.{Discharge, Load}
use Rattle.qc_stow.specs.declared.row.Row.{Row}
use Rattle.qc_changes.specs.Classes.{same_cell}
use Rattle.qc_changes.specs.Orders.{must_lead}
use Rattle.qc_changes.specs.Over.{is_over}
use Rattle.qc_changes.specs.States.{AreLegal, IsLegalMove, Leads, State, after, after_all, cell_behind}
use Rattle.qc_changes.proofs.Elements.{EachPair, In, each_in, each_of, in_left}
use Rattle.qc_changes.proofs.LegalLemmas.{at_other, at_own}
use Rattle.qc_changes.proofs.StandLemmas.{cells_same, id_other, id_same, same_cells, same_id}
use Rattle.qc_changes.proofs.Tally.{add, tally, tally_append, tally_is}

-- two moves of which neither has to do with the other
pub record AreFree (a b : Row) : Type 0 where
  pub ids : a.id ≢ b.id
  pub apart : overlap a.cell b.cell ≡ false
  pub apart' : overlap b.cell a.cell ≡ false
  pub under : is_over a.cell b.cell ≡ false
  pub over : is_over b.cell a.cell ≡ false

turned : (a b : Row) → AreFree a b → AreFree b a
turned a b f = record { ids = λ e. f.ids (sym e); apart = f.apart'; apart' = f.apart; under = f.over; over = f.under }

-- ---- states that tell the same

abbrev Alike : State → State → Type 0
Alike s t = (id : List ℕ) → s id ≡ t id

alike_after : (s t : State) (r : Row) → Alike s t → Alike (after s r) (after t r)
alike_after s t r same id = elim (cases_Bool (bytes_eq r.id id)) [
  | inl own ↦ at_own s r id own ∙ sym (at_own t r id own)
  | inr other ↦ at_other s r id other ∙ same id ∙ sym (at_other t r id other)
]

legal_alike : (s t : State) (k : Move) (id : List ℕ) (cell : CellView) → Alike s t → IsLegalMove k s id cell → IsLegalMove k t id cell
legal_alike s t Discharge id cell same is = record { stands = sym (same id) ∙ is.stands; opened = λ i other at. is.opened i other (same i ∙ at) }
legal_alike s t Load id cell same is = record {
  absent = sym (same id) ∙ is.absent;
  free = λ i other at. is.free i other (same i ∙ at);
  opened = λ i other at. is.opened i other (same i ∙ at);
}

all_alike : (rows : List Row) (s t : State) → Alike s t → AreLegal s rows → AreLegal t rows
all_alike [] s t same is = tt
all_alike (r ∷ rs) s t same is = (legal_alike s t r.kind r.id r.cell same is.0, all_alike rs (after s r) (after t r) (alike_after s t r same) is.1)

end_alike : (rows : List Row) (s t : State) → Alike s t → Alike (after_all s rows) (after_all t rows)
end_alike [] s t same = same
end_alike (r ∷ rs) s t same = end_alike rs (after s r) (after t r) (alike_after s t r same)

-- ---- a move ahead of another, and behind it

abbrev IsClear : (CellView → CellView → Bool) → State → CellView → Type 0
IsClear hits s cell = (id : List ℕ) (other : CellView) → s id ≡ Some other → hits other cell ≡ false

-- what stands where a move put it, or where a legal move found it
put_there : (s : State) (r : Row) (id : List ℕ) (other : CellView) → bytes_eq r.id id ≡ true → after s r id ≡ Some other → r.cell ≡ other
put_there s r id other own at = by r.kind (sym (at_own s r id own) ∙ at)
  where
    by : (k : Move) → cell_behind k r.cell ≡ Some other → r.cell ≡ other
    by Discharge e = absurd (cc e)
    by Load e = cc e

found_there : (s : State) (r : Row) (id : List ℕ) (other : CellView) → bytes_eq r.id id ≡ true → IsLegalMove r.kind s r.id r.cell → s id ≡ Some other → r.cell ≡ other
found_there s r id other own legal at = by r.kind legal (ap s (same_id r.id id own) ∙ at)
  where
    by : (k : Move) → IsLegalMove k s r.id r.cell → s r.id ≡ Some other → r.cell ≡ other
    by Discharge is here = let both : Some r.cell ≡ Some other = sym is.stands ∙ here in cc both
    by Load is here = absurd (cc (is.absent, here))

clear_on : (hits : CellView → CellView → Bool) (s : State) (r : Row) (cell : CellView) → hits r.cell cell ≡ false → IsClear hits s cell → IsClear hits (after s r) cell
clear_on hits s r cell far clear id other at = elim (cases_Bool (bytes_eq r.id id)) [
  | inl own ↦ subst (λ (x : CellView). hits x cell ≡ false) (put_there s r id other own at) far
  | inr not_own ↦ clear id other (sym (at_other s r id not_own) ∙ at)
]

clear_back : (hits : CellView → CellView → Bool) (s : State) (r : Row) (cell : CellView) → IsLegalMove r.kind s r.id r.cell → hits r.cell cell ≡ false
    → IsClear hits (after s r) cell → IsClear hits s cell
clear_back hits s r cell is far clear id other at = elim (cases_Bool (bytes_eq r.id id)) [
  | inl own ↦ subst (λ (x : CellView). hits x cell ≡ false) (found_there s r id other own is at) far
  | inr not_own ↦ clear id other (at_other s r id not_own ∙ at)
]

legal_back : (s : State) (r q : Row) → AreFree r q → IsLegalMove r.kind s r.id r.cell → IsLegalMove q.kind (after s r) q.id q.cell → IsLegalMove q.kind s q.id q.cell
legal_back s r q far is next = by q.kind next
  where
    there : after s r q.id ≡ s q.id
    there = at_other s r q.id (id_other r.id q.id far.ids)

    by : (k : Move) → IsLegalMove k (after s r) q.id q.cell → IsLegalMove k s q.id q.cell
    by Discharge n = record { stands = sym there ∙ n.stands; opened = clear_back is_over s r q.cell is far.under n.opened }
    by Load n = record {
      absent = sym there ∙ n.absent;
      free = clear_back overlap s r q.cell is far.apart n.free;
      opened = clear_back is_over s r q.cell is far.under n.opened;
    }

legal_on : (s : State) (q r : Row) → AreFree q r → IsLegalMove r.kind s r.id r.cell → IsLegalMove r.kind (after s q) r.id r.cell
legal_on s q r far is = by r.kind is
  where
    there : after s q r.id ≡ s r.id
    there = at_other s q r.id (id_other q.id r.id far.ids)

    by : (k : Move) → IsLegalMove k s r.id r.cell → IsLegalMove k (after s q) r.id r.cell
    by Discharge n = record { stands = there ∙ n.stands; opened = clear_on is_over s q r.cell far.under n.opened }
    by Load n = record {
      absent = there ∙ n.absent;
      free = clear_on overlap s q r.cell far.apart n.free;
      opened = clear_on is_over s q r.cell far.under n.opened;
    }

exchanged : (s : State) (r q : Row) → AreFree r q → Alike (after (after s r) q) (after (after s q) r)
exchanged s r q far id = elim (cases_Bool (bytes_eq r.id id)) [
  | inl own ↦
      let other : bytes_eq q.id id ≡ false = id_other q.id id (λ e. far.ids (same_id r.id id own ∙ sym e)) in
      at_other (after s r) q id other ∙ at_own s r id own ∙ sym (at_own (after s q) r id own)
  | inr not_own ↦ elim (cases_Bool (bytes_eq q.id id)) [
    | inl own ↦ at_own (after s r) q id own ∙ sym (at_other (after s q) r id not_own ∙ at_own s q id own)
    | inr other ↦ at_other (after s r) q id other ∙ at_other s r id not_own ∙ sym (at_other (after s q) r id not_own ∙ at_other s q id other)
  ]
]

-- a move behind several with which it has nothing to do
later : (ps rest : List Row) (r : Row) (s : State) → Each (λ (p : Row). AreFree r p) ps → AreLegal s (r ∷ ps ++ rest) → AreLegal s (ps ++ r ∷ rest)
later [] rest r s far is = is
later (p ∷ ps) rest r s far is = (
  legal_back s r p far.0 is.0 is.1.0,
  later ps rest r (after s p) far.1
      (legal_on s p r (turned r p far.0) is.0, all_alike (ps ++ rest) (after (after s r) p) (after (after s p) r) (exchanged s r p far.0) is.1.1),
)

later_end : (ps rest : List Row) (r : Row) (s : State) → Each (λ (p : Row). AreFree r p) ps → Alike (after_all s (ps ++ r ∷ rest)) (after_all s (r ∷ ps ++ rest))
later_end [] rest r s far id = refl
later_end (p ∷ ps) rest r s far id =
    later_end ps rest r (after s p) far.1 id
    ∙ sym (end_alike (ps ++ rest) (after (after s r) p) (after (after s p) r) (exchanged s r p far.0) id)

-- ---- lists with the same rows

abbrev HaveSame : List Row → List Row → Type 0
HaveSame xs ys = (p : Row → Bool) → tally p xs ≡ tally p ys

pub permuted : (xs ys : List Row) → IsPermutation xs ys → HaveSame xs ys
permuted xs ys same p = tally_is p xs ∙ sym (sum_by-IsPermutation (λ (x : Row). cond (p x) 1 0) xs ys same) ∙ sym (tally_is p ys)

abbrev is_row : Row → Row → Bool
is_row a b = bytes_eq a.id b.id && (same_move a.kind b.kind && same_cell a.cell b.cell)

row_is : (a b : Row) → is_row a b ≡ true → a ≡ b
row_is a b h =
    let (id, rest) = and_parts (bytes_eq a.id b.id) (same_move a.kind b.kind && same_cell a.cell b.cell) h in
    let (kind, cell) = and_parts (same_move a.kind b.kind) (same_cell a.cell b.cell) rest in
    parts a b (same_id a.id b.id id) (kinds a.kind b.kind kind) (same_cells a.cell b.cell cell)
  where
    kinds : (k l : Move) → same_move k l ≡ true → k ≡ l
    kinds Discharge Discharge e = refl
    kinds Load Load e = refl
    kinds Discharge Load e = absurd (cc e)
    kinds Load Discharge e = absurd (cc e)

    parts : (a b : Row) → a.id ≡ b.id → a.kind ≡ b.kind → a.cell ≡ b.cell → a ≡ b
    parts a b p q r =
        ap (λ (x : List ℕ). let it : Row = record { id = x; kind = a.kind; cell = a.cell } in it) p
        ∙ ap (λ (x : Move). let it : Row = record { id = b.id; kind = x; cell = a.cell } in it) q
        ∙ ap (λ (x : CellView). let it : Row = record { id = b.id; kind = b.kind; cell = x } in it) r

itself : (a : Row) → is_row a a ≡ true
itself a = rw (id_same a.id a.id refl, kinds a.kind, cells_same a.cell) refl
  where
    kinds : (k : Move) → same_move k k ≡ true
    kinds Discharge = refl
    kinds Load = refl

counted : (xs : List Row) (r : Row) → 1 ≤ tally (is_row r) xs → In r xs
counted [] r h = absurd (omega arith)
counted (x ∷ xs) r h = elim (cases_Bool (is_row r x)) [
  | inl here ↦ inl (sym (row_is r x here))
  | inr other ↦ inr (counted xs r (rw other at h))
]

in_counted : (xs : List Row) (r : Row) → In r xs → 1 ≤ tally (is_row r) xs
in_counted [] r h = absurd h
in_counted (x ∷ xs) r h = elim h [
  | inl same ↦ let here : is_row r x ≡ true = subst (λ (y : Row). is_row r y ≡ true) (sym same) (itself r) in rw here (omega arith)
  | inr later ↦ at_least (is_row r x) (tally (is_row r) xs) (in_counted xs r later)
]
  where
    at_least : (b : Bool) (n : ℕ) → 1 ≤ n → 1 ≤ add b n
    at_least true n h = omega arith
    at_least false n h = h

same_in : (xs ys : List Row) (r : Row) → HaveSame xs ys → In r xs → In r ys
same_in xs ys r same h = counted ys r (omega (arith, same (is_row r), in_counted xs r h))

nothing : (ys : List Row) → HaveSame [] ys → ys ≡ []
nothing [] same = refl
nothing (y ∷ ys) same = absurd (same_in (y ∷ ys) [] y (λ p. sym (same p)) (inl refl))

cut_at : (xs : List Row) (r : Row) → In r xs → (pre : List Row) × ((post : List Row) × (xs ≡ pre ++ r ∷ post))
cut_at [] r h = absurd h
cut_at (x ∷ xs) r h = elim h [
  | inl same ↦ ([], (xs, ap (λ (y : Row). y ∷ xs) same))
  | inr later ↦ let (pre, (post, is)) = cut_at xs r later in (x ∷ pre, (post, ap (λ (ys : List Row). x ∷ ys) is))
]

without : (rs pre post : List Row) (r : Row) → HaveSame (r ∷ rs) (pre ++ r ∷ post) → HaveSame rs (pre ++ post)
without rs pre post r same p =
    by (p r) (tally p rs) (tally p pre) (tally p post) (same p ∙ tally_append p pre (r ∷ post)) ∙ sym (tally_append p pre post)
  where
    by : (b : Bool) (n k l : ℕ) → add b n ≡ k + add b l → n ≡ k + l
    by true n k l h = omega (arith, h)
    by false n k l h = h

module _ (R : Row → Row → Type 0) where
  pair_at : (pre post : List Row) (r p : Row) → EachPair R (pre ++ r ∷ post) → In p pre → R p r
  pair_at [] post r p h at = absurd at
  pair_at (x ∷ xs) post r p h at = elim at [
    | inl same ↦ subst (λ (y : Row). R y r) same (last xs h.0)
    | inr later ↦ pair_at xs post r p h.1 later
  ]
    where
      last : (ys : List Row) → Each (R x) (ys ++ r ∷ post) → R x r
      last [] each = each.0
      last (y ∷ ys) each = last ys each.1

  pair_without : (pre post : List Row) (r : Row) → EachPair R (pre ++ r ∷ post) → EachPair R (pre ++ post)
  pair_without [] post r h = h.1
  pair_without (x ∷ xs) post r h = (fewer xs h.0, pair_without xs post r h.1)
    where
      fewer : (ys : List Row) → Each (R x) (ys ++ r ∷ post) → Each (R x) (ys ++ post)
      fewer [] each = each.1
      fewer (y ∷ ys) each = (each.0, fewer ys each.1)

-- ---- the list in another order

-- of two moves the first has nothing to do with the second, or must be made ahead of it
abbrev pub Ahead : Row → Row → Type 0
Ahead a b = AreFree a b ⊎ (must_lead a b ≡ true)

free_of : (a b : Row) → Ahead a b → must_lead a b ≡ false → AreFree a b
free_of a b (inl far) none = far
free_of a b (inr leads) none = absurd (cc (leads, none))

pub reordered : (rows told : List Row) (s t : State) → EachPair Ahead rows → HaveSame rows told → EachPair (λ (a b : Row). must_lead b a ≡ false) told
    → Leads s rows t → Leads s told t
reordered [] told s t ahead same order leads = subst (λ (rs : List Row). Leads s rs t) (sym (nothing told same)) leads
reordered (r ∷ rs) told s t ahead same order leads =
    let (pre, (post, is)) = cut_at told r (same_in (r ∷ rs) told r same (inl refl)) in
    let rest : HaveSame rs (pre ++ post) = without rs pre post r (subst (λ (ys : List Row). HaveSame (r ∷ rs) ys) is same) in
    let order' : EachPair (λ (a b : Row). must_lead b a ≡ false) (pre ++ r ∷ post) = subst (λ (ys : List Row). EachPair (λ (a b : Row). must_lead b a ≡ false) ys) is order in
    let far : Each (λ (p : Row). AreFree r p) pre = each_of (λ (p : Row). AreFree r p) pre (λ p at.
    free_of r p (each_in (Ahead r) rs p ahead.0 (same_in (pre ++ post) rs p (λ q. sym (rest q)) (in_left pre post p at)))
    (pair_at (λ (a b : Row). must_lead b a ≡ false) pre post r p order' at)) in
    let inner = reordered rs (pre ++ post) (after s r) t ahead.1 rest (pair_without (λ (a b : Row). must_lead b a ≡ false) pre post r order')
    (record { legal = leads.legal.1; ends = leads.ends }) in
    subst (λ (ys : List Row). Leads s ys t) (sym is)
    (record { legal = later pre post r s far (leads.legal.0, inner.legal); ends = λ id. later_end pre post r s far id ∙ inner.ends id })
