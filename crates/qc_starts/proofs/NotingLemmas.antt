-- A note of a cell that isn't marked, and a write of one that is.
use Rattle.std.proofs.Common.{◌≡◌, ◌≢◌, ℕ, suc, ◌+◌, ◌<◌, Bool, true, false, inl, inr, List, [], ◌∷◌, ◌++◌, length, refl, sym, ap, ◌∙◌, append_assoc, ext_get_or, length-append, arith, slice_index, slice_index_or, slice_set, subst₂, All}
use Rattle.std.proofs.lemmas.Bool.{cases_eq, cases_lt, false≢true}
use Rattle.std.proofs.lemmas.List.{append-nil, get_or_default, get_or-set_same, get_or-set_other}
use Rattle.std.proofs.lemmas.List.Elements.{All-push}
use Rattle.std.proofs.lemmas.List.Sums.{count_by-le-length, sum_by-cons, sum_by-set}
use Rattle.std.proofs.Math.ListN.{get_or-eq_default, length-set}
use Rattle.qc_arena.specs.declared.trail.Note.{Note}
use Rattle.qc_arena.specs.Trails.{written_back}
use Rattle.qc_starts.specs.declared.noted.Noted.{Noted}
use Rattle.qc_starts.specs.Spread.{one_of}
use Rattle.qc_starts.specs.Noting.{HasNotes, IsNoting, Wrote, marks}

pub written_back-append : (one two : List Note) (cells : List ℕ)
    → written_back (one ++ two) cells ≡ written_back one (written_back two cells)
written_back-append [] two cells = refl
written_back-append (note ∷ one) two cells =
    ap (λ (xs : List ℕ). slice_set xs note.place note.old) (written_back-append one two cells)

pub marks_more : (noted : List Bool) (p : ℕ) → p < length noted → slice_index_or noted p true ≡ false
    → marks (slice_set noted p true) ≡ marks noted + 1
marks_more noted p low free =
    let more = sum_by-set one_of noted p true true low in
    let none = ap one_of free in
    omega (arith, more, none)

pub marks_less : (noted : List Bool) (p : ℕ) → p < length noted → slice_index_or noted p false ≡ true
    → marks (slice_set noted p false) + 1 ≡ marks noted
marks_less noted p low full =
    let less = sum_by-set one_of noted p false false low in
    let one = ap one_of full in
    omega (arith, less, one)

pub marks_below : (noted : List Bool) (p : ℕ) → p < length noted → slice_index_or noted p true ≡ false
    → marks noted < length noted
marks_below noted p low free =
    omega (arith, marks_more noted p low free, count_by-le-length (λ b. b) (slice_set noted p true), length-set noted p true)

pub note_keeps : (before : List Note) (olds : List ℕ) (v w : Noted) (p : ℕ)
    → p < length v.cells → length v.noted.items ≡ length v.cells → slice_index_or v.noted.items p true ≡ false
    → w.cells ≡ v.cells
    → w.trail.notes ≡ v.trail.notes ++ record { place = p; old = slice_index v.cells p } ∷ []
    → w.noted.items ≡ slice_set v.noted.items p true
    → IsNoting before olds v → IsNoting before olds w
note_keeps before olds v w p low size free cells notes noted is = record {
  since = is.since ++ note ∷ [];
  notes = notes ∙ ap (λ (xs : List Note). xs ++ note ∷ []) is.notes ∙ append_assoc before is.since (note ∷ []);
  count = omega (
    arith,
    length-append is.since (note ∷ []),
    is.count,
    ap marks noted,
    marks_more v.noted.items p (omega arith) free,
  );
  size = ap (length {A = ℕ}) cells ∙ is.size;
  same = λ q under still. ap (λ (xs : List ℕ). slice_index xs q) cells ∙ is.same q under (before_it q still);
  back = λ others count agree.
      let put = slice_set others p (slice_index v.cells p) in
      written_back-append is.since (note ∷ []) others
      ∙ is.back put (length-set others p (slice_index v.cells p) ∙ count) (λ q under still. elim (cases_eq q p) [
        | inl same ↦
            let here = get_or-set_same others p (slice_index v.cells p) 0 (omega (arith, is.size)) in
            ap (slice_index put) same ∙ here ∙ is.same p (omega (arith, is.size)) free ∙ ap (slice_index olds) (sym same)
        | inr other ↦
            get_or-set_other others p q (slice_index v.cells p) 0 other ∙ agree q under (after_it q other still)
      ]);
}
  where
    note : Note
    note = record { place = p; old = slice_index v.cells p }

    after_it : (q : ℕ) → q ≢ p → slice_index_or v.noted.items q true ≡ false
        → slice_index_or w.noted.items q true ≡ false
    after_it q other still =
        ap (λ (xs : List Bool). slice_index_or xs q true) noted
        ∙ get_or-set_other v.noted.items p q true true other ∙ still

    before_it : (q : ℕ) → slice_index_or w.noted.items q true ≡ false → slice_index_or v.noted.items q true ≡ false
    before_it q still = elim (cases_eq q p) [
      | inl same ↦
          ap (λ (k : ℕ). slice_index_or v.noted.items k true) same ∙ free
      | inr other ↦
          sym (get_or-set_other v.noted.items p q true true other)
          ∙ sym (ap (λ (xs : List Bool). slice_index_or xs q true) noted) ∙ still
    ]

-- a note more, of a cell that isn't marked
pub note_fits : (v w : Noted) (p x : ℕ) → HasNotes v → p < length v.cells → slice_index_or v.noted.items p true ≡ false
    → w.cells ≡ v.cells → w.trail.cap ≡ v.trail.cap
    → w.trail.notes ≡ v.trail.notes ++ record { place = p; old = x } ∷ []
    → w.noted.items ≡ slice_set v.noted.items p true → HasNotes w
note_fits v w p x is low free cells cap notes noted =
    let note : Note = record { place = p; old = x } in
    let size = ap (length {A = Bool}) noted ∙ length-set v.noted.items p true in
    let wide = ap (length {A = ℕ}) cells in
    record {
      size = omega (arith, size, wide, is.size);
      room = omega (
        arith,
        size,
        cap,
        ap (length {A = Note}) notes,
        length-append v.trail.notes (note ∷ []),
        ap marks noted,
        marks_more v.noted.items p (omega (arith, low, is.size)) free,
        is.room,
      );
      places =
          subst₂ (λ (ns : List Note) (n : ℕ). All (λ note. note.place < n) ns) (sym notes) (sym wide)
          (All-push (λ note. note.place < length v.cells) v.trail.notes note is.places low);
    }

-- a marked cell may be written without a note
pub set_keeps : (before : List Note) (olds : List ℕ) (v : Noted) (cells : List ℕ) (p x : ℕ)
    → slice_index_or v.noted.items p true ≡ true → cells ≡ slice_set v.cells p x
    → IsNoting before olds v → IsNoting before olds (record v { cells = cells })
set_keeps before olds v cells p x marked are is = record {
  since = is.since;
  notes = is.notes;
  count = is.count;
  size = ap (length {A = ℕ}) are ∙ length-set v.cells p x ∙ is.size;
  same = λ q under still. elim (cases_eq q p) [
    | inl same ↦
        absurd (false≢true (sym still ∙ ap (λ (k : ℕ). slice_index_or v.noted.items k true) same ∙ marked))
    | inr other ↦
        ap (λ (xs : List ℕ). slice_index xs q) are ∙ get_or-set_other v.cells p q x 0 other ∙ is.same q under still
  ];
  back = is.back;
}

pub wrote_then : (a b c : Noted) → Wrote a b → Wrote b c → Wrote a c
wrote_then a b c one two = record {
  notes = two.notes;
  cap = two.cap ∙ one.cap;
  noting = λ earlier olds is. two.noting earlier olds (one.noting earlier olds is);
}

pub wrote_none : (a : Noted) → HasNotes a → Wrote a a
wrote_none a notes = record { notes = notes; cap = refl; noting = λ earlier olds is. is }

pub marks_none : (noted : List Bool) → ((k : ℕ) → k < length noted → slice_index_or noted k true ≡ false)
    → marks noted ≡ 0
marks_none [] none = refl
marks_none (b ∷ bs) none =
    let rest = marks_none bs (λ k low. none (suc k) (omega arith)) in
    let here = ap one_of (none 0 (omega arith)) in
    omega (arith, rest, here, sum_by-cons one_of b bs)

pub all_clear : (marks : List Bool) → ((k : ℕ) → k < length marks → slice_index_or marks k true ≡ false)
    → (j : ℕ) → slice_index_or marks j false ≡ false
all_clear marks none j = elim (cases_lt j (length marks)) [
  | inl l ↦ get_or_default marks j false true l ∙ none j l
  | inr l ↦ get_or-eq_default marks false l
]

-- a decision begins with no note
pub noting_begins : (v : Noted) → marks v.noted.items ≡ 0 → length v.noted.items ≡ length v.cells
    → ((k : ℕ) → k < length v.noted.items → slice_index_or v.noted.items k true ≡ false)
    → IsNoting v.trail.notes v.cells v
noting_begins v none size clear = record {
  since = [];
  notes = sym (append-nil v.trail.notes);
  count = sym none;
  size = refl;
  same = λ p low free. refl;
  back = λ others count agree. ext_get_or 0 others v.cells count (λ p low. agree p (omega arith) (clear p (omega arith)));
}
