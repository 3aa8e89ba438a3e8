-- The first place at which a test passes, and what stands before and behind it; the first line of a text.
use Rattle.std.proofs.Common.{◌≡◌, ◌<◌, ◌≤◌, ◌+◌, ◌-◌, ◌∷◌, ℕ, suc, List, [], length, take, drop, Bool, Option, None, Some, nat_lt, refl, sym, ◌∙◌, inl, inr, arith, position}
use Rattle.std.proofs.lemmas.Bool.{cases_Bool, ltb-true, ltb-false}
use Rattle.std.proofs.lemmas.List.{drop_all, take_all, take_rest}
use Rattle.std.specs.List.{after_first, before_first, onto_first, position_or_len}
use Rattle.qc_lines.specs.Lines.{is_feed, lines_of}

module _ {X : Type 0} (test : X → Bool) (xs : List X) where
  pub found : (i : ℕ) → Some i ≡ position test xs → (position_or_len test xs ≡ i) × (i < length xs)
  found i e = elim (cases_Bool (nat_lt (position_or_len test xs) (length xs))) [
    | inl here ↦
        let same : position_or_len test xs ≡ i = cc (rw here at e) in
        let low = ltb-true (position_or_len test xs) (length xs) here in
        (same, omega (arith, same, low))
    | inr none ↦ cc (rw none at e)
  ]

  pub missing : ◌≡◌ {A = Option ℕ} None (position test xs) → length xs ≤ position_or_len test xs
  missing e = elim (cases_Bool (nat_lt (position_or_len test xs) (length xs))) [
    | inl here ↦ cc (rw here at e)
    | inr none ↦ ltb-false (position_or_len test xs) (length xs) none
  ]

  pub before_found : (i : ℕ) → Some i ≡ position test xs → take i xs ≡ before_first test xs
  before_found i e = rw (found i e).0 refl

  pub after_found : (i : ℕ) → Some i ≡ position test xs → take (length xs - (i + 1)) (drop (i + 1) xs) ≡ after_first test xs
  after_found i e = take_rest xs (i + 1) ∙ rw (found i e).0 refl

  pub before_missing : ◌≡◌ {A = Option ℕ} None (position test xs) → xs ≡ before_first test xs
  before_missing e = sym (take_all (position_or_len test xs) xs (missing e))

  pub after_missing : ◌≡◌ {A = Option ℕ} None (position test xs) → [] ≡ after_first test xs
  after_missing e = let past = missing e in sym (drop_all (position_or_len test xs + 1) xs (omega arith))

-- a byte that is no line feed stands in the line of those behind it
onto : (b : ℕ) (line : List ℕ) (lines whole : List (List ℕ)) → whole ≡ line ∷ lines → onto_first b whole ≡ (b ∷ line) ∷ lines
onto b line lines whole e = rw e refl

-- the first line ends at the first line feed
line_ended : (text : List ℕ) → position_or_len is_feed text < length text
    → lines_of text ≡ take (position_or_len is_feed text + 1) text ∷ lines_of (drop (position_or_len is_feed text + 1) text)
line_ended [] h = absurd (omega arith)
line_ended (b ∷ bs) h = elim (cases_Bool (is_feed b)) [
  | inl feed ↦ rw feed refl
  | inr other ↦
      let e : 1 + position_or_len is_feed bs + 1 ≡ suc (position_or_len is_feed bs + 1) = omega arith in
      let low = rw other at h in
      rw other (rw e (onto b _ _ (lines_of bs) (line_ended bs (omega (arith, low)))))
]

pub line_found : (text : List ℕ) (i : ℕ) → Some i ≡ position is_feed text → lines_of text ≡ take (i + 1) text ∷ lines_of (drop (i + 1) text)
line_found text i e =
    let f = found is_feed text i e in
    rw f.0 at (line_ended text (omega (arith, f.0, f.1)))

-- a text without a line feed is one line
one_line : (b : ℕ) (bs : List ℕ) → length (b ∷ bs) ≤ position_or_len is_feed (b ∷ bs) → lines_of (b ∷ bs) ≡ (b ∷ bs) ∷ []
one_line b [] h = elim (cases_Bool (is_feed b)) [
  | inl feed ↦ let none = rw feed at h in absurd (omega (arith, none))
  | inr other ↦ rw other refl
]
one_line b (c ∷ bs) h = elim (cases_Bool (is_feed b)) [
  | inl feed ↦ let none = rw feed at h in absurd (omega (arith, none))
  | inr other ↦ let more = rw other at h in rw other (onto b (c ∷ bs) [] (lines_of (c ∷ bs)) (one_line c bs (omega (arith, more))))
]

pub line_missing : (text : List ℕ) → 0 < length text → ◌≡◌ {A = Option ℕ} None (position is_feed text) → lines_of text ≡ text ∷ []
line_missing [] some e = absurd (omega arith)
line_missing (b ∷ bs) some e = one_line b bs (missing is_feed (b ∷ bs) e)
