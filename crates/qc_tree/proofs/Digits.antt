-- The digits at the front of a text.
use Rattle.std.proofs.Common.{◌≡◌, ℕ, ◌≤◌, ◌<◌, ◌^◌, ◌+◌, inl, inr, zero, suc, List, [], ◌∷◌, ◌++◌, length, take, drop, get_or, true, not, cond, refl, sym, ap, subst, ◌∙◌, arith, decimal, nat_lt, position, unwrap_or}
use Rattle.std.proofs.lemmas.Bool.{and_parts, cases_Bool}
use Rattle.std.proofs.lemmas.Fmt.{decimal_injective}
use Rattle.std.proofs.lemmas.Bool.Decides.{nat_tests}
use Rattle.std.proofs.lemmas.List.Sums.{prefix_len-le-length}
use Rattle.std.specs.Char.{is_ascii_digit}
use Rattle.std.specs.List.{list_all, position_or_len}
use Rattle.std.specs.Str.Parse.{digits_value}
use Rattle.qc_num.specs.Digits.{is_plain}
use Rattle.qc_num.proofs.DigitLemmas.{decimal_digits, decimal_plain, fits, plain_decimal, plain_parts, value_fits}
use Rattle.qc_tree.specs.Fields.{EndsDigits, IsField}

-- a text is split in one way into digits and a rest that begins with none
pub one_split :
    (ds es r s : List ℕ) → list_all is_ascii_digit ds ≡ true → list_all is_ascii_digit es ≡ true
    → EndsDigits r → EndsDigits s → ds ++ r ≡ es ++ s → (ds ≡ es) × (r ≡ s)
one_split [] [] r s d e ends ends' same = (refl, same)
one_split [] (x ∷ es) [] s d e ends ends' same = cc
one_split [] (x ∷ es) (y ∷ r) s d e ends ends' same =
    let first : y ≡ x = ap (λ t. get_or t 0 0) same in
    absurd (cc (ends, ap is_ascii_digit first, (and_parts (is_ascii_digit x) (list_all is_ascii_digit es) e).0))
one_split (x ∷ ds) [] r [] d e ends ends' same = cc
one_split (x ∷ ds) [] r (y ∷ s) d e ends ends' same =
    let first : x ≡ y = ap (λ t. get_or t 0 0) same in
    absurd (cc (ends', ap is_ascii_digit first, (and_parts (is_ascii_digit x) (list_all is_ascii_digit ds) d).0))
one_split (x ∷ ds) (y ∷ es) r s d e ends ends' same =
    let dp = and_parts (is_ascii_digit x) (list_all is_ascii_digit ds) d in
    let ep = and_parts (is_ascii_digit y) (list_all is_ascii_digit es) e in
    let first : x ≡ y = ap (λ t. get_or t 0 0) same in
    let more : ds ++ r ≡ es ++ s = cc in
    let rest = one_split ds es r s dp.1 ep.1 ends ends' more in
    (cc (rest.0, first), rest.1)

-- a text that is split into a space, digits and a rest begins with a number exactly where the digits are plain
module _ (text behind ds r : List ℕ) (most : ℕ) (some : 0 < most) (le : most ≤ 19) (spaced : text ≡ 32 ∷ behind)
    (whole : behind ≡ ds ++ r) (digits : list_all is_ascii_digit ds ≡ true) (ends : EndsDigits r) where
  pub field_here : is_plain most ds ≡ true → IsField text most (digits_value 10 ds) r
  field_here plain = record {
    small = value_fits ds most digits (plain_parts ds most plain).few;
    same = spaced ∙ ap (λ t. 32 ∷ t) (whole ∙ ap (λ t. t ++ r) (sym (plain_decimal ds most le plain)));
    ends = ends;
  }

  pub field_plain : (n : ℕ) (rest : List ℕ) → IsField text most n rest → is_plain most ds ≡ true
  field_plain n rest field =
      let wide = fits most n le field.small in
      let split = one_split (decimal n) ds rest r (decimal_digits n wide) digits field.ends ends (ap (drop 1) (sym field.same ∙ spaced) ∙ whole) in
      subst (λ t. is_plain most t ≡ true) split.0 (decimal_plain n most some le field.small)

-- a text begins with one number at most
pub one_field :
    (n m : ℕ) (r s : List ℕ) → n < 2 ^ 64 → m < 2 ^ 64 → EndsDigits r → EndsDigits s
    → decimal n ++ r ≡ decimal m ++ s → (n ≡ m) × (r ≡ s)
one_field n m r s nw mw ends ends' same =
    let split = one_split (decimal n) (decimal m) r s (decimal_digits n nw) (decimal_digits m mw) ends ends' same in
    (decimal_injective n m nw mw split.0, split.1)

-- the digits at the front, and what stands behind them
pub front_digits :
    (n : ℕ) (xs : List ℕ) → position_or_len (λ b. not (is_ascii_digit b)) xs ≡ n
    → (list_all is_ascii_digit (take n xs) ≡ true) × EndsDigits (drop n xs)
front_digits zero [] e = (refl, tt)
front_digits (suc n) [] e = absurd (omega (arith, e))
front_digits zero (x ∷ xs) e = elim (cases_Bool (is_ascii_digit x)) [
  | inl yes_ ↦ absurd (omega (arith, sym (ap (λ b. cond (not (not b)) (1 + position_or_len (λ b. not (is_ascii_digit b)) xs) 0) yes_) ∙ e))
  | inr no_ ↦ (refl, no_)
]
front_digits (suc n) (x ∷ xs) e = elim (cases_Bool (is_ascii_digit x)) [
  | inl yes_ ↦
      let same = sym (ap (λ b. cond (not (not b)) (1 + position_or_len (λ b. not (is_ascii_digit b)) xs) 0) yes_) ∙ e in
      let more = front_digits n xs (omega (arith, same)) in
      (cc (yes_, more.0), more.1)
  | inr no_ ↦ absurd (omega (arith, sym (ap (λ b. cond (not (not b)) (1 + position_or_len (λ b. not (is_ascii_digit b)) xs) 0) no_) ∙ e))
]

-- the answer of a search for the first byte that is no digit, with the length for none
pub len_of : (xs : List ℕ) → unwrap_or (position (λ b. not (is_ascii_digit b)) xs) (length xs) ≡ position_or_len (λ b. not (is_ascii_digit b)) xs
len_of xs = elim (cases_Bool (nat_lt (position_or_len (λ b. not (is_ascii_digit b)) xs) (length xs))) [
  | inl here ↦ rw here refl
  | inr past ↦ rw past (let le = prefix_len-le-length (λ b. not (not (is_ascii_digit b))) xs in grind (arith, nat_tests))
]

pub len_le : (xs : List ℕ) → position_or_len (λ b. not (is_ascii_digit b)) xs ≤ length xs
len_le xs = prefix_len-le-length (λ b. not (not (is_ascii_digit b))) xs
