-- Plain decimal, and the numbers that it writes.
use Rattle.std.proofs.Common.{◌≡◌, ℕ, ◌≤◌, ◌<◌, ◌^◌, ◌+◌, ◌-◌, ◌*◌, ◌==◌, ◌&&◌, ◌||◌, inl, inr, zero, suc, lit≤, List, [], ◌∷◌, length, take, drop, get_or, true, false, not, nat_le, cond, Option, None, Some, refl, sym, ap, subst, ◌∙◌, rules, arith, decimal}
use Rattle.std.proofs.lemmas.Bool.{and_parts, cases_Bool}
use Rattle.std.proofs.lemmas.Bool.Decides.{nat_tests}
use Rattle.std.proofs.lemmas.Fmt.{decimal-digits_value, decimal_digit, decimal_is_IsNumeral, digits_decimal, digits_value-decimal, first_decimal, length-decimal-le}
use Rattle.std.proofs.lemmas.Int.Digits.{digits_value_more}
use Rattle.std.proofs.lemmas.List.{length-take, take-append-drop}
use Rattle.std.proofs.lemmas.List.Folds.{list_all-append}
use Rattle.std.proofs.lemmas.List.Sums.{AllPass-from_list_all}
use Rattle.std.proofs.lemmas.Str.{digit_value_digit}
use Rattle.std.proofs.lemmas.Str.Parse.{IsNumeralModel, numerals_by_value, digits_value_short}
use Rattle.std.proofs.Math.Nat.{pow-le-pow_right}
use Rattle.std.specs.Char.{is_ascii_digit}
use Rattle.std.specs.Int.{IsInRange}
use Rattle.std.specs.List.{list_all}
use Rattle.std.specs.Str.Parse.{digits_value}
use Rattle.qc_num.specs.Digits.{is_plain, number_in}

pub own : IsNumeralModel (λ ds. list_all is_ascii_digit ds ≡ true) (digits_value 10)
own = numerals_by_value _ (search rules)

-- at most 19 digits fit into 64 bits
pub fits : (k n : ℕ) → k ≤ 19 → n < 10 ^ k → n < 2 ^ 64
fits k n le lt =
    let most : 10 ^ k ≤ 10 ^ 19 = pow-le-pow_right {n = 10} (lit≤ tt) le in
    omega (arith, most, lt)

-- the value of at most so many digits
pub value_fits : (ds : List ℕ) (k : ℕ) → list_all is_ascii_digit ds ≡ true → length ds ≤ k → digits_value 10 ds < 10 ^ k
value_fits ds k digits few = digits_value_short own ds k digits few

-- what a text in plain decimal keeps
pub record IsPlain (ds : List ℕ) (most : ℕ) : Type 0 where
  pub digits : list_all is_ascii_digit ds ≡ true
  pub some : 0 < length ds
  pub few : length ds ≤ most
  pub leads : ((length ds == 1) || not (get_or ds 0 0 == 48)) ≡ true

pub plain_parts : (ds : List ℕ) (most : ℕ) → is_plain most ds ≡ true → IsPlain ds most
plain_parts ds most e =
    let last = and_parts (list_all is_ascii_digit ds && nat_le 1 (length ds) && nat_le (length ds) most) ((length ds == 1) || not (get_or ds 0 0 == 48)) e in
    let few = and_parts (list_all is_ascii_digit ds && nat_le 1 (length ds)) (nat_le (length ds) most) last.0 in
    let some = and_parts (list_all is_ascii_digit ds) (nat_le 1 (length ds)) few.0 in
    record {
      digits = some.0;
      some = grind (arith, nat_tests, some.1);
      few = grind (arith, nat_tests, few.1);
      leads = last.1;
    }

pub plain_from : (ds : List ℕ) (most : ℕ) → IsPlain ds most → is_plain most ds ≡ true
plain_from ds most plain =
    let some : nat_le 1 (length ds) ≡ true = grind (arith, nat_tests, plain.some) in
    let few : nat_le (length ds) most ≡ true = grind (arith, nat_tests, plain.few) in
    rw (plain.digits, some, few, plain.leads) refl

-- plain digits are the decimal of their value
pub plain_decimal : (ds : List ℕ) (most : ℕ) → most ≤ 19 → is_plain most ds ≡ true → decimal (digits_value 10 ds) ≡ ds
plain_decimal ds most le e =
    let plain = plain_parts ds most e in
    decimal-digits_value own ds plain.digits plain.some
    (λ zero_first. grind (arith, nat_tests, plain.leads, zero_first))
    (fits most (digits_value 10 ds) le (value_fits ds most plain.digits plain.few))

pub decimal_digits : (n : ℕ) → n < 2 ^ 64 → list_all is_ascii_digit (decimal n) ≡ true
decimal_digits n wide = digits_decimal own n wide

-- the decimal of a number of at most so many digits is plain
pub decimal_plain : (n most : ℕ) → 0 < most → most ≤ 19 → n < 10 ^ most → is_plain most (decimal n) ≡ true
decimal_plain zero most some le small =
    subst (λ t. is_plain most t ≡ true) (sym (decimal_digit 0 (lit≤ tt))) (plain_from (48 ∷ []) most (record { digits = refl; some = lit≤ tt; few = some; leads = refl }))
decimal_plain (suc n) most some le small =
    let wide : suc n < 2 ^ 64 = fits most (suc n) le small in
    let first = first_decimal (suc n) (omega arith) wide in
    plain_from (decimal (suc n)) most (record {
      digits = decimal_digits (suc n) wide;
      some = (decimal_is_IsNumeral (suc n) wide).0.0;
      few = length-decimal-le most (suc n) some small wide;
      leads = elim (cases_Bool (get_or (decimal (suc n)) 0 0 == 48)) [
        | inl same ↦ absurd (grind (arith, nat_tests, same, first))
        | inr other ↦ grind (arith, nat_tests, other)
      ];
    })

-- what a reading of a number says
pub number_some : (most : ℕ) (ds : List ℕ) (n : ℕ) → Some n ≡ number_in most ds → (is_plain most ds ≡ true) × (n ≡ digits_value 10 ds)
number_some most ds n e = elim (cases_Bool (is_plain most ds)) [
  | inl plain ↦ (plain, cc (rw plain at e))
  | inr other ↦ cc (rw other at e)
]

pub number_none : (most : ℕ) (ds : List ℕ) → ◌≡◌ {A = Option ℕ} None (number_in most ds) → is_plain most ds ≡ false
number_none most ds e = elim (cases_Bool (is_plain most ds)) [
  | inl plain ↦ cc (rw plain at e)
  | inr other ↦ other
]

-- a number that is written is read
pub number_in-decimal : (most n : ℕ) → 0 < most → most ≤ 19 → n < 10 ^ most → number_in most (decimal n) ≡ Some n
number_in-decimal most n some le small =
    ap (λ b. cond b (Some (digits_value 10 (decimal n))) None) (decimal_plain n most some le small)
    ∙ ap Some (digits_value-decimal own n (fits most n le small))

-- the value of some digits at the front, where there are more of at most 19
pub so_far_fits : (ds : List ℕ) (i : ℕ) → list_all is_ascii_digit ds ≡ true → i < 19 → digits_value 10 (take i ds) < 10 ^ 18
so_far_fits ds i digits lt =
    let both = sym (list_all-append is_ascii_digit (take i ds) (drop i ds)) ∙ ap (list_all is_ascii_digit) (take-append-drop i ds) ∙ digits in
    value_fits (take i ds) 18 (and_parts (list_all is_ascii_digit (take i ds)) (list_all is_ascii_digit (drop i ds)) both).0
    (omega (arith, length-take i ds))

-- one digit more
pub value_more :
    (ds : List ℕ) (i : ℕ) → i < length ds → list_all is_ascii_digit ds ≡ true
    → digits_value 10 (take (i + 1) ds) ≡ digits_value 10 (take i ds) * 10 + (get_or ds i 0 - 48)
value_more ds i lt digits =
    let digit : is_ascii_digit (get_or ds i 0) ≡ true = AllPass-from_list_all is_ascii_digit ds digits i 0 lt in
    let inside : IsInRange 48 57 (get_or ds i 0) = grind (arith, nat_tests, digit) in
    omega (arith, digits_value_more 10 ds i lt, digit_value_digit (get_or ds i 0) inside)
