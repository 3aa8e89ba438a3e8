-- The first line feed of the bytes that are held.
use Rattle.std.proofs.Common.{◌≡◌, ◌==◌, ℕ, ◌+◌, ◌-◌, ◌≤◌, ◌<◌, Bool, false, List, [], ◌∷◌, ◌++◌, length, take, drop, get_or, Option, None, Some, Result, Ok, Err, position, refl, sym, ap, subst, ◌∙◌, arith, suc, inl, inr, ◌⊎◌, IfSome, nat_lt}
use Rattle.std.proofs.Math.Seq.{drop-cons, take-append-add}
use Rattle.std.proofs.lemmas.Bool.{cases_Bool}
use Rattle.std.proofs.lemmas.Bool.Decides.{nat_tests}
use Rattle.std.proofs.lemmas.List.{append-nil, append_assoc, drop-drop, drop-take, get_or-take, length-drop, length-append, length-take, take-append-drop, take-append-le, take-take, take_all}
use Rattle.std.proofs.lemmas.List.Quantifiers.{position-Some}
use Rattle.std.proofs.lemmas.List.Sums.{fails_before_first}
use Rattle.std.proofs.lemmas.Slice.{take-put_mid}
use borrow.Rule.Slice.PartMut.{put_mid}
use Rattle.std.specs.Io.KnownBytes.{prepend_known}
use Rattle.std.specs.List.{position_or_len}
use Rattle.qc_io.proofs.Pieces.{prepend_known-append}
use Rattle.qc_lines.specs.Left.{HoldsLine, IsCut, IsTooLong, NoFeed, Takes}

abbrev is_feed : ℕ → Bool
is_feed b = b == 10

-- the bytes before a place that holds no line feed before it
none_before : (held : List ℕ) (n : ℕ) → ((k d : ℕ) → k < n → is_feed (get_or held k d) ≡ false) → NoFeed (take n held)
none_before held n none = λ k d lt feed.
    let here : k < n = omega (arith, lt, length-take n held) in
    let same : get_or held k d ≡ 10 = sym (get_or-take n held k d here) ∙ feed in
    absurd (cc (sym (ap is_feed same) ∙ none k d here))

-- what came through is no fault
pub no_err : {A E : Type 0} {x : A} {e : E} → ¬ (◌≡◌ {A = Result A E} (Ok x) (Err e))
no_err is = absurd (cc is)

-- a line feed that is found ends a line, or one that is too long
pub found_line : (most : ℕ) (held : List ℕ) (len : ℕ) → position (λ b. b == 10) held ≡ Some len → len < most
    → HoldsLine most held len
found_line most held len e short =
    let found = position-Some is_feed held len 0 e in
    let feed : get_or held len 0 ≡ 10 = grind (arith, nat_tests, found.1) in
    let next : suc len ≡ len + 1 = omega arith in
    record {
      inside = found.0;
      whole =
          sym (take-append-drop len held)
          ∙ ap (λ t. take len held ++ t) (drop-cons held len 0 found.0 ∙ ap (λ b. b ∷ drop (suc len) held) feed ∙ ap (λ n. 10 ∷ drop n held) next);
      short = short;
      unbroken = none_before held len (λ k d lt. (position-Some is_feed held len d e).2 k lt);
    }

front_too_long : (most : ℕ) (held : List ℕ) (rest : Option (List ℕ)) → most ≤ length held → NoFeed (take most held)
    → IfSome (prepend_known held rest) (IsTooLong most)
front_too_long most held None long none = tt
front_too_long most held (Some more) long none =
    (omega (arith, length-append held more), subst NoFeed (sym (take-append-le most held more long)) none)

pub far_line :
    (most : ℕ) (held : List ℕ) (rest : Option (List ℕ)) (len : ℕ) → position (λ b. b == 10) held ≡ Some len
    → most ≤ len → IfSome (prepend_known held rest) (IsTooLong most)
far_line most held rest len e long =
    let found = position-Some is_feed held len 0 e in
    front_too_long most held rest (omega (arith, found.0))
    (none_before held most (λ k d lt. (position-Some is_feed held len d e).2 k (omega (arith, lt))))

-- no line feed is held
module _ (most : ℕ) (held : List ℕ) (none : position (λ b. b == 10) held ≡ None) where
  past : length held ≤ position_or_len is_feed held
  past = elim (cases_Bool (nat_lt (position_or_len is_feed held) (length held))) [
    | inl here ↦ cc (rw here at none)
    | inr beyond ↦ grind (arith, nat_tests)
  ]

  no_feed : (n : ℕ) → n ≤ length held → NoFeed (take n held)
  no_feed n le = none_before held n (λ k d lt. fails_before_first is_feed held k d (omega (arith, past)))

  pub long_left : (rest : Option (List ℕ)) → most ≤ length held → IfSome (prepend_known held rest) (IsTooLong most)
  long_left rest long = front_too_long most held rest long (no_feed most long)

  pub cut_left :
      (rest : Option (List ℕ)) → 0 < length held → length held < most
      → (most ≤ length held) ⊎ IfSome rest (λ left. left ≡ []) → IfSome (prepend_known held rest) (IsCut most)
  cut_left rest some short (inl long) = absurd (omega (arith, short, long))
  cut_left None some short (inr ended) = tt
  cut_left (Some more) some short (inr ended) =
      let same : held ++ more ≡ held = ap (λ t. held ++ t) ended ∙ append-nil held in
      subst (IsCut most) (sym same) (some, short, subst NoFeed (take_all (length held) held (omega arith)) (no_feed (length held) (omega arith)))

-- a line that is held is taken
pub takes :
    (most : ℕ) (held : List ℕ) (len : ℕ) (before rest : Option (List ℕ)) → HoldsLine most held len
    → before ≡ prepend_known held rest → Takes most before (take len held) (prepend_known (drop (len + 1) held) rest)
takes most held len before rest holds same = record {
  taken =
      same ∙ ap (λ t. prepend_known t rest) (holds.whole ∙ sym (append_assoc (take len held) (10 ∷ []) (drop (len + 1) held)))
      ∙ sym (prepend_known-append (take len held ++ 10 ∷ []) (drop (len + 1) held) rest);
  short = omega (arith, holds.short, length-take len held);
  unbroken = holds.unbroken;
}

-- bytes that were read behind others
pub read_more :
    (had count k : ℕ) (xs ys : List ℕ) (before after : Option (List ℕ)) → had ≤ length xs → count ≤ length ys
    → before ≡ prepend_known (take count ys) after
    → prepend_known (take (had + count) (put_mid had k xs ys)) after ≡ prepend_known (take had xs) before
read_more had count k xs ys before after le fits moved =
    let front : take (had + count) (put_mid had k xs ys) ≡ take had xs ++ take count ys =
    sym (take-take (had + count) (had + length ys) (put_mid had k xs ys) (omega arith))
    ∙ ap (take (had + count)) (take-put_mid had k xs ys (had + length ys) refl le)
    ∙ ap (λ n. take (n + count) (take had xs ++ ys)) (omega (arith, length-take had xs))
    ∙ take-append-add (take had xs) ys count
    in
    ap (λ t. prepend_known t after) front ∙ sym (prepend_known-append (take had xs) (take count ys) after) ∙ ap (prepend_known (take had xs)) (sym moved)

-- the bytes held are those between two places
pub window_len : (items : List ℕ) (start end : ℕ) → start ≤ end → end ≤ length items → length (take (end - start) (drop start items)) ≡ end - start
window_len items start end le inside = omega (arith, length-take (end - start) (drop start items), length-drop start items)

pub window_front :
    (items : List ℕ) (start end len : ℕ) → len ≤ end - start
    → take (start + len - start) (drop start items) ≡ take len (take (end - start) (drop start items))
window_front items start end len le =
    let same : start + len - start ≡ len = omega arith in
    ap (λ n. take n (drop start items)) same ∙ sym (take-take len (end - start) (drop start items) le)

pub window_after :
    (items : List ℕ) (start end len : ℕ) → start ≤ end → len ≤ end - start
    → take (end - (start + len)) (drop (start + len) items) ≡ drop len (take (end - start) (drop start items))
window_after items start end len le fits =
    let size : end - start ≡ len + (end - (start + len)) = omega (arith, le, fits) in
    ap (take (end - (start + len))) (sym (drop-drop len start items))
    ∙ sym (drop-take len (end - (start + len)) (drop start items))
    ∙ ap (λ n. drop len (take n (drop start items))) (sym size)

pub window_rest :
    (items : List ℕ) (start end len : ℕ) → start ≤ end → len < end - start
    → take (end - (start + (len + 1))) (drop (start + (len + 1)) items) ≡ drop (len + 1) (take (end - start) (drop start items))
window_rest items start end len le lt = window_after items start end (len + 1) le (omega (arith, lt))
