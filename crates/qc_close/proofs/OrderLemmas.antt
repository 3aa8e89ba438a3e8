-- Bays in the order in which cranes come to them.
use Rattle.std.proofs.Common.{◌≡◌, ℕ, zero, suc, ◌+◌, ◌*◌, ◌<◌, ◌≤◌, inl, inr, Bool, true, false, not, ◌&&◌, leb, nat_lt, List, [], ◌∷◌, ◌++◌, length, map, reverse, refl, ap, sym, subst, arith, filter, sum, sum_by}
use mathlib.Core.List.{reverse-cons}
use Rattle.std.proofs.lemmas.Bool.{and_from, and_parts, cond_both, false_from_ne_true, le-leb, leb-true, ltb-true, or_from}
use Rattle.std.proofs.lemmas.List.{length-reverse}
use Rattle.std.specs.List.{list_any, range_with_len}
use Rattle.qc_close.specs.Model.{Direction, Up, Down, Frame, Try, along, bays_to, first, has_room, is_served, is_short, legs, lists_to, load, most, numbers, room, suffices}
use Rattle.qc_model.proofs.Bays.{bays}
use Rattle.qc_close.proofs.Members.{any_at, any_from, among_filter, Among, among_either, among_first, among_flat, among_map, among_range, among_second, filter_among, range_among}

-- bay y comes behind bay x
abbrev pub After : Direction → ℕ → ℕ → Type 0
After Up x y = x < y
After Down x y = y < x

-- each comes before those behind it
abbrev pub InOrder : Direction → List ℕ → Type 0
InOrder way [] = Unit {0}
InOrder way (x ∷ xs) = ((y : ℕ) → Among xs y → After way x y) × InOrder way xs

pub rising : (p : ℕ → Bool) (a n : ℕ) → InOrder Up (filter p (range_with_len a n))
rising p a zero = tt
rising p a (suc n) =
    let rest = rising p (a + 1) n in
    cond_both (p a) (a ∷ filter p (range_with_len (a + 1) n)) (filter p (range_with_len (a + 1) n)) (InOrder Up)
    (λ _. (λ y is. let r = filter_among p (range_with_len (a + 1) n) y is in omega (arith, (range_among y (a + 1) n r.0).0), rest))
    (λ _. rest)

pub joined : (way : Direction) (xs ys : List ℕ) → InOrder way xs → InOrder way ys
    → ((x y : ℕ) → Among xs x → Among ys y → After way x y) → InOrder way (xs ++ ys)
joined way [] ys r s h = s
joined way (x ∷ xs) ys r s h = (
  λ y a. elim (among_either xs ys y a) [ inl b ↦ r.0 y b | inr b ↦ h x y (inl refl) b ],
  joined way xs ys r.1 s (λ u v a b. h u v (inr a) b),
)

pub from_reverse : (xs : List ℕ) (y : ℕ) → Among (reverse xs) y → Among xs y
from_reverse [] y a = a
from_reverse (x ∷ xs) y a =
    elim (among_either (reverse xs) (x ∷ []) y (subst (λ (zs : List ℕ). Among zs y) (reverse-cons x xs) a)) [
      | inl b ↦ inr (from_reverse xs y b)
      | inr b ↦ elim b [ inl e ↦ inl e | inr none ↦ absurd none ]
    ]

pub to_reverse : (xs : List ℕ) (y : ℕ) → Among xs y → Among (reverse xs) y
to_reverse [] y a = a
to_reverse (x ∷ xs) y a =
    subst (λ (zs : List ℕ). Among zs y) (sym (reverse-cons x xs)) (elim a [
      | inl e ↦ among_second (reverse xs) (x ∷ []) y (inl e)
      | inr b ↦ among_first (reverse xs) (x ∷ []) y (to_reverse xs y b)
    ])

pub falling : (xs : List ℕ) → InOrder Up xs → InOrder Down (reverse xs)
falling [] r = tt
falling (x ∷ xs) r =
    subst (InOrder Down) (sym (reverse-cons x xs))
    (joined Down (reverse xs) (x ∷ []) (falling xs r.1) (λ y a. absurd a, tt) (λ u v a b. elim b [
      | inl e ↦ let less = r.0 u (from_reverse xs u a) in omega (arith, less, e)
      | inr none ↦ absurd none
    ]))

-- bay y is bay x or comes behind it
abbrev pub beyond : Direction → ℕ → ℕ → Bool
beyond Up x y = leb x y
beyond Down x y = leb y x

pub beyond_at : (way : Direction) (x y : ℕ) → y ≡ x → beyond way x y ≡ true
beyond_at Up x y e = le-leb x y (omega arith)
beyond_at Down x y e = le-leb y x (omega arith)

pub beyond_after : (way : Direction) (x y z : ℕ) → After way x y → beyond way y z ≡ true → beyond way x z ≡ true
beyond_after Up x y z a t = let h = leb-true y z t in le-leb x z (omega arith)
beyond_after Down x y z a t = let h = leb-true z y t in le-leb z x (omega arith)

pub not_before : (way : Direction) (x y z : ℕ) → After way x y → z ≡ x → beyond way y z ≡ true → ⊥
not_before Up x y z a e t = let h = leb-true y z t in omega arith
not_before Down x y z a e t = let h = leb-true z y t in omega arith

pub beyond_first : (way : Direction) (x y : ℕ) (xs : List ℕ) → InOrder way (x ∷ xs) → Among (x ∷ xs) y → beyond way x y ≡ true
beyond_first way x y xs r (inl e) = beyond_at way x y (sym e)
beyond_first way x y xs r (inr a) = beyond_after way x y y (r.0 y a) (beyond_at way y y refl)

pub to_rises : (way : Direction) (f : Frame) (x y : ℕ) → beyond way x y ≡ true → bays_to way f x ≤ bays_to way f y
to_rises Up f x y t = let h = leb-true x y t in omega (arith, bays, h)
to_rises Down f x y t = let h = leb-true y x t in omega (arith, bays, h)

-- one list of numbers for each bay
pub among_lists : (most : ℕ) (f : ℕ → ℕ) (xs : List ℕ) → ((x : ℕ) → f x ≤ most)
    → Among (lists_to most (length xs)) (map f xs)
among_lists most f [] h = inl refl
among_lists most f (x ∷ xs) h =
    among_flat (λ ns. map (λ n. n ∷ ns) (range_with_len 0 (most + 1))) (lists_to most (length xs)) (map f xs) (f x ∷ map f xs)
    (among_lists most f xs h)
    (among_map (λ n. n ∷ map f xs) (range_with_len 0 (most + 1)) (f x)
    (among_range (f x) 0 (most + 1) (omega arith) (omega (arith, h x))))

-- ---- numbers of cranes that serve

module _ (t : Try) (ns : Direction → ℕ → ℕ) (few : (way : Direction) (x : ℕ) → ns way x ≤ length t.frames)
    (rises : InOrder Up t.bays)
    (enough : (way : Direction) (x : ℕ) (ys : List ℕ) → InOrder way (x ∷ ys)
    → ((y : ℕ) → Among (x ∷ ys) y → Among t.bays y)
    → load t way (x ∷ ys) (map (ns way) (x ∷ ys)) ≤ most (ns way x) (map (λ f. room t (bays_to way f x) f) t.frames))
    (fit : sum_by t.work t.bays
    + t.travel * (legs t Up t.bays (map (ns Up) t.bays) + legs t Down (reverse t.bays) (map (ns Down) (reverse t.bays)))
    ≤ sum (map (λ f. room t (bays_to Up f (first t Up) + bays_to Down f (first t Down)) f) t.frames)) where
  all_suffice : (way : Direction) (xs : List ℕ) → InOrder way xs → ((y : ℕ) → Among xs y → Among t.bays y)
      → suffices t way xs (map (ns way) xs) ≡ true
  all_suffice way [] r within = refl
  all_suffice way (x ∷ ys) r within =
      and_from (leb (load t way (x ∷ ys) (map (ns way) (x ∷ ys))) (most (ns way x) (map (λ f. room t (bays_to way f x) f) t.frames)))
      (suffices t way ys (map (ns way) ys))
      (le-leb (load t way (x ∷ ys) (map (ns way) (x ∷ ys))) (most (ns way x) (map (λ f. room t (bays_to way f x) f) t.frames)) (enough way x ys r within))
      (all_suffice way ys r.1 (λ y a. within y (inr a)))

  suffice : (way : Direction) → suffices t way (along t way) (map (ns way) (along t way)) ≡ true
  suffice Up = all_suffice Up t.bays rises (λ y a. a)
  suffice Down = all_suffice Down (reverse t.bays) (falling t.bays rises) (from_reverse t.bays)

  as_many : (way : Direction) → length (along t way) ≡ length t.bays
  as_many Up = refl
  as_many Down = length-reverse t.bays

  serving : (way : Direction) → Among (numbers t way) (map (ns way) (along t way))
  serving way =
      among_filter (suffices t way (along t way)) (lists_to (length t.frames) (length t.bays)) (map (ns way) (along t way))
      (subst (λ (n : ℕ). Among (lists_to (length t.frames) n) (map (ns way) (along t way))) (as_many way)
      (among_lists (length t.frames) (ns way) (along t way) (few way)))
      (suffice way)

  serve : is_served t ≡ true
  serve =
      let up = map (ns Up) t.bays in
      let down = map (ns Down) (reverse t.bays) in
      any_from (λ ns. list_any (has_room t ns) (numbers t Down)) (numbers t Up) up (serving Up)
      (any_from (has_room t up) (numbers t Down) down (serving Down)
      (le-leb
      (sum_by t.work t.bays + t.travel * (legs t Up t.bays up + legs t Down (reverse t.bays) down))
      (sum (map (λ f. room t (bays_to Up f (first t Up) + bays_to Down f (first t Down)) f) t.frames))
      fit))

  -- so not too little time is left, where each crane is done with what it has
  pub not_short : ((g : Frame) → Among t.frames g → g.works ≡ true → g.gone ≤ t.tick) → is_short t ≡ false
  not_short done =
      or_from (list_any (λ g. g.works && nat_lt t.tick g.gone) t.frames) (not (is_served t)) none (ap not serve)
    where
      none : list_any (λ g. g.works && nat_lt t.tick g.gone) t.frames ≡ false
      none = false_from_ne_true (list_any (λ g. g.works && nat_lt t.tick g.gone) t.frames) (λ some.
          let g = any_at (λ g. g.works && nat_lt t.tick g.gone) t.frames some in
          let is = and_parts g.0.works (nat_lt t.tick g.0.gone) g.2 in
          absurd (omega (arith, done g.0 g.1 is.0, ltb-true t.tick g.0.gone is.1)))
