-- Counting bays one by one finds the least numbers of cranes that suffice.
use Rattle.std.proofs.Common.{[], ◌≡◌, ℕ, zero, suc, ◌+◌, ◌-◌, ◌*◌, ◌^◌, ◌<◌, ◌≤◌, inl, inr, Bool, true, false, cond, List, ◌∷◌, ◌++◌, length, map, filter, reverse, get_or, nat_lt, leb, Option, None, Some, IfSome, refl, ap, sym, subst, ◌∙◌, arith, add-one}
use Rattle.std.proofs.Math.Nat.{mul-le-mul_left}
use Rattle.std.proofs.lemmas.Bool.{and_from, and_parts, cases_lt, cond-true, cond-false, le-leb, leb-true, lt-ltb, le-ltb}
use Rattle.std.proofs.lemmas.List.{map-id, reverse-append}
use Rattle.std.proofs.lemmas.List.Elements.{filter-append}
use Rattle.std.proofs.lemmas.List.FromFn.{map-range_with_len_more}
use Rattle.std.proofs.lemmas.List.Sums.{sum_by-cons}
use Rattle.std.specs.List.{range_with_len}
use Rattle.qc_close.specs.Model.{Direction, Up, Down, Frame, Try, along, bays_to, fewest, legs, load, most, suffices}
use Rattle.qc_close.specs.Counts.{AreNumbers, IsStop, IsWalked, NoneSuffice, Suffice, bay_behind, last_bays, leg_from, try_by}
use Rattle.qc_close.specs.declared.walk.Stop.{Stop}
use Rattle.qc_close.specs.declared.walk.Walk.{Walk}
use Rattle.qc_close.proofs.SumLemmas.{fewest_rise}

-- ---- one bay more

module _ (travel tick : ℕ) (frames : List Frame) (left : List ℕ) (way : Direction) (x : ℕ) where
  abbrev t : Try
  t = try_by travel tick frames left

  abbrev rooms : List ℕ
  rooms = map (λ f. tick - f.gone - travel * bays_to way f x) frames

  legs_more : (o : Option Stop) (xs ns : List ℕ) (n : ℕ) → IsStop o xs ns
      → legs t way (x ∷ xs) (n ∷ ns) ≡ leg_from frames way x o + legs t way xs ns
  legs_more None [] [] n s = refl
  legs_more None [] (m ∷ ms) n s = absurd s
  legs_more None (y ∷ ys) ns n s = absurd s
  legs_more (Some stop) [] ns n s = absurd s
  legs_more (Some stop) (y ∷ ys) [] n s = absurd s
  legs_more (Some stop) (y ∷ ys) (m ∷ ms) n s =
      let there = ap (λ b. fewest stop.cranes (map (λ f. bays_to way f b - bays_to way f x) frames)) s.0 in
      let many = ap (λ k. fewest k (map (λ f. bays_to way f y - bays_to way f x) frames)) s.1 in
      omega (arith, there, many)

  -- no other numbers that suffice make the way less
  legs_rise : (xs ns ms : List ℕ) (n m : ℕ) → AreNumbers (length frames) xs ns → AreNumbers (length frames) xs ms
      → legs t way xs ns ≤ legs t way xs ms → get_or ns 0 0 ≤ get_or ms 0 0
      → legs t way (x ∷ xs) (n ∷ ns) ≤ legs t way (x ∷ xs) (m ∷ ms)
  legs_rise [] [] [] n m a b le head = omega arith
  legs_rise [] [] (k ∷ ks) n m a b le head = absurd b
  legs_rise [] (k ∷ ks) ms n m a b le head = absurd a
  legs_rise (y ∷ ys) [] ms n m a b le head = absurd a
  legs_rise (y ∷ ys) (k ∷ ks) [] n m a b le head = absurd b
  legs_rise (y ∷ ys) (k ∷ ks) (l ∷ ls) n m a b le head =
      omega (arith, fewest_rise k l (map (λ f. bays_to way f y - bays_to way f x) frames) head)

  module _ (xs : List ℕ) (walk : Walk) (walked : IsWalked t way xs walk) (needed : ℕ)
      (is : needed ≡ walk.work + get_or left x 0 + travel * (walk.legs + leg_from frames way x walk.last)) where
    abbrev numbers : List ℕ
    numbers = walked.numbers

    load_is : (n : ℕ) → load t way (x ∷ xs) (n ∷ numbers) ≡ needed
    load_is n =
        let way_is : legs t way (x ∷ xs) (n ∷ numbers) ≡ walk.legs + leg_from frames way x walk.last = omega (arith, legs_more walk.last xs numbers n walked.stop, walked.leg_sum) in
        omega (arith, ap (λ k. travel * k) way_is, sum_by-cons (λ y. get_or left y 0) x xs, is)

    -- what suffices at one bay more, and at the others
    record Parts (n : ℕ) (ns : List ℕ) : Type 0 where
      few : n ≤ length frames
      fits : needed ≤ most n rooms
      less : legs t way (x ∷ xs) (n ∷ numbers) ≤ legs t way (x ∷ xs) (n ∷ ns)

    parts_of : (n : ℕ) (ns : List ℕ) → Suffice t way (x ∷ xs) (n ∷ ns) → Parts n ns
    parts_of n ns s =
        let both = and_parts (leb (load t way (x ∷ xs) (n ∷ ns)) (most n rooms)) (suffices t way xs ns) s.suffice in
        let rest : Suffice t way xs ns = record { numbers = s.numbers.1; suffice = both.1 } in
        let least = walked.least ns rest in
        let less = legs_rise xs numbers ns n n walked.sufficient.numbers s.numbers.1 least.0 least.1 in
        let fits = leb-true (load t way (x ∷ xs) (n ∷ ns)) (most n rooms) both.0 in
        record {
          few = s.numbers.0;
          fits = omega (arith, fits, load_is n, mul-le-mul_left travel less);
          less = less;
        }

    pub none_more : ((n : ℕ) → n ≤ length frames → most n rooms < needed) → NoneSuffice t way (x ∷ xs)
    none_more few [] s = s.numbers
    none_more few (n ∷ ns) s =
        let parts = parts_of n ns s in
        omega (arith, parts.fits, few n parts.few)

    pub found_more : (c : ℕ) (next : Walk) → c ≤ length frames → needed ≤ most c rooms
        → ((n : ℕ) → n < c → most n rooms < needed) → next.last ≡ Some (record { bay = x; cranes = c })
        → next.work ≡ walk.work + get_or left x 0 → next.legs ≡ walk.legs + leg_from frames way x walk.last
        → IsWalked t way (x ∷ xs) next
    found_more c next few fits before last work way_is = record {
      numbers = c ∷ numbers;
      sufficient = record {
        numbers = (few, walked.sufficient.numbers);
        suffice =
            and_from (leb (load t way (x ∷ xs) (c ∷ numbers)) (most c rooms)) (suffices t way xs numbers)
            (le-leb (load t way (x ∷ xs) (c ∷ numbers)) (most c rooms) (omega (arith, load_is c, fits)))
            walked.sufficient.suffice;
      };
      stop = subst (λ (o : Option Stop). IsStop o (x ∷ xs) (c ∷ numbers)) (sym last) (refl, refl);
      work = omega (arith, work, walked.work, sum_by-cons (λ y. get_or left y 0) x xs);
      leg_sum = omega (arith, way_is, legs_more walk.last xs numbers c walked.stop, walked.leg_sum);
      least = least;
    }
      where
        least : (ns : List ℕ) → Suffice t way (x ∷ xs) ns
            → (legs t way (x ∷ xs) (c ∷ numbers) ≤ legs t way (x ∷ xs) ns) × (c ≤ get_or ns 0 0)
        least [] s = absurd s.numbers
        least (n ∷ ns) s =
            let parts = parts_of n ns s in
            let same : legs t way (x ∷ xs) (c ∷ numbers) ≡ legs t way (x ∷ xs) (n ∷ numbers) = legs_more walk.last xs numbers c walked.stop ∙ sym (legs_more walk.last xs numbers n walked.stop) in (
              omega (arith, same, parts.less),
              elim (cases_lt n c) [
                | inl low ↦ absurd (omega (arith, before n low, parts.fits))
                | inr high ↦ high
              ],
            )

-- ---- the bays in their order

range_more : (a n : ℕ) → range_with_len a (n + 1) ≡ range_with_len a n ++ (a + n) ∷ []
range_more a n =
    sym (map-id (range_with_len a (n + 1))) ∙ map-range_with_len_more (λ k. k) a n (a + n) refl
    ∙ ap (λ ks. ks ++ (a + n) ∷ []) (map-id (range_with_len a n))

module _ (left : List ℕ) where
  abbrev has : ℕ → Bool
  has x = nat_lt 0 (get_or left x 0)

  after_far : (bays count : ℕ) → length left ≡ bays + 1 → count < bays
      → filter has (range_with_len (length left - (count + 1)) (count + 1))
      ≡ cond (has (bays - count)) ((bays - count) ∷ last_bays Up left count) (last_bays Up left count)
  after_far bays count is low =
      let at : length left - (count + 1) ≡ bays - count = omega arith in
      let next : bays - count + 1 ≡ length left - count = omega arith in
      ap (λ a. filter has (range_with_len a (count + 1))) at
      ∙ ap (λ k. filter has (range_with_len (bays - count) k)) (add-one count)
      ∙ ap (λ a. cond (has (bays - count)) ((bays - count) ∷ filter has (range_with_len a count)) (filter has (range_with_len a count))) next

  after_near : (count : ℕ) → reverse (filter has (range_with_len 1 (count + 1)))
      ≡ cond (has (count + 1)) ((count + 1) ∷ last_bays Down left count) (last_bays Down left count)
  after_near count =
      let e : 1 + count ≡ count + 1 = omega arith in
      ap (λ ks. reverse (filter has ks)) (range_more 1 count)
      ∙ ap (λ k. reverse (filter has (range_with_len 1 count ++ k ∷ []))) e
      ∙ ap reverse (filter-append has (range_with_len 1 count) ((count + 1) ∷ []))
      ∙ reverse-append (filter has (range_with_len 1 count)) (cond (has (count + 1)) ((count + 1) ∷ []) [])
      ∙ turned (has (count + 1))
    where
      turned : (b : Bool) → reverse (cond b ((count + 1) ∷ []) []) ++ last_bays Down left count
          ≡ cond b ((count + 1) ∷ last_bays Down left count) (last_bays Down left count)
      turned true = refl
      turned false = refl

  last_more : (way : Direction) (bays count : ℕ) → length left ≡ bays + 1 → count < bays
      → last_bays way left (count + 1)
      ≡ cond (has (bay_behind way bays count)) (bay_behind way bays count ∷ last_bays way left count) (last_bays way left count)
  last_more Up bays count is low = after_far bays count is low
  last_more Down bays count is low = after_near count

  pub last_yes : (way : Direction) (bays count : ℕ) → length left ≡ bays + 1 → count < bays
      → 0 < get_or left (bay_behind way bays count) 0
      → last_bays way left (count + 1) ≡ bay_behind way bays count ∷ last_bays way left count
  last_yes way bays count is low some =
      last_more way bays count is low
      ∙ cond-true (has (bay_behind way bays count)) (bay_behind way bays count ∷ last_bays way left count) (last_bays way left count)
      (lt-ltb 0 (get_or left (bay_behind way bays count) 0) some)

  pub last_no : (way : Direction) (bays count : ℕ) → length left ≡ bays + 1 → count < bays
      → get_or left (bay_behind way bays count) 0 ≤ 0
      → last_bays way left (count + 1) ≡ last_bays way left count
  last_no way bays count is low none =
      last_more way bays count is low
      ∙ cond-false (has (bay_behind way bays count)) (bay_behind way bays count ∷ last_bays way left count) (last_bays way left count)
      (le-ltb 0 (get_or left (bay_behind way bays count) 0) none)

  pub last_all : (travel tick : ℕ) (frames : List Frame) (way : Direction) (bays : ℕ) → length left ≡ bays + 1
      → last_bays way left bays ≡ along (try_by travel tick frames left) way
  last_all travel tick frames Up bays is =
      let first : length left - bays ≡ 1 = omega arith in
      let many : bays ≡ length left - 1 = omega arith in
      ap (λ a. filter has (range_with_len a bays)) first ∙ ap (λ n. filter has (range_with_len 1 n)) many
  last_all travel tick frames Down bays is =
      let many : bays ≡ length left - 1 = omega arith in
      ap (λ n. reverse (filter has (range_with_len 1 n))) many

-- ---- the loop over the bays

module _ (travel tick : ℕ) (frames : List Frame) (left : List ℕ) where
  abbrev by : Try
  by = try_by travel tick frames left

  pub none_walked : (way : Direction) (walk : Walk) → walk.last ≡ None → walk.work ≡ 0 → walk.legs ≡ 0
      → IsWalked by way (last_bays way left 0) walk
  none_walked way walk last work way_is =
      subst (λ (xs : List ℕ). IsWalked by way xs walk) (sym (none way)) (record {
        numbers = [];
        sufficient = record { numbers = tt; suffice = refl };
        stop = subst (λ (o : Option Stop). IsStop o [] []) (sym last) tt;
        work = work;
        leg_sum = way_is;
        least = λ ns s. (omega arith, omega arith);
      })
    where
      none : (way : Direction) → last_bays way left 0 ≡ []
      none Up = refl
      none Down = refl

  -- where none suffice at the last bays, none do at all of them
  none_behind : (way : Direction) (x : ℕ) (xs : List ℕ) → NoneSuffice by way xs → NoneSuffice by way (x ∷ xs)
  none_behind way x xs none [] s = s.numbers
  none_behind way x xs none (n ∷ ns) s =
      let rooms = map (λ f. tick - f.gone - travel * bays_to way f x) frames in
      let both = and_parts (leb (load by way (x ∷ xs) (n ∷ ns)) (most n rooms)) (suffices by way xs ns) s.suffice in
      none ns (record { numbers = s.numbers.1; suffice = both.1 })

  none_next : (way : Direction) (bays count : ℕ) → length left ≡ bays + 1 → count < bays
      → NoneSuffice by way (last_bays way left count) → NoneSuffice by way (last_bays way left (count + 1))
  none_next way bays count is low none = elim (cases_lt 0 (get_or left (bay_behind way bays count) 0)) [
    | inl some ↦
        subst (NoneSuffice by way) (sym (last_yes left way bays count is low some))
        (none_behind way (bay_behind way bays count) (last_bays way left count) none)
    | inr nothing ↦ subst (NoneSuffice by way) (sym (last_no left way bays count is low nothing)) none
  ]

  none_on : (way : Direction) (bays k count : ℕ) → length left ≡ bays + 1 → count + k ≡ bays
      → NoneSuffice by way (last_bays way left count) → NoneSuffice by way (last_bays way left bays)
  none_on way bays zero count is e none =
      let same : count ≡ bays = omega arith in
      subst (λ (n : ℕ). NoneSuffice by way (last_bays way left n)) same none
  none_on way bays (suc k) count is e none =
      none_on way bays k (count + 1) is (omega arith) (none_next way bays count is (omega arith) none)

  pub none_all : (way : Direction) (bays count x : ℕ) → length left ≡ bays + 1 → count < bays
      → x ≡ bay_behind way bays count → 0 < get_or left x 0
      → NoneSuffice by way (x ∷ last_bays way left count) → NoneSuffice by way (along by way)
  none_all way bays count x is low at some none =
      let P : ℕ → Type 0 = λ y. NoneSuffice by way (y ∷ last_bays way left count) in
      let here = subst P at none in
      let has_some = subst (λ (y : ℕ). 0 < get_or left y 0) at some in
      subst (NoneSuffice by way) (last_all left travel tick frames way bays is)
      (none_on way bays (bays - (count + 1)) (count + 1) is (omega arith)
      (subst (NoneSuffice by way) (sym (last_yes left way bays count is low has_some)) here))

  pub walked_yes : (way : Direction) (bays count x : ℕ) (walk : Walk) → length left ≡ bays + 1 → count < bays
      → x ≡ bay_behind way bays count → 0 < get_or left x 0
      → IsWalked by way (x ∷ last_bays way left count) walk → IsWalked by way (last_bays way left (count + 1)) walk
  walked_yes way bays count x walk is low at some walked =
      let has_some = subst (λ (y : ℕ). 0 < get_or left y 0) at some in
      subst (λ (xs : List ℕ). IsWalked by way xs walk) (sym (last_yes left way bays count is low has_some))
      (subst (λ (y : ℕ). IsWalked by way (y ∷ last_bays way left count) walk) at walked)

  pub walked_no : (way : Direction) (bays count x : ℕ) (walk : Walk) → length left ≡ bays + 1 → count < bays
      → x ≡ bay_behind way bays count → get_or left x 0 ≤ 0
      → IsWalked by way (last_bays way left count) walk → IsWalked by way (last_bays way left (count + 1)) walk
  walked_no way bays count x walk is low at none walked =
      let has_none = subst (λ (y : ℕ). get_or left y 0 ≤ 0) at none in
      subst (λ (xs : List ℕ). IsWalked by way xs walk) (sym (last_no left way bays count is low has_none)) walked

  -- how far the loop has come
  pub record WalkedTo (way : Direction) (count : ℕ) (walk : Walk) : Type 0 where
    pub walked : IsWalked by way (last_bays way left count) walk
    pub last : IfSome walk.last (λ s. s.cranes ≤ length frames)
    pub work : walk.work ≤ count * 2 ^ 37
    pub legs : walk.legs ≤ count * 2 ^ 24
