-- What the reports of a log keep, from how its lines are read.
use Rattle.std.proofs.Common.{◌≡◌, ℕ, zero, suc, ◌+◌, ◌^◌, ◌<◌, ◌≤◌, ◌++◌, ◌∷◌, ◌==◌, ◌&&◌, ℤ, pos, negsuc, List, [], length, map, drop, get_or, true, false, nat_le, nat_lt, Option, None, Some, Ok, All, AllPairs, ◌≤ℤ◌, refl, sym, ap, subst, ◌∙◌, inl, inr, arith, ok_or, option_and_then, option_map, sum_by}
use Rattle.std.specs.List.{filter, range_with_len}
use Rattle.std.specs.Str.{bytes_eq}
use Rattle.std.proofs.lemmas.Bool.{and_from, cases_Bool, cases_order, eq-eqb, eqb-true, false≢true, leb-false, le-ltb, lt-ltb, ltb-true, ne_eqb}
use Rattle.std.proofs.lemmas.Int.{ints}
use Rattle.std.proofs.lemmas.List.{get_or-map, length-map, length_push, map-append}
use Rattle.std.proofs.lemmas.List.Elements.{All-filter, All-map, All-push, All-tail, All-head, filter_passes}
use Rattle.std.proofs.lemmas.List.Folds.{list_any_at}
use Rattle.std.proofs.lemmas.List.FromFn.{get_or-map-range_with_len, length-map-range_with_len, map-range_with_len_more, sum_by-map-range_with_len_more}
use Rattle.std.proofs.lemmas.List.Kept.{AllPairs-filter}
use Rattle.std.proofs.lemmas.List.Quantifiers.{all_pairs_push, position-Some}
use Rattle.qc_num.specs.Digits.{number_in}
use Rattle.qc_num.specs.Reading.{◌>>=◌, each, require}
use Rattle.qc_num.proofs.DigitLemmas.{number_some, plain_parts, value_fits}
use Rattle.qc_num.proofs.ReadingLemmas.{bind_ok, each-keeps, require_ok, same_ok, with_fault_ok}
use Rattle.qc_lines.specs.Lines.{ended, is_space}
use Rattle.std.specs.List.{after_first, before_first}
use Rattle.qc_model.specs.Instance.{no_crane}
use Rattle.qc_ship.specs.Ship.{IsShip, ShipView}
use Rattle.qc_watch.specs.declared.entry.Entry.{Entry}
use Rattle.qc_watch.specs.declared.fault.WatchKind.TheVariants as kind
use Rattle.qc_watch.specs.declared.report.Report.{Report}
use Rattle.qc_watch.specs.Log.{below_zero, crane_named, entry_after, entry_in, entry_of, entry_split, has_since, later_than, lists_of, next_entry, place_in, told_of}
use Rattle.qc_watch.specs.Moments.{no_report}
use Rattle.qc_watch.specs.Numbers.{most_lines}
use Rattle.qc_watch.specs.Reports.{AreOfOne, AreReports, IsInRange, count_of}

-- ---- one line

some_of : {A E : Type 0} (o : Option A) (fault : E) (a : A) → ok_or o fault ≡ Ok a → o ≡ Some a
some_of None fault a e = cc e
some_of (Some b) fault a e = ap Some (same_ok e)

number_below : (most : ℕ) (text : List ℕ) (n : ℕ) → number_in most text ≡ Some n → n < 10 ^ most
number_below most text n e =
    let (plain, value) = number_some most text n (sym e) in
    let parts = plain_parts text most plain in
    rw value (value_fits text most parts.digits parts.few)

abbrev IsPlace : ℤ → Type 0
IsPlace x = (negsuc 999998 ≤ℤ x) × (x ≤ℤ pos 999999)

below : (o : Option ℕ) (x : ℤ) → ((n : ℕ) → o ≡ Some n → n < 1000000) → option_and_then below_zero o ≡ Some x → IsPlace x
below None x small e = cc e
below (Some zero) x small e = cc e
below (Some (suc n)) x small e =
    let same : negsuc n ≡ x = cc in
    let low = small (suc n) refl in
    rw (← same) (omega (arith, ints, low), omega (arith, ints, low))

above : (o : Option ℕ) (x : ℤ) → ((n : ℕ) → o ≡ Some n → n < 1000000) → option_map pos o ≡ Some x → IsPlace x
above None x small e = cc e
above (Some n) x small e =
    let same : pos n ≡ x = cc in
    let low = small n refl in
    rw (← same) (omega (arith, ints), omega (arith, ints, low))

place_near : (text : List ℕ) (x : ℤ) → place_in text ≡ Some x → IsPlace x
place_near text x e = elim (cases_Bool (get_or text 0 0 == 45)) [
  | inl minus ↦ below (number_in 6 (drop 1 text)) x (λ n f. number_below 6 (drop 1 text) n f) (rw minus at e)
  | inr plain ↦ above (number_in 6 text) x (λ n f. number_below 6 text n f) (rw plain at e)
]

-- a report of a crane of the ship
pub record IsOf (ship : ShipView) (entry : Entry) : Type 0 where
  pub crane : entry.crane < length ship.cranes
  pub report : IsInRange entry.report

of_words : (ship : ShipView) (time name place : List ℕ) (entry : Entry) → entry_of ship time name place ≡ Ok entry → IsOf ship entry
of_words ship time name place entry e =
    let (at, read, named) = bind_ok (ok_or (number_in 12 time) kind.Line)
    (λ at. require (nat_lt 0 (length name)) kind.Line >>= λ _. ok_or (place_in place) kind.Line >>= λ there.
    ok_or (crane_named ship name) kind.UnknownCrane >>= λ crane. Ok (record { crane = crane; report = record { at = at; place = there } })) entry e in
    let (u, some, placed) = bind_ok (require (nat_lt 0 (length name)) kind.Line)
    (λ _. ok_or (place_in place) kind.Line >>= λ there.
    ok_or (crane_named ship name) kind.UnknownCrane >>= λ crane. Ok (record { crane = crane; report = record { at = at; place = there } })) entry named in
    let (there, stands, craned) = bind_ok (ok_or (place_in place) kind.Line)
    (λ there. ok_or (crane_named ship name) kind.UnknownCrane >>= λ crane. Ok (record { crane = crane; report = record { at = at; place = there } })) entry placed in
    let (crane, is, made) = bind_ok (ok_or (crane_named ship name) kind.UnknownCrane)
    (λ crane. Ok (record { crane = crane; report = record { at = at; place = there } })) entry craned in
    let found = position-Some (λ crane. bytes_eq crane.name name) ship.cranes crane no_crane (some_of (crane_named ship name) kind.UnknownCrane crane is) in
    subst (IsOf ship) (same_ok made) (record {
      crane = found.0;
      report = record {
        at = number_below 12 time at (some_of (number_in 12 time) kind.Line at read);
        place = place_near place there (some_of (place_in place) kind.Line there stands);
      };
    })

of_line : (ship : ShipView) (line : List ℕ) (entry : Entry) → entry_in ship line ≡ Ok entry → IsOf ship entry
of_line ship line entry e =
    let (text, read, rest) = bind_ok (ok_or (ended line) kind.Line) (λ text. entry_split ship (before_first is_space text) (after_first is_space text)) entry e in
    of_words ship (before_first is_space text) (before_first is_space (after_first is_space text)) (after_first is_space (after_first is_space text)) entry rest

later-known : (earlier : List Entry) (found entry : Entry) → later_than earlier found ≡ Ok entry → (has_since earlier found.crane found.report.at ≡ false) × (found ≡ entry)
later-known earlier found entry e = elim (cases_Bool (has_since earlier found.crane found.report.at)) [
  | inl since ↦ cc (rw since at e)
  | inr new ↦ (new, same_ok (rw new at e))
]

-- what is known of a report behind others
record Follows (ship : ShipView) (earlier : List Entry) (entry : Entry) : Type 0 where
  few : length earlier < most_lines
  is : IsOf ship entry
  new : has_since earlier entry.crane entry.report.at ≡ false

follows : (ship : ShipView) (earlier : List Entry) (line : List ℕ) (entry : Entry) → entry_after ship earlier line ≡ Ok entry → Follows ship earlier entry
follows ship earlier line entry e =
    let (u, few, rest) = bind_ok (require (nat_lt (length earlier) most_lines) kind.TooMany) (λ _. entry_in ship line >>= later_than earlier) entry e in
    let (found, read, later) = bind_ok (entry_in ship line) (later_than earlier) entry rest in
    let (new, same) = later-known earlier found entry later in
    record {
      few = ltb-true (length earlier) most_lines (require_ok (nat_lt (length earlier) most_lines) kind.TooMany u few);
      is = subst (IsOf ship) same (of_line ship line found read);
      new = subst (λ (entry : Entry). has_since earlier entry.crane entry.report.at ≡ false) same new;
    }

-- ---- all lines

pub record AreEntries (ship : ShipView) (entries : List Entry) : Type 0 where
  pub few : length entries ≤ most_lines
  pub each : All (IsOf ship) entries
  pub rising : AllPairs (λ d e. d.crane ≡ e.crane → d.report.at < e.report.at) entries

none : (ship : ShipView) → AreEntries ship []
none ship = record {
  few = omega arith;
  each = λ k d within. absurd (omega arith);
  rising = λ i j d before within. absurd (omega arith);
}

since_at : (earlier : List Entry) (crane at k : ℕ) (d : Entry) → k < length earlier → has_since earlier crane at ≡ false
    → (get_or earlier k d).crane ≡ crane → (get_or earlier k d).report.at < at
since_at earlier crane at k d within new same = elim (cases_Bool (nat_le at (get_or earlier k d).report.at)) [
  | inl late ↦ absurd (false≢true (sym new ∙ list_any_at (λ e. (e.crane == crane) && nat_le at e.report.at) earlier k d within
      (and_from ((get_or earlier k d).crane == crane) (nat_le at (get_or earlier k d).report.at) (eq-eqb _ _ same) late)))
  | inr early ↦ leb-false at (get_or earlier k d).report.at early
]

more : (ship : ShipView) (earlier : List Entry) (entry : Entry) → AreEntries ship earlier → Follows ship earlier entry → AreEntries ship (earlier ++ entry ∷ [])
more ship earlier entry are is = record {
  few = let size = length_push earlier entry in omega (arith, is.few);
  each = All-push (IsOf ship) earlier entry are.each is.is;
  rising = all_pairs_push (λ d e. d.crane ≡ e.crane → d.report.at < e.report.at) earlier entry are.rising
      (λ k d within same. since_at earlier entry.crane entry.report.at k d within is.new same);
}

pub entries_keep : (ship : ShipView) (lines : List (List ℕ)) (entries : List Entry) → each (next_entry ship) [] lines ≡ Ok entries → AreEntries ship entries
entries_keep ship lines entries e =
    each-keeps (next_entry ship) (AreEntries ship) (λ before line entry are read.
    more ship before entry are (follows ship before line entry (with_fault_ok _ (entry_after ship before line) entry read)))
    [] lines entries (none ship) e

-- ---- the lists of the cranes

no_entry : Entry
no_entry = record { crane = 0; report = no_report }

-- the reports of one crane, still with it
abbrev kept : List Entry → ℕ → List Entry
kept entries k = filter (λ e. e.crane == k) entries

passes : (entries : List Entry) (k : ℕ) → All (λ e. (e.crane == k) ≡ true) (kept entries k)
passes entries k = filter_passes (λ e. e.crane == k) entries

of_one : (ship : ShipView) (entries : List Entry) (k : ℕ) → AreEntries ship entries → AreOfOne (told_of entries k)
of_one ship entries k are = record {
  rising = λ i j d before within.
      let size = length-map (kept entries k) (λ (e : Entry). e.report) in
      let low : j < length (kept entries k) = omega (arith, size, within) in
      let first = passes entries k i no_entry (omega arith) in
      let second = passes entries k j no_entry low in
      let pairs = AllPairs-filter (λ d e. d.crane ≡ e.crane → d.report.at < e.report.at) (λ e. e.crane == k) entries are.rising in
      let ordered = pairs i j no_entry before low (eqb-true _ _ first ∙ sym (eqb-true _ _ second)) in
      rw (get_or-map (λ (e : Entry). e.report) (kept entries k) i no_entry d (omega arith), get_or-map (λ (e : Entry). e.report) (kept entries k) j no_entry d low) ordered;
  range = All-map IsInRange (λ (e : Entry). e.report) (kept entries k) (λ i d within. (All-filter (λ e. e.crane == k) (IsOf ship) entries are.each i d within).report);
}

-- the reports of the first cranes, counted in two ways
below_more : (es : List Entry) (n : ℕ)
    → length (filter (λ e. nat_lt e.crane (n + 1)) es) ≡ length (filter (λ e. nat_lt e.crane n) es) + length (filter (λ e. e.crane == n) es)
below_more [] n = refl
below_more (e ∷ es) n = elim (cases_order e.crane n) [
  | inl same ↦
      let a = lt-ltb e.crane (n + 1) (omega arith) in
      let b = le-ltb e.crane n (omega arith) in
      let c = eq-eqb e.crane n same in
      rw (a, b, c) (omega (arith, below_more es n))
  | inr other ↦ elim other [
    | inl low ↦
        let a = lt-ltb e.crane (n + 1) (omega arith) in
        let b = lt-ltb e.crane n low in
        let c = ne_eqb e.crane n (λ f. omega arith) in
        rw (a, b, c) (omega (arith, below_more es n))
    | inr high ↦
        let a = le-ltb e.crane (n + 1) (omega arith) in
        let b = le-ltb e.crane n (omega arith) in
        let c = ne_eqb e.crane n (λ f. omega arith) in
        rw (a, b, c) (below_more es n)
  ]
]

below_none : (es : List Entry) → length (filter (λ e. nat_lt e.crane 0) es) ≡ 0
below_none [] = refl
below_none (e ∷ es) = let a = le-ltb e.crane 0 (omega arith) in rw a (below_none es)

below_all : (ship : ShipView) (es : List Entry) → All (IsOf ship) es → length (filter (λ e. nat_lt e.crane (length ship.cranes)) es) ≡ length es
below_all ship [] are = refl
below_all ship (e ∷ es) are =
    let here = All-head (IsOf ship) e es are in
    let a = lt-ltb e.crane (length ship.cranes) here.crane in
    rw a (ap suc (below_all ship es (All-tail (IsOf ship) e es are)))

counted : (es : List Entry) (n : ℕ) → sum_by length (map (told_of es) (range_with_len 0 n)) ≡ length (filter (λ e. nat_lt e.crane n) es)
counted es zero = sym (below_none es)
counted es (suc n) =
    let one : n + 1 ≡ suc n = omega arith in
    let step = sum_by-map-range_with_len_more length (told_of es) 0 n n (omega arith) in
    subst (λ m. sum_by length (map (told_of es) (range_with_len 0 m)) ≡ length (filter (λ e. nat_lt e.crane m) es)) one
    (omega (arith, step, counted es n, below_more es n, length-map (filter (λ e. e.crane == n) es) (λ (e : Entry). e.report)))

pub count_lists : (ship : ShipView) (entries : List Entry) → AreEntries ship entries → length entries ≡ count_of (lists_of ship entries)
count_lists ship entries are = sym (counted entries (length ship.cranes) ∙ below_all ship entries are.each)

pub length-lists_of : (ship : ShipView) (entries : List Entry) → length (lists_of ship entries) ≡ length ship.cranes
length-lists_of ship entries = length-map-range_with_len (told_of entries) 0 (length ship.cranes)

pub reports_keep : (ship : ShipView) (entries : List Entry) → IsShip ship → AreEntries ship entries → AreReports (lists_of ship entries)
reports_keep ship entries is are = record {
  cranes = let size = length-lists_of ship entries in omega (arith, size, is.cranes.count.1);
  count = let size = count_lists ship entries are in omega (arith, size, are.few);
  each = λ k d low.
      let size = length-lists_of ship entries in
      rw (get_or-map-range_with_len (told_of entries) 0 (length ship.cranes) k k d (omega (arith, size, low)) (omega arith)) (of_one ship entries k are);
}

-- ---- the lists as they are made, one after the other
pub lists_more : {V : Type 0} (items : V → List Report) (es : List Entry) (lists pushed : List V) (v : V) (n : ℕ) → pushed ≡ lists ++ v ∷ []
    → items v ≡ told_of es n → map items lists ≡ map (told_of es) (range_with_len 0 n) → map items pushed ≡ map (told_of es) (range_with_len 0 (n + 1))
lists_more items es lists pushed v n e f g =
    rw (e, map-append items lists (v ∷ []), g, f) (sym (map-range_with_len_more (told_of es) 0 n n (omega arith)))
