-- Records read one after the other are the first ones of the whole list.
use Rattle.std.proofs.Common.{◌≡◌, ◌<◌, ◌≤◌, ◌+◌, ◌-◌, ◌==◌, ℕ, zero, suc, List, [], ◌∷◌, ◌++◌, length, take, Bool, true, false, cond, Option, Some, None, refl, sym, ap, ◌∙◌, arith, inl, inr}
use Rattle.std.proofs.lemmas.Bool.{cases_Bool, false≢true}
use Rattle.std.proofs.lemmas.List.{append-nil, take_at}
use Rattle.csv.specs.Machine.{Read, after_end, ends_at_end, ends_with, field_after, fields_after, in_field, is_end, next_record, start_field, start_record, step}
use Rattle.csv.specs.Reading.{ExplainsRead, Reached, default_config, stops_reader, records, records_from}
use Rattle.csv.specs.declared.parser.Action.{Action}
use Rattle.csv.specs.declared.parser.Action.TheVariants as act
use Rattle.csv.specs.declared.parser.Config.{Config}
use Rattle.csv.specs.declared.error.ErrorKind.{ErrorKind}
use Rattle.csv.specs.declared.error.ErrorKind.TheVariants as kind
use Rattle.csv.specs.declared.parser.State.{State}
use Rattle.csv.specs.declared.reader.Reader.{Reader}
use Rattle.csv.specs.declared.parser.State.TheVariants as st
use Rattle.csv.specs.declared.parser.Terminator.TheVariants as term

-- a record takes at least one byte, where there is one
pub shrinks : (cfg : Config) (s : State) (fields : List (List ℕ)) (field xs : List ℕ) (r : Read)
    → next_record cfg s fields field xs ≡ Some r → length r.2 ≤ length xs - 1
unfolding next_record
shrinks cfg s fields field [] r e = elim (cases_Bool (ends_at_end s)) [
  | inl ends ↦ let q = rw ends at e in let n : r.2 ≡ [] = cc in rw n (omega arith)
  | inr goes ↦ cc (rw goes at e)
]
shrinks cfg s fields field (c ∷ rest) r e = elim (cases_Bool (is_end (step cfg s c).1)) [
  | inl ends ↦ let q = rw ends at e in let n : r.2 ≡ rest = cc in rw n (omega arith)
  | inr goes ↦
      let shorter = shrinks cfg (step cfg s c).0 (fields_after (step cfg s c).1 fields field) (field_after (step cfg s c).1 c field) rest r (rw goes at e) in
      omega arith
]

-- a line's end leaves the reader between two records
ends-between : (c : ℕ) → ends_at_end (after_end term.CRLF c) ≡ false
ends-between c = elim (cases_Bool (c == 13)) [
  | inl r ↦ rw r refl
  | inr n ↦ rw n refl
]

field-between : (c : ℕ) → is_end (in_field default_config c).1 ≡ true → ends_at_end (in_field default_config c).0 ≡ false
field-between c e = elim (cases_Bool (c == 44)) [
  | inl comma ↦ cc (rw comma at e)
  | inr other ↦ elim (cases_Bool (ends_with term.CRLF c)) [
    | inl ends ↦ rw (other, ends) (ends-between c)
    | inr goes ↦ cc (rw (other, goes) at e)
  ]
]

start-between : (c : ℕ) → is_end (start_field default_config c).1 ≡ true → ends_at_end (start_field default_config c).0 ≡ false
start-between c e = elim (cases_Bool (c == 34)) [
  | inl quote ↦ cc (rw quote at e)
  | inr other ↦ rw other (field-between c (rw other at e))
]

record-choice : (b : Bool) (x : State × Action) → (is_end x.1 ≡ true → ends_at_end x.0 ≡ false)
    → is_end (cond b (st.StartRecord, act.Skip) x).1 ≡ true → ends_at_end (cond b (st.StartRecord, act.Skip) x).0 ≡ false
record-choice true x h e = cc e
record-choice false x h e = h e

record-between : (c : ℕ) → is_end (start_record default_config c).1 ≡ true → ends_at_end (start_record default_config c).0 ≡ false
record-between c e = record-choice (ends_with term.CRLF c) (start_field default_config c) (start-between c) e

step-between : (s : State) (c : ℕ) → is_end (step default_config s c).1 ≡ true → ends_at_end (step default_config s c).0 ≡ false
step-between st.StartRecord c e = record-between c e
step-between st.StartField c e = start-between c e
step-between st.InField c e = field-between c e
step-between st.InQuoted c e = elim (cases_Bool (c == 34)) [
  | inl quote ↦ cc (rw quote at e)
  | inr other ↦ cc (rw other at e)
]
step-between st.InEscape c e = cc e
step-between st.AfterQuote c e = elim (cases_Bool (c == 34)) [
  | inl quote ↦ cc (rw quote at e)
  | inr other ↦ rw other (field-between c (rw other at e))
]
step-between st.InComment c e = elim (cases_Bool (c == 10)) [
  | inl feed ↦ cc (rw feed at e)
  | inr other ↦ cc (rw other at e)
]
step-between st.AfterCr c e = record-choice (c == 10) (start_record default_config c) (record-between c) e

-- after a record the reader is between two records
pub between : (s : State) (fields : List (List ℕ)) (field xs : List ℕ) (r : Read)
    → next_record default_config s fields field xs ≡ Some r → ends_at_end r.1 ≡ false
unfolding next_record
between s fields field [] r e = elim (cases_Bool (ends_at_end s)) [
  | inl ends ↦ let q = rw ends at e in let n : r.1 ≡ st.StartRecord = cc in rw n refl
  | inr goes ↦ cc (rw goes at e)
]
between s fields field (c ∷ rest) r e = elim (cases_Bool (is_end (step default_config s c).1)) [
  | inl ends ↦ let q = rw ends at e in let n : r.1 ≡ (step default_config s c).0 = cc in rw n (step-between s c ends)
  | inr goes ↦ between (step default_config s c).0 (fields_after (step default_config s c).1 fields field) (field_after (step default_config s c).1 c field) rest r (rw goes at e)
]

-- between two records there is no record without a byte
no-bytes : (s : State) (xs : List ℕ) (r : Read) → ends_at_end s ≡ false → next_record default_config s [] [] xs ≡ Some r → 0 < length xs
unfolding next_record
no-bytes s [] r goes e = cc (rw goes at e)
no-bytes s (c ∷ rest) r goes e = omega arith

-- the records that were read come first
pub come-first : (s s2 : State) (xs ys : List ℕ) (rows : List (List (List ℕ))) (n : ℕ) → Reached default_config s xs rows s2 ys
    → length xs < n → ends_at_end s ≡ false
    → (m : ℕ) × (0 < m) × (records_from default_config n s xs ≡ rows ++ records_from default_config m s2 ys)
unfolding Reached records_from
come-first s s2 xs ys [] n (es, ex) more goes = (n, omega arith, rw (es, ex) refl)
come-first s s2 xs ys (row ∷ rows) zero h more goes = absurd (omega arith)
come-first s s2 xs ys (row ∷ rows) (suc n) h more goes =
    let some = no-bytes s xs h.0 goes h.1 in
    let shorter = shrinks default_config s [] [] xs h.0 h.1 in
    let rest = come-first h.0.1 s2 h.0.2 ys rows n h.3 (omega arith) (between s [] [] xs h.0 h.1) in
    (rest.0, rest.1, rw (h.1, h.2) (ap (λ (t : List (List (List ℕ))). h.0.0 ∷ t) rest.2))

-- so they are as many of the first records as were read
pub first-of : (s2 : State) (xs ys : List ℕ) (rows : List (List (List ℕ))) (n : ℕ) → Reached default_config st.StartRecord xs rows s2 ys
    → length rows ≡ n → rows ≡ take n (records default_config xs)
first-of s2 xs ys rows n h size =
    let rest = come-first st.StartRecord s2 xs ys rows (length xs + 1) h (omega arith) refl in
    rw rest.2 (sym (take_at rows (records_from default_config rest.0 s2 ys) n size))

-- where no record is left, none comes
nothing : (s : State) (ys : List ℕ) (m : ℕ) → 0 < m → next_record default_config s [] [] ys ≡ None → records_from default_config m s ys ≡ []
unfolding records_from
nothing s ys zero some none = absurd (omega arith)
nothing s ys (suc m) some none = rw none refl

-- and all of them, where no record is left
pub all-of : (s2 : State) (xs ys : List ℕ) (rows : List (List (List ℕ))) → Reached default_config st.StartRecord xs rows s2 ys
    → next_record default_config s2 [] [] ys ≡ None → rows ≡ records default_config xs
all-of s2 xs ys rows h none =
    let rest = come-first st.StartRecord s2 xs ys rows (length xs + 1) h (omega arith) refl in
    rw (rest.2, nothing s2 ys rest.0 rest.1 none) (sym (append-nil rows))

-- a read of bytes whose records may differ in length fails for memory or for the reader underneath
pub explained : {R : Type 0} (rem : R → Option (List ℕ)) (old new : Reader R) (why : ErrorKind) → old.flexible ≡ true
    → ExplainsRead rem old new false why → stops_reader why ≡ true
explained rem old new (kind.Io e) f h = refl
explained rem old new kind.OutOfMemory f h = refl
explained rem old new (kind.UnequalLengths pos expected len) f h = absurd (false≢true (sym h.0 ∙ f))
explained rem old new (kind.Utf8 pos err) f h = absurd (false≢true h.0)
explained rem old new (kind.Serialize text) f h = absurd h
explained rem old new (kind.Deserialize pos err) f h = absurd h
