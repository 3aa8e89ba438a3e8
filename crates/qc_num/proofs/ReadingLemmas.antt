-- Readings, read backwards: what a reading that came through says of its steps.
use Rattle.std.proofs.Common.{◌≡◌, ◌+◌, ◌++◌, ◌∷◌, List, [], length, length-append, Bool, true, false, cond, refl, ap, ◌∙◌, subst, arith, Result, Ok, Err}
use Rattle.std.specs.Prelude.{⊤}
use Rattle.qc_num.specs.declared.read_error.ReadError.{ReadError}
use Rattle.qc_num.specs.declared.read_error.ReadError.TheVariants.{Fault, OutOfMemory}
use Rattle.qc_num.specs.Reading.{◌>>=◌, IsReading, each, require, with_fault}

-- a reading came through where its first step did, and the rest of it with that step's value
pub bind_ok : {A B E : Type 0} (r : Result A E) (next : A → Result B E) (b : B) → (r >>= next) ≡ Ok b → (a : A) × (r ≡ Ok a) × (next a ≡ Ok b)
bind_ok (Ok a) next b e = (a, refl, e)
bind_ok (Err fault) next b e = cc

pub same_ok : {A E : Type 0} {a b : A} → ◌≡◌ {A = Result A E} (Ok a) (Ok b) → a ≡ b
same_ok e = cc

pub require_ok : {E : Type 0} (test : Bool) (fault : E) (u : ⊤) → require test fault ≡ Ok u → test ≡ true
require_ok true fault u e = refl
require_ok false fault u e = cc

-- a value that a test chose passed the test
pub passed : {A E : Type 0} (test : Bool) (a b : A) (fault : E) → ◌≡◌ {A = Result A E} (cond test (Ok a) (Err fault)) (Ok b) → (test ≡ true) × (a ≡ b)
passed true a b fault e = (refl, same_ok e)
passed false a b fault e = cc

-- the same where the test chose the fault, and else the steps went on
pub passed_not : {A E : Type 0} (test : Bool) (r : Result A E) (b : A) (fault : E) → cond test (Err fault) r ≡ Ok b → (test ≡ false) × (r ≡ Ok b)
passed_not true r b fault e = cc
passed_not false r b fault e = (refl, e)

pub with_fault_ok : {A E F : Type 0} (f : E → F) (r : Result A E) (a : A) → with_fault f r ≡ Ok a → r ≡ Ok a
with_fault_ok f (Ok x) a e = let same : x ≡ a = same_ok e in cc
with_fault_ok f (Err fault) a e = cc

-- a step that stopped stopped the reading
pub reading_stops : {T U A B F : Type 0} (seen : T → A) (view : U → B) (step : Result A F) (next : A → Result B F) (whole : Result B F) (error : ReadError F)
    → whole ≡ (step >>= next) → IsReading seen step (Err error) → IsReading view whole (Err error)
reading_stops seen view step next whole (Fault fault) same stopped = same ∙ ap (λ r. r >>= next) stopped
reading_stops seen view step next whole OutOfMemory same stopped = tt

-- ---- values judged with those before them
module _ {A B E : Type 0} (judge : List B → A → Result B E) where
  -- what holds of the values so far holds of all of them
  pub each-keeps : (P : List B → Type 0)
      → ((before : List B) (x : A) (b : B) → P before → judge before x ≡ Ok b → P (before ++ b ∷ []))
      → (before : List B) (xs : List A) (out : List B) → P before → each judge before xs ≡ Ok out → P out
  each-keeps P keeps before [] out here e = subst P (same_ok e) here
  each-keeps P keeps before (x ∷ xs) out here e =
      let (b, judged, rest) = bind_ok (judge before x) (λ b. each judge (before ++ b ∷ []) xs) out e in
      each-keeps P keeps (before ++ b ∷ []) xs out (keeps before x b here judged) rest

  pub length-each : (before : List B) (xs : List A) (out : List B)
      → each judge before xs ≡ Ok out → length out ≡ length before + length xs
  length-each before [] out e = grind (arith, ap length (same_ok e))
  length-each before (x ∷ xs) out e =
      let (b, judged, rest) = bind_ok (judge before x) (λ b. each judge (before ++ b ∷ []) xs) out e in
      omega (arith, length-each (before ++ b ∷ []) xs out rest, length-append before (b ∷ []))
