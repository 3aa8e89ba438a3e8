-- public: readings, steps of which the first fault counts.
use Rattle.std.specs.Prelude.{◌≡◌, List, [], ◌∷◌, ◌++◌, Bool, true, false, Result, Ok, Err, ⊤}
use Rattle.qc_num.specs.declared.read_error.ReadError.{ReadError}
use Rattle.qc_num.specs.declared.read_error.ReadError.TheVariants.{Fault, OutOfMemory}

-- a step, and then those that need its value; the first fault counts
infixl 10 ◌>>=◌
abbrev pub ◌>>=◌ : {A B E : Type 0} → Result A E → (A → Result B E) → Result B E
Ok a >>= next = next a
Err fault >>= next = Err fault

-- a test with the fault where it fails
abbrev pub require : {E : Type 0} → Bool → E → Result ⊤ E
require true fault = Ok tt
require false fault = Err fault

-- the same with another type of fault
abbrev pub with_fault : {A E F : Type 0} → (E → F) → Result A E → Result A F
with_fault f (Ok a) = Ok a
with_fault f (Err fault) = Err (f fault)

-- each value in order, judged with those that came of the ones before it
abbrev pub each : {A B E : Type 0} → (List B → A → Result B E) → List B → List A → Result (List B) E
each judge before [] = Ok before
each judge before (x ∷ xs) = do
  b ← judge before x
  each judge (before ++ b ∷ []) xs

-- what was read, seen by `view`, stands for this reading, unless memory ran out
abbrev pub IsReading : {T V F : Type 0} → (T → V) → Result V F → Result T (ReadError F) → Type 0
IsReading view reading (Ok value) = reading ≡ Ok (view value)
IsReading view reading (Err (Fault fault)) = reading ≡ Err fault
IsReading view reading (Err OutOfMemory) = ⊤
