-- A loop that judges the values of a list, each with those before it.
use Rattle.std.proofs.Common.{◌≡◌, ◌∙◌, ◌+◌, ◌<◌, ◌++◌, ◌∷◌, ℕ, List, [], length, map, drop, get_or, Result, Ok, Err, refl}
use Rattle.std.specs.Result.{IsErrAnd}
use Rattle.std.proofs.lemmas.List.{at_drop_more}
use Rattle.std.proofs.lemmas.Result.{err_from_is_err_and}
use Rattle.qc_num.specs.Reading.{◌>>=◌, IsReading, each}
use Rattle.qc_num.specs.declared.read_error.ReadError.{ReadError}
use Rattle.qc_num.specs.declared.read_error.ReadError.TheVariants.{Fault}

module _ {V A B F : Type 0} (judge : List B → A → Result B F) (f : V → A) (values : List V) (k : ℕ) (value : V) (lt : k < length values) (is : value ≡ get_or values k value)
    (whole : Result (List B) F) (before : List B) (so_far : whole ≡ each judge before (map f (drop k values))) where
  -- the next value is judged, and then those behind it
  pub each_turns : whole ≡ (judge before (f value) >>= λ b. each judge (before ++ b ∷ []) (map f (drop (k + 1) values)))
  each_turns = so_far ∙ rw (← is) at (at_drop_more (λ (xs : List V). each judge before (map f xs)) values k value lt)

  -- the value has a fault
  pub each_stops : {T : Type 0} (view : T → List B) (fault : F) (r : Result T (ReadError F)) → IsErrAnd r (λ e. e ≡ Fault fault) → Err fault ≡ judge before (f value) → IsReading view whole r
  each_stops view fault r handed judged = let p = err_from_is_err_and r handed in rw (p.1, p.2) (each_turns ∙ rw (← judged) refl)

  -- the value is read
  pub each_more : (b : B) → Ok b ≡ judge before (f value) → whole ≡ each judge (before ++ b ∷ []) (map f (drop (k + 1) values))
  each_more b judged = each_turns ∙ rw (← judged) refl
