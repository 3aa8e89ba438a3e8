-- What holds at each answer of a call.
use Rattle.std.proofs.Common.{Result, Ok, Err, rules, IfOk, IsOk, OnOk}

pub at_ok : {T E : Type 0} (P : T → Type 0) (r : Result T E) → ((x : T) → P x) → IfOk r P
at_ok P (Ok x) p = p x
at_ok P (Err e) p = tt

pub when_ok : {T E P : Type 0} (r : Result T E) → OnOk r P → IsOk r → P
when_ok (Ok x) p ok = p
when_ok (Err e) p ok = search rules
