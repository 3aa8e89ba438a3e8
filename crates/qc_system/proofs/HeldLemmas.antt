-- A text that goes out part by part.
use Rattle.std.proofs.Common.{ℕ, ◌+◌, ◌++◌, List, take, drop, Option, None, Some, sym, ap, subst, ◌∙◌, append_assoc}
use Rattle.std.proofs.Math.Seq.{take-add}
use Rattle.std.specs.Io.KnownBytes.{Appends}

appends_then : (a b c : Option (List ℕ)) (one other : List ℕ) → Appends a b one → Appends b c other
    → Appends a c (one ++ other)
appends_then None b c one other first next = tt
appends_then (Some xs) None c one other first next = absurd first
appends_then (Some xs) (Some ys) None one other first next = absurd next
appends_then (Some xs) (Some ys) (Some zs) one other first next =
    next ∙ ap (λ bs. bs ++ other) first ∙ append_assoc xs one other

-- a front of the text and the next part of it
pub appends_more : (a b c : Option (List ℕ)) (text : List ℕ) (done count : ℕ) → Appends a b (take done text)
    → Appends b c (take count (drop done text)) → Appends a c (take (done + count) text)
appends_more a b c text done count first next =
    let P : List ℕ → Type 0 = λ bs. Appends a c bs in
    subst P (sym (take-add done count text)) (appends_then a b c (take done text) (take count (drop done text)) first next)
