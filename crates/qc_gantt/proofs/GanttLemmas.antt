-- A search along two lists, side by side.
use Rattle.std.proofs.Common.{◌≡◌, ◌<◌, ◌+◌, ℕ, Bool, cond, List, Some, length, drop, get_or, ap, sym, ◌∙◌, arith, find}
use Rattle.std.proofs.lemmas.List.{drop_more}
use Rattle.std.proofs.lemmas.Slice.Zip.{get_or-zip, length-zip}
use Rattle.std.specs.List.{zip}

-- the first pair from i on that passes is the one at i or, where that fails, the first of those behind it
pub find_turn : {X Y : Type 0} (p : X × Y → Bool) (xs : List X) (ys : List Y) (i : ℕ) (x : X) (y : Y) (b : Bool)
    → i < length xs → i < length ys → x ≡ get_or xs i x → y ≡ get_or ys i y → b ≡ p (x, y)
    → find p (drop i (zip xs ys)) ≡ cond b (Some (x, y)) (find p (drop (i + 1) (zip xs ys)))
find_turn {X} {Y} p xs ys i x y b in_xs in_ys x_is y_is test =
    let rest = find p (drop (i + 1) (zip xs ys)) in
    let pick = λ (q : X × Y). cond (p q) (Some q) rest in
    ap (find p) (drop_more (zip xs ys) i (x, y) (omega (arith, length-zip xs ys)))
    ∙ ap pick (get_or-zip xs ys i (x, y) in_xs in_ys)
    ∙ ap (λ (a : X). pick (a, get_or ys i y)) (sym x_is) ∙ ap (λ (a : Y). pick (x, a)) (sym y_is)
    ∙ ap (λ (a : Bool). cond a (Some (x, y)) rest) (sym test)
