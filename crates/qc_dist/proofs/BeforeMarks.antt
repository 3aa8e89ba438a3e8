-- The table of the pairs that an instance orders, one pair more.
use Rattle.std.proofs.Common.{◌≡◌, ℕ, ◌+◌, ◌*◌, ◌<◌, Bool, true, ◌&&◌, ◌||◌, nat_eq, List, length, slice_index_or, slice_set, take, sym, ap, ◌∙◌, subst}
use Rattle.std.specs.List.{Contains, list_any}
use Rattle.std.proofs.Math.Bool.{or-false}
use Rattle.std.proofs.lemmas.Bool.{or_right}
use Rattle.std.proofs.lemmas.List.Elements.{Contains-get_or}
use Rattle.std.proofs.lemmas.List.Folds.{list_any_more}
use Rattle.qc_model.specs.declared.pair.Pair.{Pair}
use Rattle.qc_model.specs.Instance.{InstanceView, Valid}
use Rattle.qc_dist.specs.Tables.{IsGrid}
use Rattle.qc_dist.proofs.Tables.{grid_write, pair_differs, pair_is}

-- a pair of the list relates tasks of the instance
pub pair_inside : (inst : InstanceView) → Valid inst → (xs : List Pair) → xs ≡ inst.before
    → (k : ℕ) (d : Pair) → k < length xs
    → ((slice_index_or xs k d).first < length inst.tasks) × ((slice_index_or xs k d).second < length inst.tasks)
pair_inside inst v xs e k d inside =
    let p = slice_index_or xs k d in
    v.before.range p.first p.second (subst (λ ys. Contains ys p) e (Contains-get_or xs k d inside))

-- the pairs among the first k
abbrev pub among : List Pair → ℕ → ℕ → ℕ → Bool
among xs k i j = list_any (λ (pair : Pair). nat_eq pair.first i && nat_eq pair.second j) (take k xs)

-- one pair more
among_more : (xs : List Pair) (k : ℕ) (d : Pair) (i j : ℕ) → k < length xs
    → among xs (k + 1) i j
    ≡ (among xs k i j || (nat_eq (slice_index_or xs k d).first i && nat_eq (slice_index_or xs k d).second j))
among_more xs k d i j inside =
    list_any_more (λ (p : Pair). nat_eq p.first i && nat_eq p.second j) xs k d inside

pub before_more : (inst : InstanceView) → Valid inst → (xs : List Pair) → xs ≡ inst.before
    → (k : ℕ) (d : Pair) → k < length xs
    → (at : ℕ) → at ≡ 240 * (slice_index_or xs k d).first + (slice_index_or xs k d).second → (marks : List Bool)
    → IsGrid (among inst.before k) (length inst.tasks) marks
    → IsGrid (among inst.before (k + 1)) (length inst.tasks) (slice_set marks at true)
before_more inst v xs e k d inside at is marks grid =
    let a = (slice_index_or xs k d).first in
    let b = (slice_index_or xs k d).second in
    let range = pair_inside inst v xs e k d inside in
    let here = or_right (among xs k a b) (nat_eq a a && nat_eq b b) (pair_is a b) in
    rw (is, ← e)
    (grid_write (among xs k) (among xs (k + 1)) (length inst.tasks) marks a b true v.tasks.count range.0 range.1
    (sym (among_more xs k d a b inside ∙ here))
    (λ i j differ. sym (
    among_more xs k d i j inside
    ∙ ap (λ m. among xs k i j || m) (pair_differs a b i j differ) ∙ or-false (among xs k i j)))
    (rw e grid))
