-- The tasks that run, and their cranes, are of the instance.
use Rattle.std.proofs.Common.{◌≡◌, ℕ, ◌<◌, List, All, length, subst, sym, arith}
use Rattle.std.specs.List.{range_with_len}
use Rattle.std.proofs.lemmas.List.Elements.{All-filter, All-map}
use Rattle.std.proofs.lemmas.List.FromFn.{get_or-range_with_len, length-range_with_len}
use Rattle.qc_dispatch.specs.Course.{is_running, stage_of}
use Rattle.qc_dispatch.specs.Journal.{Journal}
use Rattle.qc_model.specs.Rules.{Feasible}
use Rattle.qc_rest.specs.declared.remains.StillRuns.{StillRuns}
use Rattle.qc_rest.specs.Remaining.{running_of, still_runs}
use Rattle.qc_rest_command.specs.Texts.{IsInside}

-- what is read past the end of a list of tasks that run
abbrev pub no_run : StillRuns
no_run = record { task = 0; crane = 0; ticks = 0 }

numbers_inside : (n : ℕ) → All (λ i. i < n) (range_with_len 0 n)
numbers_inside n = λ k d low.
    let inside : k < n = omega (arith, low, length-range_with_len 0 n) in
    omega (arith, inside, get_or-range_with_len 0 n k d inside)

pub running_inside : (j : Journal) → Feasible j.course.inst j.course.plan → (items : List StillRuns) → items ≡ running_of j
    → All (IsInside j.course.inst) items
running_inside j feasible items same =
    let numbers = range_with_len 0 (length j.course.inst.tasks) in
    let each : All (λ i. IsInside j.course.inst (still_runs j i)) numbers =
    λ k d low. let inside = numbers_inside (length j.course.inst.tasks) k d low in (inside, feasible.crane_range _ inside) in
    subst (All (IsInside j.course.inst)) (sym same)
    (All-map (IsInside j.course.inst) (still_runs j) _ (All-filter (λ i. is_running (stage_of j.course i)) (λ i. IsInside j.course.inst (still_runs j i)) numbers each))
