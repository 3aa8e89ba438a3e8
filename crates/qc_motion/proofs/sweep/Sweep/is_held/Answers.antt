use Rattle.std.proofs.Common.{◌≡◌, ◌<◌, ◌+◌, ℕ, ℤ, to_z, of_z, w64, sym, subst, ap, refl, inl, inr, ◌∙◌, arith}
use Rattle.std.proofs.lemmas.Bool.{cases_lt, true≢false}
use Rattle.std.proofs.lemmas.Int.{ints}
use Rattle.qc_motion.specs.Sweep.{HoldsAt}
use Rattle.qc_motion.proofs.sweep.Sweep.is_held.Goals as goal

none_more : (P : ℕ → Type 0) (n : ℕ) → ((i : ℕ) → i < n → ¬ P i) → ¬ P n → (i : ℕ) → i < n + 1 → ¬ P i
none_more P n below here i l p = elim (cases_lt i n) [
  | inl k ↦ below i k p
  | inr k ↦ (let e : i ≡ n = omega (arith, l, k) in here (subst P e p))
]

pub returns-then-floor_place-place : goal.returns-then-floor_place-place
returns-then-floor_place-place c =
    let e : c.floor_place.result ≡ c.args.place = omega (arith, ints, c.if-floor_place-place.true) in
    (λ _. inl (sym c.floor_place.ensures.place ∙ e), λ _. refl)

pub loop-task-init : goal.loop-task-init
loop-task-init c =
    let e : to_z w64 (of_z w64 c.args.place) ≡ c.args.place = omega (arith, ints) in (
      λ i low. absurd (omega (arith, low)),
      λ is. c.if-floor_place-place.false (ap (of_z w64) (c.floor_place.ensures.place ∙ is ∙ e)),
    )

pub returns-then-task_holds : goal.returns-then-task_holds
returns-then-task_holds c =
    let e : to_z w64 (of_z w64 c.args.place) ≡ c.args.place = omega (arith, ints) in
    (λ _. inr (c.loop-task.task, subst (λ (p : ℤ). HoldsAt c.args.self.now c.args.at p c.loop-task.task) e (c.task_holds.ensures.0 c.if-task_holds.true)), λ _. refl)

pub loop-task-preserved : goal.loop-task-preserved
loop-task-preserved c = (
  none_more (HoldsAt c.args.self.now c.args.at (to_z w64 (of_z w64 c.args.place))) c.loop-task.task c.loop-task.invariant.0
      (λ held. true≢false (sym (c.task_holds.ensures.1 held) ∙ c.if-task_holds.false)),
  c.loop-task.invariant.1,
)

pub returns : goal.returns
returns c =
    let e : to_z w64 (of_z w64 c.args.place) ≡ c.args.place = omega (arith, ints) in (
      λ is. absurd (true≢false (sym is)),
      λ held. elim held [
        | inl is ↦ absurd (c.loop-task.invariant.1 (is ∙ sym e))
        | inr (i, h) ↦ absurd (c.loop-task.invariant.0 i (omega (arith, h.0.0, c.tasks-task-end.ensures.count, c.loop-task-test.false))
            (subst (λ (p : ℤ). HoldsAt c.args.self.now c.args.at p i) (sym e) h))
      ],
    )
