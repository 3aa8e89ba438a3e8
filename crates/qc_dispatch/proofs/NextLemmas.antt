-- The next start.
use Rattle.std.proofs.Common.{◌≡◌, ℕ, ◌<◌, ◌≤◌, max, Bool, true, ◌&&◌, ◌==◌, nat_le, Option, None, Some, List, length, slice_index_or, refl, ap, subst, arith}
use Rattle.std.proofs.lemmas.Bool.{and_from, and_parts, cond_both, cond-true, eq-eqb, eqb-true, leb-false, leb-true}
use Rattle.std.proofs.lemmas.Option.{cond_some}
use Rattle.qc_dispatch.specs.declared.next.Next.{Next}
use Rattle.qc_dispatch.specs.declared.stage.Stage.{Stage}
use Rattle.qc_dispatch.specs.declared.stage.Stage.TheVariants.{Waiting, Running, Ended}
use Rattle.qc_dispatch.specs.declared.waits.Wait.{Wait}
use Rattle.qc_dispatch.specs.Course.{Course, MayFrom, MayStart, is_waiting, stage_of}
use Rattle.qc_dispatch.specs.Kept.{AreKept, ComesBy, IsSoonest}
use Rattle.qc_dispatch.specs.Waits.{IsFirst, IsNext, moment_of, wait_of, within}
use Rattle.qc_dispatch.proofs.WaitLemmas.{due_by, may_from, none_open}

-- ---- what it says of the course

module _ (c : Course) (marks : List Bool) (waits : List Wait) (kept : AreKept c marks waits) where
  abbrev moment : ℕ → Option ℕ
  moment j = moment_of c.clock (stage_of c j) (wait_of waits j)

  waits_if : (s : Stage) → is_waiting s ≡ true → s ≡ Waiting
  waits_if Waiting h = refl
  waits_if (Running start) h = absurd (cc h)
  waits_if (Ended start end) h = absurd (cc h)

  pub record Then (m j : ℕ) : Type 0 where
    later : c.clock ≤ m
    may : MayStart c m j

  moment_may : (m j : ℕ) → j < length c.inst.tasks → moment j ≡ Some m → Then m j
  moment_may m j inside e =
      let stage = stage_of c j in
      let wait = wait_of waits j in
      let is = cond_some (is_waiting stage && (wait.leaders == 0)) (max c.clock wait.due) m e in
      let both = and_parts (is_waiting stage) (wait.leaders == 0) is.0 in
      record {
        later = omega (arith, is.1);
        may = may_from c marks waits kept m j inside (waits_if stage both.0) (eqb-true wait.leaders 0 both.1) (omega (arith, is.1));
      }

  record By (m j : ℕ) : Type 0 where
    moment : ℕ
    is : moment_of c.clock (stage_of c j) (wait_of waits j) ≡ Some moment
    low : moment ≤ m

  may_moment : (m j : ℕ) → c.clock ≤ m → MayStart c m j → By m j
  may_moment m j later may =
      let wait = wait_of waits j in
      record {
        moment = max c.clock wait.due;
        is = cond-true _ _ _ (and_from (is_waiting (stage_of c j)) (wait.leaders == 0)
            (ap is_waiting may.waits) (eq-eqb wait.leaders 0 (none_open c marks waits kept m j may)));
        low = omega (arith, due_by c marks waits kept m j may);
      }

  -- when this task may start
  pub may_start : (j : ℕ) → j < length c.inst.tasks → (o : Option ℕ) → moment j ≡ o → MayFrom c j o
  may_start j inside None none = λ m from may. let some = may_moment m j from may in absurd (cc (none, some.is))
  may_start j inside (Some at) is =
      let then = moment_may at j inside is in
      record {
        from = then.later;
        may = then.may;
        soonest = λ m from may.
            let some = may_moment m j from may in
            let same : at ≡ some.moment = cc (is, some.is) in
            omega (arith, some.low, same);
      }

  next_none : IsNext moment (length c.inst.tasks) None → (to : ℕ) → ComesBy c to None
  next_none none to m j from by may =
      let some = may_moment m j from may in absurd (cc (none j may.task, some.is))

  next_late : (next : Next) → IsFirst moment (length c.inst.tasks) next → (to : ℕ) → to < next.moment → ComesBy c to None
  next_late next first to late m j from by may =
      let some = may_moment m j from may in
      absurd (omega (arith, some.low, first.soonest j some.moment may.task some.is))

  next_some : (next : Next) → IsFirst moment (length c.inst.tasks) next → (to : ℕ) → next.moment ≤ to → IsSoonest c to next
  next_some next first to low =
      let at = moment_may next.moment next.task first.inside first.at_it in
      record {
        from = at.later;
        by = low;
        may = at.may;
        soonest = λ m j from less may.
            let some = may_moment m j from may in
            absurd (omega (arith, some.low, first.soonest j some.moment may.task some.is));
        lowest = λ j less may.
            let some = may_moment next.moment j at.later may in
            absurd (omega (arith, some.low, first.lowest j some.moment less some.is));
      }

  at_all : (next : Option Next) → IsNext moment (length c.inst.tasks) next → (to : ℕ) → ComesBy c to (within next to)
  at_all None none to = next_none none to
  at_all (Some next) first to =
      cond_both (nat_le next.moment to) (Some next) None (ComesBy c to)
      (λ low. next_some next first to (leb-true next.moment to low))
      (λ high. next_late next first to (leb-false next.moment to high))

  -- what comes first of all is what comes by this moment, if it does
  pub comes_by : (stages : List Stage) (same : stages ≡ c.stages) (held : List Wait) (are : held ≡ waits) (to : ℕ) (next : Option Next)
      → IsNext (λ j. moment_of c.clock (slice_index_or stages j Waiting) (wait_of held j)) (length stages) next → ComesBy c to (within next to)
  comes_by stages same held are to next first =
      let all : IsNext moment (length c.stages) next =
      subst (λ (ws : List Wait). IsNext (λ j. moment_of c.clock (stage_of c j) (wait_of ws j)) (length c.stages) next) are
      (subst (λ (xs : List Stage). IsNext (λ j. moment_of c.clock (slice_index_or xs j Waiting) (wait_of held j)) (length xs) next) same first) in
      at_all next (subst (λ (n : ℕ). IsNext moment n next) kept.course.stages all) to
