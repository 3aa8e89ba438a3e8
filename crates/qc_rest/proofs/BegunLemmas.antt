-- What a dispatcher keeps, of tasks that have begun, in plain numbers.
use Rattle.std.proofs.Common.{◌≡◌, ◌≢◌, ℕ, ◌+◌, ◌<◌, ◌≤◌, ◌⊎◌, inl, inr, length, Option, None, Some, IfSome, IsSome, refl, subst, arith}
use Rattle.std.specs.Prelude.{IsSomeAnd}
use Rattle.std.specs.Option.{unwrap_or}
use Rattle.qc_dispatch.specs.declared.stage.Stage.{Stage}
use Rattle.qc_dispatch.specs.declared.stage.Stage.TheVariants.{Waiting, Running, Ended}
use Rattle.qc_dispatch.specs.Course.{Course, IsOver, end_at, end_in, stage_of, start_at, start_in}
use Rattle.qc_dispatch.specs.Order.{AreTied, free_of, gap}
use Rattle.qc_dispatch.specs.Promises.{IsSpan, Keeps}
use Rattle.qc_dispatch.specs.Worked.{begun_at}
use Rattle.qc_model.specs.Instance.{IsBefore}
use Rattle.qc_rest.specs.Progress.{AreOver, HasBegun, IsLeft}

-- ---- options

at_some : (o : Option ℕ) (P : ℕ → Type 0) → IsSome o → IfSome o P → P (unwrap_or o 0)
at_some None P some holds = absurd (cc some)
at_some (Some x) P some holds = holds

ahead_at : (o p : Option ℕ) (ticks over : ℕ) → IsSome o → ((end : ℕ) → p ≡ Some end → over ≡ end)
    → IfSome o (λ start. IsSomeAnd p (λ end. end + ticks ≤ start)) → over + ticks ≤ unwrap_or o 0
ahead_at None p ticks over some is ahead = absurd (cc some)
ahead_at (Some s) None ticks over some is ahead = absurd ahead
ahead_at (Some s) (Some e) ticks over some is ahead = omega (arith, is e refl, ahead)

if_and : (o : Option ℕ) (P : ℕ → Type 0) → IsSomeAnd o P → IfSome o P
if_and None P holds = absurd holds
if_and (Some x) P holds = holds

some_ended : (s : Stage) (o : Option ℕ) (ticks : ℕ) → IsSome o → IfSome o (λ start. IsSomeAnd (end_in s) (λ end. end + ticks ≤ start)) → IsSome (start_in s)
some_ended Waiting None ticks some over = absurd (cc some)
some_ended Waiting (Some start) ticks some over = absurd over
some_ended (Running t) o ticks some over = refl
some_ended (Ended t u) o ticks some over = refl

-- ---- stages

early_in : (s : Stage) (now : ℕ) → IsSome (start_in s) → IsSpan now s → unwrap_or (start_in s) 0 ≤ now
early_in Waiting now begun span = absurd (cc begun)
early_in (Running start) now begun span = omega (arith, span)
early_in (Ended start end) now begun span = omega (arith, span.0, span.1)

span_in : (s : Stage) (now over : ℕ) → IsSome (start_in s) → IsSpan now s → ((end : ℕ) → end_in s ≡ Some end → over ≡ end)
    → ((start : ℕ) → s ≡ Running start → now < over) → unwrap_or (start_in s) 0 ≤ over
span_in Waiting now over begun span ended runs = absurd (cc begun)
span_in (Running start) now over begun span ended runs = omega (arith, span, runs start refl)
span_in (Ended start end) now over begun span ended runs = omega (arith, span.0, ended end refl)

-- a task has begun, or it waits
pub begun_or_waits : (s : Stage) → IsSome (start_in s) ⊎ (s ≡ Waiting)
begun_or_waits Waiting = inr refl
begun_or_waits (Running start) = inl refl
begun_or_waits (Ended start end) = inl refl

-- it runs, or has ended by now
over_in : (s : Stage) (now over : ℕ) → IsSome (start_in s) → IsSpan now s → ((end : ℕ) → end_in s ≡ Some end → over ≡ end)
    → ((start : ℕ) × (s ≡ Running start)) ⊎ (over ≤ now)
over_in Waiting now over begun span ended = absurd (cc begun)
over_in (Running start) now over begun span ended = inl (start, refl)
over_in (Ended start end) now over begun span ended = inr (omega (arith, span.1, ended end refl))

waits_still : (s : Stage) → s ≡ Waiting → IsSome (start_in s) → ⊥
waits_still s e begun = let b : IsSome (start_in Waiting) = subst (λ (t : Stage). IsSome (start_in t)) e begun in cc b

-- ---- the course

module _ (c : Course) (over : ℕ → ℕ) (keeps : Keeps c) (known : AreOver c over) where
  pub early : (j : ℕ) → HasBegun c j → begun_at c j ≤ c.clock
  early j begun = early_in (stage_of c j) c.clock begun (keeps.spans j)

  pub lasts : (j : ℕ) → HasBegun c j → begun_at c j ≤ over j
  lasts j begun = span_in (stage_of c j) c.clock (over j) begun (keeps.spans j) (known.ended j) (known.runs j)

  pub freed : (j : ℕ) → HasBegun c j → free_of c.inst c.plan j ≤ begun_at c j
  freed j begun = at_some (start_at c j) (λ start. free_of c.inst c.plan j ≤ start) begun (keeps.starts j)

  pub runs_or_over : (j : ℕ) → HasBegun c j → ((start : ℕ) × (stage_of c j ≡ Running start)) ⊎ (over j ≤ c.clock)
  runs_or_over j begun = over_in (stage_of c j) c.clock (over j) begun (keeps.spans j) (known.ended j)

  -- of two tied tasks that have begun one was over, by the gap, when the other began
  pub clear : (i j : ℕ) → i < length c.inst.tasks → j < length c.inst.tasks → i ≢ j → AreTied c.inst c.plan i j
      → HasBegun c i → HasBegun c j
      → (over i + gap c.inst c.plan i j ≤ begun_at c j) ⊎ (over j + gap c.inst c.plan j i ≤ begun_at c i)
  clear i j first second differ tied here there = elim (keeps.clear i j first second differ tied here there) [
    | inl ahead ↦ inl (ahead_at (start_at c j) (end_at c i) (gap c.inst c.plan i j) (over i) there (known.ended i)
        (if_and (start_at c j) (IsOver c i (gap c.inst c.plan i j)) ahead))
    | inr ahead ↦ inr (ahead_at (start_at c i) (end_at c j) (gap c.inst c.plan j i) (over j) here (known.ended j)
        (if_and (start_at c i) (IsOver c j (gap c.inst c.plan j i)) ahead))
  ]

  -- what comes before a task that has begun is over
  pub over_before : (i j : ℕ) → IsBefore c.inst i j → HasBegun c j → over i ≤ begun_at c j
  over_before i j is begun =
      omega (arith, ahead_at (start_at c j) (end_at c i) 0 (over i) begun (known.ended i) (keeps.before i j is))

  pub begun_before : (i j : ℕ) → IsBefore c.inst i j → HasBegun c j → HasBegun c i
  begun_before i j is begun = some_ended (stage_of c i) (start_at c j) 0 begun (keeps.before i j is)

  pub not_left : (j : ℕ) → IsLeft c j → HasBegun c j → ⊥
  not_left j left begun = waits_still (stage_of c j) left.waits begun
