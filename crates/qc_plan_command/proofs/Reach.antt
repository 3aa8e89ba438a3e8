-- Where there is no feasible schedule, some task lies in no crane's reach.
use Rattle.std.proofs.Common.{◌≡◌, ◌<◌, ℕ, Bool, true, false, not, List, length, inl, inr, refl, arith}
use Rattle.std.proofs.lemmas.Bool.{and_parts, cases_Bool}
use Rattle.qc_model.specs.declared.schedule.Slot.{Slot}
use Rattle.qc_model.specs.Instance.{InstanceView, IsBefore, Valid}
use Rattle.qc_model.specs.Nodes.{reaches}
use Rattle.qc_model.specs.Rules.{Feasible}
use Rattle.qc_model.proofs.NodeLemmas.{true_T}
use Rattle.qc_starts.proofs.PlaceLemmas.{none_left}
use Rattle.qc_plan_command.specs.Promises.{IsOutOfReach}
use Rattle.qc_plan_command.proofs.InLine.{CanLine, in_line, line_feasible}
use Rattle.qc_plan_command.proofs.Rounds.{found_below, last_below, none_below, rank, rises, some_below}

module _ (inst : InstanceView) (valid : Valid inst) where
  within : (i j : ℕ) → IsBefore inst i j → i < length inst.tasks
  within i j has = (valid.before.range i j has).0

  has_crane : ℕ → Bool
  has_crane j = some_below (reaches inst j) (length inst.cranes)

  can : ((j : ℕ) → j < length inst.tasks → has_crane j ≡ true) → CanLine inst
  unfolding has_crane
  can all = record {
    rank = rank inst (none_left inst valid) within;
    cranes = λ j. last_below (reaches inst j) (length inst.cranes);
    rises = rises inst (none_left inst valid) within;
    apart = λ i j has e. omega (arith, e, (valid.apart.range i j has).0);
    range = λ j low. (found_below (reaches inst j) (length inst.cranes) (all j low)).0;
    reach = λ j low.
        let parts = and_parts _ _ (found_below (reaches inst j) (length inst.cranes) (all j low)).1 in
        (record { le = true_T parts.0 }, record { le = true_T parts.1 });
  }

  pub out_of_reach : ((sched : List Slot) → ¬ Feasible inst sched)
      → (j : ℕ) × (j < length inst.tasks) × IsOutOfReach inst j
  unfolding has_crane
  out_of_reach none =
      let test : ℕ → Bool = λ j. not (has_crane j) in
      let n = length inst.tasks in
      elim (cases_Bool (some_below test n)) [
        | inl some ↦
            let found = found_below test n some in
            let j = last_below test n in (
              j,
              found.0,
              λ k low.
                  none_below (reaches inst j) (length inst.cranes) k (off (has_crane j) found.1) low,
            )
        | inr all ↦
            let can_line = can (λ j low. on (has_crane j) (none_below test n j all low)) in
            absurd (none (in_line inst can_line) (line_feasible inst can_line))
      ]
    where
      off : (b : Bool) → not b ≡ true → b ≡ false
      off true e = absurd (cc e)
      off false e = refl

      on : (b : Bool) → not b ≡ false → b ≡ true
      on true e = refl
      on false e = absurd (cc e)
