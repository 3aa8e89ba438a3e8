-- What a list of moves leaves in its file, said from before its plans were read.
use Rattle.std.proofs.Common.{◌≡◌, ◌∙◌, ℕ, Option, Ok, ap, inl, inr, subst, sym}
use Rattle.qc_changes.specs.Changes.{ChangesView}
use Rattle.qc_changes.specs.ListText.{list_text}
use Rattle.qc_io.specs.Outside.{Files, Rose, View, with_file}
use Rattle.qc_run.specs.declared.bay_plans.BayPlans.{BayPlans}
use Rattle.qc_run.specs.Due.{bay_plans_due}
use Rattle.qc_run.specs.Inputs.{Moving, bay_plans_named}
use Rattle.qc_run.specs.Steps.{ComesTo}
use Rattle.qc_moves_command.specs.declared.answer.MovesAnswer.{MovesAnswer}
use Rattle.qc_moves_command.specs.declared.answer.MovesAnswer.TheVariants as answer
use Rattle.qc_moves_command.specs.Account.{AreFound, IsBetween, IsStored, Writes}

module _ (asked : Moving) (before mid : View) (files : mid.files ≡ before.files) where
  abbrev found_before : AreFound asked mid → AreFound asked before
  found_before f = record {
    plans = f.plans;
    due = subst (λ (held : Option Files). ComesTo bay_plans_due (bay_plans_named asked) held (Ok f.plans)) files f.due;
    changes = f.changes;
    between = f.between;
  }

  stored_before : (after : View) (f : AreFound asked mid) → IsStored asked mid after f
      → IsStored asked before after (found_before f)
  stored_before after f stored =
      stored ∙ ap (λ (held : Option Files). with_file held asked.stow (list_text f.changes.rows)) files

  pub over_read : (after : View) → mid.faults ≡ before.faults → (a : MovesAnswer) → Writes asked mid after a
      → Writes asked before after a
  over_read after faults answer.WriteFault w = record {
    found = found_before w.found;
    left = elim w.left [ inl same ↦ inl (same ∙ files) | inr stored ↦ inr (stored_before after w.found stored) ];
    rose = subst (λ (n : ℕ). Rose n after.faults) faults w.rose;
  }
  over_read after faults (answer.Listed told) w = record {
    found = found_before w.found;
    figures = w.figures;
    stored = stored_before after w.found w.stored;
    made = w.made;
    faults = w.faults ∙ faults;
  }

  -- what was found, seen by the shelf as it was left behind the reading
  abbrev pub found_behind : (plans : BayPlans) → ComesTo bay_plans_due (bay_plans_named asked) before.files (Ok plans)
      → (c : ChangesView) → IsBetween plans c → AreFound asked mid
  found_behind plans due c between = record {
    plans = plans;
    due = subst (λ (held : Option Files). ComesTo bay_plans_due (bay_plans_named asked) held (Ok plans)) (sym files) due;
    changes = c;
    between = between;
  }
