-- public: what is told of a list of moves, and what is printed for it.
use Rattle.std.specs.Prelude.{ℕ, List, ◌++◌, ◌+◌, length, codes, decimal}
use Rattle.qc_changes.specs.Changes.{ChangesView}
use Rattle.qc_run.specs.declared.bay_plans.BayPlans.{BayPlans}
use Rattle.qc_run.specs.declared.status.Status.{Status}
use Rattle.qc_run.specs.declared.status.Status.TheVariants as status
use Rattle.qc_moves_command.specs.declared.answer.Figures.{Figures}
use Rattle.qc_moves_command.specs.declared.answer.MovesAnswer.{MovesAnswer}
use Rattle.qc_moves_command.specs.declared.answer.MovesAnswer.TheVariants as answer

-- how many moves lead from one plan to the other, how many containers have each class, and what the plans hold besides
abbrev pub figures_of : BayPlans → ChangesView → Figures
figures_of plans c = record {
  moves = length c.rows;
  discharged = c.counts.discharged;
  loaded = c.counts.loaded;
  restowed = c.counts.restowed;
  lifted = c.counts.lifted;
  staying = c.counts.staying;
  unnamed = plans.departure.unnamed;
  bundled = plans.arrival.bundled + plans.departure.bundled;
  other = plans.arrival.other + plans.departure.other;
}

-- nine lines, a name and a number each
abbrev pub figures_text : Figures → List ℕ
figures_text told =
    codes "moves " ++ decimal told.moves ++ codes "\ndischarged " ++ decimal told.discharged
    ++ codes "\nloaded " ++ decimal told.loaded ++ codes "\nrestowed " ++ decimal told.restowed
    ++ codes "\nlifted " ++ decimal told.lifted ++ codes "\nstaying " ++ decimal told.staying
    ++ codes "\nunnamed " ++ decimal told.unnamed ++ codes "\nbundled " ++ decimal told.bundled
    ++ codes "\nother " ++ decimal told.other ++ codes "\n"

abbrev pub moves_text : MovesAnswer → List ℕ
moves_text answer.WriteFault = codes "WriteFault\n"
moves_text (answer.Listed told) = figures_text told

abbrev pub moves_status : MovesAnswer → Status
moves_status answer.WriteFault = status.WriteFault
moves_status (answer.Listed told) = status.Done
