-- inner: what an answer must keep where it is printed.
use Rattle.qc_model.specs.Judge.{IsJudgeable}
use Rattle.qc_odds_command.specs.declared.answer.Forecast.{Forecast}
use Rattle.qc_odds_command.specs.declared.answer.Forecasting.{Forecasting}
use Rattle.qc_odds_command.specs.declared.answer.Forecasting.TheVariants as forecasting
use Rattle.qc_odds_command.specs.Counted.{CanBeCounted, CanBeSummed}

pub record IsReady (told : Forecast) : Type 0 where
  pub judgeable : IsJudgeable told.job.inst told.job.sched
  pub counted : CanBeCounted told.odds.tally.ends
  pub summed : CanBeSummed told.job.inst told.odds

abbrev pub CanBeTold : Forecasting → Type 0
CanBeTold (forecasting.Broken told) = Unit {0}
CanBeTold (forecasting.Forecast told) = IsReady told
