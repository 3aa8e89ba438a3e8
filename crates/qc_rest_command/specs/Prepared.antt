-- inner: what is known before any file is begun.
use Rattle.std.specs.Prelude.{◌≡◌}
use Rattle.qc_dispatch.specs.Following.{journal_of}
use Rattle.qc_model.specs.Judge.{IsJudgeable}
use Rattle.qc_rest.specs.declared.rest.RestError.{RestError}
use Rattle.qc_rest.specs.Whole.{IsNoRest, IsRestBy}
use Rattle.qc_run.specs.declared.no_rest.NoRest.{NoRest}
use Rattle.qc_rest_command.specs.declared.answer.Renewing.TheVariants as renewing
use Rattle.qc_rest_command.specs.declared.answer.Worked.{Worked}
use Rattle.qc_rest_command.specs.declared.command.Prepared.{Prepared}
use Rattle.qc_rest_command.specs.declared.command.Unprepared.{Unprepared}
use Rattle.qc_rest_command.specs.declared.command.Unprepared.TheVariants as unprepared
use Rattle.qc_rest_command.specs.Account.{IsNewShip}
use Rattle.qc_rest_command.specs.ReadBack.{new_ship}
use Rattle.qc_rest_command.specs.Texts.{CanBeTold, TellsNoRest}

-- why what is left can't be planned is told
pub record IsNoRestOf (worked : Worked) (told : NoRest) : Type 0 where
  pub error : RestError
  pub none : IsNoRest (journal_of worked.followed) error
  pub tells : TellsNoRest worked.followed.dispatch.inst error told

abbrev pub IsUnprepared : Worked → Unprepared → Type 0
IsUnprepared worked (unprepared.NoRest told) = IsNoRestOf worked told
IsUnprepared worked unprepared.OutOfMemory = Unit {0}

-- this is what is left of the work, with the text of its ship file
pub record IsPrepared (worked : Worked) (p : Prepared) : Type 0 where
  pub same : p.told.worked ≡ worked
  pub rest : IsRestBy (journal_of p.told.worked.followed) p.told.rest
  pub ship : IsNewShip (new_ship p.told) p.text
  pub judgeable : IsJudgeable p.told.rest.instance p.told.rest.order
  pub inside : CanBeTold (renewing.Renewed p.told)
