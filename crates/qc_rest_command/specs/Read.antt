-- inner: what a call says that reads a plan and follows the log of its work.
use Rattle.std.specs.Prelude.{Option, Result}
use Rattle.qc_io.specs.Outside.{Files, View}
use Rattle.qc_run.specs.declared.refusal.Stop.{Stop}
use Rattle.qc_run.specs.Account.{IsReading}
use Rattle.qc_run.specs.Inputs.{Names}
use Rattle.qc_rest_command.specs.declared.reading.Reading.{Reading}
use Rattle.qc_rest_command.specs.declared.reading.Reading.TheVariants as reading
use Rattle.qc_rest_command.specs.Worked.{IsBroken, IsWorked, StopsRest}

abbrev pub IsRead : Names → Option Files → Reading → Type 0
IsRead names files (reading.Broken told) = IsBroken names files told
IsRead names files (reading.Worked worked) = IsWorked names files worked

abbrev pub IsReadingOf : Names → View → View → Result Reading Stop → Type 0
IsReadingOf names before after =
    IsReading (IsRead names before.files) (StopsRest names before after) names before after
