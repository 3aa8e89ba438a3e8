-- public: what is told of a run beside its report.
use Rattle.std.specs.Prelude.{Option, None, Some}
use Rattle.qc_run.specs.declared.ended.Cause.{Cause}
use Rattle.qc_run.specs.declared.ended.Cause.TheVariants as cause
use Rattle.qc_run.specs.declared.refusal.Stop.{Stop}
use Rattle.qc_run.specs.declared.refusal.Stop.TheVariants as stop

-- of a stop its refusal
abbrev pub cause_of : Stop → Option Cause
cause_of (stop.Refused why) = Some (cause.Refused why)
cause_of stop.OutOfMemory = None
