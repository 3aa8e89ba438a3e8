-- public: the texts of what is wrong with a line of a log.
use Rattle.std.specs.Prelude.{ℕ, List, codes}
use Rattle.qc_dispatch.specs.declared.fault.DispatchKind.{DispatchKind}
use Rattle.qc_dispatch.specs.declared.fault.DispatchKind.TheVariants as kind

abbrev pub kind_text : DispatchKind → List ℕ
kind_text kind.TooMany = codes "TooMany"
kind_text kind.Line = codes "Line"
kind_text kind.UnknownTask = codes "UnknownTask"
kind_text kind.NotRunning = codes "NotRunning"
