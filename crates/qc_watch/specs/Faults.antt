-- public: the texts of what is wrong with a line of a log.
use Rattle.std.specs.Prelude.{ℕ, List, codes}
use Rattle.qc_watch.specs.declared.fault.WatchKind.{WatchKind}
use Rattle.qc_watch.specs.declared.fault.WatchKind.TheVariants as kind

abbrev pub kind_text : WatchKind → List ℕ
kind_text kind.TooMany = codes "TooMany"
kind_text kind.Line = codes "Line"
kind_text kind.UnknownCrane = codes "UnknownCrane"
kind_text kind.TimeBack = codes "TimeBack"
