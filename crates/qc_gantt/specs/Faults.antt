-- public: the texts of what is wrong with a record.
use Rattle.std.specs.Prelude.{ℕ, List, codes}
use Rattle.qc_gantt.specs.declared.fault.PlanKind.{PlanKind}
use Rattle.qc_gantt.specs.declared.fault.PlanKind.TheVariants as kind

abbrev pub kind_text : PlanKind → List ℕ
kind_text kind.Header = codes "Header"
kind_text kind.Fields = codes "Fields"
kind_text kind.UnknownTask = codes "UnknownTask"
kind_text kind.UnknownCrane = codes "UnknownCrane"
kind_text kind.Number = codes "Number"
kind_text kind.EndWrong = codes "EndWrong"
kind_text kind.TaskTwice = codes "TaskTwice"
kind_text kind.TaskMissing = codes "TaskMissing"
