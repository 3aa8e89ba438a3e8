-- public: the faults of a tree's file, as reports print them.
use Rattle.std.specs.Prelude.{ℕ, List, codes}
use Rattle.qc_tree.specs.declared.fault.TreeKind.{TreeKind}
use Rattle.qc_tree.specs.declared.fault.TreeKind.TheVariants as kind

abbrev pub kind_text : TreeKind → List ℕ
kind_text kind.LineTooLong = codes "LineTooLong"
kind_text kind.Cut = codes "Cut"
kind_text kind.Spelling = codes "Spelling"
kind_text kind.Place = codes "Place"
kind_text kind.UnknownTask = codes "UnknownTask"
kind_text kind.NotApart = codes "NotApart"
kind_text kind.NotConflict = codes "NotConflict"
kind_text kind.Decided = codes "Decided"
kind_text kind.Branchings = codes "Branchings"
kind_text kind.NotForced = codes "NotForced"
kind_text kind.NotCycle = codes "NotCycle"
kind_text kind.NotClash = codes "NotClash"
kind_text kind.InReach = codes "InReach"
kind_text kind.WorkShort = codes "WorkShort"
kind_text kind.Counts = codes "Counts"
kind_text kind.After = codes "After"
