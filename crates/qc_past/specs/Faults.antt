-- public: the texts of what is wrong with a record.
use Rattle.std.specs.Prelude.{ℕ, List, codes}
use Rattle.qc_past.specs.declared.fault.PastKind.{PastKind}
use Rattle.qc_past.specs.declared.fault.PastKind.TheVariants as kind

abbrev pub kind_text : PastKind → List ℕ
kind_text kind.Header = codes "Header"
kind_text kind.TooMany = codes "TooMany"
kind_text kind.Fields = codes "Fields"
kind_text kind.Call = codes "Call"
kind_text kind.Phase = codes "Phase"
kind_text kind.Number = codes "Number"
kind_text kind.TooLong = codes "TooLong"
kind_text kind.CallFull = codes "CallFull"
kind_text kind.CallTwice = codes "CallTwice"
kind_text kind.Empty = codes "Empty"
