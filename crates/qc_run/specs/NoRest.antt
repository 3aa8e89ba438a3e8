-- public: what is told where the rest of a plan can't be planned.
use Rattle.std.specs.Prelude.{ℕ, List, ◌++◌, codes}
use Rattle.qc_run.specs.declared.no_rest.NoRest.{NoRest}
use Rattle.qc_run.specs.declared.no_rest.NoRestKind.{NoRestKind}
use Rattle.qc_run.specs.declared.no_rest.NoRestKind.TheVariants as kind

abbrev pub no_rest_kind_text : NoRestKind → List ℕ
no_rest_kind_text kind.Over = codes "Over"
no_rest_kind_text kind.Ready = codes "Ready"
no_rest_kind_text kind.Bay = codes "Bay"

-- what is printed: why there is no rest, and the name of the task or of the crane
abbrev pub no_rest_text : NoRest → List ℕ
no_rest_text told = codes "NoRest " ++ no_rest_kind_text told.kind ++ codes " " ++ told.name ++ codes "\n"
