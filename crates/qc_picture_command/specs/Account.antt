-- public: the account of the commands that tell of a plan by its waypoints: what their answers tell of the plan.
use Rattle.std.specs.Prelude.{ℕ, List}
use Rattle.qc_run.specs.Account.{Reader, texts}
use Rattle.qc_run.specs.Broken.{TellsRule}
use Rattle.qc_sheet_command.specs.declared.load.Load.{Load}
use Rattle.qc_sheet_command.specs.Due.{load_due}
use Rattle.qc_picture_command.specs.declared.answer.Printed.{Printed}
use Rattle.qc_picture_command.specs.declared.answer.Printed.TheVariants as printed
use Rattle.qc_picture_command.specs.declared.answer.Print.{Print}
use Rattle.qc_picture_command.specs.declared.answer.Print.TheVariants.{Figures, Picture}
use Rattle.qc_picture_command.specs.Planned.{Tells, printed_status, printed_text}

-- what is told of a plan that breaks a rule other than that of one way, and a text that tells of it where it is feasible
abbrev pub TellsPrinted : (Load → List ℕ → Type 0) → Load → Printed → Type 0
TellsPrinted tells load (printed.Broken told) = TellsRule load.cargo.inst load.sched told
TellsPrinted tells load (printed.Text text) = tells load text

abbrev pub printer : Print → Reader Load Printed
printer what =
    record { due = load_due; tells = TellsPrinted (Tells what); report = texts printed_text printed_status }

abbrev pub report_reader : Reader Load Printed
report_reader = printer Figures

abbrev pub picture_reader : Reader Load Printed
picture_reader = printer Picture
