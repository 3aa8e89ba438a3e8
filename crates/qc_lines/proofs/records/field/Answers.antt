use Rattle.csv.specs.Records.{fields_of}
use Rattle.qc_lines.proofs.FieldFacts.{field-none, field-some}
use Rattle.qc_lines.proofs.records.field.Goals as goal

pub returns-in-Some : goal.returns-in-Some
returns-in-Some c = field-some (fields_of c.args.fields.now) c.args.at c.in-Some.field.now c.in-Some.ensures.value

pub returns-in-None : goal.returns-in-None
returns-in-None c = field-none (fields_of c.args.fields.now) c.args.at c.in-None.ensures.value
