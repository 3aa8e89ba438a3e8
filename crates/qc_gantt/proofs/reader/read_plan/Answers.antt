use Rattle.std.proofs.Common.{◌≡◌, ◌∙◌, ◌+◌, List, ap, length, map, rules, subst, take, Result}
use Rattle.csv.specs.Records.{fields_of}
use Rattle.qc_model.specs.declared.schedule.Slot.{Slot}
use Rattle.qc_lines.specs.Records.{records_of}
use Rattle.qc_gantt.specs.Plan.{plan_of}
use Rattle.qc_num.specs.Reading.{IsReading}
use Rattle.qc_gantt.specs.declared.fault.PlanFault.{PlanFault}
use Rattle.qc_gantt.proofs.PlanLemmas.{front_counts, reading_judgeable}
use Rattle.qc_gantt.proofs.reader.read_plan.Goals as goal

pub returns-clause-plan : goal.returns-clause-plan
returns-clause-plan c =
    let inst = c.args.inst.now in
    let front : map fields_of c.as_slice.result.now ≡ take (length inst.tasks + 2) (records_of c.args.text.now) = search rules in
    subst (λ (r : Result (List Slot) PlanFault). IsReading (λ (sched : List Slot). sched) r c.read_records.result)
    (ap (plan_of inst) front ∙ front_counts inst (records_of c.args.text.now)) c.read_records.ensures

pub returns-clause-judgeable : goal.returns-clause-judgeable
returns-clause-judgeable c = reading_judgeable c.args.inst.now (map fields_of c.as_slice.result.now) c.read_records.result c.read_records.ensures
