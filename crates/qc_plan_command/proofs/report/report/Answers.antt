use Rattle.std.proofs.Common.{◌≡◌, ◌∙◌}
use Rattle.qc_plan_command.specs.Reports.{infeasible_text, unplanned_text}
use Rattle.qc_plan_command.proofs.report.report.Goals as goal

pub returns-in-Planned : goal.returns-in-Planned
returns-in-Planned g c = rw c.in-Planned.is c.report_planned.ensures

pub returns-in-Unplanned : goal.returns-in-Unplanned
returns-in-Unplanned g c =
    let text : c.as_bytes.result.now ≡ unplanned_text c.in-Unplanned.bound c.in-Unplanned.branched =
    c.as_bytes.ensures.bytes ∙ c.unplanned_text.ensures in
    rw c.in-Unplanned.is (rw text at c.report_text-in-Unplanned.ensures)

pub returns-in-Infeasible : goal.returns-in-Infeasible
returns-in-Infeasible g c =
    let text : c.as_bytes-in-Infeasible.result.now ≡ infeasible_text c.in-Infeasible.branched =
    c.as_bytes-in-Infeasible.ensures.bytes ∙ c.infeasible_text.ensures in
    rw c.in-Infeasible.is (rw text at c.report_text-in-Infeasible.ensures)
