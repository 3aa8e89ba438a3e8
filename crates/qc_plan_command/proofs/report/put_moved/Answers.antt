use Rattle.std.proofs.Common.{◌≡◌, ◌∙◌, refl, subst}
use Rattle.qc_model.specs.Instance.{Valid}
use Rattle.qc_plan_command.specs.Reports.{planned_text}
use Rattle.qc_plan_command.proofs.LineLemmas.{head_cut, lines_behind}
use Rattle.qc_plan_command.proofs.report.put_moved.Goals as goal

pub returns-in_default : goal.returns-in_default
returns-in_default g c =
    let told = c.args.told in
    let text : c.as_bytes.result.now ≡ planned_text told = c.as_bytes.ensures.bytes ∙ c.planned_text.ensures in
    head_cut told (g.K.Sink.view c.args.out.now) (g.K.Sink.view c.put_all.new.sink) _
    _ refl (rw text at c.in_default.ensures.writes)

pub returns : goal.returns
returns g c =
    let told = c.args.told in
    let text : c.as_bytes.result.now ≡ planned_text told = c.as_bytes.ensures.bytes ∙ c.planned_text.ensures in
    lines_behind told (g.K.Sink.view c.args.out.now) (g.K.Sink.view c.put_all.new.sink)
    (g.K.Sink.view c.put_lines.new.out) c.put_lines.result (subst Valid c.inst.view_is c.inst.invariant)
    (rw text at c.in-Ok.ensures.writes) c.put_lines.ensures
