use Rattle.std.proofs.Common.{◌≡◌, IfOk, subst, sym}
use Rattle.qc_model.specs.Instance.{Valid}
use Rattle.qc_figures.specs.Figures.{PlanView}
use Rattle.qc_figures.specs.FiguresText.{figures_text}
use Rattle.qc_figures.specs.Views.{IsReady}
use Rattle.qc_picture_command.proofs.MotionLemmas.{ready, tells_figures}
use Rattle.qc_picture_command.proofs.report.figures_of.Goals as goal

pub write_figures-requires : goal.write_figures-requires
write_figures-requires c = subst IsReady (sym c.figured.ensures) (ready c.args.plan.now c.requires)

pub returns : goal.returns
returns c =
    tells_figures c.args.plan.now c.requires c.write_figures.result
    (subst (λ (p : PlanView). IfOk c.write_figures.result (λ text. text ≡ figures_text p)) c.figured.ensures c.write_figures.ensures.text)
    (subst (λ (p : PlanView). IfOk c.write_figures.result (λ text. Valid p.inst)) c.figured.ensures c.write_figures.ensures.valid)
