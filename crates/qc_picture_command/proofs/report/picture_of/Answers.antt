use Rattle.std.proofs.Common.{subst, sym}
use Rattle.qc_figures.specs.Views.{IsReady}
use Rattle.qc_picture_command.proofs.MotionLemmas.{ready, tells_picture}
use Rattle.qc_picture_command.proofs.report.picture_of.Goals as goal

pub write_picture-requires : goal.write_picture-requires
write_picture-requires c = subst IsReady (sym c.figured.ensures) (ready c.args.plan.now c.requires)

pub returns : goal.returns
returns c = tells_picture c.args.plan.now c.requires c.write_picture.result
