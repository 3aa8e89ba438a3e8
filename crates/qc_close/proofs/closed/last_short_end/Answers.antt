use Rattle.std.proofs.Common.{ℕ, Bool, subst}
use Rattle.std.proofs.Math.Path.{fun_ext}
use Rattle.qc_model.specs.Barred.{barred_frame}
use Rattle.qc_close.specs.Lasts.{IsLast}
use Rattle.qc_close.proofs.closed.last_short_end.Goals as goal

pub returns : goal.returns
returns c =
    subst (λ (p : ℕ → Bool). IsLast p c.args.limit c.last_short.result)
    (fun_ext (c.count_of.ensures c.args.cranes.now (barred_frame c.args.inst.now c.args.turn c.args.cranes.now) c.requires.left
    c.frames-frames.ensures.frames))
    c.last_short.ensures
