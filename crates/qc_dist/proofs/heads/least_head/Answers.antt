use Rattle.std.proofs.Common.{ℕ, min, sym, ◌∙◌, ap, arith}
use Rattle.std.specs.Option.{option_map_or}
use Rattle.qc_model.specs.Nodes.{free, reaches}
use Rattle.qc_dist.proofs.Ranges.{least_step, least_skip}
use Rattle.qc_dist.proofs.heads.least_head.Goals.{then-in_reach, else-in_reach}
use Rattle.qc_dist.proofs.heads.least_head.Goals as goal

pub loop-k-preserved : goal.loop-k-preserved
loop-k-preserved c =
    let f = free c.args.inst.now c.args.j in
    let p = reaches c.args.inst.now c.args.j in
    let k = c.loop-k.k in
    let before = c.loop-k.invariant in
    elim c.if-in_reach.branch [
      | then-in_reach w ↦
          let least = λ (t : ℕ). option_map_or (λ m. min m t) c.loop-k.least t in
          let is = w.lesser.ensures.least ∙ ap least w.head.ensures.ticks in
          let reached = sym c.in_reach.ensures ∙ w.if-in_reach.true in
          record {
            so_far = w.least-is ∙ least_step f p k c.loop-k.least w.lesser.result before.so_far reached is;
            bound = rw w.least-is (omega (arith, w.lesser.ensures.bound, w.head.ensures.bound));
          }
      | else-in_reach w ↦ record {
        so_far =
            w.least-is
            ∙ least_skip f p k c.loop-k.least before.so_far (sym c.in_reach.ensures ∙ w.if-in_reach.false);
        bound = rw w.least-is before.bound;
      }
    ]
