use Rattle.std.proofs.Common.{◌≡◌, inr, ap, subst, ◌∙◌, arith}
use Rattle.qc_dist.specs.Node.{Node}
use Rattle.qc_model.specs.Nodes.{head}
use Rattle.qc_starts.specs.Place.{IsSoonest}
use Rattle.qc_starts.specs.Spread.{into_task}
use Rattle.qc_starts.proofs.SoonestLemmas.{into_all, into_inside, soonest_asks, soonest_fits, soonest_step}
use Rattle.qc_starts.proofs.spread.Spread.soonest.Goals as goal

pub loop-arc-init : goal.loop-arc-init
loop-arc-init c =
    let net = c.args.network.now in
    let are = c.into_iter-arc-iterator.ensures.into_iter_gives ∙ c.into_of-arc-items.ensures
    ∙ ap (into_task c.args.task) c.arena.ensures.arcs in
    let is : c.lead-start.result ≡ head net.inst net.decisions c.args.task =
    c.lead-start.ensures.ticks
    ∙ ap (λ (n : Node). head n.inst n.decisions c.args.task) c.decisions.ensures.node in
    record {
      can = tt;
      finite = tt;
      soonest = record {
        above = omega (arith, is);
        low = omega (arith, is, c.lead-start.ensures.bound);
        reason = omega (arith, is);
        least = λ others meets _. omega (arith, is, meets.heads c.args.task c.requires.task);
        met = λ arc in_ same. inr (into_all net c.args.task c.into_iter-arc-iterator.result are arc in_ same);
        inside = into_inside net c.args.task c.into_iter-arc-iterator.result are;
        bound = λ limit _. omega (arith, c.lead-start.ensures.bound);
      };
    }

pub wait_for-requires : goal.wait_for-requires
wait_for-requires c =
    let net = c.args.network.now in
    let cells = c.args.self.now.values.cells in
    let is = subst (IsSoonest net cells c.args.task c.loop-arc.start c.loop-arc.raiser) c.in-Some.ensures.steps
    c.loop-arc.invariant.soonest in
    let asks = soonest_asks net cells c.args.task c.loop-arc.start c.loop-arc.raiser c.next.new.self c.in-Some.arc
    c.arena.ensures.sound is in
    let fits = soonest_fits net cells c.args.task c.loop-arc.start c.loop-arc.raiser c.next.new.self c.in-Some.arc
    c.arena.ensures.sound is c.requires.soon in
    record { from = omega (arith, asks.from, c.requires.count); fits = omega (arith, fits) }

pub loop-arc-preserved : goal.loop-arc-preserved
loop-arc-preserved c =
    let net = c.args.network.now in
    let cells = c.args.self.now.values.cells in
    let is = subst (IsSoonest net cells c.args.task c.loop-arc.start c.loop-arc.raiser) c.in-Some.ensures.steps
    c.loop-arc.invariant.soonest in
    record {
      can = tt;
      finite = tt;
      soonest = soonest_step net cells c.args.task c.loop-arc.start c.loop-arc.raiser c.next.new.self c.in-Some.arc
          c.arena.ensures.sound is c.wait_for.new.start c.wait_for.new.raiser
          c.wait_for.ensures.start c.wait_for.ensures.raiser;
    }

pub returns : goal.returns
returns c =
    subst (IsSoonest c.args.network.now c.args.self.now.values.cells c.args.task c.loop-arc.start c.loop-arc.raiser)
    c.in-None.ensures.steps.0 c.loop-arc.invariant.soonest
