use Rattle.std.proofs.Common.{◌-◌, ◌∙◌, length, refl}
use Rattle.qc_model.specs.Closed.{bays_to}
use Rattle.qc_close.proofs.SumLemmas.{fewest_same, leg_fits, leg_is}
use Rattle.qc_close.proofs.sums.leg.Goals as goal

pub overflow_sub-result-2 : goal.overflow_sub-result-2
overflow_sub-result-2 c =
    leg_fits (λ f. bays_to c.args.way f c.args.to - bays_to c.args.way f c.args.from) c.args.frames.now c.args.cranes
    (length c.args.frames.now) c.most_legs.new.sums c.most_legs.ensures.sums c.requires.cranes
    refl

pub returns-clause-leg : goal.returns-clause-leg
returns-clause-leg c =
    leg_is (λ f. bays_to c.args.way f c.args.to - bays_to c.args.way f c.args.from) c.args.frames.now c.args.cranes
    (length c.args.frames.now) c.most_legs.new.sums c.most_legs.ensures.sums c.requires.cranes
    refl

pub returns-in-Some-clause-leg : goal.returns-in-Some-clause-leg
returns-in-Some-clause-leg c =
    c.times.ensures.bays
    ∙ fewest_same (λ f. bays_to c.args.way f c.args.to - bays_to c.args.way f c.args.from) c.in-Some.bays c.args.cranes
    c.args.frames.now c.in-Some.ensures.same c.requires.cranes
