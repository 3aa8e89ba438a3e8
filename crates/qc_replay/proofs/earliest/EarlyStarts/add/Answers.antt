use Rattle.std.proofs.Common.{arith, subst, sym}
use Rattle.qc_dist.specs.Node.{IsOpen}
use Rattle.qc_model.specs.Instance.{InstanceView}
use Rattle.qc_starts.proofs.DecidedLemmas.{few_made}
use Rattle.qc_replay.proofs.EarlyFacts.{early_past, ended_none, fits_of, none_more}
use Rattle.qc_replay.proofs.earliest.EarlyStarts.add.Goals as goal

pub overflow_add-self : goal.overflow_add-self
overflow_add-self c =
    let inst = c.args.node.now.inst in
    let ds = c.args.node.now.decisions in
    omega (arith, c.requires.are.few, few_made inst ds c.instance-inst.ensures.valid (fits_of inst ds c.requires.were_open))

pub returns-then-are_none : goal.returns-then-are_none
returns-then-are_none c =
    let inst = c.args.node.now.inst in
    let ds = c.args.node.now.decisions in
    let now = c.args.self.now in
    early_past inst ds now c.args.decision c.requires.are
    (none_more inst ds c.args.decision c.requires.open (ended_none inst ds now c.requires.are c.if-are_none.ensures))

pub is_reached-requires : goal.is_reached-requires
is_reached-requires c = record {
  «open» = (
    c.args.node.now.decisions,
    subst (λ (i : InstanceView). IsOpen i c.args.node.now.decisions c.args.decision) (sym c.instance-inst.ensures.same)
        c.requires.open,
  );
}
