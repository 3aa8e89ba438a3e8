use Rattle.std.proofs.Common.{◌∙◌}
use Rattle.qc_bayplan.proofs.ContainerLemmas.{all-free, cell-twice, id-twice}
use Rattle.qc_bayplan.proofs.container.claim.Goals as goal

pub returns-then-not-branch-clause-free : goal.returns-then-not-branch-clause-free
returns-then-not-branch-clause-free c =
    id-twice c.args.earlier.now c.args.container.now c.args.taken.now c.in_ok-id.id.items c.in_ok-take_id.field-0 c.requires
    (c.in_ok-id.ensures.items ∙ c.as_bytes.ensures.bytes) c.in_ok-take_id.ensures.new c.if-not-branch.true

pub returns-then-not-branch-2-clause-free : goal.returns-then-not-branch-2-clause-free
returns-then-not-branch-2-clause-free c =
    cell-twice c.args.earlier.now c.args.container.now c.args.taken.now c.in_ok-id.id.items c.in_ok-take_id.field-0 c.requires
    (c.in_ok-id.ensures.items ∙ c.as_bytes.ensures.bytes) c.in_ok-take_id.ensures.new c.if-not-branch.false
    _ c.in_ok-take_cell.field-0 c.in_ok-take_id.ensures.slots c.in_ok-take_cell.ensures.new c.if-not-branch-2.true

pub returns-clause-free : goal.returns-clause-free
returns-clause-free c =
    all-free c.args.earlier.now c.args.container.now c.args.taken.now c.in_ok-id.id.items c.in_ok-take_id.field-0 c.requires
    (c.in_ok-id.ensures.items ∙ c.as_bytes.ensures.bytes) c.in_ok-take_id.ensures.new c.if-not-branch.false
    _ c.in_ok-take_cell.field-0 c.in_ok-take_id.ensures.slots c.in_ok-take_cell.ensures.new c.if-not-branch-2.false
