use Rattle.std.proofs.Common.{◌∙◌}
use Rattle.qc_odds.proofs.KeptLemmas.{kept_made}
use Rattle.qc_odds.proofs.course.Course.open.Goals as goal

pub fill-requires : goal.fill-requires
fill-requires c = rw c.slots.ensures c.requires

pub invariant_of-result : goal.invariant_of-result
invariant_of-result c =
    let lists = c.in-Ok.ensures in
    kept_made c.args.inst.now c.in-Ok-copy.kept c.args.plan.now c.fill.new.self.slots.items c.fill.new.self.starts.items c.in-Ok-copy.ensures
    (lists.slots ∙ c.slots.ensures) c.requires c.fill.new.self.marks.items (rw c.slots.ensures at lists.marks)
    c.fill.new.self.turns.items (rw c.slots.ensures at lists.turns) lists.starts
