use Rattle.std.proofs.Common.{◌≡◌, ◌+◌, ◌<◌, ◌∙◌, ◌-ℤ◌, pos, to_z, of_z, w64, length, ap, rules, arith}
use Rattle.std.proofs.lemmas.Int.{ints, to_z-of_z}
use Rattle.std.specs.Prelude.{slice_index_or}
use Rattle.qc_model.specs.Instance.{InstanceView}
use Rattle.qc_rest.specs.Limits.{place_at, view_of}
use Rattle.qc_rest.proofs.PlacingLemmas.{top_last, top_next, top_range}
use Rattle.qc_rest.proofs.places.Outlook.top.Goals as goal

pub returns-then-k-crane_count : goal.returns-then-k-crane_count
returns-then-k-crane_count c =
    let r = c.upper-own.result in
    let last : c.args.k + 1 ≡ length c.args.self.now.journal.now.dispatch.inst.cranes =
    c.if-k-crane_count.true ∙ c.crane_count.ensures.count ∙ ap (λ (i : InstanceView). length i.cranes) c.instance-inst.ensures in
    rw (to_z-of_z w64 r (search rules)) (top_last (view_of c.args.self.now) c.args.k r last c.upper-own.ensures)

pub overflow_sub-tops : goal.overflow_sub-tops
overflow_sub-tops c =
    let count = c.crane_count.ensures.count ∙ ap (λ (i : InstanceView). length i.cranes) c.instance-inst.ensures in
    let more : c.args.k + 1 < length c.args.self.now.journal.now.dispatch.inst.cranes = omega (arith, c.if-k-crane_count.false, count, c.requires.crane) in
    let range = top_range c.requires.known c.requires.tops (c.args.k + 1) (omega arith) more in
    omega (arith, ints, range.0, range.1, c.from.ensures)

pub returns : goal.returns
returns c =
    let inst = c.args.self.now.journal.now.dispatch.inst in
    let k = c.args.k in
    let count = c.crane_count.ensures.count ∙ ap (λ (i : InstanceView). length i.cranes) c.instance-inst.ensures in
    let more : k + 1 < length inst.cranes = omega (arith, c.if-k-crane_count.false, count, c.requires.crane) in
    let above = place_at c.args.tops.now (k + 1) in
    let range = top_range c.requires.known c.requires.tops (k + 1) (omega arith) more in
    let gap : c.gap.result ≡ pos inst.gap = c.gap.ensures.gap ∙ ap (λ (i : InstanceView). pos i.gap) c.instance-inst.ensures in
    let read : to_z w64 (of_z w64 (to_z w64 (of_z w64 (slice_index_or c.args.tops.now (k + 1) (pos 0))) -ℤ to_z w64 (of_z w64 c.from.result))) ≡ above -ℤ pos inst.gap =
    omega (arith, ints, range.0, range.1, c.from.ensures, gap) in
    let own = c.upper-own.result in
    let r = c.lower_of.result in
    rw (to_z-of_z w64 r (search rules)) (top_next (view_of c.args.self.now) k own above r more c.upper-own.ensures
    (c.requires.tops.each_one (k + 1) (omega arith) more) (λ z. rw (to_z-of_z w64 own (search rules), read) at (c.lower_of.ensures.over z)))
