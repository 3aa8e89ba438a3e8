use Rattle.std.proofs.Common.{◌≡◌, ◌+◌, ◌-◌, ◌<◌, ◌∙◌, ◌+ℤ◌, pos, to_z, of_z, w64, ap, rules, arith}
use Rattle.std.proofs.lemmas.Int.{ints, to_z-of_z}
use Rattle.std.specs.Prelude.{slice_index_or}
use Rattle.qc_model.specs.Instance.{InstanceView}
use Rattle.qc_rest.specs.Limits.{place_at, view_of}
use Rattle.qc_rest.proofs.PlacingLemmas.{placed_first, placed_next}
use Rattle.qc_rest.proofs.places.Outlook.place.Goals as goal

pub returns-then-k-eq0 : goal.returns-then-k-eq0
returns-then-k-eq0 c =
    let own = c.lower-own.result in
    rw (to_z-of_z w64 own (search rules)) (placed_first (view_of c.args.self.now) (place_at c.args.tops.now) (place_at c.args.places.now) c.args.k own
    c.lower-own.ensures.lower c.lower-own.ensures.near c.if-k-eq0.true)

pub returns : goal.returns
returns c =
    let places = place_at c.args.places.now in
    let k = c.args.k in
    let inst = c.args.self.now.journal.now.dispatch.inst in
    let valid = c.requires.known.known.valid in
    let own = c.lower-own.result in
    let after = c.higher_of.result in
    let low : k - 1 < k = omega (arith, c.if-k-eq0.false) in
    let next : k - 1 + 1 ≡ k = omega (arith, c.if-k-eq0.false) in
    let near = c.requires.below (k - 1) low in
    let gap : c.gap.result ≡ pos inst.gap = c.gap.ensures.gap ∙ ap (λ (i : InstanceView). pos i.gap) c.instance.ensures in
    let read : to_z w64 (of_z w64 (to_z w64 (of_z w64 (slice_index_or c.args.places.now (k - 1) (pos 0))) +ℤ to_z w64 (of_z w64 c.from-gap.result))) ≡ places (k - 1) +ℤ pos inst.gap =
    omega (arith, ints, near.low, near.high, c.from-gap.ensures, gap) in
    rw (to_z-of_z w64 after (search rules)) (placed_next (view_of c.args.self.now) (place_at c.args.tops.now) places (k - 1) k own after
    valid c.lower-own.ensures.lower c.lower-own.ensures.near next near (λ z. rw (to_z-of_z w64 own (search rules), read) at (c.higher_of.ensures z)))
