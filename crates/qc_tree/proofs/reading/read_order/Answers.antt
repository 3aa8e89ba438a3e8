use Rattle.std.proofs.Common.{[], ◌∷◌, arith, refl}
use Rattle.qc_tree.specs.Lines.{fields}
use Rattle.qc_tree.proofs.OneSpelling.{field_is, order_only}
use Rattle.qc_tree.proofs.reading.read_order.Goals as goal

pub returns-in_default-read_last : goal.returns-in_default-read_last
returns-in_default-read_last c = λ line list h.
    let only = order_only c.args.rest.now list line h in
    let one = field_is c.args.rest.now 4 c.in-Some.first only.0 c.in-Some.rest.now (fields (only.1 ∷ [])) (omega arith)
    c.in-Some.ensures only.4.small refl only.4.same in
    c.in_default-read_last.ensures only.1 (record { small = only.5; same = one.1; ends = tt })
