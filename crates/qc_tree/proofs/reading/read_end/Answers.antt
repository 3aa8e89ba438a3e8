use Rattle.std.proofs.Common.{◌≡◌, ◌∷◌, ◌++◌, ap, arith, drop, ◌∙◌, decimal}
use Rattle.qc_tree.specs.Lines.{bound_field}
use Rattle.qc_tree.proofs.OneSpelling.{end_only, ends_bound, field_is}
use Rattle.qc_tree.proofs.reading.read_end.Goals as goal

pub returns-in_default-read_bound : goal.returns-in_default-read_bound
returns-in_default-read_bound c = λ line list h.
    let only = end_only c.args.rest.now list line h in
    let tail : c.in-Some.rest.now ≡ 32 ∷ (decimal only.0 ++ bound_field only.1) = c.in-Some.ensures.cases.2 ∙ ap (drop 2) only.6 in
    let one = field_is c.in-Some.rest.now 7 c.in-Some-read_field.branched only.0 c.in-Some-read_field.rest.now (bound_field only.1) (omega arith)
    c.in-Some-read_field.ensures only.4 (ends_bound only.1) tail in
    c.in_default-read_bound.ensures only.1 only.5 one.1
