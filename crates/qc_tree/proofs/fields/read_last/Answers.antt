use Rattle.std.proofs.Common.{◌≡◌, ◌==◌, [], ap, false, length, sym, ◌∙◌}
use Rattle.qc_tree.proofs.OneSpelling.{field_is}
use Rattle.qc_tree.proofs.fields.read_last.Goals as goal

pub returns-else-is_empty : goal.returns-else-is_empty
returns-else-is_empty c = λ n field.
    let one = field_is c.args.text.now c.args.most c.in_ok-number.number n c.in_ok-number.rest.now [] c.requires.fit c.in_ok-number.ensures
    field.small tt field.same in
    let some : (length c.in_ok-number.rest.now == 0) ≡ false = sym c.is_empty.ensures ∙ c.if-is_empty.false in
    absurd (cc (sym (ap (λ r. length r == 0) one.1) ∙ some))
