use Rattle.std.proofs.Common.{◌∙◌, sym}
use Rattle.qc_num.proofs.DigitLemmas.{plain_parts, value_fits}
use Rattle.qc_num.proofs.digits.plain_number.Goals as goal

pub returns-then-is_plain-clause-small : goal.returns-then-is_plain-clause-small
returns-then-is_plain-clause-small c =
    let plain = plain_parts c.args.text.now c.args.most (sym c.is_plain.ensures ∙ c.if-is_plain.true) in
    rw c.value_of_digits.ensures.value (value_fits c.args.text.now c.args.most plain.digits plain.few)
