use Rattle.std.proofs.Common.{◌≡◌, arith, ap, length, not, rules, sym, ◌∙◌, unwrap_or}
use Rattle.std.specs.Char.{is_ascii_digit}
use Rattle.std.specs.List.{position_or_len}
use Rattle.qc_tree.proofs.Digits.{front_digits, len_le, len_of}
use Rattle.qc_tree.proofs.fields.split_digits.Goals as goal

pub split_at-requires : goal.split_at-requires
split_at-requires c =
    let len : c.unwrap_or.result ≡ position_or_len (λ b. not (is_ascii_digit b)) c.args.text.now = c.unwrap_or.ensures ∙ ap (λ o. unwrap_or o (length c.args.text.now)) c.first_other.ensures ∙ len_of c.args.text.now in
    omega (arith, len_le c.args.text.now, len)

pub returns-clause-digits : goal.returns-clause-digits
returns-clause-digits c =
    let len : c.unwrap_or.result ≡ position_or_len (λ b. not (is_ascii_digit b)) c.args.text.now = c.unwrap_or.ensures ∙ ap (λ o. unwrap_or o (length c.args.text.now)) c.first_other.ensures ∙ len_of c.args.text.now in
    search (rules, front_digits _ c.args.text.now (sym len))

pub returns-clause-rest : goal.returns-clause-rest
returns-clause-rest c =
    let len : c.unwrap_or.result ≡ position_or_len (λ b. not (is_ascii_digit b)) c.args.text.now = c.unwrap_or.ensures ∙ ap (λ o. unwrap_or o (length c.args.text.now)) c.first_other.ensures ∙ len_of c.args.text.now in
    search (rules, front_digits _ c.args.text.now (sym len))
