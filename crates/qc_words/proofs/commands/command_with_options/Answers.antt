use Rattle.std.proofs.Common.{◌≡◌, ◌∙◌, ap₂, map, rules, get_or, []}
use Rattle.clap.specs.Words.{rule_of, with_rule}
use Rattle.qc_words.specs.Commands.{operand, option}
use Rattle.qc_words.proofs.ReadLemmas.{rule_more}
use Rattle.qc_words.proofs.commands.command_with_options.Goals as goal

pub loop-operand-preserved : goal.loop-operand-preserved
loop-operand-preserved c =
    let i = c.loop-operand.operand-index in
    let here = get_or c.args.operands.now i (record { ref_ptr = (0, 0); now = [] }) in
    let told : rule_of c.required.result ≡ operand here.now = search rules in
    c.in_ok-command.ensures.shape (search rules)
    ∙ ap₂ with_rule c.loop-operand.invariant told
    ∙ rule_more c.args.name.now [] operand c.args.operands.now i _ c.loop-operand-test.true

pub loop-option-preserved : goal.loop-option-preserved
loop-option-preserved c =
    let i = c.loop-option.option-index in
    let here = get_or c.args.options.now i (record { ref_ptr = (0, 0); now = [] }) in
    let told : rule_of c.long.result ≡ option here.now = search rules in
    c.in_ok-command-2.ensures.shape (search rules)
    ∙ ap₂ with_rule c.loop-option.invariant told
    ∙ rule_more c.args.name.now (map operand (map (λ o. o.now) c.args.operands.now)) option c.args.options.now i _ c.loop-option-test.true
