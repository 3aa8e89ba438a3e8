use Rattle.std.proofs.Common.{append-nil, subst, ◌≡◌, IfOk, map}
use Rattle.clap.specs.Words.{app_of}
use Rattle.qc_words.specs.Commands.{operand, with_rules}
use Rattle.qc_words.proofs.commands.command_with.Goals as goal

pub returns : goal.returns
returns c =
    subst (λ rules. IfOk c.command_with_options.result (λ command. app_of command ≡ with_rules c.args.name.now rules))
    (append-nil (map operand (map (λ o. o.now) c.args.operands.now))) c.command_with_options.ensures
