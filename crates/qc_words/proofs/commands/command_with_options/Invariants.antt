use Rattle.std.proofs.Common.{◌≡◌, ◌++◌, map, take}
use Rattle.clap.specs.Words.{app_of}
use Rattle.qc_words.specs.Commands.{operand, option, with_rules}
use Rattle.qc_words.proofs.commands.command_with_options.Given as goal

abbrev pub invariant-loop-operand : goal.invariant-loop-operand
invariant-loop-operand l =
    app_of l.command ≡ with_rules l.name (map operand (map (λ operand. operand.now) (take l.operand-index l.operands)))

abbrev pub invariant-loop-option : goal.invariant-loop-option
invariant-loop-option l =
    app_of l.command ≡ with_rules l.name (map operand (map (λ operand. operand.now) l.operands)
    ++ map option (map (λ option. option.now) (take l.option-index l.options)))
