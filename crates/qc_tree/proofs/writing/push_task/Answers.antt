use Rattle.std.proofs.Common.{◌≡◌, ◌++◌, ap, arith, length, ◌∙◌, lit≤, decimal}
use Rattle.std.proofs.lemmas.List.{length-append}
use Rattle.std.proofs.lemmas.Fmt.{length-decimal-le}
use Rattle.qc_tree.proofs.writing.push_task.Goals as goal

pub returns-clause-length : goal.returns-clause-length
returns-clause-length c =
    let text : c.push_number.new.self ≡ c.push.new.self ++ decimal c.args.task =
    c.push_number.ensures.text ∙ ap (λ n. c.push.new.self ++ decimal n) c.from.ensures in
    let few = length-decimal-le 4 c.args.task (lit≤ tt) c.requires.in_range (omega (arith, c.requires.in_range)) in
    omega (arith, few, ap length text, length-append c.push.new.self (decimal c.args.task), c.push.ensures.length)
