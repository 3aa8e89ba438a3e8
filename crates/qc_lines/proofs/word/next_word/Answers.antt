use Rattle.qc_lines.specs.Lines.{is_space}
use Rattle.qc_lines.proofs.LineLemmas.{after_found, after_missing, before_found, before_missing}
use Rattle.qc_lines.proofs.word.next_word.Goals as goal

pub returns-in-Some-clause-word : goal.returns-in-Some-clause-word
returns-in-Some-clause-word c = before_found is_space c.args.text.now c.in-Some.at c.in-Some.ensures

pub returns-in-Some-clause-rest : goal.returns-in-Some-clause-rest
returns-in-Some-clause-rest c = after_found is_space c.args.text.now c.in-Some.at c.in-Some.ensures

pub returns-in-None-clause-word : goal.returns-in-None-clause-word
returns-in-None-clause-word c = before_missing is_space c.args.text.now c.in-None.ensures

pub returns-in-None-clause-rest : goal.returns-in-None-clause-rest
returns-in-None-clause-rest c = after_missing is_space c.args.text.now c.in-None.ensures
