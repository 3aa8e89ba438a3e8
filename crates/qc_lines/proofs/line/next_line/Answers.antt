use Rattle.qc_lines.proofs.LineLemmas.{line_found, line_missing}
use Rattle.qc_lines.proofs.line.next_line.Goals as goal

pub returns-in-Some-clause-lines : goal.returns-in-Some-clause-lines
returns-in-Some-clause-lines c = rw (c.split_at.ensures.front, c.split_at.ensures.back) (line_found c.args.text.now c.in-Some.at c.in-Some.ensures)

pub returns-in-None-clause-lines : goal.returns-in-None-clause-lines
returns-in-None-clause-lines c = line_missing c.args.text.now c.requires c.in-None.ensures
