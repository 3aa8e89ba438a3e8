use Rattle.qc_moves_command.proofs.command.found_between.Goals as goal

pub returns-clause-between : goal.returns-clause-between
returns-clause-between c = record {
  are = c.in_ok-changes.ensures.moves;
  sums = c.in_ok-changes.ensures.sums;
  leads = c.in_ok-changes.ensures.leads;
  least = c.in_ok-changes.ensures.least;
  reads = c.in_ok-changes.ensures.reads;
}
