use Rattle.std.proofs.Common.{◌+◌, ◌-◌, ◌*◌, ◌<◌, ◌≤◌}
use Rattle.qc_model.specs.declared.limits.TheConstants.{MOST_START}
use Rattle.qc_close.proofs.crew.Crew.open_end.Given as goal

abbrev pub invariant-doubling : goal.invariant-doubling
invariant-doubling l = record {
  behind : l.fn.closed < l.end;
  some : 1 ≤ l.step;
  near : l.step ≤ l.end;
  soon : l.end ≤ 2 * MOST_START + 1;
}

abbrev pub decreases-doubling : goal.decreases-doubling
decreases-doubling l = MOST_START + 1 - l.end
