use Rattle.std.proofs.Common.{◌≡◌, ◌<◌, length, get_or}
use Rattle.std.specs.List.{filter}
use Rattle.qc_past.specs.Past.{no_past}
use Rattle.qc_odds.specs.Kinds.{is_kind}
use Rattle.qc_odds.proofs.pool.nth_of.Given as goal

-- what is sought stands at the place that is left among those to come
abbrev pub invariant-loop-past : goal.invariant-loop-past
invariant-loop-past l = record {
  found : get_or (filter (is_kind l.kind l.task) l.tasks) l.place no_past ≡ get_or (filter (is_kind l.kind l.task) l.rest) l.left no_past;
  inside : l.left < length (filter (is_kind l.kind l.task) l.rest);
}

abbrev pub decreases-loop-past : goal.decreases-loop-past
decreases-loop-past l = length l.rest
