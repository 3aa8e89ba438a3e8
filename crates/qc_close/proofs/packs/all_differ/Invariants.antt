use Rattle.std.proofs.Common.{◌≡◌, drop}
use Rattle.qc_model.specs.Packs.{all_differ}
use Rattle.qc_close.proofs.packs.all_differ.Given as goal

abbrev pub invariant-loop-index : goal.invariant-loop-index
invariant-loop-index l = all_differ l.tasks ≡ all_differ (drop l.index l.tasks)
