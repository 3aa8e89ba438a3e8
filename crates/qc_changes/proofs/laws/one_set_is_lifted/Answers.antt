use Rattle.std.proofs.Common.{◌≤◌, arith}
use Rattle.std.proofs.lemmas.List.Elements.{recursion_from_All}
use Rattle.qc_bayplan.specs.declared.plan.Container.{Container}
use Rattle.qc_changes.proofs.LiftLemmas.{one_lifted, some_lifted}
use Rattle.qc_changes.proofs.laws.one_set_is_lifted.Goals as goal

pub returns : goal.returns
returns c = record {
  some = λ first second plan. some_lifted first second 100 (recursion_from_All (λ (x : Container). x.cell.tier ≤ 100) first (λ k d lt. omega (arith, (plan.each k d lt).cell.tier_high)));
  one = one_lifted;
}
