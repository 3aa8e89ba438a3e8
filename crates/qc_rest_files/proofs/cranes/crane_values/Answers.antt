use Rattle.std.proofs.Common.{ap, map, ◌∙◌, ℕ, inl, inr, arith, subst}
use Rattle.std.specs.Prelude.{IsTrue}
use Rattle.std.proofs.lemmas.Bool.{cases_lt}
use Rattle.std.proofs.lemmas.List.{take_all}
use Rattle.toml.specs.View.{view}
use Rattle.qc_model.specs.Instance.{crane, no_crane}
use Rattle.qc_model.specs.Names.{is_name}
use Rattle.qc_rest_files.specs.ShipTable.{crane_value}
use Rattle.qc_rest_files.proofs.ValueLemmas.{value_more}
use Rattle.qc_rest_files.proofs.cranes.crane_values.Goals as goal

pub loop-k-preserved : goal.loop-k-preserved
loop-k-preserved c = (
  ap (map view) c.in_ok-push.ensures.items
      ∙ value_more (crane_value c.args.places.now) c.args.inst.now.cranes c.loop-k.k no_crane (omega arith) c.loop-k.values.items _ c.loop-k.invariant.0 c.in_ok-crane_value.ensures.value,
  λ i lt. elim (cases_lt i c.loop-k.k) [
    | inl under ↦ c.loop-k.invariant.1 i under
    | inr past ↦ subst (λ (n : ℕ). IsTrue (is_name (crane c.args.inst.now n).name)) (omega arith) c.in_ok-crane_value.ensures.name
  ],
)

pub returns-clause-values : goal.returns-clause-values
returns-clause-values c = c.loop-k.invariant.0 ∙ ap (map (crane_value c.args.places.now)) (take_all c.loop-k.k c.args.inst.now.cranes (omega (arith, c.crane_count-k-end.ensures.count)))

pub returns-clause-names : goal.returns-clause-names
returns-clause-names c = λ k lt. c.loop-k.invariant.1 k (omega (arith, c.crane_count-k-end.ensures.count, lt))
