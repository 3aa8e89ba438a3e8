use Rattle.std.proofs.Common.{◌≡◌, ℕ, ◌<◌, Bool, true, false, Option, None, Some, IfSome, if◌then◌else◌, nat_lt, refl, sym, ap, ap₂, subst, ◌∙◌}
use Rattle.std.proofs.lemmas.Bool.{cond-true, lt-ltb}
use Rattle.qc_dist.specs.Added.{excess}
use Rattle.qc_model.specs.declared.turn.Turn.{Turn}
use Rattle.qc_model.specs.Instance.{InstanceView, ticks_of}
use Rattle.qc_model.specs.Nodes.{crane_ticks, is_sooner, pair_ticks, sooner_ticks, upward_ticks}
use Rattle.qc_starts.proofs.arcs.added.Goals as goal

-- what asks for more than the ticks of a task is the same beside its order
longer : (sooner : Bool) (ticks : ℕ) (asked : Option ℕ) → IfSome asked (λ more. ticks < more)
    → asked ≡ excess (if sooner then Some ticks else None) asked
longer true ticks None _ = refl
longer false ticks None _ = refl
longer false ticks (Some more) _ = refl
longer true ticks (Some more) less = sym (cond-true (nat_lt ticks more) _ _ (lt-ltb ticks more less))

pub returns-in-OneWay-clause-ticks : goal.returns-in-OneWay-clause-ticks
returns-in-OneWay-clause-ticks c =
    let inst = c.args.decisions.now.inst in
    let ds = c.args.decisions.now.decisions in
    let sooner = is_sooner inst ds c.args.i c.args.j in
    let same = c.instance-in-OneWay.ensures.same in
    let asked = ap₂ (λ (v w : Option ℕ). crane_ticks inst sooner c.args.i c.args.j v w) c.requires.of_first c.requires.of_second
    ∙ ap (λ (turn : Turn). pair_ticks turn inst sooner c.args.i c.args.v c.args.j c.args.w)
    (sym (ap (λ (i : InstanceView). i.turn) c.instance.ensures.same) ∙ sym c.turn.ensures ∙ c.in-OneWay.is) in
    longer sooner (ticks_of inst c.args.i) c.upward_ticks.result
    (subst (λ (i : InstanceView). IfSome c.upward_ticks.result (λ ticks. ticks_of i c.args.i < ticks)) same c.upward_ticks.ensures.longer)
    ∙ ap (excess (sooner_ticks inst ds c.args.i c.args.j))
    (c.upward_ticks.ensures.ticks ∙ ap (λ (i : InstanceView). upward_ticks i c.args.i c.args.v c.args.j c.args.w) same ∙ sym asked)
