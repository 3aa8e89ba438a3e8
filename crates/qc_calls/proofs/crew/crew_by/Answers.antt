use Rattle.std.proofs.Common.{◌≡◌, ℕ, ◌+◌, ◌<◌, inl, inr, List, length, set, Option, None, Some, get_or-set_other, ap, sym, ◌∙◌, arith}
use Rattle.std.proofs.lemmas.Bool.{cases_lt}
use Rattle.std.proofs.lemmas.Grind.{get_or-set_at}
use Rattle.std.proofs.lemmas.List.{length-set}
use Rattle.std.proofs.lemmas.List.FromFn.{fill_by_all}
use Rattle.qc_model.specs.declared.decision.Decision.{Decision}
use Rattle.qc_model.specs.Assignments.{crane_in}
use Rattle.qc_model.specs.Instance.{InstanceView}
use Rattle.qc_model.specs.Nodes.{assigned}
use Rattle.qc_close.specs.Crews.{CrewView}
use Rattle.qc_calls.proofs.crew.crew_by.Goals as goal
use Rattle.qc_calls.proofs.crew.crew_by.Goals.{in-Some, in_default}

-- the task that comes next has its crane too
next_put : (cranes : List (Option ℕ)) (ds : List Decision) (t k : ℕ) → t < length cranes → assigned ds t ≡ Some k
    → ((j : ℕ) → j < t → crane_in cranes j ≡ assigned ds j)
    → (j : ℕ) → j < t + 1 → crane_in (set cranes t (Some k)) j ≡ assigned ds j
next_put cranes ds t k low is done j under = elim (cases_lt j t) [
  | inl less ↦ get_or-set_other cranes t j (Some k) None (λ e. omega (arith, less, e)) ∙ done j less
  | inr more ↦
      let same : j ≡ t = omega (arith, under, more) in
      get_or-set_at cranes t j (Some k) None same low ∙ sym is ∙ ap (assigned ds) (sym same)
]

-- it has none
next_none : (cranes : List (Option ℕ)) (ds : List Decision) (t : ℕ) → assigned ds t ≡ None → crane_in cranes t ≡ None
    → ((j : ℕ) → j < t → crane_in cranes j ≡ assigned ds j)
    → (j : ℕ) → j < t + 1 → crane_in cranes j ≡ assigned ds j
next_none cranes ds t is none done j under = elim (cases_lt j t) [
  | inl less ↦ done j less
  | inr more ↦
      let same : j ≡ t = omega (arith, under, more) in
      ap (crane_in cranes) same ∙ none ∙ sym is ∙ ap (assigned ds) (sym same)
]

pub loop-task-preserved : goal.loop-task-preserved
loop-task-preserved c =
    let ds = c.args.starts.now.decisions in
    let task = c.loop-task.task in
    let cranes = c.loop-task.crew.cranes in
    let inv = c.loop-task.invariant in
    let count = ap (λ (i : InstanceView). length i.tasks) c.instance-2.ensures.same in
    let low : task < length cranes =
    omega (arith, inv.count, count, c.task_count-task-end.ensures.count, c.loop-task-test.true) in
    elim c.match-crane_of.branch [
      | in-Some w ↦
          let crane = w.in-Some.crane in
          let e = w.crew-is ∙ w.put.ensures in
          record {
            same = ap (λ (v : CrewView). v.inst) e ∙ inv.same;
            turn = ap (λ (v : CrewView). v.turn) e ∙ inv.turn;
            count = ap (λ (v : CrewView). length v.cranes) e ∙ length-set cranes task (Some crane) ∙ inv.count;
            done = λ j under. ap (λ (v : CrewView). crane_in v.cranes j) e
                ∙ next_put cranes ds task crane low (sym c.crane_of.ensures.crane ∙ w.in-Some.is) inv.done j under;
            left = λ j after. ap (λ (v : CrewView). crane_in v.cranes j) e
                ∙ get_or-set_other cranes task j (Some crane) None (λ same. omega (arith, after, same))
                ∙ inv.left j (omega (arith, after));
          }
      | in_default w ↦
          let e = w.crew-is in
          record {
            same = ap (λ (v : CrewView). v.inst) e ∙ inv.same;
            turn = ap (λ (v : CrewView). v.turn) e ∙ inv.turn;
            count = ap (λ (v : CrewView). length v.cranes) e ∙ inv.count;
            done = λ j under. ap (λ (v : CrewView). crane_in v.cranes j) e
                ∙ next_none cranes ds task (sym c.crane_of.ensures.crane ∙ w.in_default.is) (inv.left task (omega arith)) inv.done j under;
            left = λ j after. ap (λ (v : CrewView). crane_in v.cranes j) e ∙ inv.left j (omega (arith, after));
          }
    ]

pub returns : goal.returns
returns c =
    let node = c.args.starts.now in
    let inv = c.loop-task.invariant in
    let crew = c.loop-task.crew in
    let count = ap (λ (i : InstanceView). length i.tasks) c.instance-2.ensures.same in
    let cranes = fill_by_all (assigned node.decisions) c.loop-task.crew.cranes (length node.inst.tasks) None inv.count
    (λ j low. inv.done j (omega (arith, low, count, c.task_count-task-end.ensures.count, c.loop-task-test.false))) in
    ap {B = CrewView} (λ i. record { inst = i; turn = c.loop-task.crew.turn; cranes = c.loop-task.crew.cranes }) inv.same
    ∙ ap {B = CrewView} (λ t. record { inst = node.inst; turn = t; cranes = c.loop-task.crew.cranes }) inv.turn
    ∙ ap {B = CrewView} (λ ks. record { inst = node.inst; turn = c.args.turn; cranes = ks }) cranes
