use Rattle.std.proofs.Common.{ap, get_or, length, sym, ◌∙◌, arith, rules}
use Rattle.std.proofs.lemmas.Int.{ints}
use Rattle.qc_model.specs.Instance.{InstanceView}
use Rattle.qc_close.proofs.BandLemmas.{below_place, closest_skips, closest_takes}
use Rattle.qc_close.proofs.crew.Crew.closest.Goals.{then-may, else-may}
use Rattle.qc_close.proofs.crew.Crew.closest.Goals as goal

pub loop-crane-preserved : goal.loop-crane-preserved
loop-crane-preserved c =
    let inst = c.args.self.now.inst in
    let cranes = c.args.self.now.cranes in
    let tasks = c.args.tasks.now in
    let task = get_or tasks c.args.index 0 in
    elim c.if-may.branch [
      | then-may w ↦
          let near = w.place.ensures.near in
          let more =
          closest_takes inst cranes tasks task c.loop-crane.crane c.args.before c.loop-crane.least w.closer-least.result _
          c.loop-crane.invariant.finding c.loop-crane.invariant.found w.closer-least.ensures.finding w.closer-least.ensures.found
          (omega (arith, ints, near.0, near.1, w.place.ensures.place)) in
          rw w.least-is (record { finding = more.finding; found = more.found })
      | else-may w ↦
          let same =
          closest_skips inst cranes tasks task c.loop-crane.crane c.args.before c.loop-crane.least
          c.loop-crane.invariant.finding c.loop-crane.invariant.found (sym c.may.ensures ∙ w.if-may.false) in
          rw w.least-is (record { finding = same.finding; found = same.found })
    ]

pub closer-least-requires-clause-below : goal.closer-least-requires-clause-below
closer-least-requires-clause-below c =
    let near = c.place.ensures.near in
    below_place c.args.self.now.inst c.args.self.now.cranes c.args.tasks.now c.requires.stacked c.args.index c.loop-crane.crane _
    c.requires.index (sym c.may.ensures ∙ c.if-may.true) (omega (arith, ints, near.0, near.1, c.place.ensures.place))

pub returns-clause-found : goal.returns-clause-found
returns-clause-found c = λ v few t.
    let count = ap (λ (i : InstanceView). length i.cranes) c.instance.ensures.same in
    c.loop-crane.invariant.found v (omega (arith, few, c.loop-crane-test.false, c.loop-crane.auto.crane-end, c.crane_count-crane-end.ensures.count, count)) t

pub loop-crane-init : goal.loop-crane-init
loop-crane-init c = search rules

pub place-requires-clause-task : goal.place-requires-clause-task
place-requires-clause-task c = search rules

pub place-requires-clause-crane : goal.place-requires-clause-crane
place-requires-clause-crane c = search rules

pub closer-least-requires-clause-tasks : goal.closer-least-requires-clause-tasks
closer-least-requires-clause-tasks c = search rules

pub closer-least-requires-clause-near : goal.closer-least-requires-clause-near
closer-least-requires-clause-near c = search rules

pub closer-least-requires-clause-cranes : goal.closer-least-requires-clause-cranes
closer-least-requires-clause-cranes c = search rules
