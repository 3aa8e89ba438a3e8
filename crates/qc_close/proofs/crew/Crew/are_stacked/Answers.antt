use Rattle.std.proofs.Common.{sym, ◌∙◌, arith, rules}
use Rattle.std.proofs.lemmas.Int.{ints}
use Rattle.qc_close.proofs.BandLemmas.{not_stacked_at, stand_skips, stand_takes}
use Rattle.qc_close.proofs.crew.Crew.are_stacked.Goals.{in-Some+else-is_as_high, in_default}
use Rattle.qc_close.proofs.crew.Crew.are_stacked.Goals as goal

pub returns-then-is_as_high : goal.returns-then-is_as_high
returns-then-is_as_high c =
    let near = c.in-Some.ensures.near.1 in
    not_stacked_at c.args.self.now.inst c.args.self.now.cranes c.args.tasks.now c.loop-crane.crane c.loop-crane.floor
    c.loop-crane.invariant.floor c.loop-crane.invariant.stacked c.in-Some.band c.in-Some.ensures c.args.count (omega arith) _
    (sym c.is_as_high.ensures ∙ c.if-is_as_high.true) (omega (arith, ints, near.0, near.1))

pub loop-crane-preserved : goal.loop-crane-preserved
loop-crane-preserved c =
    let inst = c.args.self.now.inst in
    let cranes = c.args.self.now.cranes in
    let tasks = c.args.tasks.now in
    elim c.match-band.branch [
      | in-Some+else-is_as_high w ↦
          let near = w.in-Some.ensures.near in
          let stand =
          stand_takes inst cranes tasks c.loop-crane.crane c.loop-crane.floor c.loop-crane.invariant.floor
          c.loop-crane.invariant.stacked w.in-Some.band w.in-Some.ensures c.match-band.floor _ _ w.floor-is
          (sym w.is_as_high.ensures ∙ w.if-is_as_high.false) (omega (arith, ints, near.1.0, near.1.1)) (omega (arith, ints, near.0.0, near.0.1)) in
          record { floor = stand.floor; stacked = stand.stacked }
      | in_default w ↦
          let stand =
          stand_skips inst cranes tasks c.loop-crane.crane c.loop-crane.floor c.loop-crane.invariant.floor
          c.loop-crane.invariant.stacked c.match-band.floor w.floor-is w.in_default.ensures in
          record { floor = stand.floor; stacked = stand.stacked }
    ]

pub loop-crane-init : goal.loop-crane-init
loop-crane-init c = search rules

pub band-requires-clause-tasks : goal.band-requires-clause-tasks
band-requires-clause-tasks c = search rules

pub returns : goal.returns
returns c = search rules
