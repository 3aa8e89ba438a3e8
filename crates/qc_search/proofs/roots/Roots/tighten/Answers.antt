use Rattle.std.proofs.Common.{◌≤◌, ◌<◌, ℕ, length, subst}
use Rattle.qc_close.specs.Model.{Direction, GoesBy, InstanceView, most_start, start_of, seen}
use Rattle.qc_search.specs.Roots.{IsTurned}
use Rattle.qc_search.proofs.roots.Roots.tighten.Goals as goal

pub tighten_down-requires : goal.tighten_down-requires
tighten_down-requires c =
    let home = c.args.self.now in
    let sched = c.args.sched.now in (
      home,
      subst (λ (i : InstanceView). IsTurned i c.self.inside.down) c.self.view_is c.self.invariant.down,
      c.requires.turned c.in-Down.is,
      subst (λ (way : Direction). GoesBy (seen home way).turn (seen home way) sched) c.in-Down.is c.requires.goes,
      subst (λ (way : Direction). (k : ℕ) → k < length (seen home way).tasks → start_of sched k ≤ most_start)
          c.in-Down.is c.requires.soon,
    )

pub invariant_of-self-in-Down : goal.invariant_of-self-in-Down
invariant_of-self-in-Down c = record {
  up = c.self.invariant.up;
  down = c.tighten_down.ensures.stays c.self.inside.up.inst c.self.invariant.down;
}
