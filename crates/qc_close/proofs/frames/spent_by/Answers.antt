use Rattle.std.proofs.Common.{Option, IfSome, sym, subst, rules}
use Rattle.qc_close.specs.Model.{MOST_TASKS, IsOnRail}
use Rattle.qc_close.specs.declared.frames.Own.{Own}
use Rattle.qc_close.specs.Owns.{IsSmall}
use Rattle.qc_close.proofs.OwnLemmas.{rail_back, rail_high, rail_min}
use Rattle.qc_close.proofs.TripLemmas.{rail_wide}
use Rattle.qc_close.proofs.frames.spent_by.Goals as goal

pub returns-in-Some-clause-near : goal.returns-in-Some-clause-near
returns-in-Some-clause-near c =
    let own = subst (λ (o : Option Own). IfSome o (IsSmall MOST_TASKS)) c.in-Some.is c.requires.own in
    let berth = rail_back c.post-post.result.bay c.post-post.ensures.on_rail in
    record {
      low = rail_wide _ (rail_back c.min.result
          (subst IsOnRail (sym c.min.ensures.value) (rail_min _ _ (rail_back c.in-Some.own.low own.low) berth)));
      high = rail_wide _ (rail_back c.turn_high.result
          (subst IsOnRail (sym c.turn_high.ensures) (rail_high c.args.turn _ _ berth (rail_back c.in-Some.own.high own.high))));
    }

pub turn_bays-bays-requires-clause-low : goal.turn_bays-bays-requires-clause-low
turn_bays-bays-requires-clause-low c = search rules

pub turn_bays-bays-requires-clause-high : goal.turn_bays-bays-requires-clause-high
turn_bays-bays-requires-clause-high c = search rules

pub returns-in-None-clause-frame : goal.returns-in-None-clause-frame
returns-in-None-clause-frame c = search rules

pub returns-in-None-clause-near : goal.returns-in-None-clause-near
returns-in-None-clause-near c = search rules

pub returns-in-Some-clause-frame : goal.returns-in-Some-clause-frame
returns-in-Some-clause-frame c = search rules
