use Rattle.std.proofs.Common.{ℕ, List, Option}
use Rattle.qc_close.specs.Bars.{IsGreatest, IsKnown, stretch, swept_from, swept_to}
use Rattle.qc_close.proofs.barred.greatest_done.Given as goal

abbrev pub invariant-loop-step : goal.invariant-loop-step
invariant-loop-step l =
    (cranes : List (Option ℕ)) → IsKnown l.inst cranes l.spots l.table l.place
    → IsGreatest (stretch l.inst l.turn cranes l.spots l.place l.way) (swept_from l.way l.place l.step) (swept_to l.way l.place l.step)
    l.initial.greatest l.greatest
