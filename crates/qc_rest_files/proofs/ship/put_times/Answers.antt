use Rattle.std.proofs.Common.{◌≤◌, Bool, true, false, arith}
use Rattle.qc_ship.specs.Ship.{most_travel}
use Rattle.qc_rest_files.proofs.ship.put_times.Goals as goal

travel_low : (b : Bool) → most_travel b ≤ 10000
travel_low true = omega arith
travel_low false = omega arith

pub put_ticks-requires : goal.put_ticks-requires
put_ticks-requires c = omega (arith, c.cover.ensures.cover, c.cover.ensures.ship.times.cover)

pub put_ticks-requires-2 : goal.put_ticks-requires-2
put_ticks-requires-2 c = omega (arith, c.deck_move.ensures.deck_move, c.deck_move.ensures.ship.times.deck_move.1)

pub put_ticks-requires-3 : goal.put_ticks-requires-3
put_ticks-requires-3 c = omega (arith, c.hold_move.ensures.hold_move, c.hold_move.ensures.ship.times.hold_move.1)

pub put_ticks-requires-4 : goal.put_ticks-requires-4
put_ticks-requires-4 c = omega (arith, c.travel.ensures.travel, c.travel.ensures.ship.times.travel.1, travel_low c.args.ship.now.in_decimetres)
