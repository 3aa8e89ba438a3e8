use Rattle.std.proofs.Common.{◌≡◌, ◌+◌, ◌*◌, ◌^◌, ◌≤◌, map, take, sum}
use Rattle.qc_close.specs.Model.{Up, Down, bays_to, room}
use Rattle.qc_close.specs.Tried.{tried}
use Rattle.qc_close.proofs.count.Count.all_rooms.Given as goal

abbrev pub invariant-loop-frame : goal.invariant-loop-frame
invariant-loop-frame l = record {
  ticks : l.ticks
      ≡ sum (map (λ f. room (tried l.self l.tick) (bays_to Up f l.low + bays_to Down f l.high) f) (take l.frame-index l.self.frames.now));
  bound : l.ticks ≤ l.frame-index * 2 ^ 56;
}
