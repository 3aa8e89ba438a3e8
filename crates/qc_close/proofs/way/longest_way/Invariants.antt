use Rattle.std.proofs.Common.{◌≡◌, List, Option, ℕ}
use Rattle.qc_close.specs.Model.{Turn, frame, own_way}
use Rattle.qc_close.specs.Moves.{IsMoving}
use Rattle.qc_close.proofs.LongestLemmas.{IsFollowed}
use Rattle.qc_close.proofs.way.longest_way.Given as goal

abbrev pub invariant-loop-spot : goal.invariant-loop-spot
invariant-loop-spot l =
    (turn : Turn) (cranes : List (Option ℕ)) → IsMoving l.inst cranes l.spots l.table l.trips
    → l.usual.low ≡ (frame l.inst turn cranes l.crane).low → l.usual.high ≡ (frame l.inst turn cranes l.crane).high
    → l.fn.own ≡ own_way l.inst turn cranes l.crane
    → IsFollowed l.inst turn cranes l.crane l.spots.bays.items l.way l.spot
