use Rattle.std.proofs.Common.{◌≡◌, map, take}
use Rattle.qc_figures.specs.Motions.{of_half}
use Rattle.qc_figures.proofs.tracks.Path.of_halves.Given as goal

-- the points so far
abbrev pub invariant-loop-half : goal.invariant-loop-half
invariant-loop-half l = l.points.items ≡ map of_half (take l.half-index l.halves)
