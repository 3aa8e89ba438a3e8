use Rattle.std.proofs.Common.{◌≡◌, to_z, of_z, w32, arith}
use Rattle.std.proofs.lemmas.Int.{ints}
use Rattle.qc_freemove.proofs.SweepLemmas.{sound_of}
use Rattle.qc_freemove.proofs.sweep.Sweep.new.Goals as goal

pub invariant_of-result : goal.invariant_of-result
invariant_of-result c =
    let j = c.new-judge.ensures in
    let f = c.floor_of-floor.ensures in
    let e : to_z w32 (of_z w32 c.floor_of-floor.result) ≡ c.floor_of-floor.result = omega (arith, ints, f.near) in
    let s = sound_of _ _ _ _ _ j.valid j.view c.requires.range f.floor in
    rw e (s, f.near)

pub returns-clause-sound : goal.returns-clause-sound
returns-clause-sound c =
    let j = c.new-judge.ensures in
    let f = c.floor_of-floor.ensures in
    let e : to_z w32 (of_z w32 c.floor_of-floor.result) ≡ c.floor_of-floor.result = omega (arith, ints, f.near) in
    rw e (sound_of _ _ _ _ _ j.valid j.view c.requires.range f.floor)
