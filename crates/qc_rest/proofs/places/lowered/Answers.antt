use Rattle.std.proofs.Common.{◌≡◌, ◌≤◌, ◌+ℤ◌, pos, to_z, of_z, w64, rules, arith}
use Rattle.std.proofs.lemmas.Int.{ints, to_z-of_z}
use Rattle.qc_rest.specs.Passed.{most_base}
use Rattle.qc_rest.proofs.places.lowered.Goals as goal

pub returns-in-Some : goal.returns-in-Some
returns-in-Some c =
    let soon : c.in-Some.off ≤ most_base = rw c.in-Some.is at c.requires.off in
    let upper = to_z-of_z w64 c.args.upper (search rules) in
    let read : to_z w64 (of_z w64 (to_z w64 (of_z w64 c.from.result) +ℤ to_z w64 c.in-Some.off)) ≡ c.args.bay +ℤ pos c.in-Some.off =
    omega (arith, ints, c.from.ensures, c.requires.rail.0, c.requires.rail.1, soon) in
    rw (c.in-Some.is, to_z-of_z w64 c.lower_of.result (search rules)) (λ z. rw (upper, read) at (c.lower_of.ensures.over z))
