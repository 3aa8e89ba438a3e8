use Rattle.std.proofs.Common.{◌≤◌, w64, rules, arith}
use Rattle.std.proofs.lemmas.Int.{ints, to_z-of_z}
use Rattle.qc_rest.specs.Passed.{most_base}
use Rattle.qc_rest.proofs.places.raised.Goals as goal

pub returns-in-Some : goal.returns-in-Some
returns-in-Some c =
    let soon : c.in-Some.off ≤ most_base = rw c.in-Some.is at c.requires.off in
    let under = c.higher_of.ensures in
    rw (c.in-Some.is, to_z-of_z w64 c.higher_of.result (search rules)) (λ z. (
      λ le.
          let both = (under z).0 le in
          (omega (arith, ints, both.0, c.ranges.lower.sfits), omega (arith, ints, both.1, c.from.ensures, c.requires.rail.0, c.requires.rail.1, soon)),
      λ parts. (under z).1 (
        omega (arith, ints, parts.0, c.ranges.lower.sfits),
        omega (arith, ints, parts.1, c.from.ensures, c.requires.rail.0, c.requires.rail.1, soon),
      ),
    ))
