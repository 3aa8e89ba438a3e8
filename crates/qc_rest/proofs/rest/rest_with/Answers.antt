use Rattle.qc_dispatch.specs.Following.{journal_of}
use Rattle.qc_rest.specs.Limits.{place_at}
use Rattle.qc_rest.specs.Remaining.{over_at}
use Rattle.qc_rest.proofs.WholeLemmas.{no_rest, stands_on_rail}
use Rattle.qc_rest.proofs.rest.rest_with.Goals as goal

pub places_of-places-requires-clause-limited : goal.places_of-places-requires-clause-limited
places_of-places-requires-clause-limited c =
    let f = c.args.journal.now in
    let found = c.requires.found in record {
      rail = stands_on_rail f.dispatch (over_at (journal_of f)) c.args.stands.now c.requires.known.valid found.stands_count found.stands_are;
      soon = found.soon;
    }

pub returns-in-Some-clause-refused : goal.returns-in-Some-clause-refused
returns-in-Some-clause-refused c =
    let f = c.args.journal.now in
    let found = c.requires.found in
    let placed = c.places_of-places.ensures.places in
    no_rest f c.args.stands.now c.args.goes.now placed.0 (place_at c.places_of-places.result) c.requires.none found.stands_are found.goes_are placed.1
    c.in-Some.why (c.in-Some.ensures c.args.goes.now)
