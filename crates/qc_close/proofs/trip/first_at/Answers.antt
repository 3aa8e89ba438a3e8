use Rattle.std.proofs.Common.{◌∙◌, sym}
use Rattle.qc_close.proofs.TripLemmas.{none_before}
use Rattle.qc_close.proofs.trip.first_at.Goals as goal

pub returns-clause-first : goal.returns-clause-first
returns-clause-first c =
    none_before c.args.spots.now c.requires.together c.args.task c.walking.first _ c.requires.task c.walking.invariant.within
    c.walking.invariant.spot (sym c.lies_behind.ensures ∙ c.walking-test.false)
