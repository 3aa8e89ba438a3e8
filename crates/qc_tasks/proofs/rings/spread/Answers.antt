use Rattle.std.proofs.Common.{◌∙◌, ◌<◌, length, get_or, sym, arith}
use Rattle.std.proofs.lemmas.List.Elements.{Contains-get_or}
use Rattle.qc_model.specs.Instance.{pair_of}
use Rattle.qc_tasks.proofs.MarkLemmas.{fewer_still, front_all, front_more, no_more_unmarked, reached_more, unmarked_less}
use Rattle.qc_tasks.proofs.rings.spread.Goals as goal
use Rattle.qc_tasks.proofs.rings.spread.Goals.{then-is_new, else-is_new}

-- the pair of the turn is one of the pairs
pub is_new-requires-clause-first : goal.is_new-requires-clause-first
is_new-requires-clause-first c =
    let pair = get_or c.args.pairs.now c.loop-pair.pair-index (pair_of 0 0) in
    let within : c.loop-pair.pair-index < length c.args.pairs.now = c.loop-pair-test.true in
    let low = c.requires pair.first pair.second (Contains-get_or c.args.pairs.now c.loop-pair.pair-index (pair_of 0 0) within) in
    omega (arith, low.0, c.loop-pair.long-marks)

pub is_new-requires-clause-second : goal.is_new-requires-clause-second
is_new-requires-clause-second c =
    let pair = get_or c.args.pairs.now c.loop-pair.pair-index (pair_of 0 0) in
    let within : c.loop-pair.pair-index < length c.args.pairs.now = c.loop-pair-test.true in
    let low = c.requires pair.first pair.second (Contains-get_or c.args.pairs.now c.loop-pair.pair-index (pair_of 0 0) within) in
    omega (arith, low.1, c.loop-pair.long-marks)

pub bounds-marks-from : goal.bounds-marks-from
bounds-marks-from c =
    let pair = get_or c.args.pairs.now c.loop-pair.pair-index (pair_of 0 0) in
    let within : c.loop-pair.pair-index < length c.args.pairs.now = c.loop-pair-test.true in
    let low = c.requires pair.first pair.second (Contains-get_or c.args.pairs.now c.loop-pair.pair-index (pair_of 0 0) within) in
    omega (arith, low.1, c.loop-pair.long-marks)

pub loop-pair-preserved : goal.loop-pair-preserved
loop-pair-preserved c =
    let pairs = c.args.pairs.now in
    let from = c.args.from in
    let marks = c.loop-pair.marks in
    let so_far = c.loop-pair.invariant in
    let within : c.loop-pair.pair-index < length pairs = c.loop-pair-test.true in
    let pair = get_or pairs c.loop-pair.pair-index (pair_of 0 0) in
    let has = Contains-get_or pairs c.loop-pair.pair-index (pair_of 0 0) within in
    elim c.if-is_new.branch [
      | then-is_new w ↦
          let new = sym c.is_new.ensures ∙ w.if-is_new.true in
          let low : pair.second < length marks = omega (arith, (c.requires pair.first pair.second has).1, c.loop-pair.long-marks) in
          let before = no_more_unmarked c.loop-pair.more c.args.marks.now marks so_far.same so_far.fewer in
          rw (w.marks-is, w.more-is, w.from.ensures) (record {
            reached = λ r. reached_more pairs from marks pair has new low (so_far.reached r);
            still = λ e. cc e;
            same = λ e. cc e;
            fewer = λ _. fewer_still _ _ _ (unmarked_less pairs from marks pair has new low) before;
          })
      | else-is_new w ↦
          let old = sym c.is_new.ensures ∙ w.if-is_new.false in
          rw (w.marks-is, w.more-is) (record {
            reached = so_far.reached;
            still = λ e. front_more c.loop-pair.pair-index pairs from marks old (so_far.still e);
            same = so_far.same;
            fewer = so_far.fewer;
          })
    ]

pub returns-clause-all : goal.returns-clause-all
returns-clause-all c = λ e.
    front_all c.loop-pair.pair-index c.args.pairs.now c.args.from c.loop-pair.marks c.loop-pair-test.false (c.loop-pair.invariant.still e)
