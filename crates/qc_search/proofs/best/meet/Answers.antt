use Rattle.std.proofs.Common.{inl, inr, sym, ◌∙◌}
use Rattle.std.proofs.lemmas.Bool.{false≢true}
use Rattle.qc_search.proofs.BestLemmas.{passed, taken}
use Rattle.qc_search.proofs.best.meet.Goals as goal

pub returns-then-not-improves : goal.returns-then-not-improves
returns-then-not-improves c =
    inl (passed c.args.starts.now.inst c.args.way c.args.starts.now.decisions c.args.progress.now c.args.end c.requires.end
    (λ sooner. false≢true (sym c.if-not-improves.true ∙ c.improves.ensures.1 sooner)))

pub returns : goal.returns
returns c =
    let end = c.requires.end in
    inr (taken c.args.starts.now.inst c.args.way c.args.starts.now.decisions c.args.progress.now c.args.end end
    c.keep.new.incumbent c.stuck-stuck.ensures.fits (c.complete.ensures.0 c.if-not-complete.false)
    c.stuck-stuck.ensures.in_reach (c.improves.ensures.0 c.if-not-improves.false) c.requires.soon
    (c.keep.ensures end.starts end.least))
