use Rattle.std.proofs.Common.{◌≡◌, ◌+◌, ℕ, length, subst, sym, arith}
use Rattle.qc_odds.proofs.EndLemmas.{IsLastOf, last_more}
use Rattle.qc_odds.proofs.pass.last_end.Goals as goal

pub loop-j-preserved : goal.loop-j-preserved
loop-j-preserved c =
    subst (λ (last : ℕ). IsLastOf c.args.lengths.now c.args.starts.now (c.loop-j.j + 1) last) (sym c.max-last.ensures)
    (last_more c.args.lengths.now c.args.starts.now c.loop-j.j c.loop-j.last c.loop-j.invariant)

pub returns : goal.returns
returns c =
    let all : c.loop-j.j ≡ length c.args.starts.now = omega (arith, c.loop-j-test.false, c.loop-j.auto.j-end) in
    record { each_by = subst (λ (n : ℕ). IsLastOf c.args.lengths.now c.args.starts.now n c.loop-j.last) all c.loop-j.invariant }
