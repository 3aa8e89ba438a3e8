use Rattle.std.proofs.Common.{◌≡◌, ◌<◌, MatchOption}
use Rattle.qc_starts.proofs.spread.Spread.earliest.Given as goal

abbrev pub invariant-loop-place : goal.invariant-loop-place
invariant-loop-place l = MatchOption l.first (l.place ≡ 0) (λ next. next.place < l.place)
