-- What a log tells of tasks that run is what is taken to be known of them.
use Rattle.std.proofs.Common.{◌≡◌, ℕ, ◌+◌, Option, None, ap, arith}
use Rattle.std.specs.Option.{unwrap_or}
use Rattle.qc_dispatch.specs.Course.{end_at, end_in}
use Rattle.qc_dispatch.specs.Journal.{Journal}
use Rattle.qc_rest.specs.Progress.{AreOver}
use Rattle.qc_rest.specs.Remaining.{NoneIsDue, over_at, remaining}

pub over_known : (j : Journal) → NoneIsDue j → AreOver j.course (over_at j)
over_known j none = record {
  ended = λ i end is. ap (λ (o : Option ℕ). unwrap_or o (j.course.clock + remaining j i)) is;
  runs = λ i start is.
      let no_end : end_at j.course i ≡ None = ap end_in is in
      let at : over_at j i ≡ j.course.clock + remaining j i = ap (λ (o : Option ℕ). unwrap_or o (j.course.clock + remaining j i)) no_end in
      omega (arith, at, none i start is);
}
