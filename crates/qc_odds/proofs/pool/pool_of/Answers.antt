use Rattle.std.proofs.Common.{◌≤◌, ◌∙◌, length, sym, arith}
use Rattle.std.specs.List.{filter}
use Rattle.qc_odds.specs.Pools.{is_like, is_own, or_else}
use Rattle.qc_odds.proofs.PoolLemmas.{filter_all, or_second}
use Rattle.qc_odds.proofs.pool.pool_of.Goals as goal

pub returns-clause-pool : goal.returns-clause-pool
returns-clause-pool c =
    let task = c.args.task.now in
    let tasks = c.args.tasks.now in
    let no_like : length (filter (is_like task) tasks) ≤ 0 = omega (arith, c.count_of-like.ensures, c.if-like-gt0.false) in
    let no_own : length (filter (is_own task) tasks) ≤ 0 = omega (arith, c.count_of-own.ensures, c.if-own-gt0.false) in
    filter_all tasks
    ∙ sym (or_second (filter (is_like task) tasks) (or_else (filter (is_own task) tasks) tasks) no_like ∙ or_second (filter (is_own task) tasks) tasks no_own)
