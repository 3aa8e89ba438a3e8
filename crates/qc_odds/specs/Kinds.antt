-- inner: past tasks by how they fit a task.
use Rattle.std.specs.Prelude.{Bool, true}
use Rattle.qc_model.specs.declared.task.Task.{Task}
use Rattle.qc_past.specs.declared.task.PastTask.{PastTask}
use Rattle.qc_odds.specs.Pools.{is_like, is_own}
use Rattle.qc_odds.specs.declared.pool.Kind.{Kind}
use Rattle.qc_odds.specs.declared.pool.Kind.TheVariants.{Like, Own, Any}

-- the past task is of this kind
abbrev pub is_kind : Kind → Task → PastTask → Bool
is_kind Like task past = is_like task past
is_kind Own task past = is_own task past
is_kind Any task past = true
