-- inner: what is kept beside decisions: each table is that of the definition.
use Rattle.std.specs.Prelude.{ℕ, ◌+◌, ◌≤◌, Bool, List, [], length, Option}
use Rattle.qc_dist.specs.declared.heads.Heads.{Heads}
use Rattle.qc_model.specs.declared.decision.Decision.{Decision}
use Rattle.qc_model.specs.Instance.{InstanceView, Valid}
use Rattle.qc_model.specs.Nodes.{Fits, assigned, is_ordered, is_sooner, order_pairs}
use Rattle.qc_dist.specs.Heads.{IsHeadTable}
use Rattle.qc_dist.specs.Tables.{IsGrid, IsTable}

-- the tables beside what was decided, and the room for decisions
pub record Beside : Type 0 where
  pub room : ℕ
  pub cranes : List (Option ℕ)
  pub before : List Bool
  pub ordered : List Bool
  pub heads : List Heads

-- they are those of the decisions, newest first
pub record AreKept (inst : InstanceView) (ds : List Decision) (b : Beside) : Type 0 where
  pub valid : Valid inst
  pub fits : Fits inst ds
  pub room : length inst.tasks + order_pairs inst ≤ b.room
  pub cranes : IsTable (assigned ds) (length inst.tasks) b.cranes
  pub before : IsGrid (is_sooner inst []) (length inst.tasks) b.before
  pub ordered : IsGrid (is_ordered ds) (length inst.tasks) b.ordered
  pub heads : IsHeadTable inst b.heads
