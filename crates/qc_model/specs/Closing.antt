-- public: when a node of a search is closed: it is seen without branching that nothing below it ends before a bound, or
-- nothing is left to decide.
use Rattle.std.specs.Prelude.{ℕ, ◌<◌, ◌≤◌, IsTrue, List}
use Rattle.qc_num.specs.Bounds.{IsAtMost}
use Rattle.qc_num.specs.declared.bound.Bound.{Bound}
use Rattle.qc_num.specs.declared.bound.Bound.TheVariants.{Least}
use Rattle.qc_model.specs.declared.decision.Decision.{Decision}
use Rattle.qc_model.specs.Instance.{InstanceView}
use Rattle.qc_model.specs.Leaves.{is_out_of_reach, work_over}
use Rattle.qc_model.specs.Nodes.{HasStarts, IsComplete, IsNodeEnd}

-- the node's end is at least u; no end is at least Never
pub record EndsLate (inst : InstanceView) (ds : List Decision) (u : Bound) : Type 0 where
  pub end : ℕ
  pub is : IsNodeEnd inst ds end
  pub late : IsAtMost u (Least end)

-- the work doesn't fit before some end that is at least u
pub record IsWorkLate (inst : InstanceView) (ds : List Decision) (u : Bound) : Type 0 where
  pub end : ℕ
  pub positive : 1 ≤ end
  pub holds : IsTrue (work_over inst ds end)
  pub late : IsAtMost u (Least end)

-- the node is closed where an end of u or later is of no use
pub data IsClosable (inst : InstanceView) (ds : List Decision) (u : Bound) : Type 0 where
  -- the newest decision is out of reach
  out_of_reach : IsTrue (is_out_of_reach inst ds) → IsClosable inst ds u
  -- no starts meet the node
  no_starts : ¬ HasStarts inst ds → IsClosable inst ds u
  -- nothing is left to decide
  complete : IsComplete inst ds → IsClosable inst ds u
  -- its least starts end too late
  ends_late : EndsLate inst ds u → IsClosable inst ds u
  -- its work ends too late
  work_late : IsWorkLate inst ds u → IsClosable inst ds u

-- the greatest end before which the work doesn't fit, and 0 where there is none
pub record IsWorkBound (inst : InstanceView) (ds : List Decision) (bound : ℕ) : Type 0 where
  pub holds : 0 < bound → IsTrue (work_over inst ds bound)
  pub greatest : (end : ℕ) → 1 ≤ end → IsTrue (work_over inst ds end) → end ≤ bound
