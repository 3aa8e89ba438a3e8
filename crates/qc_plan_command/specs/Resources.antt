-- inner: what is taken for a plan of an instance, and what its search comes to.
use Rattle.std.specs.Prelude.{◌≡◌, ℕ, List, Option, None, Result, length, IfOk, IfSome, OnErr}
use Rattle.qc_io.specs.Outside.{Files}
use Rattle.qc_model.specs.declared.schedule.Slot.{Slot}
use Rattle.qc_model.specs.Instance.{InstanceView}
use Rattle.qc_search.specs.Run.{DoneView, IsSound, SearchView, search_from}
use Rattle.qc_search.specs.Outcome.{WasOffered}
use Rattle.qc_search.specs.Stored.{IsTreeLeft, IsTreeStored}
use Rattle.qc_plan_command.specs.declared.opened.Resources.{Resources}
use Rattle.qc_plan_command.specs.InitialPlan.{IsInitialPlan}
use Rattle.qc_plan_command.specs.Rooms.{IsRoom}

-- the search is one of the instance, with so many branchings, and was offered the planner's own schedule, if there is one
pub record IsSearchFor (inst : InstanceView) (nodes : ℕ) (own : Option (List Slot)) (search : SearchView) : Type 0 where
  pub is : search ≡ search_from inst nodes search.first
  pub offered : WasOffered inst own None search.first

-- so it was, what is ahead of it is for the instance too, and there is room for the motion of its plan
pub record IsOpened (inst : InstanceView) (nodes : ℕ) (own : Option (List Slot)) (opened : Resources) : Type 0 where
  pub room : IsRoom inst.turn (length inst.tasks) opened.room
  pub ahead : IsInitialPlan inst opened.ahead
  pub search : IsSearchFor inst nodes own opened.search

-- a search of the instance with so many branchings that began with this was offered another schedule, if any was found, and
-- the file of this name holds its tree; or its writing was stopped
pub record WasRun {E : Type 0} (inst : InstanceView) (nodes : ℕ) (own_first : Option (List Slot)) (name : List ℕ)
    (before after : Option Files) (result : Result DoneView E) : Type 0 where
  pub found : Option (List Slot)
  pub first : Option (List Slot)
  pub offered : WasOffered inst found own_first first
  pub ok : IfOk result (λ done. IfSome before (λ held. IsTreeStored (search_from inst nodes first) name held after done))
  pub err : OnErr result (IfSome before (λ held. IsTreeLeft (search_from inst nodes first) name held after))
  pub sound : IfOk result (IsSound (search_from inst nodes first))
