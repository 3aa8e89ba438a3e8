-- Which statuses are whose.
use Rattle.std.proofs.Common.{◌≡◌, subst, sym}
use Rattle.qc_run.specs.declared.refusal.Refusal.TheVariants as refusal
use Rattle.qc_run.specs.declared.refusal.Stop.{Stop}
use Rattle.qc_run.specs.declared.refusal.Stop.TheVariants as stop
use Rattle.qc_run.specs.declared.status.Status.{Status}
use Rattle.qc_run.specs.declared.status.Status.TheVariants as status
use Rattle.qc_run.specs.Texts.{stop_status}

-- the status of an answer that a command gives itself, and of no refusal; nor is it want of memory
abbrev pub IsOwn : Status → Type 0
IsOwn status.Optimal = Unit {0}
IsOwn status.Done = Unit {0}
IsOwn status.WriteFault = Unit {0}
IsOwn status.Infeasible = Unit {0}
IsOwn status.BudgetPlan = Unit {0}
IsOwn status.BudgetNone = Unit {0}
IsOwn status.Broken = Unit {0}
IsOwn status.Weaker = Unit {0}
IsOwn status.Breach = Unit {0}
IsOwn status.NoRest = Unit {0}
IsOwn _ = ⊥

-- the same but WriteFault: the status of an answer of a command that only reads
abbrev pub IsAnswer : Status → Type 0
IsAnswer status.WriteFault = ⊥
IsAnswer other = IsOwn other

pub is_own : (s : Status) → IsAnswer s → IsOwn s
is_own status.WriteFault is = absurd is
is_own other is = is

-- a command that stops ends with none of these
pub stop_is_not : (why : Stop) (s : Status) → stop_status why ≡ s → IsOwn s → ⊥
stop_is_not why s e own = by why (subst IsOwn (sym e) own)
  where
    by : (why : Stop) → IsOwn (stop_status why) → ⊥
    by stop.OutOfMemory own = own
    by (stop.Refused refusal.Usage) own = own
    by other own = own
