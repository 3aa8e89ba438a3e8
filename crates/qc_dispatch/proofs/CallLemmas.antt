-- What every list of calls keeps.
use Rattle.std.proofs.Common.{ℕ, ◌<◌, ◌≤◌, Option, None, Some, Result, Ok, Err, List, [], ◌∷◌, length, sym, subst}
use Rattle.std.specs.Prelude.{⊤}
use Rattle.qc_dispatch.specs.declared.grant.Grant.{Grant}
use Rattle.qc_dispatch.specs.declared.grant.NotRunning.{NotRunning}
use Rattle.qc_dispatch.specs.Calls.{Advance, Call, Done, IsCalled, Reaches}
use Rattle.qc_dispatch.specs.Course.{Course, IsAdvanced, IsReported}
use Rattle.qc_dispatch.specs.Kept.{IsCourse}
use Rattle.qc_dispatch.proofs.CourseLemmas.{goes_ended, goes_later, goes_started}

after_advance : (old new : Course) (to : ℕ) (granted : Option Grant) → old.clock ≤ to → IsCourse old → IsAdvanced old to granted new
    → IsCourse new
after_advance old new to None from is passed = subst IsCourse (sym passed.after) (goes_later old is to from)
after_advance old new to (Some grant) from is granted =
    subst IsCourse (sym granted.after) (goes_started old is grant.task grant.at granted.from granted.may)

after_done : (old new : Course) (task : ℕ) (result : Result ⊤ NotRunning) → task < length old.inst.tasks → IsCourse old
    → IsReported old task result new → IsCourse new
after_done old new task (Ok done) inside is ended = subst IsCourse (sym ended.after) (goes_ended old is task ended.start inside ended.ran)
after_done old new task (Err refused) inside is same = subst IsCourse (sym same.after) is

after_call : (old new : Course) (call : Call) → IsCourse old → IsCalled old call new → IsCourse new
after_call old new (Advance to) is waits = after_advance old new to waits.granted waits.from is waits.advanced
after_call old new (Done task) is tells = after_done old new task tells.result tells.inside is tells.reported

-- calls lead from a course that is kept to such a one
pub reaches : (old : Course) (calls : List Call) (new : Course) → IsCourse old → Reaches old calls new → IsCourse new
reaches old [] new is same = subst IsCourse (sym same) is
reaches old (call ∷ calls) new is run = reaches run.0 calls new (after_call old run.0 call is run.1) run.2
