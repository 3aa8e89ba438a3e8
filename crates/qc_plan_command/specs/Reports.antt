-- public: what a plan prints, and the status that it ends with.
use Rattle.std.specs.Prelude.{◌≡◌, ◌<◌, ◌≤◌, ℕ, List, [], ◌++◌, length, Option, None, Some, codes, decimal, slice_index_or}
use Rattle.std.specs.Io.KnownBytes.{append_known}
use Rattle.qc_gantt.specs.TracksText.{AreTracks, tracks_text}
use Rattle.qc_freemove.specs.declared.track.HalfPoint.{HalfPoint}
use Rattle.qc_freemove.specs.FreeTracksText.{AreFreeTracks, free_lines}
use Rattle.qc_freemove.specs.HalfLines.{MovesBetween}
use Rattle.qc_io.specs.Outside.{GrewByPart}
use Rattle.qc_model.specs.declared.direction.Direction.{Direction}
use Rattle.qc_model.specs.declared.schedule.Slot.{Slot}
use Rattle.qc_model.specs.Instance.{InstanceView}
use Rattle.qc_model.specs.Judge.{Goes, IsJudgeable}
use Rattle.qc_model.specs.Rules.{Feasible}
use Rattle.qc_motion.specs.declared.track.Waypoint.{Waypoint}
use Rattle.qc_search.specs.declared.done.Kind.{Kind}
use Rattle.qc_search.specs.declared.done.Kind.TheVariants as kind
use Rattle.qc_search.specs.Words.{kind_word}
use Rattle.qc_run.specs.declared.status.Status.{Status}
use Rattle.qc_run.specs.declared.status.Status.TheVariants as status
use Rattle.qc_run.specs.Broken.{broken_text}
use Rattle.qc_run.specs.Reports.{Printing, Prints, PrintsPart}
use Rattle.qc_run.specs.Texts.{direction_text}
use Rattle.qc_plan_command.specs.declared.answer.Motion.{Motion}
use Rattle.qc_plan_command.specs.declared.answer.Motion.TheVariants as motion
use Rattle.qc_plan_command.specs.declared.answer.Planned.{Planned}
use Rattle.qc_plan_command.specs.declared.answer.PlanAnswer.{PlanAnswer}
use Rattle.qc_plan_command.specs.declared.answer.PlanAnswer.TheVariants as answer

-- the end of a given schedule, and what is printed where none was given
abbrev pub given_text : Option ℕ → List ℕ
given_text None = codes "none"
given_text (Some end) = decimal end

-- the way of a plan whose cranes go one way; that of others isn't told
abbrev pub way_text : Motion → List ℕ
way_text (motion.OneWay direction track) = codes "\ndirection " ++ direction_text direction
way_text (motion.Free track) = []

-- what is printed for a plan that was found
abbrev pub planned_text : Planned → List ℕ
planned_text told =
    kind_word told.kind ++ codes "\nend " ++ decimal told.end ++ codes "\nbound " ++ decimal told.bound
    ++ codes "\nbranched " ++ decimal told.branched ++ codes "\ngiven " ++ given_text told.given
    ++ way_text told.motion ++ codes "\n"

-- what is printed where all branchings are spent and no plan was found
abbrev pub unplanned_text : ℕ → ℕ → List ℕ
unplanned_text bound branched =
    codes "Budget\nbound " ++ decimal bound ++ codes "\nbranched " ++ decimal branched ++ codes "\n"

-- what is printed where there is no plan
abbrev pub infeasible_text : ℕ → List ℕ
infeasible_text branched = codes "Infeasible\nbranched " ++ decimal branched ++ codes "\n"

-- the motion of a schedule can be told: it goes this way, or is feasible, and the track has room for it
abbrev pub CanBeMoved : InstanceView → List Slot → Motion → Type 0
CanBeMoved inst sched (motion.OneWay direction track) =
    Goes inst sched direction × (length inst.tasks ≤ track.tasks)
CanBeMoved inst sched (motion.Free track) = Feasible inst sched × (length inst.tasks ≤ track.tasks)

pub record IsReady (told : Planned) : Type 0 where
  pub judgeable : IsJudgeable told.inst told.sched
  pub moved : CanBeMoved told.inst told.sched told.motion

abbrev pub CanBeTold : PlanAnswer → Type 0
CanBeTold (answer.Planned told) = IsReady told
CanBeTold _ = Unit {0}

-- the lines are those of the first n cranes where the schedule goes this way: their waypoints, between which they move
-- evenly
pub record AreOneWayLines (inst : InstanceView) (sched : List Slot) (direction : Direction) (n : ℕ) (lines : List ℕ)
    : Type 0 where
  pub tracks : List (List Waypoint)
  pub are : AreTracks inst sched direction tracks
  pub count : length tracks ≡ n
  pub text : lines ≡ tracks_text inst.cranes tracks

-- the same where the cranes go as they like, in halves of ticks and of places
pub record AreFreeLines (inst : InstanceView) (sched : List Slot) (n : ℕ) (lines : List ℕ) : Type 0 where
  pub tracks : List (List HalfPoint)
  pub are : AreFreeTracks inst sched tracks
  pub between : (k : ℕ) → k < length tracks → MovesBetween inst sched k (slice_index_or tracks k [])
  pub count : length tracks ≡ n
  pub text : lines ≡ free_lines inst.cranes tracks

abbrev pub AreLines : InstanceView → List Slot → Motion → ℕ → List ℕ → Type 0
AreLines inst sched (motion.OneWay direction track) n lines = AreOneWayLines inst sched direction n lines
AreLines inst sched (motion.Free track) n lines = AreFreeLines inst sched n lines

-- the report of a plan that was found went out: its summary, and the motion of every crane
pub record IsPlanPrinted (told : Planned) (before after : Option (List ℕ)) : Type 0 where
  pub lines : List ℕ
  pub are : AreLines told.inst told.sched told.motion (length told.inst.cranes) lines
  pub bytes : after ≡ append_known before (planned_text told ++ lines)

-- a front part of it went out
pub record IsPlanCut (told : Planned) (before after : Option (List ℕ)) : Type 0 where
  pub count : ℕ
  pub lines : List ℕ
  pub are : AreLines told.inst told.sched told.motion count lines
  pub part : GrewByPart before after (planned_text told ++ lines)

-- what is printed for an answer, and what where the sink failed on the way
abbrev pub plan_prints : PlanAnswer → Printing
plan_prints answer.WriteFault = Prints (codes "WriteFault\n")
plan_prints (answer.Broken told) = Prints (broken_text told)
plan_prints (answer.Planned told) = IsPlanPrinted told
plan_prints (answer.Unplanned bound branched) = Prints (unplanned_text bound branched)
plan_prints (answer.Infeasible branched) = Prints (infeasible_text branched)

abbrev pub plan_prints_part : PlanAnswer → Printing
plan_prints_part answer.WriteFault = PrintsPart (codes "WriteFault\n")
plan_prints_part (answer.Broken told) = PrintsPart (broken_text told)
plan_prints_part (answer.Planned told) = IsPlanCut told
plan_prints_part (answer.Unplanned bound branched) = PrintsPart (unplanned_text bound branched)
plan_prints_part (answer.Infeasible branched) = PrintsPart (infeasible_text branched)

-- the status of a plan that was found: it is a best one where the search says so
abbrev pub found_status : Kind → Status
found_status kind.Optimal = status.Optimal
found_status kind.Infeasible = status.BudgetPlan
found_status kind.Budget = status.BudgetPlan

abbrev pub plan_status : PlanAnswer → Status
plan_status answer.WriteFault = status.WriteFault
plan_status (answer.Broken told) = status.Broken
plan_status (answer.Planned told) = found_status told.kind
plan_status (answer.Unplanned bound branched) = status.BudgetNone
plan_status (answer.Infeasible branched) = status.Infeasible
