-- public: what a crane does with the ticks of a plan, from 0 to its end.
use Rattle.std.specs.Prelude.{ℕ, ◌+◌, ◌-◌, ◌*◌, ◌/◌, Bool, ◌==◌, if◌then◌else◌, min, max, ◌-ℤ◌, unsigned_abs, List, [], ◌∷◌, length, sum_by, count_by, slice_index_or, Option}
use Rattle.std.specs.List.{range_with_len}
use Rattle.qc_model.specs.declared.direction.Direction.{Direction}
use Rattle.qc_model.specs.declared.schedule.Slot.{Slot}
use Rattle.qc_model.specs.declared.task.Task.{Task}
use Rattle.qc_model.specs.Instance.{InstanceView, crane, task, ticks_of}
use Rattle.qc_model.specs.Rules.{crane_of, end_of, ends}
use Rattle.qc_motion.specs.declared.track.Waypoint.{Waypoint}
use Rattle.qc_motion.specs.Waypoints.{waypoint}
use Rattle.qc_stow.specs.declared.row.Row.{Row}
use Rattle.qc_tasks.specs.InstanceOf.{is_move_of}
use Rattle.qc_figures.specs.declared.crane.Figures.{Figures}
use Rattle.qc_figures.specs.Motions.{parts}

-- what figures are told of: an instance and its moves, a schedule, the way in which it goes where it goes one, and the
-- waypoints of each crane
pub record PlanView : Type 0 where
  pub inst : InstanceView
  pub rows : List Row
  pub sched : List Slot
  pub way : Option Direction
  pub tracks : List (List Waypoint)

-- crane k does task j
abbrev pub does : List Slot → (k j : ℕ) → Bool
does sched k j = crane_of sched j == k

-- a number of a task that crane k does, and 0 of another's
abbrev pub of_crane : List Slot → ℕ → (ℕ → ℕ) → ℕ → ℕ
of_crane sched k f j = if does sched k j then f j else 0

-- the numbers of the tasks below n that crane k does, together
abbrev pub together : List Slot → ℕ → (ℕ → ℕ) → ℕ → ℕ
together sched k f n = sum_by (of_crane sched k f) (range_with_len 0 n)

-- the greatest of the numbers that f gives, and 0 where there is none
abbrev pub greatest : (ℕ → ℕ) → List ℕ → ℕ
greatest f [] = 0
greatest f (j ∷ js) = max (f j) (greatest f js)

-- the last end of the tasks below n that crane k does
abbrev pub last_end_of : PlanView → (k n : ℕ) → ℕ
last_end_of p k n = greatest (of_crane p.sched k (end_of p.inst p.sched)) (range_with_len 0 n)

-- how many container moves a task has
abbrev pub moves_in : List Row → Task → ℕ
moves_in rows t = count_by (is_move_of t) rows

-- how many tasks, container moves and ticks of work crane k has, and its last end
abbrev pub tasks_of : PlanView → ℕ → ℕ
tasks_of p k = together p.sched k (λ j. 1) (length p.inst.tasks)

abbrev pub moves_of : PlanView → ℕ → ℕ
moves_of p k = together p.sched k (λ j. moves_in p.rows (task p.inst j)) (length p.inst.tasks)

abbrev pub work_of : PlanView → ℕ → ℕ
work_of p k = together p.sched k (ticks_of p.inst) (length p.inst.tasks)

abbrev pub last_end : PlanView → ℕ → ℕ
last_end p k = last_end_of p k (length p.inst.tasks)

-- a moment, or the nearest one from `from` to `till`
abbrev pub clipped : (from till at : ℕ) → ℕ
clipped from till at = min (max at from) till

-- how long a crane goes, from `from` to `till`, that comes from one waypoint to the next
abbrev pub leg : (from till : ℕ) → Waypoint → Waypoint → ℕ
leg from till u v =
    if unsigned_abs (u.place -ℤ v.place) == 0 then 0 else clipped from till v.at - clipped from till u.at

-- how long a crane with these waypoints goes, from `from` to `till`
abbrev pub time_moving : List Waypoint → (from till : ℕ) → ℕ
time_moving points from till =
    sum_by (λ i. leg from till (waypoint points i) (waypoint points (i + 1))) (range_with_len 0 (length points - 1))

-- the waypoints of crane k
abbrev pub track : PlanView → ℕ → List Waypoint
track p k = slice_index_or p.tracks k []

-- the end of the plan
abbrev pub plan_end : PlanView → ℕ
plan_end p = ends p.inst p.sched

-- the tick from which crane k is ready, at most the end
abbrev pub ready_at : PlanView → ℕ → ℕ
ready_at p k = min (crane p.inst k).ready (plan_end p)

-- the last end of crane k, and where it has no task the tick from which it is ready
abbrev pub done_at : PlanView → ℕ → ℕ
done_at p k = max (last_end p k) (ready_at p k)

-- the ticks of all tasks, at least 1
abbrev pub all_work : PlanView → ℕ
all_work p = max (sum_by (λ t. t.ticks) p.inst.tasks) 1

-- how long crane k goes from when it is ready to its last end, in the parts of a tick of its waypoints
abbrev pub way_parts : PlanView → ℕ → ℕ
way_parts p k = time_moving (track p k) (parts p.way * ready_at p k) (parts p.way * done_at p k)

-- the same in ticks
abbrev pub way_of : PlanView → ℕ → ℕ
way_of p k = way_parts p k / parts p.way

abbrev pub figures : PlanView → ℕ → Figures
figures p k = record {
  tasks = tasks_of p k;
  moves = moves_of p k;
  not_ready = ready_at p k;
  work = work_of p k;
  moving = way_of p k;
  waiting = done_at p k - ready_at p k - work_of p k - way_of p k;
  idle = plan_end p - done_at p k;
  end = last_end p k;
  share = 1000 * work_of p k / all_work p;
}

-- the figures in the order in which they are told
abbrev pub figure_list : Figures → List ℕ
figure_list f =
    f.tasks ∷ f.moves ∷ f.not_ready ∷ f.work ∷ f.moving ∷ f.waiting ∷ f.idle ∷ f.end ∷ f.share ∷ []
