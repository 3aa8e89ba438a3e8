-- public: what is printed of the runs of a plan.
use Rattle.std.specs.Prelude.{ℕ, List, [], ◌∷◌, ◌++◌, length, slice_index_or, sum, codes, decimal, Option, None, Some}
use Rattle.std.specs.Int.{div_ceil}
use Rattle.std.specs.List.{flat_map, range_with_len}
use Rattle.qc_model.specs.declared.schedule.Slot.{Slot}
use Rattle.qc_model.specs.Instance.{InstanceView, crane, task}
use Rattle.qc_model.specs.Rules.{crane_of, ends}
use Rattle.qc_model.specs.Tasks.{task_text}
use Rattle.qc_odds.specs.declared.odds.Odds.{Odds}
use Rattle.qc_odds.specs.declared.sums.CraneSum.{CraneSum}
use Rattle.qc_odds.specs.declared.sums.TaskSum.{TaskSum}
use Rattle.qc_odds.specs.Sums.{no_crane_sum, no_task_sum}
use Rattle.qc_odds.specs.Tally.{chance, done_at, ends_by}

-- how many runs there were, when the plan ends, and the mean of the ends of the runs, rounded up
abbrev pub head_text : (ends : List ℕ) → (planned : ℕ) → List ℕ
head_text ends planned =
    codes "runs " ++ decimal (length ends) ++ codes "\nend " ++ decimal planned ++ codes "\nmean "
    ++ decimal (div_ceil (sum ends) (length ends)) ++ codes "\n"

-- the tick by which so many hundredths of the runs are over, of their ends in rising order
abbrev pub done_line : (ends : List ℕ) → (percent : ℕ) → List ℕ
done_line ends percent =
    codes "done " ++ decimal percent ++ codes " " ++ decimal (done_at ends percent) ++ codes "\n"

-- the hundredths that are told
abbrev pub percents_told : List ℕ
percents_told = 10 ∷ 50 ∷ 80 ∷ 90 ∷ 95 ∷ 99 ∷ []

-- the chance that a run is over by a tick
abbrev pub kept_line : (ends : List ℕ) → (tick : ℕ) → List ℕ
kept_line ends tick =
    codes "kept " ++ decimal tick ++ codes " " ++ decimal (chance (ends_by ends tick) (length ends)) ++ codes "\n"

-- and by the tick that is asked about, if any is
abbrev pub asked_text : (ends : List ℕ) → (by : Option ℕ) → List ℕ
asked_text ends None = []
asked_text ends (Some tick) = kept_line ends tick

-- what the ends of the runs come to
abbrev pub ends_text : (ends : List ℕ) → (planned : ℕ) → (by : Option ℕ) → List ℕ
ends_text ends planned by =
    head_text ends planned ++ (flat_map (done_line ends) percents_told ++ (kept_line ends planned ++ asked_text ends by))

-- a crane: when it is through and for how long it waits at its tasks, both in the mean and rounded up, and the chance that
-- it is through last
abbrev pub crane_sum_line : (name : List ℕ) → (runs : ℕ) → CraneSum → List ℕ
crane_sum_line name runs sum =
    codes "crane " ++ name ++ codes " " ++ decimal (div_ceil sum.ends runs) ++ codes " "
    ++ decimal (div_ceil sum.held runs) ++ codes " " ++ decimal (chance sum.lasts runs) ++ codes "\n"

abbrev pub crane_line : InstanceView → (runs : ℕ) → List CraneSum → ℕ → List ℕ
crane_line inst runs sums k = crane_sum_line (crane inst k).name runs (slice_index_or sums k no_crane_sum)

-- a task: its crane, the chance that it is critical, and by how much it takes longer than planned where it is, in the mean
-- and rounded up
abbrev pub task_sum_line : (name crane : List ℕ) → (runs : ℕ) → TaskSum → List ℕ
task_sum_line name crane runs sum =
    codes "critical " ++ name ++ codes " " ++ crane ++ codes " " ++ decimal (chance sum.critical runs) ++ codes " "
    ++ decimal (div_ceil sum.over runs) ++ codes "\n"

abbrev pub task_line : InstanceView → List Slot → (runs : ℕ) → List TaskSum → ℕ → List ℕ
task_line inst plan runs sums j =
    task_sum_line (task_text (task inst j)) (crane inst (crane_of plan j)).name runs (slice_index_or sums j no_task_sum)

-- each crane, and each task to watch
abbrev pub sums_text : InstanceView → List Slot → (runs : ℕ) → Odds → List ℕ
sums_text inst plan runs odds =
    flat_map (crane_line inst runs odds.cranes.items) (range_with_len 0 (length inst.cranes))
    ++ flat_map (task_line inst plan runs odds.tasks.items) odds.watched.items

-- what is printed of the runs of a plan
abbrev pub odds_text : InstanceView → List Slot → (by : Option ℕ) → Odds → List ℕ
odds_text inst plan by odds =
    ends_text odds.tally.ends (ends inst plan) by ++ sums_text inst plan (length odds.tally.ends) odds
