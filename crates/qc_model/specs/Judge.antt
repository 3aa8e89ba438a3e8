-- public: which rule a schedule breaks first, and where.
use Rattle.std.specs.Prelude.{◌≡◌, ℕ, ◌<◌, ◌≤◌, List, length, codes, Option, MatchOption}
use Rattle.qc_model.specs.declared.direction.Direction.{Direction}
use Rattle.qc_model.specs.declared.direction.Direction.TheVariants.{Up, Down}
use Rattle.qc_model.specs.declared.rules.Rule.{Rule}
use Rattle.qc_model.specs.declared.rules.Rule.TheVariants.{Reach, Ready, Travel, Before, Apart, Margin, Berth, OneWay}
use Rattle.qc_model.specs.declared.rules.Break.{Break}
use Rattle.qc_model.specs.Numbers.{most_start}
use Rattle.qc_model.specs.declared.pair.Pair.{Pair}
use Rattle.qc_model.specs.declared.schedule.Slot.{Slot}
use Rattle.qc_model.specs.Instance.{InstanceView, pair_of, IsEarlier}
use Rattle.qc_model.specs.Rules.{crane_of, start_of, KeepsReach, KeepsReady, KeepsTravel, KeepsBefore, KeepsApart, KeepsMargin, KeepsBerth}
use Rattle.qc_model.specs.OneWay.{GoesUp, GoesDown, KeepsClimb, KeepsLead}

-- the schedule can be judged: it has a slot for each task, on a crane of the instance, with a start
-- of at most 12 digits
pub record IsJudgeable (inst : InstanceView) (sched : List Slot) : Type 0 where
  pub all_tasks : length sched ≡ length inst.tasks
  pub crane_range : (j : ℕ) → j < length inst.tasks → crane_of sched j < length inst.cranes
  pub start_range : (j : ℕ) → j < length inst.tasks → start_of sched j ≤ most_start

-- the schedule is feasible and goes this way
abbrev pub Goes : InstanceView → List Slot → Direction → Type 0
Goes inst sched Up = GoesUp inst sched
Goes inst sched Down = GoesDown inst sched

-- the order in which rules are judged
abbrev pub rule_rank : Rule → ℕ
rule_rank Reach = 0
rule_rank Ready = 1
rule_rank Travel = 2
rule_rank Before = 3
rule_rank Apart = 4
rule_rank Margin = 5
rule_rank Berth = 6
rule_rank OneWay = 7

-- how a rule is printed
abbrev pub rule_text : Rule → List ℕ
rule_text Reach = codes "Reach"
rule_text Ready = codes "Ready"
rule_text Travel = codes "Travel"
rule_text Before = codes "Before"
rule_text Apart = codes "Apart"
rule_text Margin = codes "Margin"
rule_text Berth = codes "Berth"
rule_text OneWay = codes "OneWay"

-- where a rule is judged: at one task, whose number stands twice, or at two tasks, the lower first
abbrev pub IsJudgedAt : Rule → ℕ → ℕ → Type 0
IsJudgedAt Reach i j = i ≡ j
IsJudgedAt Ready i j = i ≡ j
IsJudgedAt Travel i j = i < j
IsJudgedAt Before i j = i < j
IsJudgedAt Apart i j = i < j
IsJudgedAt Margin i j = i < j
IsJudgedAt Berth i j = i ≡ j
IsJudgedAt OneWay i j = i < j

-- the rule holds at the tasks i, j, taken in either order
abbrev pub Keeps : InstanceView → List Slot → Rule → ℕ → ℕ → Type 0
Keeps inst sched Reach i j = KeepsReach inst sched j
Keeps inst sched Ready i j = KeepsReady inst sched j
Keeps inst sched Travel i j = KeepsTravel inst sched i j
Keeps inst sched Before i j = KeepsBefore inst sched i j × KeepsBefore inst sched j i
Keeps inst sched Apart i j = KeepsApart inst sched i j × KeepsApart inst sched j i
Keeps inst sched Margin i j = KeepsMargin inst sched i j
Keeps inst sched Berth i j = (v : ℕ) → v < length inst.cranes → KeepsBerth inst sched j v
Keeps inst sched OneWay i j =
    KeepsClimb inst sched i j × KeepsClimb inst sched j i
    × KeepsLead inst sched i j × KeepsLead inst sched j i

-- the rule holds wherever it is judged
abbrev pub KeepsAll : InstanceView → List Slot → Rule → Type 0
KeepsAll inst sched rule =
    (i j : ℕ) → IsJudgedAt rule i j → j < length inst.tasks → Keeps inst sched rule i j

-- the rule fails at the tasks i, j and at none before them
pub record IsFirstFault (inst : InstanceView) (sched : List Slot) (rule : Rule) (i j : ℕ) : Type 0 where
  pub judged : IsJudgedAt rule i j
  pub range : j < length inst.tasks
  pub fails : ¬ Keeps inst sched rule i j
  pub first : (k l : ℕ) → IsJudgedAt rule k l → l < length inst.tasks
      → IsEarlier (pair_of k l) (pair_of i j) → Keeps inst sched rule k l

-- the first tasks at which the rule fails, where there are any
abbrev pub FaultIs : InstanceView → List Slot → Rule → Option Pair → Type 0
FaultIs inst sched rule o =
    MatchOption o (KeepsAll inst sched rule) (λ p. IsFirstFault inst sched rule p.first p.second)

-- this is the first rule that fails, and the first tasks at which it does
pub record IsFirstBreak (inst : InstanceView) (sched : List Slot) (b : Break) : Type 0 where
  pub rules : (rule : Rule) → rule_rank rule < rule_rank b.rule → KeepsAll inst sched rule
  pub fault : IsFirstFault inst sched b.rule b.first b.second

-- the direction of a schedule: up where it goes up, else down where it goes down
abbrev pub IsDirection : InstanceView → List Slot → Direction → Type 0
IsDirection inst sched Up = GoesUp inst sched
IsDirection inst sched Down = GoesDown inst sched × (¬ GoesUp inst sched)
