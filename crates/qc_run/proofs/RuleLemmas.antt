-- A feasible schedule keeps every rule but that of one way.
use Rattle.std.proofs.Common.{◌≢◌, ◌<◌, List, length, refl, arith}
use Rattle.qc_model.specs.declared.rules.Break.{Break}
use Rattle.qc_model.specs.declared.rules.Rule.{Rule}
use Rattle.qc_model.specs.declared.rules.Rule.TheVariants.{Reach, Ready, Travel, Before, Apart, Margin, Berth, OneWay}
use Rattle.qc_model.specs.declared.schedule.Slot.{Slot}
use Rattle.qc_model.specs.declared.turn.Turn.TheVariants.{Free}
use Rattle.qc_model.specs.Instance.{InstanceView}
use Rattle.qc_model.specs.Judge.{IsFirstBreak, KeepsAll}
use Rattle.qc_model.specs.Rules.{Feasible}
use Rattle.qc_run.specs.Broken.{IsBrokenBy}

feasible_keeps : (inst : InstanceView) (sched : List Slot) → Feasible inst sched → (rule : Rule) → rule ≢ OneWay → KeepsAll inst sched rule
feasible_keeps inst sched f Reach other i j p h = f.reach j h
feasible_keeps inst sched f Ready other i j p h = f.ready j h
feasible_keeps inst sched f Travel other i j p h = f.travel i j (omega arith) h (λ e. absurd (omega arith))
feasible_keeps inst sched f Before other i j p h = let q : i < length inst.tasks = omega arith in (f.before i j q h, f.before j i h q)
feasible_keeps inst sched f Apart other i j p h = let q : i < length inst.tasks = omega arith in (f.apart i j q h, f.apart j i h q)
feasible_keeps inst sched f Margin other i j p h = f.margin i j (omega arith) h
feasible_keeps inst sched f Berth other i j p h = λ v r. f.berth j v h r
feasible_keeps inst sched f OneWay other i j p h = absurd (other refl)

pub rule_broken : (inst : InstanceView) (sched : List Slot) (broken : Break) → IsFirstBreak inst sched broken → broken.rule ≢ OneWay → IsBrokenBy Free inst sched broken
rule_broken inst sched broken first other = record {
  not_allowed = λ f. first.fault.fails (feasible_keeps inst sched f broken.rule other broken.first broken.second first.fault.judged first.fault.range);
  first = first;
}
