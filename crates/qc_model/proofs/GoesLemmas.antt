-- A schedule goes upward exactly where each rule holds at each of its places.
use Rattle.std.proofs.Common.{◌≡◌, ◌≢◌, ℕ, ◌*◌, ◌<◌, ◌≤◌, ℤ, inl, inr, List, [], length, refl, sym, ap, subst, ◌∙◌, arith}
use Rattle.std.proofs.lemmas.Int.{ints}
use Rattle.std.proofs.lemmas.List.{length-map}
use Rattle.std.proofs.lemmas.Bool.{cases_order, lt-ltb, le-ltb}
use Rattle.qc_model.specs.declared.direction.Direction.{Direction}
use Rattle.qc_model.specs.declared.direction.Direction.TheVariants.{Up, Down}
use Rattle.qc_model.specs.declared.rules.Rule.{Rule}
use Rattle.qc_model.specs.declared.rules.Rule.TheVariants.{Reach, Ready, Travel, Before, Apart, Margin, Berth, OneWay}
use Rattle.qc_model.specs.declared.schedule.Slot.{Slot}
use Rattle.qc_model.specs.Bays.{bays_between}
use Rattle.qc_model.specs.Instance.{InstanceView, Valid, bay_of, IsBefore, IsApart}
use Rattle.qc_model.specs.Rules.{crane_of, IsClear, KeepsTravel, KeepsMargin, Feasible}
use Rattle.qc_model.specs.Ticks.{distance}
use Rattle.qc_model.specs.OneWay.{GoesUp, KeepsClimb, KeepsLead, mirror, mirror_slot, mirror_schedule}
use Rattle.qc_model.specs.declared.rules.Break.{Break}
use Rattle.qc_model.specs.Seen.{seen, seen_schedule}
use Rattle.qc_model.specs.Judge.{IsJudgeable, IsJudgedAt, rule_rank, KeepsAll, Goes, IsFirstBreak}
use Rattle.qc_model.proofs.SeenLemmas.{seen-task_count, seen-crane_count, seen-crane_of}
use Rattle.qc_model.proofs.MirrorLemmas.{seen_valid}

-- what the rules take for granted of an instance and a schedule
pub record IsSound (inst : InstanceView) (sched : List Slot) : Type 0 where
  pub all_tasks : length sched ≡ length inst.tasks
  pub crane_range : (j : ℕ) → j < length inst.tasks → crane_of sched j < length inst.cranes
  pub before_differ : (i j : ℕ) → IsBefore inst i j → i ≢ j
  pub apart_order : (i j : ℕ) → IsApart inst i j → i < j

swapped : (inst : InstanceView) (sched : List Slot) (s t i j : ℕ) → s ≡ t → IsClear inst sched s i j → IsClear inst sched t j i
swapped inst sched s t i j e (inl h) = inr (omega arith)
swapped inst sched s t i j e (inr h) = inl (omega arith)

travel_swapped : (inst : InstanceView) (sched : List Slot) (i j : ℕ) → KeepsTravel inst sched i j → KeepsTravel inst sched j i
travel_swapped inst sched i j k same =
    let e : bays_between (bay_of inst i) (bay_of inst j) ≡ bays_between (bay_of inst j) (bay_of inst i) = omega arith in
    swapped inst sched _ _ i j (ap (λ b. inst.travel * b) e) (k (sym same))

pub distance_swapped : (inst : InstanceView) (v : ℕ) (x : ℤ) (w : ℕ) (y : ℤ) → distance inst v x w y ≡ distance inst w y v x
distance_swapped inst v x w y =
    elim (cases_order v w) [
      | inl e ↦ let p : w ≤ v = omega arith in let q : v ≤ w = omega arith in rw (le-ltb v w p, le-ltb w v q) refl
      | inr u ↦ elim u [
        | inl h ↦ let p : v ≤ w = omega arith in rw (lt-ltb v w h, le-ltb w v p) refl
        | inr h ↦ let p : w ≤ v = omega arith in rw (lt-ltb w v h, le-ltb v w p) refl
      ]
    ]

margin_swapped : (inst : InstanceView) (sched : List Slot) (i j : ℕ) → KeepsMargin inst sched i j → KeepsMargin inst sched j i
margin_swapped inst sched i j k differ near =
    let e = distance_swapped inst (crane_of sched i) (bay_of inst i) (crane_of sched j) (bay_of inst j) in
    swapped inst sched _ _ i j e (k (λ s. differ (sym s)) (rw e near))

-- for two numbers that differ, by which is the lower
pub by_order : {P : Type 0} (i j : ℕ) → (i ≡ j → P) → (i < j → P) → (j < i → P) → P
by_order i j same up down = elim (cases_order i j) [ inl e ↦ same e | inr u ↦ elim u [ inl h ↦ up h | inr h ↦ down h ] ]

feasible_of : (inst : InstanceView) (sched : List Slot) → IsSound inst sched → ((rule : Rule) → rule_rank rule < 7 → KeepsAll inst sched rule) → Feasible inst sched
feasible_of inst sched s k = record {
  all_tasks = s.all_tasks;
  crane_range = s.crane_range;
  reach = λ j h. k Reach (omega arith) j j refl h;
  ready = λ j h. k Ready (omega arith) j j refl h;
  travel = λ i j g h differ. by_order i j (λ e. absurd (differ e)) (λ l. k Travel (omega arith) i j l h) (λ l. travel_swapped inst sched j i (k Travel (omega arith) j i l g));
  before = λ i j g h b. by_order i j (λ e. absurd (s.before_differ i j b e)) (λ l. (k Before (omega arith) i j l h).0 b) (λ l. (k Before (omega arith) j i l g).1 b);
  apart = λ i j g h a. (k Apart (omega arith) i j (s.apart_order i j a) h).0 a;
  margin = λ i j g h. by_order i j (λ e differ. absurd (differ (ap (crane_of sched) e))) (λ l. k Margin (omega arith) i j l h) (λ l. margin_swapped inst sched j i (k Margin (omega arith) j i l g));
  berth = λ j v h r. k Berth (omega arith) j j refl h v r;
}

climb_itself : (inst : InstanceView) (sched : List Slot) (i j : ℕ) → i ≡ j → KeepsClimb inst sched i j
climb_itself inst sched i j e same up = let b = ap (bay_of inst) e in absurd (omega (arith, ints))

lead_itself : (inst : InstanceView) (sched : List Slot) (i j : ℕ) → i ≡ j → KeepsLead inst sched i j
lead_itself inst sched i j e lower near = let b = ap (crane_of sched) e in absurd (omega arith)

pub goes_of : (inst : InstanceView) (sched : List Slot) → IsSound inst sched → ((rule : Rule) → KeepsAll inst sched rule) → GoesUp inst sched
goes_of inst sched s k = record {
  feasible = feasible_of inst sched s (λ rule _. k rule);
  upward = record {
    one_crane = λ i j g h. by_order i j (climb_itself inst sched i j) (λ l. (k OneWay i j l h).0) (λ l. (k OneWay j i l g).1);
    two_cranes = λ i j g h. by_order i j (lead_itself inst sched i j) (λ l. (k OneWay i j l h).2) (λ l. (k OneWay j i l g).3);
  };
}

pub keeps_of : (inst : InstanceView) (sched : List Slot) → GoesUp inst sched → (rule : Rule) → KeepsAll inst sched rule
keeps_of inst sched g Reach i j p h = g.feasible.reach j h
keeps_of inst sched g Ready i j p h = g.feasible.ready j h
keeps_of inst sched g Travel i j p h = g.feasible.travel i j (omega arith) h (λ e. absurd (omega arith))
keeps_of inst sched g Before i j p h = let q : i < length inst.tasks = omega arith in (g.feasible.before i j q h, g.feasible.before j i h q)
keeps_of inst sched g Apart i j p h = let q : i < length inst.tasks = omega arith in (g.feasible.apart i j q h, g.feasible.apart j i h q)
keeps_of inst sched g Margin i j p h = g.feasible.margin i j (omega arith) h
keeps_of inst sched g Berth i j p h = λ v r. g.feasible.berth j v h r
keeps_of inst sched g OneWay i j p h =
    let q : i < length inst.tasks = omega arith in
    (g.upward.one_crane i j q h, g.upward.one_crane j i h q, g.upward.two_cranes i j q h, g.upward.two_cranes j i h q)

pub sound_seen : (inst : InstanceView) (sched : List Slot) (way : Direction) → Valid inst → IsJudgeable inst sched → IsSound (seen inst way) (seen_schedule inst sched way)
sound_seen inst sched way v s = record {
  all_tasks = counted way ∙ s.all_tasks ∙ sym (seen-task_count inst way);
  crane_range = λ j h. in_range way j (rw (seen-task_count inst way) at h);
  before_differ = λ i j b e. u.before.no_ring i [] (subst (λ (k : ℕ). IsBefore (seen inst way) i k) (sym e) b);
  apart_order = λ i j a. (u.apart.range i j a).0;
}
  where
    u : Valid (seen inst way)
    u = seen_valid inst v way

    counted : (way : Direction) → length (seen_schedule inst sched way) ≡ length sched
    counted Up = refl
    counted Down = length-map sched (mirror_slot inst)

    in_range : (way : Direction) (j : ℕ) → j < length inst.tasks → crane_of (seen_schedule inst sched way) j < length (seen inst way).cranes
    in_range Up j h = s.crane_range j h
    in_range Down j h =
        let g : j < length sched = let e = s.all_tasks in omega arith in
        let r = s.crane_range j h in
        omega (arith, seen-crane_of inst sched Down j g, seen-crane_count inst Down)

pub goes_seen : (inst : InstanceView) (sched : List Slot) (way : Direction) → Valid inst → IsJudgeable inst sched → ((rule : Rule) → KeepsAll (seen inst way) (seen_schedule inst sched way) rule) → Goes inst sched way
goes_seen inst sched Up v s k = goes_of inst sched (sound_seen inst sched Up v s) k
goes_seen inst sched Down v s k = record {
  crane_range = s.crane_range;
  mirrored = goes_of (mirror inst) (mirror_schedule inst sched) (sound_seen inst sched Down v s) k;
}

pub keeps_seen : (inst : InstanceView) (sched : List Slot) (way : Direction) → Goes inst sched way → (rule : Rule) → KeepsAll (seen inst way) (seen_schedule inst sched way) rule
keeps_seen inst sched Up g rule = keeps_of inst sched g rule
keeps_seen inst sched Down g rule = keeps_of (mirror inst) (mirror_schedule inst sched) g.mirrored rule

-- a schedule with a first break doesn't go that way
pub breaks_seen : (inst : InstanceView) (sched : List Slot) (way : Direction) (b : Break) → IsFirstBreak (seen inst way) (seen_schedule inst sched way) b → ¬ Goes inst sched way
breaks_seen inst sched way b h g = h.fault.fails (keeps_seen inst sched way g b.rule b.first b.second h.fault.judged h.fault.range)

pub judged_order : (rule : Rule) (i j : ℕ) → IsJudgedAt rule i j → i ≤ j
judged_order Reach i j h = omega arith
judged_order Ready i j h = omega arith
judged_order Travel i j h = omega arith
judged_order Before i j h = omega arith
judged_order Apart i j h = omega arith
judged_order Margin i j h = omega arith
judged_order Berth i j h = omega arith
judged_order OneWay i j h = omega arith

-- a break names tasks of the instance, the lower first
pub break_range : (inst : InstanceView) (sched : List Slot) (way : Direction) (b : Break) → IsFirstBreak (seen inst way) (seen_schedule inst sched way) b → (b.first ≤ b.second) × (b.second < length inst.tasks)
break_range inst sched way b h = (judged_order b.rule b.first b.second h.fault.judged, rw (seen-task_count inst way) at h.fault.range)

-- where OneWay is the first rule to fail, the schedule is feasible
pub break_feasible : (inst : InstanceView) (sched : List Slot) (way : Direction) → Valid inst → IsJudgeable inst sched → (b : Break) → IsFirstBreak (seen inst way) (seen_schedule inst sched way) b → b.rule ≡ OneWay → Feasible (seen inst way) (seen_schedule inst sched way)
break_feasible inst sched way v s b h e =
    let seven : rule_rank b.rule ≡ 7 = ap rule_rank e in
    feasible_of (seen inst way) (seen_schedule inst sched way) (sound_seen inst sched way v s) (λ rule low. h.rules rule (omega arith))
