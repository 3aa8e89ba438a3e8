-- The old order in the rest, from starts of all tasks to a schedule.
use Rattle.std.proofs.Common.{◌≡◌, ◌≢◌, ℕ, ◌+◌, ◌<◌, ◌≤◌, inl, inr, Bool, true, false, List, length, map, replicate, Option, None, Some, slice_index, slice_index_or, slice_set, refl, ap, sym, subst, ◌∙◌, arith}
use Rattle.std.specs.List.{range_with_len}
use Rattle.std.proofs.lemmas.Bool.{cases_Bool, cases_eq, cases_lt, cond-true}
use Rattle.std.proofs.lemmas.Grind.{get_or-set_at}
use Rattle.std.proofs.lemmas.List.{get_or-replicate, get_or-set_other, get_or_past, length-replicate, length-set}
use Rattle.std.proofs.lemmas.List.FromFn.{get_or-map-range_with_len, length-map-range_with_len}
use Rattle.qc_dispatch.specs.declared.stage.Stage.TheVariants.{Waiting}
use Rattle.qc_dispatch.specs.Course.{Course, is_waiting, left, stage_of}
use Rattle.qc_dispatch.specs.Order.{gap}
use Rattle.qc_dispatch.specs.Promises.{Keeps}
use Rattle.qc_model.specs.declared.schedule.Slot.{Slot}
use Rattle.qc_model.specs.Instance.{InstanceView, ticks_of}
use Rattle.qc_model.specs.Nodes.{free}
use Rattle.qc_model.specs.Numbers.{most_start, most_work}
use Rattle.qc_model.specs.Rules.{crane_of, no_slot, start_of}
use Rattle.qc_rest.specs.declared.pass.Pass.{Pass}
use Rattle.qc_rest.specs.Following.{AreFollowed, MayStartBy, first_start}
use Rattle.qc_rest.specs.OldOrder.{IsOldOrder}
use Rattle.qc_rest.specs.Passing.{ArePassed, EndBy, HasRoom, MayBy, end_in, is_open}
use Rattle.qc_rest.specs.Progress.{IsLeft, number_of}
use Rattle.qc_rest.proofs.NumberLemmas.{count_below, counts_differ}
use Rattle.qc_rest.proofs.RestLemmas.{waits_there}

abbrev nothing : Option ℕ
nothing = None

abbrev pub slot_with : ℕ → ℕ → Slot
slot_with k start = record { crane = k; start = start }

abbrev pub slot_at : List Slot → ℕ → Slot
slot_at order a = slice_index_or order a no_slot

-- the tasks that are left of the first m have their slots
pub record IsOrderFor (c : Course) (starts : List ℕ) (m : ℕ) (order : List Slot) : Type 0 where
  pub count : length order ≡ left c
  pub each_one : (j : ℕ) → j < m → IsLeft c j
      → slot_at order (number_of c j) ≡ record { crane = crane_of c.plan j; start = slice_index starts j }
  pub early : (a : ℕ) → start_of order a + most_work ≤ most_start

pub left_here : (c : Course) (j : ℕ) → j < length c.inst.tasks → is_waiting (stage_of c j) ≡ true → IsLeft c j
left_here c j low waits = record { task = low; waits = waits_there (stage_of c j) waits }

pub slot_is : (c : Course) (slots : List Slot) (starts : List ℕ) (j start : ℕ) → slots ≡ c.plan → start ≡ slice_index starts j
    → slot_with (crane_of slots j) start ≡ slot_with (crane_of c.plan j) (slice_index starts j)
slot_is c slots starts j start same at =
    ap (λ (xs : List Slot). slot_with (crane_of xs j) start) same ∙ ap (slot_with (crane_of c.plan j)) at

-- where no end is known, none is late
pub bare_ends : (n m : ℕ) (ends : List (Option ℕ)) → ends ≡ replicate n nothing → EndBy ends m
bare_ends n m ends are i end e =
    let none : end_in (replicate n nothing) i ≡ nothing = elim (cases_lt i n) [
      | inl low ↦ get_or-replicate n i nothing nothing low
      | inr past ↦ get_or_past (replicate n nothing) i nothing (omega (arith, past, length-replicate n nothing))
    ] in
    let here = ap (λ (xs : List (Option ℕ)). end_in xs i) are in
    absurd (cc (e, here, none))

module _ (c : Course) (rest : InstanceView) where
  abbrev n : ℕ
  n = length c.inst.tasks

  -- what is known before any is passed
  pub record IsBare (old : Pass) : Type 0 where
    pub left_are : old.left.items ≡ map (λ i. is_waiting (stage_of c i)) (range_with_len 0 n)
    pub starts_are : old.starts.items ≡ map (first_start c rest) (range_with_len 0 n)
    pub ends_are : old.ends.items ≡ replicate n None

  module _ (old : Pass) (bare : IsBare old) where
    pub bare_room : HasRoom c.inst old
    bare_room = record {
      left = ap length bare.left_are ∙ length-map-range_with_len (λ i. is_waiting (stage_of c i)) 0 n;
      starts = ap length bare.starts_are ∙ length-map-range_with_len (first_start c rest) 0 n;
      ends = ap length bare.ends_are ∙ length-replicate n nothing;
    }

    none_in : (i : ℕ) → end_in old.ends.items i ≡ nothing
    none_in i =
        let e : end_in (replicate n nothing) i ≡ nothing = elim (cases_lt i n) [
          | inl low ↦ get_or-replicate n i nothing nothing low
          | inr past ↦ get_or_past (replicate n nothing) i nothing (omega (arith, past, length-replicate n nothing))
        ] in
        ap (λ (xs : List (Option ℕ)). end_in xs i) bare.ends_are ∙ e

    open_is : (i : ℕ) → i < n → is_open old.left.items i ≡ is_waiting (stage_of c i)
    open_is i low =
        ap (λ (xs : List Bool). is_open xs i) bare.left_are
        ∙ get_or-map-range_with_len (λ k. is_waiting (stage_of c k)) 0 n i i false low (omega arith)

    start_is : (i : ℕ) → IsLeft c i → slice_index old.starts.items i ≡ free rest (number_of c i) (crane_of c.plan i)
    start_is i is =
        ap (λ (xs : List ℕ). slice_index xs i) bare.starts_are ∙ get_or-map-range_with_len (first_start c rest) 0 n i i 0 is.task (omega arith)
        ∙ cond-true (is_waiting (stage_of c i)) (free rest (number_of c i) (crane_of c.plan i)) 0 (ap is_waiting is.waits)

    module _ (new : Pass) (passed : ArePassed c.inst c.plan old new) where
      abbrev starts : ℕ → ℕ
      starts = slice_index new.starts.items

      end_of_left : (i : ℕ) → IsLeft c i → end_in new.ends.items i ≡ Some (starts i + ticks_of c.inst i)
      end_of_left i is = (passed.passed i is.task (open_is i is.task ∙ ap is_waiting is.waits)).end

      known_left : (i end : ℕ) → i < n → end_in new.ends.items i ≡ Some end → IsLeft c i
      known_left i end low e = elim (cases_Bool (is_waiting (stage_of c i))) [
        | inl waits ↦ record { task = low; waits = waits_there (stage_of c i) waits }
        | inr begun ↦ absurd (cc (e, passed.others i (open_is i low ∙ begun) ∙ none_in i))
      ]

      same_some : (o : Option ℕ) (x y : ℕ) → o ≡ Some x → o ≡ Some y → x ≡ y
      same_some o x y one other = cc

      pub followed : AreFollowed c rest new.starts.items
      followed = record {
        each_one = λ j is tick.
            let begin = passed.passed j is.task (open_is j is.task ∙ ap is_waiting is.waits) in (
              λ le. let may : MayBy c.inst c.plan (slice_index old.starts.items j) new.ends.items j tick = (begin.start tick).0 le in record {
                free = omega (arith, may.from, start_is j is);
                clear = λ i here leads. may.clear i (starts i + ticks_of c.inst i) leads (end_of_left i here);
              },
              λ may. (begin.start tick).1 (record {
                from = omega (arith, may.free, start_is j is);
                clear = λ k end leads e.
                    let here = known_left k end leads.leader e in
                    let same = same_some (end_in new.ends.items k) end (starts k + ticks_of c.inst k) e (end_of_left k here) in
                    subst (λ (t : ℕ). t + gap c.inst c.plan k j ≤ tick) (sym same) (may.clear k here leads);
              }),
            );
      }

  -- ---- the schedule

  module _ (starts : List ℕ) (keeps : Keeps c) where
    pub no_order : (order : List Slot) → order ≡ replicate (left c) no_slot → IsOrderFor c starts 0 order
    no_order order is = record {
      count = ap length is ∙ length-replicate (left c) no_slot;
      each_one = λ j low. absurd (omega arith);
      early = λ a.
          let e = ap (λ (xs : List Slot). start_of xs a) is in
          elim (cases_lt a (left c)) [
            | inl low ↦ omega (arith, e, ap (λ (s : Slot). s.start) (get_or-replicate (left c) a no_slot no_slot low))
            | inr past ↦ omega (arith, e, ap (λ (s : Slot). s.start) (get_or_past (replicate (left c) no_slot) a no_slot (omega (arith, past, length-replicate (left c) no_slot))))
          ];
    }

    pub number_low : (j : ℕ) → IsLeft c j → number_of c j < left c
    number_low j is = count_below is_waiting c.stages j Waiting (omega (arith, is.task, keeps.stages)) (ap is_waiting is.waits)

    differ_at : (i j : ℕ) → IsLeft c i → IsLeft c j → i ≢ j → number_of c i ≢ number_of c j
    differ_at i j here there differ =
        counts_differ is_waiting c.stages i j Waiting differ (omega (arith, here.task, keeps.stages)) (omega (arith, there.task, keeps.stages))
        (ap is_waiting here.waits) (ap is_waiting there.waits)

    pub more_order : (m : ℕ) (order : List Slot) (slot : Slot) → IsLeft c m → slot ≡ record { crane = crane_of c.plan m; start = slice_index starts m }
        → slice_index starts m + most_work ≤ most_start → IsOrderFor c starts m order → IsOrderFor c starts (m + 1) (slice_set order (number_of c m) slot)
    more_order m order slot is at soon are = record {
      count = length-set order (number_of c m) slot ∙ are.count;
      each_one = λ j low here. elim (cases_eq j m) [
        | inl same ↦ subst (λ (k : ℕ). slot_at (slice_set order (number_of c m) slot) (number_of c k) ≡ record { crane = crane_of c.plan k; start = slice_index starts k })
            (sym same)
            (get_or-set_at order (number_of c m) (number_of c m) slot no_slot refl (omega (arith, number_low m is, are.count)) ∙ at)
        | inr other ↦ get_or-set_other order (number_of c m) (number_of c j) slot no_slot (differ_at j m here is other) ∙ are.each_one j (omega arith) here
      ];
      early = λ a. elim (cases_eq a (number_of c m)) [
        | inl same ↦ omega (arith, soon, ap (λ (s : Slot). s.start) (get_or-set_at order (number_of c m) a slot no_slot same (omega (arith, number_low m is, are.count))), ap (λ (s : Slot). s.start) at)
        | inr other ↦ omega (arith, are.early a, ap (λ (s : Slot). s.start) (get_or-set_other order (number_of c m) a slot no_slot other))
      ];
    }

    pub same_order : (m : ℕ) (order : List Slot) → is_waiting (stage_of c m) ≡ false → IsOrderFor c starts m order → IsOrderFor c starts (m + 1) order
    same_order m order begun are = record {
      count = are.count;
      each_one = λ j low here. elim (cases_eq j m) [
        | inl same ↦ absurd (cc (begun, ap (λ (k : ℕ). is_waiting (stage_of c k)) same, ap is_waiting here.waits))
        | inr other ↦ are.each_one j (omega arith) here
      ];
      early = are.early;
    }

    pub order_is : (m : ℕ) (order : List Slot) → n ≤ m → IsOrderFor c starts m order → AreFollowed c rest starts → IsOldOrder c rest order
    order_is m order all are follow = record {
      count = are.count;
      cranes = λ j is. ap (λ (s : Slot). s.crane) (are.each_one j (omega (arith, all, is.task)) is);
      starts = λ j is tick.
          let at = begins j is in (
            λ le. let may : MayStartBy c rest starts j tick = (follow.each_one j is tick).0 (omega (arith, le, at)) in record {
              free = may.free;
              clear = λ i here leads. omega (arith, may.clear i here leads, begins i here);
            },
            λ may. let low = (follow.each_one j is tick).1 (record {
              free = may.free;
              clear = λ i here leads. omega (arith, may.clear i here leads, begins i here);
            }) in omega (arith, low, at),
          );
    }
      where
        begins : (j : ℕ) → IsLeft c j → start_of order (number_of c j) ≡ slice_index starts j
        begins j is = ap (λ (s : Slot). s.start) (are.each_one j (omega (arith, all, is.task)) is)
