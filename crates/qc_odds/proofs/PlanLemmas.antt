-- The plan itself leaves each task room, so with tasks that are no longer than planned none starts later.
use Rattle.std.proofs.Common.{◌≡◌, ◌≢◌, ℕ, ◌+◌, ◌<◌, ◌≤◌, inl, inr, List, length, slice_index, map, ap, eqb, pos_of_ne-zero, arith}
use Rattle.std.specs.List.{range_with_len}
use Rattle.std.proofs.lemmas.Bool.{cases_eq, cases_lt, cond_both, eq-eqb, eqb-false, ne_eqb}
use Rattle.qc_dispatch.specs.Order.{AreTied, Leads, free_of, gap}
use Rattle.qc_model.specs.declared.schedule.Slot.{Slot}
use Rattle.qc_model.specs.Instance.{InstanceView, Valid, bay_of, ticks_of}
use Rattle.qc_model.specs.Nodes.{berth_wait, greatest}
use Rattle.qc_model.specs.Rules.{Feasible, IsClear, crane_of, end_of, slot_distance, start_of}
use Rattle.qc_model.specs.Ticks.{berth_distance, travel_between}
use Rattle.qc_model.proofs.Extremes.{greatest_le}
use Rattle.qc_model.proofs.NodeLemmas.{one_crane_apart}
use Rattle.qc_odds.specs.Course.{AreStarts}
use Rattle.qc_odds.proofs.RiseLemmas.{no_later}

module _ (inst : InstanceView) (plan : List Slot) (valid : Valid inst) (feasible : Feasible inst plan) where
  -- of two tasks that are clear of each other, the one that starts sooner ends ahead of the other
  ends_ahead : (t i j : ℕ) → start_of plan i < start_of plan j → IsClear inst plan t i j → end_of inst plan i + t ≤ start_of plan j
  ends_ahead t i j sooner clear = elim clear [ inl after ↦ after | inr after ↦ omega (arith, after, sooner) ]

  differ : (i j : ℕ) → Leads inst plan i j → i ≢ j
  differ i j leads same = let e = ap (start_of plan) same in omega (arith, e, leads.sooner)

  tied_room : (i j : ℕ) → Leads inst plan i j → crane_of plan i ≢ crane_of plan j → slot_distance inst plan i j ≤ 0 → AreTied inst plan i j → end_of inst plan i ≤ start_of plan j
  tied_room i j leads others none (inl before) = feasible.before i j leads.leader leads.led before
  tied_room i j leads others none (inr (inl (inl apart))) =
      omega (arith, ends_ahead 0 i j leads.sooner (feasible.apart i j leads.leader leads.led apart))
  tied_room i j leads others none (inr (inl (inr apart))) =
      elim (feasible.apart j i leads.led leads.leader apart) [ inl after ↦ omega (arith, after, leads.sooner) | inr after ↦ omega (arith, after) ]
  tied_room i j leads others none (inr (inr (inl same))) = absurd (others same)
  tied_room i j leads others none (inr (inr (inr near))) = absurd (omega (arith, none, near))

  room : (i j : ℕ) → Leads inst plan i j → end_of inst plan i + gap inst plan i j ≤ start_of plan j
  room i j leads = elim (cases_eq (crane_of plan i) (crane_of plan j)) [
    | inl same ↦
        rw (eq-eqb (crane_of plan i) (crane_of plan j) same)
        (ends_ahead (travel_between inst (bay_of inst i) (bay_of inst j)) i j leads.sooner (feasible.travel i j leads.leader leads.led (differ i j leads) same))
    | inr others ↦
        rw (ne_eqb (crane_of plan i) (crane_of plan j) others)
        (elim (cases_lt 0 (slot_distance inst plan i j)) [
          | inl near ↦ ends_ahead (slot_distance inst plan i j) i j leads.sooner (feasible.margin i j leads.leader leads.led others near)
          | inr none ↦ omega (arith, none, tied_room i j leads others none leads.tied)
        ])
  ]

  -- a task starts no earlier than it may and its crane can be there
  free_start : (j : ℕ) → j < length inst.tasks → free_of inst plan j ≤ start_of plan j
  free_start j low = omega (arith, (feasible.ready j low).0, (feasible.ready j low).1, berths)
    where
      waits : (v : ℕ) → v < 0 + length inst.cranes → berth_wait inst j (crane_of plan j) v ≤ start_of plan j
      waits v high =
          cond_both (eqb (berth_distance inst v (crane_of plan j) (bay_of inst j)) 0) _ _ (λ n. n ≤ start_of plan j)
          (λ _. omega arith)
          (λ away.
          let far = eqb-false (berth_distance inst v (crane_of plan j) (bay_of inst j)) 0 away in
          let differ = λ (e : v ≡ crane_of plan j). far (one_crane_apart inst v (crane_of plan j) _ _ e) in
          feasible.berth j v low (omega arith) differ (omega (arith, pos_of_ne-zero far)))

      berths : greatest (map (berth_wait inst j (crane_of plan j)) (range_with_len 0 (length inst.cranes))) ≤ start_of plan j
      berths = greatest_le (berth_wait inst j (crane_of plan j)) (start_of plan j) 0 (length inst.cranes) waits

  pub no_later_than_planned : (lengths starts : List ℕ) → AreStarts inst plan lengths starts → ((j : ℕ) → j < length inst.tasks → slice_index lengths j ≤ ticks_of inst j)
      → (j : ℕ) → j < length inst.tasks → slice_index starts j ≤ start_of plan j
  no_later_than_planned lengths starts are shorter =
      no_later inst plan lengths starts are (start_of plan) (ticks_of inst)
      (record { longer = shorter; room = λ j low. record { free = free_start j low; clear = λ i leads. room i j leads } })
