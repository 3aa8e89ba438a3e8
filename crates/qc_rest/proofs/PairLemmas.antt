-- A task that is left starts behind what has begun, and when cranes have come from where they stood at first.
use Rattle.std.proofs.Common.{◌≡◌, ◌≢◌, ℕ, ◌+◌, ◌<◌, ◌≤◌, ◌⊎◌, inl, inr, List, length, refl, ap, subst, arith}
use Rattle.std.proofs.lemmas.Bool.{cases_lt}
use Rattle.qc_dispatch.specs.declared.stage.Stage.TheVariants.{Waiting}
use Rattle.qc_dispatch.specs.Course.{Course, is_waiting}
use Rattle.qc_dispatch.specs.Order.{ArePaired}
use Rattle.qc_dispatch.specs.Promises.{Keeps}
use Rattle.qc_dispatch.specs.Worked.{begun_at}
use Rattle.qc_model.specs.declared.schedule.Slot.{Slot}
use Rattle.qc_model.specs.Instance.{InstanceView, Valid, IsBefore, bay_of, crane, release_of}
use Rattle.qc_model.specs.Rules.{Feasible, crane_of, start_of}
use Rattle.qc_model.specs.Ticks.{arrival, berth_clear, berth_distance, distance, travel_between}
use Rattle.qc_rest.specs.declared.stand.Stand.{Stand}
use Rattle.qc_rest.specs.Progress.{AreOver, HasBegun, IsLeft, number_of}
use Rattle.qc_rest.specs.Rest.{IsRest}
use Rattle.qc_rest.specs.Stands.{stand_of}
use Rattle.qc_rest.proofs.BayLemmas.{distance_over, travel_over}
use Rattle.qc_rest.proofs.BegunLemmas.{early, freed, lasts, runs_or_over}
use Rattle.qc_rest.proofs.NumberLemmas.{counts_differ}
use Rattle.qc_rest.proofs.StandLemmas.{crane_low, done_for, from_other, from_own}

module _ (c : Course) (over : ℕ → ℕ) (stands : List Stand) (rest : InstanceView) (new : List Slot) (valid : Valid c.inst)
    (plan : Feasible c.inst c.plan) (keeps : Keeps c) (known : AreOver c over) (is : IsRest c over stands rest)
    (feasible : Feasible rest new) where
  abbrev pub starts : ℕ → ℕ
  starts j = c.clock + start_of new (number_of c j)

  abbrev pub by : ℕ → ℕ
  by j = crane_of new (number_of c j)

  -- ---- a task that has begun, and one that is left

  module _ (i j : ℕ) (low : i < length c.inst.tasks) (begun : HasBegun c i) (waits : IsLeft c j) where
    pub one_crane : crane_of c.plan i ≡ by j → over i + travel_between c.inst (bay_of c.inst i) (bay_of c.inst j) ≤ starts j
    one_crane same =
        let v = by j in
        let p = stand_of stands v in
        let v_low = crane_low c over stands rest new keeps is feasible j waits in
        let comes = from_own c over stands rest new keeps is feasible j waits in
        let way = travel_over c.inst (bay_of c.inst i) p.bay (bay_of c.inst j) in
        elim (done_for c over keeps known v i p low begun same (is.cranes v v_low).stands) [
          | inl stays ↦ omega (arith, stays.0, stays.1, comes, way)
          | inr soon ↦ omega (arith, soon.1, comes, way)
        ]

    pub two_cranes : crane_of c.plan i ≢ by j
        → 0 < distance c.inst (crane_of c.plan i) (bay_of c.inst i) (by j) (bay_of c.inst j)
        → over i + distance c.inst (crane_of c.plan i) (bay_of c.inst i) (by j) (bay_of c.inst j) ≤ starts j
    two_cranes differ near =
        let v = crane_of c.plan i in
        let p = stand_of stands v in
        let v_low = plan.crane_range i low in
        let from = from_other c over stands rest new keeps is feasible j waits v v_low differ in
        let way = distance_over c.inst v (bay_of c.inst i) p.bay (by j) (bay_of c.inst j) in
        elim (done_for c over keeps known v i p low begun refl (is.cranes v v_low).stands) [
          | inl stays ↦ omega (arith, stays.0, stays.1, way, near, from (omega (arith, stays.1, way, near)))
          | inr soon ↦ elim (cases_lt 0 (distance c.inst v p.bay (by j) (bay_of c.inst j))) [
            | inl far ↦ omega (arith, soon.1, way, from far)
            | inr none ↦ omega (arith, soon.0, way, none)
          ]
        ]

    -- it is over before what may not start until then
    pub held_back : IsBefore c.inst i j ⊎ ArePaired c.inst i j → release_of rest (number_of c j) ≤ start_of new (number_of c j) → over i ≤ starts j
    held_back first released = elim (runs_or_over c over keeps known i begun) [
      | inl runs ↦
          let held = (is.tasks j waits).held i (record { task = low; start = runs.0; runs = runs.1; first = first }) in
          omega (arith, held, released)
      | inr ended ↦ omega (arith, ended)
    ]

  -- ---- a task that is left, and where cranes stood at first

  module _ (j : ℕ) (waits : IsLeft c j) where
    -- its crane has come from its start bay
    pub from_berth : arrival c.inst (by j) (bay_of c.inst j) ≤ starts j
    from_berth =
        let w = by j in
        let p = stand_of stands w in
        let w_low = crane_low c over stands rest new keeps is feasible j waits in
        let comes = from_own c over stands rest new keeps is feasible j waits in
        elim (is.cranes w w_low).stands [
          | inl idle ↦
              let there : p.until + travel_between c.inst p.bay (bay_of c.inst j) ≡ arrival c.inst w (bay_of c.inst j) =
              ap (λ (s : Stand). s.until + travel_between c.inst s.bay (bay_of c.inst j)) idle.1 in
              omega (arith, comes, there)
          | inr last ↦
              let i = last.0 in
              let there : p.until + travel_between c.inst p.bay (bay_of c.inst j) ≡ over i + travel_between c.inst (bay_of c.inst i) (bay_of c.inst j) =
              ap (λ (s : Stand). s.until + travel_between c.inst s.bay (bay_of c.inst j)) last.2 in
              let came = freed c over keeps known i last.1.begun in
              let first : arrival c.inst w (bay_of c.inst i) ≤ begun_at c i =
              subst (λ (k : ℕ). arrival c.inst k (bay_of c.inst i) ≤ begun_at c i) last.1.by (omega (arith, came)) in
              omega (arith, comes, there, first, lasts c over keeps known i last.1.begun, travel_over c.inst (crane c.inst w).bay (bay_of c.inst i) (bay_of c.inst j))
        ]

    -- another crane has given way from its start bay
    pub berth_kept : (v : ℕ) → v < length c.inst.cranes → v ≢ by j → 0 < berth_distance c.inst v (by j) (bay_of c.inst j)
        → berth_clear c.inst v (by j) (bay_of c.inst j) ≤ starts j
    berth_kept v v_low differ near =
        let w = by j in
        let p = stand_of stands v in
        let from = from_other c over stands rest new keeps is feasible j waits v v_low differ in
        elim (is.cranes v v_low).stands [
          | inl idle ↦
              let bays : distance c.inst v p.bay w (bay_of c.inst j) ≡ berth_distance c.inst v w (bay_of c.inst j) =
              ap (λ (s : Stand). distance c.inst v s.bay w (bay_of c.inst j)) idle.1 in
              let ready : p.until ≡ (crane c.inst v).ready = ap (λ (s : Stand). s.until) idle.1 in
              omega (arith, bays, ready, from (omega (arith, bays, near)))
          | inr last ↦
              let i = last.0 in
              let bays : distance c.inst v p.bay w (bay_of c.inst j) ≡ distance c.inst v (bay_of c.inst i) w (bay_of c.inst j) =
              ap (λ (s : Stand). distance c.inst v s.bay w (bay_of c.inst j)) last.2 in
              let until : p.until ≡ over i = ap (λ (s : Stand). s.until) last.2 in
              let came = freed c over keeps known i last.1.begun in
              let first : arrival c.inst v (bay_of c.inst i) ≤ begun_at c i =
              subst (λ (k : ℕ). arrival c.inst k (bay_of c.inst i) ≤ begun_at c i) last.1.by (omega (arith, came)) in
              let way = distance_over c.inst v (crane c.inst v).bay (bay_of c.inst i) w (bay_of c.inst j) in
              elim (cases_lt 0 (distance c.inst v (bay_of c.inst i) w (bay_of c.inst j))) [
                | inl far ↦ omega (arith, bays, until, way, first, lasts c over keeps known i last.1.begun, from (omega (arith, bays, far)))
                | inr none ↦ omega (arith, way, none, first, early c over keeps known i last.1.begun)
              ]
        ]

  -- ---- two tasks that are left

  pub numbers_differ : (i j : ℕ) → IsLeft c i → IsLeft c j → i ≢ j → number_of c i ≢ number_of c j
  numbers_differ i j here there differ =
      counts_differ is_waiting c.stages i j Waiting differ (omega (arith, here.task, keeps.stages)) (omega (arith, there.task, keeps.stages))
      (ap is_waiting here.waits) (ap is_waiting there.waits)
