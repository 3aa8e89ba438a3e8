-- Decisions as a schedule has them: what they are open for, and what they settle.
use Rattle.std.proofs.Common.{◌≡◌, ℕ, ◌-◌, ◌<◌, inl, inr, Bool, true, false, List, [], ◌∷◌, length, get_or, Contains, ◌⊎◌, Option, None, Some, IfSome, IsSome, refl, ap, subst, arith, is_some, nat_le, sym, ◌≤◌, if◌then◌else◌}
use Rattle.std.proofs.lemmas.Bool.{and_from, cond_both, false_from_ne_true, false≢true, le-leb, leb-true}
use Rattle.std.proofs.lemmas.List.{drop_all}
use Rattle.qc_dist.specs.Node.{IsOpen}
use Rattle.qc_close.specs.Model.{Decision, Order, Pair, Slot, Turn, OneWay, Free, GoesBy, InstanceView, Valid, pair_of, Agrees, AreLeast, Conflicts, Fits, HasStarts, IsComplete, IsInReach, IsSettled, assigned, reaches, IsClear, crane_of, end_of, start_of, starts}
use Rattle.qc_model.proofs.CompleteNodes.{complete_where}
use Rattle.qc_model.proofs.NodeLemmas.{T_true, assigned_is, conflict_turned, meets_by, settled_by, settled_cases, settled_turned}
use Rattle.qc_model.proofs.TurnLemmas.{by_feasible}
use Rattle.qc_starts.specs.Seen.{AreAssigned, HasNone, IsReached, first_of}
use Rattle.qc_starts.specs.Tight.{order_in, ordered_pairs}
use Rattle.qc_starts.proofs.Growth.{IsNoLess, forced_grows, ordered_here_is}
use Rattle.qc_starts.proofs.KeptLemmas.{IsSettledPair, pairs_settled}
use Rattle.qc_starts.proofs.OverlapLemmas.{complete_one_way}
use Rattle.qc_search.specs.Progress.{AreOrdered}
use Rattle.qc_search.proofs.DecidedLemmas.{order_agrees, some_is}
use Rattle.qc_search.proofs.PairLemmas.{conflict_listed, listed_conflict, ordered_clear, ordered_rise}

-- starts meet a node with which a schedule of the instance's turn agrees
pub has_starts_of : (inst : InstanceView) (ds : List Decision) (sched : List Slot) → GoesBy inst.turn inst sched
    → Agrees inst ds sched → HasStarts inst ds
has_starts_of inst ds sched goes agrees =
    record { starts = starts sched; meets = meets_by inst ds sched goes agrees }

pub reached_of : (inst : InstanceView) (sched : List Slot) (j : ℕ) → GoesBy inst.turn inst sched → j < length inst.tasks
    → reaches inst j (crane_of sched j) ≡ true
reached_of inst sched j goes low =
    let r = (by_feasible inst.turn inst sched goes).reach j low in and_from _ _ (T_true r.0.le) (T_true r.1.le)

-- nothing is left of what is taken back whole
pub all_gone : (ds : List Decision) → first_of 0 ds ≡ []
all_gone ds = drop_all (length ds - 0) ds (omega arith)

-- such a node isn't stuck
pub unstuck : (inst : InstanceView) (ds : List Decision) (sched : List Slot) → GoesBy inst.turn inst sched → Agrees inst ds sched
    → (stuck : Bool) → HasNone inst ds stuck → stuck ≡ true → ⊥
unstuck inst ds sched goes agrees true none is = none (has_starts_of inst ds sched goes agrees)
unstuck inst ds sched goes agrees false none is = absurd (false≢true is)

-- ---- tasks that get their cranes one after another

-- ---- pairs that get their order

pub order_then : (inst : InstanceView) (sched : List Slot) (p : Pair) → end_of inst sched p.first ≤ start_of sched p.second
    → Order p.first p.second ≡ order_in inst sched p
order_then inst sched p before =
    sym (ap (λ b. if b then Order p.first p.second else Order p.second p.first) (le-leb _ _ before))

pub order_else : (inst : InstanceView) (sched : List Slot) (p : Pair) → start_of sched p.second < end_of inst sched p.first
    → Order p.second p.first ≡ order_in inst sched p
order_else inst sched p after =
    sym (ap (λ b. if b then Order p.first p.second else Order p.second p.first)
    (false_from_ne_true (nat_le (end_of inst sched p.first) (start_of sched p.second))
    (λ t. omega (arith, leb-true (end_of inst sched p.first) (start_of sched p.second) t, after))))

grows : (a b : Option ℕ) → IsNoLess a b → IsSome a → IsSome b
grows None b more some = absurd (false≢true some)
grows (Some m) b more some = ap is_some (more m refl).1

turned : (inst : InstanceView) (ds : List Decision) (i j : ℕ) → ¬ IsSettled inst ds i j → ¬ IsSettled inst ds j i
turned inst ds i j unsettled = λ settled. unsettled (settled_turned inst ds j i settled)

pub settled_more : (inst : InstanceView) (ds : List Decision) (d : Decision) → IsOpen inst ds d → (i j : ℕ)
    → IsSettled inst ds i j → IsSettled inst (d ∷ ds) i j
settled_more inst ds d is_open i j settled = elim (settled_cases inst ds i j settled) [
  | inl some ↦ settled_by inst (d ∷ ds) i j (inl (grows _ _ (forced_grows inst ds d is_open i j) some))
  | inr some ↦ settled_by inst (d ∷ ds) i j (inr (grows _ _ (forced_grows inst ds d is_open j i) some))
]

module _ (inst : InstanceView) (sched : List Slot) (p : Pair) (ds : List Decision) where
  abbrev order : Decision
  order = order_in inst sched p

  pub order_open : Conflicts inst ds p.first p.second → ¬ IsSettled inst ds p.first p.second → IsOpen inst ds order
  order_open conflict unsettled =
      cond_both (nat_le (end_of inst sched p.first) (start_of sched p.second)) (Order p.first p.second)
      (Order p.second p.first) (IsOpen inst ds)
      (λ _. (conflict, unsettled))
      (λ _. (conflict_turned inst ds p.first p.second conflict, turned inst ds p.first p.second unsettled))

  pub order_reached : IsReached inst order
  order_reached =
      cond_both (nat_le (end_of inst sched p.first) (start_of sched p.second)) (Order p.first p.second)
      (Order p.second p.first) (IsReached inst) (λ _. tt) (λ _. tt)

  pub order_assigns : (j : ℕ) → assigned (order ∷ ds) j ≡ assigned ds j
  order_assigns j =
      cond_both (nat_le (end_of inst sched p.first) (start_of sched p.second)) (Order p.first p.second)
      (Order p.second p.first) (λ (d : Decision). assigned (d ∷ ds) j ≡ assigned ds j) (λ _. refl) (λ _. refl)

  pub order_settles : ¬ IsSettled inst ds p.first p.second → IsSettledPair inst (order ∷ ds) p
  order_settles unsettled =
      cond_both (nat_le (end_of inst sched p.first) (start_of sched p.second)) (Order p.first p.second)
      (Order p.second p.first) (λ (d : Decision). IsSettledPair inst (d ∷ ds) p)
      (λ _. settled_by inst (Order p.first p.second ∷ ds) p.first p.second
      (inl (ap is_some (ordered_here_is inst ds p.first p.second unsettled).1)))
      (λ _. settled_by inst (Order p.second p.first ∷ ds) p.first p.second
      (inr (ap is_some (ordered_here_is inst ds p.second p.first (turned inst ds p.first p.second unsettled)).1)))

  pub order_agreed : Valid inst → GoesBy inst.turn inst sched → Conflicts inst ds p.first p.second → Agrees inst ds sched
      → Agrees inst (order ∷ ds) sched
  order_agreed v goes conflict agrees =
      order_agrees inst sched p ds (conflict_clear (conflict_listed inst v sched ds has p.first p.second conflict)) agrees
    where
      has : (j k : ℕ) → j < length inst.tasks → assigned ds j ≡ Some k → crane_of sched j ≡ k
      has j k low e = subst (λ (o : Option ℕ). IfSome o (λ v. crane_of sched j ≡ v)) e (assigned_is inst sched ds agrees j)

      conflict_clear : Contains (ordered_pairs inst.turn inst sched) (pair_of p.first p.second)
          ⊎ Contains (ordered_pairs inst.turn inst sched) (pair_of p.second p.first)
          → IsClear inst sched 0 p.first p.second
      conflict_clear (inl c) = ordered_clear inst v sched goes (pair_of p.first p.second) c
      conflict_clear (inr c) = elim (ordered_clear inst v sched goes (pair_of p.second p.first) c) [
        | inl h ↦ inr h
        | inr h ↦ inl h
      ]

module _ (inst : InstanceView) (v : Valid inst) (ds : List Decision) (sched : List Slot) (given : AreAssigned inst ds)
    (agrees : Agrees inst ds sched) where
  crane_is : (j : ℕ) → j < length inst.tasks → assigned ds j ≡ Some (crane_of sched j)
  crane_is j low = some_is (assigned ds j) (crane_of sched j) (given j low) (assigned_is inst sched ds agrees j)

  -- where each two that conflict are settled, each pair is whose order the schedule decides
  pub conflicts_ordered : ((i j : ℕ) → i < j → j < length inst.tasks → Conflicts inst ds i j → IsSettled inst ds i j)
      → AreOrdered inst ds sched
  conflicts_ordered settled p c =
      let conflict = listed_conflict inst v sched ds crane_is p c in
      let r = ordered_rise inst v sched p c in
      settled p.first p.second r.0 r.1 conflict

  -- and then nothing is left to decide
  pub ordered_complete : (begins : List ℕ) → Fits inst ds → IsInReach inst ds → AreOrdered inst ds sched
      → AreLeast inst ds begins → IsComplete inst ds
  ordered_complete begins fits reach ordered least = by_turn inst.turn refl ordered
    where
      has : (j k : ℕ) → j < length inst.tasks → assigned ds j ≡ Some k → crane_of sched j ≡ k
      has j k low e = subst (λ (o : Option ℕ). IfSome o (λ v. crane_of sched j ≡ v)) e (assigned_is inst sched ds agrees j)

      settled : (i j : ℕ) → Conflicts inst ds i j → IsSettled inst ds i j
      settled i j conflict = elim (conflict_listed inst v sched ds has i j conflict) [
        | inl c ↦ ordered (pair_of i j) c
        | inr c ↦ settled_turned inst ds j i (ordered (pair_of j i) c)
      ]

      by_turn : (turn : Turn) → inst.turn ≡ turn
          → ((p : Pair) → Contains (ordered_pairs inst.turn inst sched) p → IsSettled inst ds p.first p.second)
          → IsComplete inst ds
      by_turn OneWay one all = complete_one_way inst ds one given (λ i j a. settled i j (inl (inl a)))
      by_turn Free as_free all =
          (complete_where inst ds begins v fits reach as_free given least).1
          (record { clear = λ i j x y rising high on_x on_y conflict unsettled. absurd (unsettled (settled i j conflict)) })

pub all_settled : (inst : InstanceView) (ds : List Decision) → inst.turn ≡ OneWay → AreAssigned inst ds
    → ((k : ℕ) → k < length inst.apart → IsSettledPair inst ds (get_or inst.apart k (pair_of 0 0))) → IsComplete inst ds
all_settled inst ds one given each =
    complete_one_way inst ds one given (pairs_settled inst ds each)
