-- The least starts of a node, from decision to decision, and when the first of some tasks can start.
use Rattle.std.proofs.Common.{◌≡◌, ℕ, zero, suc, ◌+◌, ◌-◌, ◌<◌, ◌⊎◌, inl, inr, false, List, [], ◌∷◌, length, map, drop, Option, None, Some, refl, ap, sym, subst₂, ◌∙◌, arith, option_map, unwrap_or}
use Rattle.std.proofs.lemmas.Bool.{cases_lt, and_parts}
use Rattle.qc_dist.specs.Node.{IsOpen}
use Rattle.qc_close.specs.Model.{Decision, Assign, Order, least_starts, InstanceView, Valid, AreLeast, Fits, HasStarts, IsInReach, least, is_in_reach, reaches}
use Rattle.qc_model.proofs.LeastStarts.{found_of, least_found}
use Rattle.qc_model.proofs.NodeLemmas.{unsettled_unordered}
use Rattle.qc_starts.proofs.Growth.{meets_before}
use Rattle.qc_starts.specs.Seen.{IsNodeStart, IsReached}
use Rattle.qc_replay.specs.declared.earliest.EarlyStarts.{EarlyStarts}
use Rattle.qc_replay.specs.Crewed.{WereOpen}
use Rattle.qc_replay.specs.Earliest.{AreEarly, HaveNone, IsEnded, IsFirstStart, start_in}
use Rattle.qc_model.proofs.Extremes.{least_option}

-- decisions that were open fit
pub fits_of : (inst : InstanceView) (ds : List Decision) → WereOpen inst ds → Fits inst ds
fits_of inst [] were = tt
fits_of inst (Assign j k ∷ ds) were = (were.0.0, were.0.1, were.0.2, fits_of inst ds were.1)
fits_of inst (Order i j ∷ ds) were =
    let unordered = unsettled_unordered inst ds i j were.0.1 in
    (were.0.0, unordered.0, unordered.1, fits_of inst ds were.1)

-- ---- where there are none

in_reach_parts : (inst : InstanceView) (d : Decision) (ds : List Decision) → IsInReach inst (d ∷ ds)
    → IsReached inst d × IsInReach inst ds
in_reach_parts inst (Assign j k) ds reach = and_parts (reaches inst j k) (is_in_reach inst ds) reach
in_reach_parts inst (Order i j) ds reach = (tt, reach)

-- with one decision more there are none either
pub none_more : (inst : InstanceView) (ds : List Decision) (d : Decision) → IsOpen inst ds d → HaveNone inst ds
    → HaveNone inst (d ∷ ds)
none_more inst ds d able none reach has =
    let parts = in_reach_parts inst d ds reach in
    none parts.1 (record { starts = has.starts; meets = meets_before inst ds d able parts.0 has.starts has.meets })

-- and none are found
pub least_none : (inst : InstanceView) (ds : List Decision) → HaveNone inst ds → least_starts inst ds ≡ None
least_none inst ds none = by_starts (least_starts inst ds) refl
  where
    by_starts : (o : Option (List ℕ)) → least_starts inst ds ≡ o → least_starts inst ds ≡ None
    by_starts None e = e
    by_starts (Some starts) e =
        let found = found_of inst ds starts e in
        absurd (none found.in_reach (record { starts = starts; meets = found.least.meets }))

-- ---- from decision to decision

module _ (inst : InstanceView) (ds : List Decision) (old : EarlyStarts) where
  -- the starts are those of all decisions
  all_made : AreEarly inst ds old → old.past ≡ 0 → old.starts.decisions ≡ ds
  all_made are none = are.made ∙ ap (λ m. drop m ds) none

  -- some decisions are past the starts, or none meet them
  pub ended_none : AreEarly inst ds old → (0 < old.past) ⊎ (¬ HasStarts old.starts.inst old.starts.decisions)
      → HaveNone inst ds
  ended_none are (inl past) = are.none 0 past
  ended_none are (inr none) = elim (cases_lt 0 old.past) [
    | inl past ↦ are.none 0 past
    | inr here ↦
        let all = all_made are (omega arith) in
        λ reach has. none (subst₂ HasStarts (sym are.same) (sym all) has)
  ]

  module _ (d : Decision) where
    -- one decision more, past the starts
    pub early_past : AreEarly inst ds old → HaveNone inst (d ∷ ds)
        → AreEarly inst (d ∷ ds) (record { starts = old.starts; past = old.past + 1 })
    early_past are more =
        let count : suc old.past ≡ old.past + 1 = omega arith in
        record {
          same = are.same;
          made = are.made ∙ ap (λ m. drop m (d ∷ ds)) count;
          few = omega (arith, are.few);
          none = none;
        }
      where
        none : (k : ℕ) → k < old.past + 1 → HaveNone inst (drop k (d ∷ ds))
        none zero low = more
        none (suc k) low = are.none k (omega arith)

-- the newest decision is taken back, which was past the starts
pub early_less : (inst : InstanceView) (ds : List Decision) (d : Decision) (old : EarlyStarts) → AreEarly inst (d ∷ ds) old
    → 0 < old.past → AreEarly inst ds (record { starts = old.starts; past = old.past - 1 })
early_less inst ds d old are some =
    let count : old.past ≡ suc (old.past - 1) = omega arith in
    record {
      same = are.same;
      made = are.made ∙ ap (λ m. drop m (d ∷ ds)) count;
      few = omega (arith, are.few, count);
      none = λ k low. are.none (suc k) (omega (arith, low));
    }

-- ---- the first of some tasks

-- some starts are least
abbrev pub HasLeast : InstanceView → List Decision → Type 0
HasLeast inst ds = (starts : List ℕ) × AreLeast inst ds starts

-- a task's least start is that of any starts that are least
pub node_start_is : (inst : InstanceView) (ds : List Decision) (j start : ℕ) → j < length inst.tasks
    → IsNodeStart inst ds j start → (starts : List ℕ) → AreLeast inst ds starts → start ≡ start_in starts j
node_start_is inst ds j start low is starts least =
    omega (arith, is.is, is.least.least starts least.meets j low, least.least is.starts is.least.meets j low)

pub least_of_all : (o : Option ℕ) (xs : List ℕ) → o ≡ least_option xs → unwrap_or o 0 ≡ least xs
least_of_all o [] e = ap (λ (p : Option ℕ). unwrap_or p 0) e
least_of_all o (x ∷ xs) e = ap (λ (p : Option ℕ). unwrap_or p 0) e

module _ (inst : InstanceView) (ds : List Decision) (tasks : List ℕ) where
  abbrev first_in : List ℕ → ℕ
  first_in starts = least (map (start_in starts) tasks)

  -- what is the least of least starts is that of those that are found
  pub first_found : Valid inst → IsInReach inst ds → (tick : ℕ) → IsFirstStart inst ds tasks tick
      → Some tick ≡ option_map first_in (least_starts inst ds)
  first_found v reach tick first =
      ap Some first.is
      ∙ sym (ap (option_map first_in) (least_found inst ds v first.starts first.are reach))

  pub first_none : HaveNone inst ds → None ≡ option_map first_in (least_starts inst ds)
  first_none none = sym (ap (option_map first_in) (least_none inst ds none))

  -- the same of starts that are kept
  pub first_is : Valid inst → (early : EarlyStarts) → AreEarly inst ds early → IsEnded early false → (tick : ℕ)
      → IsFirstStart early.starts.inst early.starts.decisions tasks tick
      → Some tick ≡ option_map first_in (least_starts inst ds)
  first_is v early are ended tick first =
      let all = all_made inst ds early are ended.0 in
      first_found v (subst₂ IsInReach are.same all ended.2) tick
      (subst₂ (λ (i : InstanceView) (d : List Decision). IsFirstStart i d tasks tick) are.same all first)
