-- Names of tasks that were written are read as what they were.
use Rattle.std.proofs.Common.{◌≡◌, ◌≢◌, ℕ, ◌+◌, ◌*◌, ◌<◌, ◌≤◌, pos, true, false, ◌==◌, List, Contains, Some, None, bytes_eq, refl, ap, ◌∙◌, inl, inr, arith}
use Rattle.std.specs.List.{AllByRecursion as Each}
use Rattle.std.proofs.lemmas.Bool.{cases_Bool}
use Rattle.std.proofs.lemmas.Bool.Decides.{nat_tests}
use Rattle.std.proofs.lemmas.Slice.Eq.{bytes_eq-Decides}
use Rattle.qc_gantt.proofs.RereadLemmas.{one_name}
use Rattle.qc_model.specs.declared.task.Phase.{Phase}
use Rattle.qc_model.specs.declared.task.Phase.TheVariants.{DeckOut, HoldOut, HoldIn, DeckIn}
use Rattle.qc_model.specs.declared.task.Task.{Task}
use Rattle.qc_model.specs.Tasks.{phase_rank}
use Rattle.qc_ship.specs.Numbers.{greatest_hatch}
use Rattle.qc_ship.specs.declared.ship.TaskName.{TaskName}
use Rattle.qc_ship.specs.ShipFile.{name_in, name_in_phase, name_text, same_name}
use Rattle.qc_rest_files.proofs.Backs.{each_weaker, find_none, find_only, in_each}

abbrev task_of : ℕ → Phase → Task
task_of hatch phase = record { hatch = hatch; phase = phase; bay = pos 0; ticks = 0; release = 0 }

rank_low : (phase : Phase) → phase_rank phase < 4
rank_low DeckOut = omega arith
rank_low HoldOut = omega arith
rank_low HoldIn = omega arith
rank_low DeckIn = omega arith

-- one name is of one hatch and one phase
same_parts : (h g : ℕ) (p q : Phase) → h ≤ greatest_hatch → g ≤ greatest_hatch → name_text h p ≡ name_text g q
    → (h ≡ g) × (phase_rank p ≡ phase_rank q)
same_parts h g p q low less same =
    let ranks : 4 * h + phase_rank p ≡ 4 * g + phase_rank q = one_name (task_of h p) (task_of g q) (omega (arith, low)) (omega (arith, less)) same in
    (omega (arith, ranks, rank_low p, rank_low q), omega (arith, ranks, rank_low p, rank_low q))

same_text : (a b : List ℕ) → bytes_eq a b ≡ true → a ≡ b
same_text a b e = (bytes_eq-Decides a b).0 e

one_text : (a : List ℕ) → bytes_eq a a ≡ true
one_text a = (bytes_eq-Decides a a).1 refl

module _ (hatches : List ℕ) (low : Each (λ h. h ≤ greatest_hatch) hatches) (hatch : ℕ) (at : Contains hatches hatch) where
  own : hatch ≤ greatest_hatch
  own = in_each (λ h. h ≤ greatest_hatch) hatches hatch low at

  -- its own phase finds the hatch, and another finds none
  here : (phase : Phase) → name_in_phase hatches (name_text hatch phase) phase ≡ Some (record { hatch = hatch; phase = phase })
  here phase =
      rw (find_only (λ h. bytes_eq (name_text h phase) (name_text hatch phase)) hatches hatch at (one_text (name_text hatch phase))
      (each_weaker (λ h. h ≤ greatest_hatch) (λ h. bytes_eq (name_text h phase) (name_text hatch phase) ≡ true → h ≡ hatch) hatches
      (λ h small same. (same_parts h hatch phase phase small own (same_text _ _ same)).0) low)) refl

  past : (phase p : Phase) → phase_rank p ≢ phase_rank phase → name_in_phase hatches (name_text hatch phase) p ≡ None
  past phase p other =
      rw (find_none (λ h. bytes_eq (name_text h p) (name_text hatch phase)) hatches
      (each_weaker (λ h. h ≤ greatest_hatch) (λ h. bytes_eq (name_text h p) (name_text hatch phase) ≡ false) hatches
      (λ h small. elim (cases_Bool (bytes_eq (name_text h p) (name_text hatch phase))) [
        | inl same ↦ absurd (other (same_parts h hatch p phase small own (same_text _ _ same)).1)
        | inr other_text ↦ other_text
      ]) low)) refl

  pub name_back : (phase : Phase) → name_in hatches (name_text hatch phase) ≡ Some (record { hatch = hatch; phase = phase })
  name_back DeckOut = rw (here DeckOut) refl
  name_back HoldOut = rw (past HoldOut DeckOut (λ e. omega (arith, e)), here HoldOut) refl
  name_back HoldIn = rw (past HoldIn DeckOut (λ e. omega (arith, e)), past HoldIn HoldOut (λ e. omega (arith, e)), here HoldIn) refl
  name_back DeckIn =
      rw (past DeckIn DeckOut (λ e. omega (arith, e)), past DeckIn HoldOut (λ e. omega (arith, e)), past DeckIn HoldIn (λ e. omega (arith, e)), here DeckIn) refl

-- two names that differ aren't taken for one
one_phase : (p q : Phase) → phase_rank p ≡ phase_rank q → p ≡ q
one_phase DeckOut DeckOut e = refl
one_phase DeckOut HoldOut e = absurd (omega (arith, e))
one_phase DeckOut HoldIn e = absurd (omega (arith, e))
one_phase DeckOut DeckIn e = absurd (omega (arith, e))
one_phase HoldOut DeckOut e = absurd (omega (arith, e))
one_phase HoldOut HoldOut e = refl
one_phase HoldOut HoldIn e = absurd (omega (arith, e))
one_phase HoldOut DeckIn e = absurd (omega (arith, e))
one_phase HoldIn DeckOut e = absurd (omega (arith, e))
one_phase HoldIn HoldOut e = absurd (omega (arith, e))
one_phase HoldIn HoldIn e = refl
one_phase HoldIn DeckIn e = absurd (omega (arith, e))
one_phase DeckIn DeckOut e = absurd (omega (arith, e))
one_phase DeckIn HoldOut e = absurd (omega (arith, e))
one_phase DeckIn HoldIn e = absurd (omega (arith, e))
one_phase DeckIn DeckIn e = refl

name_parts : (a b : TaskName) → (a.hatch == b.hatch) ≡ true → (phase_rank a.phase == phase_rank b.phase) ≡ true → a ≡ b
name_parts a b hatch phase =
    let h : a.hatch ≡ b.hatch = grind (arith, nat_tests, hatch) in
    let r : phase_rank a.phase ≡ phase_rank b.phase = grind (arith, nat_tests, phase) in
    ap (λ (n : ℕ). record { hatch = n; phase = a.phase }) h ∙ ap (λ (p : Phase). record { hatch = b.hatch; phase = p }) (one_phase a.phase b.phase r)

pub other_name : (a b : TaskName) → a ≢ b → same_name a b ≡ false
other_name a b differ = elim (cases_Bool (a.hatch == b.hatch)) [
  | inr apart ↦ rw apart refl
  | inl hatch ↦ elim (cases_Bool (phase_rank a.phase == phase_rank b.phase)) [
    | inr apart ↦ rw (hatch, apart) refl
    | inl phase ↦ absurd (differ (name_parts a b hatch phase))
  ]
]
