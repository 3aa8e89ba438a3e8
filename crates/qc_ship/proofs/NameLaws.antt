-- What pairs of names that were read are.
use Rattle.std.proofs.Common.{◌≡◌, ◌≢◌, ℕ, ◌+◌, ◌≤◌, ◌<◌, List, [], length, Option, Some, None, Ok, subst, ap, arith, ◌==◌, ok_or, option_map, bytes_eq, All, Contains, find, refl, true, false, sym, ◌∙◌}
use Rattle.std.specs.Option.{option_or}
use Rattle.std.proofs.lemmas.Bool.Decides.{nat_tests}
use Rattle.std.proofs.lemmas.List.Elements.{All-push}
use Rattle.qc_num.specs.Reading.{◌>>=◌, each}
use Rattle.qc_num.proofs.ReadingLemmas.{bind_ok, each-keeps, length-each, passed_not, same_ok}
use Rattle.toml.specs.Data.{Data, Members, get_member}
use Rattle.qc_model.specs.declared.task.Phase.{Phase}
use Rattle.qc_model.specs.declared.task.Phase.TheVariants.{DeckOut, HoldOut, HoldIn, DeckIn}
use Rattle.qc_model.specs.Tasks.{phase_rank}
use Rattle.qc_ship.specs.Numbers.{most_name_pairs}
use Rattle.qc_ship.specs.declared.fault.Key.TheVariants as key
use Rattle.qc_ship.specs.declared.fault.ShipKind.TheVariants as kind
use Rattle.qc_ship.specs.Keys.{key_text, fault}
use Rattle.qc_ship.specs.declared.ship.NamePair.{NamePair}
use Rattle.qc_ship.specs.declared.ship.TaskName.{TaskName}
use Rattle.qc_ship.specs.ShipValues.{array_in, next_number}
use Rattle.qc_ship.specs.ShipFile.{name_in_phase, name_in, name_text, names_in, order_in, before_at, same_name, two_texts}
use Rattle.qc_ship.proofs.HatchLaws.{either_way, find-Contains, found}
use Rattle.qc_ship.proofs.ShipLaws.{array_in-count}

-- names of two different tasks of the ship
abbrev pub AreNamesOf : List ℕ → NamePair → Type 0
AreNamesOf hatches pair =
    Contains hatches pair.first.hatch × Contains hatches pair.second.hatch × (pair.first ≢ pair.second)

from_either : {A : Type 0} (P : Type 0) (p q : Option A) (x : A) → option_or p q ≡ Some x → (p ≡ Some x → P) → (q ≡ Some x → P) → P
from_either P None q x e left right = right e
from_either P (Some y) q x e left right = left e

module _ (hatches text : List ℕ) (name : TaskName) where
  at_phase : (phase : Phase) → name_in_phase hatches text phase ≡ Some name → Contains hatches name.hatch
  at_phase phase e =
      find-Contains (λ hatch. bytes_eq (name_text hatch phase) text) hatches name.hatch
      (by (find (λ hatch. bytes_eq (name_text hatch phase) text) hatches) e)
    where
      by : (o : Option ℕ) → option_map (λ hatch. record { hatch = hatch; phase = phase }) o ≡ Some name → o ≡ Some name.hatch
      by None e = cc e
      by (Some h) e = ap (option_map (λ (n : TaskName). n.hatch)) e

  pub name_in-hatch : name_in hatches text ≡ Some name → Contains hatches name.hatch
  name_in-hatch e =
      let H = Contains hatches name.hatch in
      from_either H _ (name_in_phase hatches text DeckIn) name e (λ e1.
      from_either H _ (name_in_phase hatches text HoldIn) name e1 (λ e2.
      from_either H _ (name_in_phase hatches text HoldOut) name e2 (at_phase DeckOut) (at_phase HoldOut)) (at_phase HoldIn)) (at_phase DeckIn)

pub same_names : (a b : TaskName) → a ≡ b → same_name a b ≡ true
same_names a b e = subst (λ (n : TaskName). same_name a n ≡ true) e (grind (arith, nat_tests))

names_in-tells : (hatches : List ℕ) (before : List NamePair) (d : Data) (pair : NamePair) → names_in hatches before d ≡ Ok pair → AreNamesOf hatches pair
names_in-tells hatches before d pair e =
    let number = next_number before in
    let unknown = fault kind.Task key.Before number in
    let (texts, two, e1) = bind_ok (ok_or (two_texts d) (fault kind.WrongKind key.Before number)) _ pair e in
    let (a, at_a, e2) = bind_ok (ok_or (name_in hatches texts.0) unknown) _ pair e1 in
    let (b, at_b, e3) = bind_ok (ok_or (name_in hatches texts.1) unknown) _ pair e2 in
    let (differ, same) = passed_not (same_name a b) (Ok (record { first = a; second = b })) pair (fault kind.Same key.Before number) e3 in
    let P : NamePair → Type 0 = AreNamesOf hatches in
    subst P (same_ok same) (
      name_in-hatch hatches texts.0 a (found (name_in hatches texts.0) unknown a at_a),
      name_in-hatch hatches texts.1 b (found (name_in hatches texts.1) unknown b at_b),
      λ equal. cc (sym (same_names a b equal) ∙ differ),
    )

pub HasOrder-from : (hatches : List ℕ) (ms : Members) (pairs : List NamePair) → before_at hatches ms ≡ Ok pairs
    → (length pairs ≤ most_name_pairs) × All (AreNamesOf hatches) pairs
HasOrder-from hatches ms pairs e =
    let P : List NamePair → Type 0 = λ ps. (length ps ≤ most_name_pairs) × All (AreNamesOf hatches) ps in
    either_way P (order_in hatches) (get_member (key_text key.Before) ms) [] pairs e (omega arith, λ k d within. absurd (omega arith)) (λ d read.
    let (ds, items, judged) = bind_ok (array_in key.Before 0 most_name_pairs d) (each (names_in hatches) []) pairs read in
    let counts : (0 ≤ length ds) × (length ds ≤ most_name_pairs) = array_in-count key.Before 0 most_name_pairs d ds items in
    let long : length pairs ≡ 0 + length ds = length-each (names_in hatches) [] ds pairs judged in
    let Q : List NamePair → Type 0 = All (AreNamesOf hatches) in (
      omega (arith, counts.1, long),
      each-keeps (names_in hatches) Q (λ before d pair so_far step. All-push (AreNamesOf hatches) before pair so_far (names_in-tells hatches before d pair step))
          [] ds pairs (λ k d within. absurd (omega arith)) judged,
    ))
