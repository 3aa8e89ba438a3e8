-- Which files stay: those of other names than the ones that are written.
use Rattle.std.proofs.Common.{◌≡◌, ◌∙◌, Bool, true, false, cond, not, bytes_eq, ◌||◌, IfSome, ℕ, List, [], ◌∷◌, Option, None, Some, refl, sym, ap, subst, inl, inr}
use Rattle.std.proofs.lemmas.Bool.{and_parts, false≢true}
use Rattle.std.proofs.lemmas.Map.Text.{is_eq-slice_cmp}
use Rattle.std.specs.List.{list_any}
use Rattle.std.specs.Cmp.Lexicographic.{nat_list_cmp_total}
use Rattle.std.specs.FinMap.{get, get-insert, insert}
use Rattle.qc_io.specs.Outside.{Files, View}
use Rattle.qc_rest_command.specs.Promises.{IsKept}
use Rattle.qc_rest_command.specs.Stored.{IsLeft, NewTexts, texts_of}
use Rattle.qc_run.specs.Inputs.{Names, Replanning}
use Rattle.qc_words.specs.Asked.{are_different, is_same, resting}
use Rattle.qc_top.specs.Promises.{ReadStays, Stays}

-- a name is none of others, which differ
pub apart_parts : (name : Option (List ℕ)) (names : List (Option (List ℕ))) → are_different (name ∷ names) ≡ true
    → (not (list_any (is_same name) names) ≡ true) × (are_different names ≡ true)
apart_parts name names = and_parts (not (list_any (is_same name) names)) (are_different names)

-- a file of another name is as it was
pub get_other : (files : Files) (name bytes other : List ℕ) → bytes_eq other name ≡ false
    → get (insert files name bytes) other ≡ get files other
get_other files name bytes other differs =
    get-insert nat_list_cmp_total files name bytes other
    ∙ ap (λ (b : Bool). cond b (Some bytes) (get files other)) (is_eq-slice_cmp other name ∙ differs)

-- ---- the files that the rest of a plan reads

-- what none of a list passes, none of those behind its first passes
none_behind : {X : Type 0} (p : X → Bool) (x : X) (xs : List X) → not (list_any p (x ∷ xs)) ≡ true
    → not (list_any p xs) ≡ true
none_behind p x xs none = by (p x) none
  where
    by : (b : Bool) → not (b || list_any p xs) ≡ true → not (list_any p xs) ≡ true
    by true h = absurd (false≢true h)
    by false h = h

-- three tests of which none passes
none_of_three : (a b c : Bool) → not (a || (b || (c || false))) ≡ true → (a ≡ false) × (b ≡ false) × (c ≡ false)
none_of_three true b c h = absurd (false≢true h)
none_of_three false true c h = absurd (false≢true h)
none_of_three false false true h = absurd (false≢true h)
none_of_three false false false h = (refl, refl, refl)

-- a name is none of the three that are written
record IsNoneOf (asked : Replanning) (o : List ℕ) : Type 0 where
  ship : bytes_eq o asked.new_ship ≡ false
  stow : bytes_eq o asked.new_stow ≡ false
  own : bytes_eq o asked.own ≡ false

abbrev written_names : Replanning → List (Option (List ℕ))
written_names asked = Some asked.new_ship ∷ Some asked.new_stow ∷ Some asked.own ∷ []

none_written : (asked : Replanning) (o : List ℕ) → not (list_any (is_same (Some o)) (written_names asked)) ≡ true → IsNoneOf asked o
none_written asked o h =
    let none = none_of_three (bytes_eq o asked.new_ship) (bytes_eq o asked.new_stow) (bytes_eq o asked.own) h in
    record { ship = none.0; stow = none.1; own = none.2 }

module _ (asked : Replanning) (o : List ℕ) (none : IsNoneOf asked o) (held : Files) (texts : NewTexts) where
  now_other : (now : Option Files) (files : Files) → now ≡ Some files → get files o ≡ get held o
      → IfSome now (λ f. get f o ≡ get held o)
  now_other now files is same = subst (λ (m : Option Files). IfSome m (λ f. get f o ≡ get held o)) (sym is) same

  ship_other : get (insert held asked.new_ship texts.ship) o ≡ get held o
  ship_other = get_other held asked.new_ship texts.ship o none.ship

  list_other : get (insert (insert held asked.new_ship texts.ship) asked.new_stow texts.list) o ≡ get held o
  list_other = get_other (insert held asked.new_ship texts.ship) asked.new_stow texts.list o none.stow ∙ ship_other

  order_other :
      get (insert (insert (insert held asked.new_ship texts.ship) asked.new_stow texts.list) asked.own texts.order) o
      ≡ get held o
  order_other =
      get_other (insert (insert held asked.new_ship texts.ship) asked.new_stow texts.list) asked.own texts.order o none.own
      ∙ list_other

  new_other : (now : Option Files) → IsLeft asked texts (Some held) now → IfSome now (λ f. get f o ≡ get held o)
  new_other now (inl is) = now_other now held is refl
  new_other now (inr (inl is)) = now_other now _ is ship_other
  new_other now (inr (inr (inl is))) = now_other now _ is list_other
  new_other now (inr (inr (inr is))) = now_other now _ is order_other

-- a file of another name is as it was, however far the writing came
kept_other : (asked : Replanning) (o : List ℕ) → IsNoneOf asked o → (before after : View) → IsKept asked before after
    → Stays (Some o) before after
kept_other asked o none before after (inl same) = by before.files after.files same
  where
    by : (held now : Option Files) → now ≡ held → IfSome held (λ h. IfSome now (λ n. get n o ≡ get h o))
    by None now is = tt
    by (Some h) now is = subst (λ (m : Option Files). IfSome m (λ n. get n o ≡ get h o)) (sym is) refl
kept_other asked o none before after (inr new) = by before.files new.left
  where
    by : (held : Option Files) → IsLeft asked (texts_of new.told new.text) held after.files
        → IfSome held (λ h. IfSome after.files (λ n. get n o ≡ get h o))
    by None left = tt
    by (Some h) left = new_other asked o none h (texts_of new.told new.text) after.files left

-- and so is that of a name that differs from those that are written
stays_other : (asked : Replanning) (name : Option (List ℕ)) (before after : View) → IsKept asked before after
    → not (list_any (is_same name) (written_names asked)) ≡ true → Stays name before after
stays_other asked None before after kept differs = tt
stays_other asked (Some o) before after kept differs =
    kept_other asked o (none_written asked o differs) before after kept

pub reads_stay : (asked : Replanning) (before after : View) → IsKept asked before after → are_different (resting asked) ≡ true
    → ReadStays asked before after
reads_stay asked before after kept apart = record {
  ship = stay files.ship (behind files.ship files.log written (behind files.ship files.plan from_log (behind files.ship files.stow from_plan of_ship.0)));
  stow = stay files.stow (behind files.stow files.log written (behind files.stow files.plan from_log of_stow.0));
  plan = stay files.plan (behind files.plan files.log written of_plan.0);
  log = stay files.log of_log.0;
}
  where
    files : Names
    files = asked.inputs

    written : List (Option (List ℕ))
    written = written_names asked

    from_log : List (Option (List ℕ))
    from_log = files.log ∷ written

    from_plan : List (Option (List ℕ))
    from_plan = files.plan ∷ from_log

    of_ship : (not (list_any (is_same files.ship) (files.stow ∷ from_plan)) ≡ true) × (are_different (files.stow ∷ from_plan) ≡ true)
    of_ship = apart_parts files.ship (files.stow ∷ from_plan) apart

    of_stow : (not (list_any (is_same files.stow) from_plan) ≡ true) × (are_different from_plan ≡ true)
    of_stow = apart_parts files.stow from_plan of_ship.1

    of_plan : (not (list_any (is_same files.plan) from_log) ≡ true) × (are_different from_log ≡ true)
    of_plan = apart_parts files.plan from_log of_stow.1

    of_log : (not (list_any (is_same files.log) written) ≡ true) × (are_different written ≡ true)
    of_log = apart_parts files.log written of_plan.1

    behind : (name first : Option (List ℕ)) (others : List (Option (List ℕ)))
        → not (list_any (is_same name) (first ∷ others)) ≡ true → not (list_any (is_same name) others) ≡ true
    behind name = none_behind (is_same name)

    stay : (name : Option (List ℕ)) → not (list_any (is_same name) written) ≡ true → Stays name before after
    stay name = stays_other asked name before after kept
