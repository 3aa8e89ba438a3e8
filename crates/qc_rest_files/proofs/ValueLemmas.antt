-- One value more of a list.
use Rattle.std.proofs.Common.{◌≡◌, ℕ, ◌+◌, ◌<◌, ◌≤◌, Bool, true, false, cond, List, [], ◌∷◌, ◌++◌, length, map, take, get_or, refl, sym, ap, ◌∙◌, append-nil}
use Rattle.std.specs.List.{filter}
use Rattle.std.proofs.lemmas.List.{map-append, map_more, take_all}
use Rattle.std.proofs.lemmas.List.Elements.{filter_more}
use Rattle.toml.specs.Data.{Data}
use Rattle.toml.specs.View.{view}
use Rattle.toml.specs.declared.value.Value.{Value}
use Rattle.qc_model.specs.declared.task.Task.{Task}
use Rattle.qc_rest_files.specs.RestShip.{is_held, release_of, releases_of}
use Rattle.qc_rest_files.specs.ShipTable.{release_value}

module _ {X : Type 0} (f : X → Data) (xs : List X) (i : ℕ) (x : X) (lt : i < length xs) (vs : List Value) (v : Value) where
  pub value_more : map view vs ≡ map f (take i xs) → view v ≡ f (get_or xs i x) → map view (vs ++ v ∷ []) ≡ map f (take (i + 1) xs)
  value_more so_far here = map-append view vs (v ∷ []) ∙ rw (so_far, here) (sym (map_more f xs i x lt))

  -- the same with those that pass a test alone
  pub value_passed : (p : X → Bool) → map view vs ≡ map f (filter p (take i xs)) → p (get_or xs i x) ≡ true → view v ≡ f (get_or xs i x)
      → map view (vs ++ v ∷ []) ≡ map f (filter p (take (i + 1) xs))
  value_passed p so_far yes_it here =
      let one = get_or xs i x ∷ [] in
      map-append view vs (v ∷ []) ∙ rw (so_far, here) refl ∙ sym (map-append f (filter p (take i xs)) one)
      ∙ ap (λ (more : List X). map f (filter p (take i xs) ++ more)) (ap (λ (b : Bool). cond b one []) (sym yes_it)) ∙ ap (map f) (sym (filter_more p xs i x lt))

module _ {X : Type 0} (f : X → Data) (xs : List X) (i : ℕ) (x : X) (lt : i < length xs) (vs : List Value) where
  pub value_failed : (p : X → Bool) → map view vs ≡ map f (filter p (take i xs)) → p (get_or xs i x) ≡ false
      → map view vs ≡ map f (filter p (take (i + 1) xs))
  value_failed p so_far no_it =
      let one = get_or xs i x ∷ [] in
      so_far ∙ ap (map f) (sym (append-nil (filter p (take i xs)))
      ∙ ap (λ (more : List X). filter p (take i xs) ++ more) (ap (λ (b : Bool). cond b one []) (sym no_it)) ∙ sym (filter_more p xs i x lt))

map_twice : {X Y Z : Type 0} (f : Y → Z) (g : X → Y) (xs : List X) → map f (map g xs) ≡ map (λ x. f (g x)) xs
map_twice f g [] = refl
map_twice {Z = Z} f g (x ∷ xs) = ap (λ (zs : List Z). f (g x) ∷ zs) (map_twice f g xs)

-- the entries of tasks that are held back
abbrev pub entry_value : Task → Data
entry_value t = release_value (release_of t)

pub entries_all : (tasks : List Task) (i : ℕ) → length tasks ≤ i → map entry_value (filter is_held (take i tasks)) ≡ map release_value (releases_of tasks)
entries_all tasks i past = ap (λ (ts : List Task). map entry_value (filter is_held ts)) (take_all i tasks past) ∙ sym (map_twice release_value release_of (filter is_held tasks))
