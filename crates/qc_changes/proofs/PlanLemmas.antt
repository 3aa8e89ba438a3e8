-- What a plan's map tells.
use Rattle.std.proofs.Common.{◌≡◌, ◌∙◌, ◌<◌, ◌≢◌, ◌+◌, ℕ, Bool, true, false, not, cond, List, Option, Some, None, length, take, get_or, AllPairs, refl, sym, ap}
use Rattle.std.specs.Borrow.{Bor}
use Rattle.std.specs.Option.{option_copied, option_map}
use Rattle.std.specs.Prelude.{is_some}
use Rattle.std.specs.Str.{bytes_eq}
use Rattle.qc_ship.specs.Cells.{CellView}
use Rattle.qc_bayplan.specs.declared.plan.Container.{Container}
use Rattle.qc_changes.specs.declared.plan.Place.{Place}
use Rattle.qc_changes.specs.Classes.{is_at, stands}
use Rattle.qc_changes.specs.Plans.{is_in, place_of}
use Rattle.qc_changes.proofs.Turns.{stands_more}

pub in_place : (cell : CellView) (found : Option Place) (o : Option CellView) → found ≡ option_map place_of o → is_in cell found ≡ is_at cell o
in_place cell found None e = ap (is_in cell) e
in_place cell found (Some other) e = ap (is_in cell) e

pub found_place : (found : Option Place) (o : Option CellView) → found ≡ option_map place_of o → is_some found ≡ is_some o
found_place found None e = ap (λ (p : Option Place). is_some p) e
found_place found (Some other) e = ap (λ (p : Option Place). is_some p) e

-- a container isn't in the plan where the map hasn't it
pub gone_is : (got : Option (Bor Place)) (o : Option CellView) (gone : Bool) → option_copied got ≡ option_map place_of o → is_some got ≡ not gone
    → gone ≡ not (is_some o)
gone_is None None true told is = refl
gone_is None None false told is = absurd (cc is)
gone_is (Some p) (Some cell) true told is = absurd (cc is)
gone_is (Some p) (Some cell) false told is = refl
gone_is None (Some cell) gone told is = absurd (cc told)
gone_is (Some p) None gone told is = absurd (cc told)

-- one more container is told of
pub tells_more : (cs : List Container) (i : ℕ) (c : Container) → i < length cs → c ≡ get_or cs i c → AllPairs (λ (a b : Container). a.id ≢ b.id) cs
    → (id : List ℕ) (before after : Option Place) → before ≡ option_map place_of (stands (take i cs) id)
    → after ≡ cond (bytes_eq c.id id) (Some (place_of c.cell)) before
    → after ≡ option_map place_of (stands (take (i + 1) cs) id)
tells_more cs i c lt is apart id before after was now =
    now ∙ ap (λ (p : Option Place). cond (bytes_eq c.id id) (Some (place_of c.cell)) p) was
    ∙ choose (bytes_eq c.id id) (stands (take i cs) id)
    ∙ ap (λ (o : Option CellView). option_map place_of o) (sym (stands_more cs i c lt is apart id))
  where
    choose : (b : Bool) (o : Option CellView) → cond b (Some (place_of c.cell)) (option_map place_of o) ≡ option_map place_of (cond b (Some c.cell) o)
    choose true o = refl
    choose false o = refl
