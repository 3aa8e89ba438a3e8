-- The table of a ship, put together key by key.
use Rattle.std.proofs.Common.{◌≡◌, ◌-◌, ℕ, ℤ, arith, of_z, to_z, w64, Bool, true, false, List, cond, codes, refl, ap, ◌∙◌}
use Rattle.std.specs.List.{filter}
use Rattle.std.proofs.lemmas.Int.{ints}
use Rattle.toml.specs.Data.{Data, Members, integer, no_members, string, table}
use Rattle.qc_make.specs.MadeTable.{with_member}
use Rattle.qc_model.specs.declared.crane.Crane.{Crane}
use Rattle.qc_model.specs.Instance.{InstanceView, IsOnRail}
use Rattle.qc_ship.specs.Ship.{ShipView}
use Rattle.qc_rest_files.specs.RestShip.{are_named, releases_of, rest_ship}
use Rattle.qc_rest_files.specs.ShipTable.{apart_value, array_of, before_value, crane_value, hatch_at, number, release_value, restows_text, ship_table, table_with}

-- a bay as the code gives it to a value
pub read_wide : (x y : ℤ) → x ≡ y → IsOnRail y → to_z w64 (of_z w64 x) ≡ y
read_wide x y e h = omega (arith, ints, e, h.0, h.1)

-- the table of a crane
pub crane_chain : (places : List ℕ) (c : Crane) (n b r f t : Data) (m0 m1 m2 m3 m4 m5 : Members)
    → n ≡ string c.name → b ≡ integer c.bay → r ≡ number c.ready → f ≡ number (hatch_at places c.from) → t ≡ number (hatch_at places c.to)
    → m0 ≡ no_members → m1 ≡ with_member (codes "name") n m0 → m2 ≡ with_member (codes "bay") b m1 → m3 ≡ with_member (codes "ready") r m2
    → m4 ≡ with_member (codes "from") f m3 → m5 ≡ with_member (codes "to") t m4 → table m5 ≡ crane_value places c
crane_chain places c n b r f t m0 m1 m2 m3 m4 m5 en eb er ef et e0 e1 e2 e3 e4 e5 = rw (e5, e4, e3, e2, e1, e0, et, ef, er, eb, en) refl

module _ (ship : ShipView) (rest : InstanceView) where
  -- the members behind each call that puts some
  abbrev timed : Members → Members
  timed m = with_member (codes "travel") (number ship.travel) (with_member (codes "hold_move") (number ship.hold_move)
      (with_member (codes "deck_move") (number ship.deck_move) (with_member (codes "cover") (number ship.cover) m)))

  abbrev ordered : Members → Members
  ordered m = with_member (codes "restows") (string (restows_text ship.ordered)) m

  abbrev spaced : Bool → Members → Members
  spaced b m = cond b (with_member (codes "places") (array_of number ship.places) (with_member (codes "clear") (number ship.gap) m))
      (with_member (codes "margin") (number (ship.gap - 1)) m)

  abbrev listed : Members → Members
  listed m = with_member (codes "not_before") (array_of release_value (releases_of rest.tasks))
      (with_member (codes "before") (array_of before_value (filter (are_named rest.tasks) ship.before))
      (with_member (codes "apart") (array_of apart_value ship.apart) (with_member (codes "hatches") (array_of number ship.hatches) m)))

  abbrev craned : Members → Members
  craned m = with_member (codes "crane") (array_of (crane_value ship.places) rest.cranes) m

  with_all : (b : Bool) → craned (listed (spaced b (ordered (timed no_members)))) ≡ table_with b (rest_ship ship rest)
  with_all true = refl
  with_all false = refl

  pub all_put : (m0 m1 m2 m3 m4 m5 : Members) → m0 ≡ no_members → m1 ≡ timed m0 → m2 ≡ ordered m1
      → m3 ≡ spaced ship.in_decimetres m2 → m4 ≡ listed m3 → m5 ≡ craned m4 → m5 ≡ ship_table (rest_ship ship rest)
  all_put m0 m1 m2 m3 m4 m5 e0 e1 e2 e3 e4 e5 =
      e5 ∙ ap craned (e4 ∙ ap listed (e3 ∙ ap (spaced ship.in_decimetres) (e2 ∙ ap ordered (e1 ∙ ap timed e0))))
      ∙ with_all ship.in_decimetres
