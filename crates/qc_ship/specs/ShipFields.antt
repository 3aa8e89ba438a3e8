-- inner: a ship's fields.
use Rattle.qc_ship.specs.declared.ship.Ship.TheInside.{Inside}
use Rattle.qc_ship.specs.Ship.{ShipView}

-- a ship's fields as clauses see them
abbrev pub view_of : Inside → ShipView
view_of f = record {
  hatches = f.hatches.items;
  places = f.places.items;
  in_decimetres = f.in_decimetres;
  gap = f.gap;
  travel = f.travel;
  deck_move = f.deck_move;
  hold_move = f.hold_move;
  cover = f.cover;
  ordered = f.ordered;
  apart = f.apart.items;
  before = f.before.items;
  not_before = f.not_before.items;
  cranes = f.cranes.items;
}
