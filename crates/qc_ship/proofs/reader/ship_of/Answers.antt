use Rattle.std.proofs.Common.{◌≡◌, length, sym, arith}
use Rattle.toml.specs.View.{table_view}
use Rattle.qc_ship.proofs.HatchLaws.{HasHatches-from, Places-from}
use Rattle.qc_ship.proofs.TimesLaws.{IsShip-from_parts}
use Rattle.qc_ship.proofs.reader.ship_of.Goals as goal

pub places_at-requires : goal.places_at-requires
places_at-requires c =
    let has = HasHatches-from (table_view c.args.table.now) c.in_ok-hatches.hatches.items c.in_ok-hatches.ensures in
    omega (arith, has.count.1, c.len.ensures)

pub cranes_at-requires-clause-some : goal.cranes_at-requires-clause-some
cranes_at-requires-clause-some c =
    let ms = table_view c.args.table.now in
    let has = HasHatches-from ms c.in_ok-hatches.hatches.items c.in_ok-hatches.ensures in
    let count : c.len.result ≡ length c.in_ok-hatches.hatches.items = omega (arith, c.len.ensures) in
    let read = rw count at c.in_ok-places.ensures in
    let are = Places-from (length c.in_ok-hatches.hatches.items) ms c.in_ok-places.places.items has.count.1 read in
    rw c.as_slice-4.ensures.value (omega (arith, are.total, has.count.0))

pub cranes_at-requires-clause-few : goal.cranes_at-requires-clause-few
cranes_at-requires-clause-few c =
    let ms = table_view c.args.table.now in
    let has = HasHatches-from ms c.in_ok-hatches.hatches.items c.in_ok-hatches.ensures in
    let count : c.len.result ≡ length c.in_ok-hatches.hatches.items = omega (arith, c.len.ensures) in
    let read = rw count at c.in_ok-places.ensures in
    let are = Places-from (length c.in_ok-hatches.hatches.items) ms c.in_ok-places.places.items has.count.1 read in
    rw c.as_slice-4.ensures.value (omega (arith, are.total, has.count.1))

pub of-requires : goal.of-requires
of-requires c =
    let ms = table_view c.args.table.now in
    let count : c.len.result ≡ length c.in_ok-hatches.hatches.items = omega (arith, c.len.ensures) in
    let read_places = rw count at c.in_ok-places.ensures in
    let read_pairs = rw c.as_slice.ensures.value at c.in_ok-apart.ensures in
    let read_order = rw c.as_slice-2.ensures.value at c.in_ok-before.ensures in
    let read_releases = rw c.as_slice-3.ensures.value at c.in_ok-not_before.ensures in
    let read_cranes = rw (c.gives_places-in_decimetres.ensures, c.as_slice-4.ensures.value) at c.in_ok-cranes.ensures in
    rw c.gives_places-in_decimetres.ensures
    (IsShip-from_parts ms c.in_ok-hatches.hatches.items c.in_ok-places.places.items c.in_ok-times.times c.in_ok-apart.apart.items c.in_ok-before.before.items c.in_ok-not_before.not_before.items c.in_ok-cranes.cranes.items
    c.in_ok-hatches.ensures read_places (sym c.in_ok-times.ensures) read_pairs read_order read_releases read_cranes)
