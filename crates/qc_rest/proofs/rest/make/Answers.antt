use Rattle.std.proofs.Common.{◌∙◌, length, refl, ap, sym, subst, arith}
use Rattle.qc_model.specs.Instance.{InstanceView, Valid}
use Rattle.qc_rest.specs.Limits.{outlook_of, place_at}
use Rattle.qc_rest.proofs.WholeLemmas.{exact, feasible_now, judgeable, short_ends, valid_now}
use Rattle.qc_rest.proofs.rest.make.Goals as goal

pub instance_of-requires-clause-valid : goal.instance_of-requires-clause-valid
instance_of-requires-clause-valid c =
    let f = c.args.journal.now in
    let found = c.requires.found in
    let placed = c.requires.places in
    valid_now f c.args.stands.now c.args.goes.now placed.0 (place_at c.args.places.now) c.requires.known c.requires.none found.stands_are found.goes_are placed.1 c.requires.fit

pub order_of-requires-clause-tasks : goal.order_of-requires-clause-tasks
order_of-requires-clause-tasks c =
    let f = c.args.journal.now in
    let found = c.requires.found in
    let placed = c.requires.places in
    ap (λ (i : InstanceView). length i.tasks) c.in_ok-instance.ensures ∙ (exact f c.args.stands.now c.args.goes.now placed.0 (place_at c.args.places.now) c.requires.known c.requires.none found.stands_are found.goes_are placed.1).is.tasks_count

pub order_of-requires-clause-cranes : goal.order_of-requires-clause-cranes
order_of-requires-clause-cranes c =
    let f = c.args.journal.now in
    let found = c.requires.found in
    let placed = c.requires.places in
    ap (λ (i : InstanceView). length i.cranes) c.in_ok-instance.ensures ∙ (exact f c.args.stands.now c.args.goes.now placed.0 (place_at c.args.places.now) c.requires.known c.requires.none found.stands_are found.goes_are placed.1).is.cranes_count

pub ends-end-requires : goal.ends-end-requires
ends-end-requires c =
    let f = c.args.journal.now in
    let found = c.requires.found in
    let placed = c.requires.places in
    judgeable _ _ (feasible_now f c.args.stands.now c.args.goes.now placed.0 (place_at c.args.places.now) c.requires.known c.requires.none found.stands_are found.goes_are placed.1 _ c.in_ok-instance.ensures _ c.in_ok-order.ensures.order) c.in_ok-order.ensures.soon

pub returns : goal.returns
returns c =
    let f = c.args.journal.now in
    let found = c.requires.found in
    let placed = c.requires.places in
    record {
      known = c.requires.none;
      outlook = outlook_of c.args.journal.now c.args.stands.now c.args.goes.now;
      places = place_at c.args.places.now;
      is = record { course = refl; over = refl; stands = found.stands_are; goes = found.goes_are; tops = placed.0; places_are = placed.1 };
      fit = c.requires.fit;
      clock = c.now-now.ensures.now;
      running = c.in_ok-running.ensures;
      instance = c.in_ok-instance.ensures;
      order = c.in_ok-order.ensures.order;
      feasible = feasible_now f c.args.stands.now c.args.goes.now placed.0 (place_at c.args.places.now) c.requires.known c.requires.none found.stands_are found.goes_are placed.1 _ c.in_ok-instance.ensures _ c.in_ok-order.ensures.order;
      judgeable = judgeable _ _ (feasible_now f c.args.stands.now c.args.goes.now placed.0 (place_at c.args.places.now) c.requires.known c.requires.none found.stands_are found.goes_are placed.1 _ c.in_ok-instance.ensures _ c.in_ok-order.ensures.order) c.in_ok-order.ensures.soon;
      short = short_ends _ _ (subst Valid (sym c.in_ok-instance.ensures)
          (valid_now f c.args.stands.now c.args.goes.now placed.0 (place_at c.args.places.now) c.requires.known c.requires.none found.stands_are found.goes_are placed.1 c.requires.fit)) c.in_ok-order.ensures.soon;
      end = c.ends-end.ensures.ends;
      last = c.last_gone.result;
      last_is = record { by = c.last_gone.ensures };
      late = omega (arith, c.late_by-late.ensures, c.now-now.ensures.now);
    }
