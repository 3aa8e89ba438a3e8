use Rattle.std.proofs.Common.{ℕ, List, length, sym, ap, ◌∙◌, ◌++◌, arith, rules, length-append}
use Rattle.std.specs.List.{flat_map}
use Rattle.std.proofs.lemmas.Slice.Zip.{zip_turn, zip_end, length-zip}
use Rattle.qc_model.specs.declared.task.Task.{Task}
use Rattle.qc_tasks.specs.InstanceOf.{phases, tasks_at}
use Rattle.qc_tasks.proofs.Loops.{flat_map-zip_more, flat_map-zip_all}
use Rattle.qc_tasks.proofs.tasks.tasks_of.Goals as goal

pub loop-hatch-preserved : goal.loop-hatch-preserved
loop-hatch-preserved c =
    let turn = zip_turn c.args.ship.now.hatches c.args.ship.now.places c.loop-hatch.yielded _ c.loop-hatch.hatch-iterator c.next.new.self c.next.result (search rules) (search rules) c.loop-hatch.yielded_by (c.in-Some.hatch, c.in-Some.place) c.in-Some.is c.next.ensures.steps in
    c.in_ok-push_tasks.ensures
    ∙ ap (λ (ts : List Task). ts ++ flat_map (tasks_at c.args.ship.now c.args.rows.now c.in-Some.hatch.now c.in-Some.place.now) phases) c.loop-hatch.invariant
    ∙ sym (flat_map-zip_more (λ (hatch : ℕ × ℕ). flat_map (tasks_at c.args.ship.now c.args.rows.now hatch.0 hatch.1) phases) c.args.ship.now.hatches c.args.ship.now.places (length c.loop-hatch.yielded) _ c.in-Some.hatch.now c.in-Some.place.now (length-append c.loop-hatch.yielded _) turn.0 turn.1 (turn.2 _) (turn.3 _))

pub returns : goal.returns
returns c =
    let end = zip_end c.args.ship.now.hatches c.args.ship.now.places c.loop-hatch.yielded _ c.loop-hatch.hatch-iterator c.next.new.self c.next.result (search rules) (search rules) c.loop-hatch.yielded_by c.in-None.is c.next.ensures.steps in
    c.loop-hatch.invariant ∙ flat_map-zip_all (λ (hatch : ℕ × ℕ). flat_map (tasks_at c.args.ship.now c.args.rows.now hatch.0 hatch.1) phases) c.args.ship.now.hatches c.args.ship.now.places (length c.loop-hatch.yielded) (omega (arith, length-zip c.args.ship.now.hatches c.args.ship.now.places, end))
