use Rattle.std.proofs.Common.{Option, IfSome, ◌∙◌, ap, arith, eqb, false, subst, sym}
use Rattle.std.specs.Option.{option_map_or}
use Rattle.qc_close.specs.Model.{Frame, MOST_TASKS, Way, crane_in}
use Rattle.qc_close.specs.Bars.{own_in}
use Rattle.qc_close.specs.Owns.{IsSmall}
use Rattle.qc_close.specs.declared.frames.Own.{Own}
use Rattle.qc_close.proofs.LimitLemmas.{short_way}
use Rattle.qc_close.proofs.LongestLemmas.{own_way_is, way_frame_is}
use Rattle.qc_close.proofs.StretchLemmas.{own_low, whole_own}
use Rattle.qc_close.proofs.way.way_frame.Goals as goal

pub own_way-from-requires-clause-own : goal.own_way-from-requires-clause-own
own_way-from-requires-clause-own c =
    let cranes = c.requires.known.0 in
    let m = c.requires.known.1 in
    let w = c.args.crane in
    subst (λ (o : Option Own). IfSome o (IsSmall MOST_TASKS))
    (sym (c.own_in-own.ensures ∙ ap own_in c.sum_along.ensures
    ∙ whole_own c.args.inst.now m.valid cranes c.args.spots.now m.spots c.args.table.now m.sums w c.requires.crane))
    (own_low c.args.inst.now m.valid cranes c.args.spots.now m.spots (λ j. option_map_or (λ k. eqb k w) (crane_in cranes j) false))

pub spent_with-requires-clause-own : goal.spent_with-requires-clause-own
spent_with-requires-clause-own c =
    let cranes = c.requires.known.0 in
    let m = c.requires.known.1 in
    let w = c.args.crane in
    subst (λ (o : Option Own). IfSome o (IsSmall MOST_TASKS))
    (sym (c.own_in-own.ensures ∙ ap own_in c.sum_along.ensures
    ∙ whole_own c.args.inst.now m.valid cranes c.args.spots.now m.spots c.args.table.now m.sums w c.requires.crane))
    (own_low c.args.inst.now m.valid cranes c.args.spots.now m.spots (λ j. option_map_or (λ k. eqb k w) (crane_in cranes j) false))

pub spent_with-requires-clause-way : goal.spent_with-requires-clause-way
spent_with-requires-clause-way c =
    let cranes = c.requires.known.0 in
    let m = c.requires.known.1 in
    let inst = c.args.inst.now in
    let w = c.args.crane in
    let o_is = c.own_in-own.ensures ∙ ap own_in c.sum_along.ensures
    ∙ whole_own inst m.valid cranes c.args.spots.now m.spots c.args.table.now m.sums w c.requires.crane in
    let low = ap (λ (f : Frame). f.low) c.requires.known.2 in
    let high = ap (λ (f : Frame). f.high) c.requires.known.2 in
    let from = own_way_is inst c.args.turn cranes w c.own_in-own.result o_is c.own_way-from.result c.own_way-from.ensures.bays
    (c.own_way-from.ensures.low ∙ low) (c.own_way-from.ensures.high ∙ high) in
    let way = c.longest_way-way.ensures c.args.turn cranes m low high from in
    omega (arith, (short_way inst m.valid c.args.turn w c.requires.crane cranes m.range).bays, ap (λ (u : Way). u.bays) way)

pub returns : goal.returns
returns c = λ cranes m usual.
    let inst = c.args.inst.now in
    let w = c.args.crane in
    let o_is = c.own_in-own.ensures ∙ ap own_in c.sum_along.ensures
    ∙ whole_own inst m.valid cranes c.args.spots.now m.spots c.args.table.now m.sums w c.requires.crane in
    let low = ap (λ (f : Frame). f.low) usual in
    let high = ap (λ (f : Frame). f.high) usual in
    let from = own_way_is inst c.args.turn cranes w c.own_in-own.result o_is c.own_way-from.result c.own_way-from.ensures.bays
    (c.own_way-from.ensures.low ∙ low) (c.own_way-from.ensures.high ∙ high) in
    let way = c.longest_way-way.ensures c.args.turn cranes m low high from in
    c.frame_along.ensures
    ∙ way_frame_is inst c.args.turn cranes w c.own_in-own.result o_is c.args.usual c.own_way-from.result c.longest_way-way.result c.spent_with.result
    usual from way c.spent_with.ensures
