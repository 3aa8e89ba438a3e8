use Rattle.std.proofs.Common.{◌||◌, ◌∙◌, ap, sym}
use Rattle.std.proofs.lemmas.Bool.{or_left}
use Rattle.qc_close.specs.Model.{barred_frame, is_short_along, is_short_before, way_frame}
use Rattle.qc_close.proofs.LimitLemmas.{ways_near}
use Rattle.qc_close.proofs.closed.is_short_by.Goals as goal

pub way_frames-ways-requires : goal.way_frames-ways-requires
way_frames-ways-requires c = record { known = (c.args.cranes.now, c.requires.moving, c.frames-frames.ensures.frames) }

pub count_of-requires-2-clause-near : goal.count_of-requires-2-clause-near
count_of-requires-2-clause-near c =
    ways_near c.args.inst.now c.args.turn c.args.cranes.now c.requires.moving.valid c.requires.moving.range _
    (c.way_frames-ways.ensures c.args.cranes.now c.requires.moving c.frames-frames.ensures.frames)

pub returns-then-is_short : goal.returns-then-is_short
returns-then-is_short c =
    let inst = c.args.inst.now in
    let cranes = c.args.cranes.now in
    sym (or_left (is_short_before inst c.args.turn cranes c.args.end) (is_short_along inst c.args.turn cranes c.args.end)
    (sym (c.is_short.ensures ∙ c.count_of.ensures cranes (barred_frame inst c.args.turn cranes) c.requires.left c.frames-frames.ensures.frames c.args.end)
    ∙ c.if-is_short.true))

pub returns : goal.returns
returns c =
    let inst = c.args.inst.now in
    let cranes = c.args.cranes.now in
    let ways = c.way_frames-ways.ensures cranes c.requires.moving c.frames-frames.ensures.frames in
    let own = c.is_short.ensures ∙ c.count_of.ensures cranes (barred_frame inst c.args.turn cranes) c.requires.left c.frames-frames.ensures.frames c.args.end in
    c.is_short-2.ensures ∙ c.count_of-2.ensures cranes (way_frame inst c.args.turn cranes) c.requires.left ways c.args.end
    ∙ sym (ap (λ b. b || is_short_along inst c.args.turn cranes c.args.end) (sym own ∙ c.if-is_short.false))
