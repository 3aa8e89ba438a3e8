use Rattle.std.proofs.Common.{drop, map, ◌+◌, sym, arith}
use Rattle.std.proofs.lemmas.List.{length-map}
use Rattle.csv.specs.Records.{fields_of}
use Rattle.qc_gantt.proofs.EntryLemmas.{nothing_yet, so_far_all, so_far_end, so_far_fault, so_far_few, so_far_more, so_far_next}
use Rattle.qc_gantt.proofs.slots.give_all.Goals as goal

pub loop-at-init : goal.loop-at-init
loop-at-init c = rw c.requires.none (nothing_yet c.args.inst.now (map fields_of c.args.records.now))

pub loop-at-preserved : goal.loop-at-preserved
loop-at-preserved c =
    let inst = c.args.inst.now in
    let all = map fields_of c.args.records.now in
    let at = c.loop-at.at in
    let rest = map fields_of (drop (at + 1) c.args.records.now) in
    let here = so_far_next fields_of c.args.records.now at inst all c.loop-at.slots c.index-records-at.result c.loop-at-test.true c.index-records-at.is c.loop-at.invariant in
    rw c.in-Ok.ensures.given (so_far_more inst all rest c.loop-at.slots at (fields_of c.index-records-at.result) here c.in-Ok.field-0 (sym c.in-Ok.ensures.entry))

pub fault-requires : goal.fault-requires
fault-requires c =
    let inst = c.args.inst.now in
    let all = map fields_of c.args.records.now in
    let few = so_far_few inst all _ c.loop-at.slots c.loop-at.at c.loop-at.invariant in
    omega (arith, few, c.requires.most)

pub returns-in-Err-clause-slots : goal.returns-in-Err-clause-slots
returns-in-Err-clause-slots c =
    let inst = c.args.inst.now in
    let all = map fields_of c.args.records.now in
    let at = c.loop-at.at in
    let rest = map fields_of (drop (at + 1) c.args.records.now) in
    let here = so_far_next fields_of c.args.records.now at inst all c.loop-at.slots c.index-records-at.result c.loop-at-test.true c.index-records-at.is c.loop-at.invariant in
    rw c.fault.ensures (so_far_fault inst all rest c.loop-at.slots at (fields_of c.index-records-at.result) here c.in-Err.kind (sym c.in-Err.ensures.entry))

pub returns : goal.returns
returns c =
    let inst = c.args.inst.now in
    let all = map fields_of c.args.records.now in
    let end = so_far_all inst all c.loop-at.slots c.loop-at.at (so_far_end fields_of c.args.records.now c.loop-at.at inst all c.loop-at.slots c.loop-at-test.false c.loop-at.invariant) in
    record { slots = end.0; few = λ ok. rw length-map at end.1 }
