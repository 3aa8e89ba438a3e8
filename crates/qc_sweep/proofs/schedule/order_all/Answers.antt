use Rattle.std.proofs.Common.{◌<◌, List, length, get_or, sym, ap, subst, arith}
use Rattle.qc_model.specs.declared.pair.Pair.{Pair}
use Rattle.qc_model.specs.Instance.{InstanceView, pair_of}
use Rattle.qc_starts.proofs.KeptLemmas.{apart_at}
use Rattle.qc_sweep.proofs.schedule.order_all.Goals as goal

pub order-requires-clause-first : goal.order-requires-clause-first
order-requires-clause-first c =
    let inst = c.args.inst.now in
    let k = c.loop-pair.pair-index in
    let e = c.apart-pair-items.ensures.apart in
    let low : k < length inst.apart = omega (arith, c.loop-pair-test.true, ap (length {A = Pair}) e) in
    let range = c.apart-pair-items.ensures.valid.apart.range _ _ (apart_at inst k (pair_of 0 0) low) in
    let count = ap (λ (i : InstanceView). length i.tasks) c.loop-pair.invariant in
    subst (λ (pairs : List Pair). (get_or pairs k (pair_of 0 0)).first < length c.loop-pair.starts.inst.tasks) (sym e)
    (omega (arith, range.0, range.1, count))

pub order-requires-clause-second : goal.order-requires-clause-second
order-requires-clause-second c =
    let inst = c.args.inst.now in
    let k = c.loop-pair.pair-index in
    let e = c.apart-pair-items.ensures.apart in
    let low : k < length inst.apart = omega (arith, c.loop-pair-test.true, ap (length {A = Pair}) e) in
    let range = c.apart-pair-items.ensures.valid.apart.range _ _ (apart_at inst k (pair_of 0 0) low) in
    let count = ap (λ (i : InstanceView). length i.tasks) c.loop-pair.invariant in
    subst (λ (pairs : List Pair). (get_or pairs k (pair_of 0 0)).second < length c.loop-pair.starts.inst.tasks) (sym e)
    (omega (arith, range.1, count))
