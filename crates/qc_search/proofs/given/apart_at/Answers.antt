use Rattle.std.proofs.Common.{◌<◌, List, length, get_or, sym, subst, arith}
use Rattle.qc_close.specs.Model.{Pair, IsApart, pair_of}
use Rattle.qc_starts.proofs.KeptLemmas.{apart_at}
use Rattle.qc_search.proofs.given.apart_at.Goals as goal

pub returns-clause-apart : goal.returns-clause-apart
returns-clause-apart c =
    let inst = c.args.starts.now.inst in
    let k = c.args.number in
    let e = rw c.instance.ensures.same at c.apart.ensures.apart in
    subst (λ (pairs : List Pair). IsApart inst (get_or pairs k (pair_of 0 0)).first (get_or pairs k (pair_of 0 0)).second) (sym e)
    (apart_at inst k (pair_of 0 0) c.requires)

pub returns-clause-first : goal.returns-clause-first
returns-clause-first c =
    let inst = c.args.starts.now.inst in
    let k = c.args.number in
    let e = rw c.instance.ensures.same at c.apart.ensures.apart in
    let range = c.instance.ensures.valid.apart.range _ _ (apart_at inst k (pair_of 0 0) c.requires) in
    subst (λ (pairs : List Pair). (get_or pairs k (pair_of 0 0)).first < length inst.tasks) (sym e)
    (omega (arith, range.0, range.1))

pub returns-clause-second : goal.returns-clause-second
returns-clause-second c =
    let inst = c.args.starts.now.inst in
    let k = c.args.number in
    let e = rw c.instance.ensures.same at c.apart.ensures.apart in
    let range = c.instance.ensures.valid.apart.range _ _ (apart_at inst k (pair_of 0 0) c.requires) in
    subst (λ (pairs : List Pair). (get_or pairs k (pair_of 0 0)).second < length inst.tasks) (sym e) range.1
