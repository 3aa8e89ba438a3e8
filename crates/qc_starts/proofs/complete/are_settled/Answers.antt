use Rattle.std.proofs.Common.{ℕ, ◌<◌, inl, inr, List, length, get_or, refl, sym, ap, subst, ◌∙◌, arith}
use Rattle.std.proofs.lemmas.Bool.{cases_eq}
use Rattle.qc_model.specs.declared.pair.Pair.{Pair}
use Rattle.qc_model.specs.Instance.{InstanceView, pair_of}
use Rattle.qc_starts.proofs.KeptLemmas.{IsSettledPair, apart_at, pairs_settled}
use Rattle.qc_starts.proofs.complete.are_settled.Goals as goal

pub settled-requires-clause-first : goal.settled-requires-clause-first
settled-requires-clause-first c =
    let inst = c.args.decisions.now.inst in
    let k = c.loop-pair.pair-index in
    let e = c.apart-pair-items.ensures.apart ∙ ap (λ (i : InstanceView). i.apart) c.instance.ensures.same in
    let low : k < length inst.apart = omega (arith, c.loop-pair-test.true, ap (length {A = Pair}) e) in
    let range = c.instance.ensures.valid.apart.range _ _ (apart_at inst k (pair_of 0 0) low) in
    subst (λ (pairs : List Pair). (get_or pairs k (pair_of 0 0)).first < length inst.tasks) (sym e)
    (omega (arith, range.0, range.1))

pub settled-requires-clause-second : goal.settled-requires-clause-second
settled-requires-clause-second c =
    let inst = c.args.decisions.now.inst in
    let k = c.loop-pair.pair-index in
    let e = c.apart-pair-items.ensures.apart ∙ ap (λ (i : InstanceView). i.apart) c.instance.ensures.same in
    let low : k < length inst.apart = omega (arith, c.loop-pair-test.true, ap (length {A = Pair}) e) in
    let range = c.instance.ensures.valid.apart.range _ _ (apart_at inst k (pair_of 0 0) low) in
    subst (λ (pairs : List Pair). (get_or pairs k (pair_of 0 0)).second < length inst.tasks) (sym e) range.1

pub loop-pair-preserved : goal.loop-pair-preserved
loop-pair-preserved c = λ k under. elim (cases_eq k c.loop-pair.pair-index) [
  | inl same ↦
      let pairs = c.apart-pair-items.result.now in
      let settled = IsSettledPair c.args.decisions.now.inst c.args.decisions.now.decisions in
      subst (λ (n : ℕ). settled (get_or pairs n (pair_of 0 0))) (sym same) (c.settled.ensures.0 c.if-not-settled.false)
  | inr other ↦ c.loop-pair.invariant k (omega arith)
]

pub returns : goal.returns
returns c =
    let inst = c.args.decisions.now.inst in
    let ds = c.args.decisions.now.decisions in
    let e = c.apart-pair-items.ensures.apart ∙ ap (λ (i : InstanceView). i.apart) c.instance.ensures.same in (
      λ _. pairs_settled inst ds (λ k under.
          let low : k < c.loop-pair.pair-index = omega (arith, under, ap (length {A = Pair}) e) in
          subst (λ (pairs : List Pair). IsSettledPair inst ds (get_or pairs k (pair_of 0 0))) e (c.loop-pair.invariant k low)),
      λ _. refl,
    )
