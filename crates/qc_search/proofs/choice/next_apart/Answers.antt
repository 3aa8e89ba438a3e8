use Rattle.std.proofs.Common.{◌≡◌, ◌⊎◌, inl, inr, ℕ, length, List, Option, None, Some, IfSome, get_or, sym, ap, subst, ◌∙◌, arith}
use Rattle.std.proofs.lemmas.Bool.{cases_eq, false≢true}
use Rattle.qc_close.specs.Model.{Decision, Pair, InstanceView, IsApart, pair_of, IsSettled}
use Rattle.qc_starts.proofs.KeptLemmas.{IsSettledPair}
use Rattle.qc_search.specs.declared.choice.Unsettled.{Unsettled}
use Rattle.qc_search.proofs.OrderLemmas.{all_settled}
use Rattle.qc_search.proofs.choice.next_apart.Goals as goal
use Rattle.qc_search.proofs.choice.next_apart.Goals.{then-not-settled, else-not-settled}

abbrev IsOpenPair : InstanceView → List Decision → Unsettled → Type 0
IsOpenPair inst ds u = IsApart inst u.pair.first u.pair.second × (¬ IsSettled inst ds u.pair.first u.pair.second)

picked : (inst : InstanceView) (ds : List Decision) (before : Option Unsettled) (this found : Unsettled)
    → IsOpenPair inst ds this → IfSome before (IsOpenPair inst ds) → (found ≡ this) ⊎ (before ≡ Some found)
    → IsOpenPair inst ds found
picked inst ds before this found is_open some (inl e) = subst (IsOpenPair inst ds) (sym e) is_open
picked inst ds before this found is_open some (inr e) =
    subst (λ (o : Option Unsettled). IfSome o (IsOpenPair inst ds)) e some

some_none : (u : Unsettled) (o : Option Unsettled) → o ≡ Some u → o ≡ None → ⊥
some_none u o e f = absurd (cc (e, f))

pub loop-number-preserved : goal.loop-number-preserved
loop-number-preserved c =
    let inst = c.args.starts.now.inst in
    let ds = c.args.starts.now.decisions in
    let pair = c.apart_at-pair.result in
    let inv = c.loop-number.invariant in
    elim c.if-not-settled.branch [
      | then-not-settled w ↦
          let free = λ (s : IsSettled inst ds pair.first pair.second). false≢true (sym w.if-not-settled.true ∙ c.settled.ensures.1 s) in
          let found : IsOpenPair inst ds w.sooner.result =
          picked inst ds c.loop-number.next (record { pair = pair; from = w.overlap-from.result }) w.sooner.result
          (c.apart_at-pair.ensures.apart, free) inv.is_open w.sooner.ensures in
          record {
            is_open = subst (λ (o : Option Unsettled). IfSome o (IsOpenPair inst ds)) (sym w.next-is) found;
            none = λ e. absurd (some_none w.sooner.result c.if-not-settled.next w.next-is e);
          }
      | else-not-settled w ↦ record {
        is_open = subst (λ (o : Option Unsettled). IfSome o (IsOpenPair inst ds)) (sym w.next-is) inv.is_open;
        none = λ e k low. elim (cases_eq k c.loop-number.number) [
          | inl same ↦
              subst (λ (n : ℕ). IsSettledPair inst ds (get_or inst.apart n (pair_of 0 0))) (sym same)
              (subst (IsSettledPair inst ds) c.apart_at-pair.ensures.is (c.settled.ensures.0 w.if-not-settled.false))
          | inr other ↦ inv.none (sym w.next-is ∙ e) k (omega arith)
        ];
      }
    ]

pub unreachable-requires : goal.unreachable-requires
unreachable-requires c =
    let inst = c.args.starts.now.inst in
    let e = rw c.instance.ensures.same at c.apart-number-end.ensures.apart in
    c.requires.undecided (all_settled inst c.args.starts.now.decisions c.requires.one_way c.requires.assigned (λ k low.
    c.loop-number.invariant.none c.in-None.is k (omega (arith, low, c.loop-number-test.false, ap (length {A = Pair}) e))))
