use Rattle.std.proofs.Common.{◌≡◌, ◌⊎◌, ℕ, inl, inr, List, Option, None, Some, IfSome, sym, subst, ◌∙◌, arith}
use Rattle.std.proofs.lemmas.Bool.{cases_eq, false≢true}
use Rattle.qc_model.specs.declared.decision.Decision.{Decision}
use Rattle.qc_model.specs.declared.pair.Pair.{Pair}
use Rattle.qc_model.specs.Instance.{InstanceView}
use Rattle.qc_starts.specs.declared.overlap.Overlap.{Overlap}
use Rattle.qc_starts.specs.Overlapping.{IsFound}
use Rattle.qc_starts.specs.Overlaps.{Overlaps}
use Rattle.qc_starts.proofs.overlap.first_later.Goals as goal
use Rattle.qc_starts.proofs.overlap.first_later.Goals.{then-overlaps, else-overlaps}

abbrev IsPair : InstanceView → List Decision → List ℕ → Overlap → Type 0
IsPair inst ds cells found = IsFound inst ds cells found.pair.first found.pair.second

picked : (inst : InstanceView) (ds : List Decision) (cells : List ℕ) (before : Option Overlap) (this found : Overlap)
    → IsPair inst ds cells this → IfSome before (IsPair inst ds cells) → (found ≡ this) ⊎ (before ≡ Some found)
    → IsPair inst ds cells found
picked inst ds cells before this found is some (inl e) = subst (IsPair inst ds cells) (sym e) is
picked inst ds cells before this found is some (inr e) =
    subst (λ (o : Option Overlap). IfSome o (IsPair inst ds cells)) e some

some_none : (found : Overlap) (o : Option Overlap) → o ≡ Some found → o ≡ None → ⊥
some_none found o e f = absurd (cc (e, f))

pub loop-j-preserved : goal.loop-j-preserved
loop-j-preserved c =
    let inst = c.args.network.now.inst in
    let ds = c.args.network.now.decisions in
    let cells = c.args.values.now.cells in
    let i = c.args.i in
    let j = c.loop-j.j in
    let inv = c.loop-j.invariant in
    elim c.if-overlaps.branch [
      | then-overlaps w ↦
          let here : IsFound inst ds cells i j = record {
            rising = omega (arith, c.loop-j.auto.j);
            task = omega (arith, c.loop-j-test.true, c.task_count-count.ensures.count);
            overlaps = c.overlaps.ensures.0 w.if-overlaps.true;
          } in
          let is = subst (λ (p : Pair). IsFound inst ds cells p.first p.second) (sym w.ranked-overlap.ensures) here in
          let found = picked inst ds cells c.loop-j.first w.ranked-overlap.result w.sooner.result is inv.is w.sooner.ensures in
          record {
            is = subst (λ (o : Option Overlap). IfSome o (IsPair inst ds cells)) (sym w.first-is) found;
            none = λ e. absurd (some_none w.sooner.result c.if-overlaps.first w.first-is e);
          }
      | else-overlaps w ↦ record {
        is = subst (λ (o : Option Overlap). IfSome o (IsPair inst ds cells)) (sym w.first-is) inv.is;
        none = λ e.
            let before = inv.none (sym w.first-is ∙ e) in (
              before.0,
              λ k rising under lap. elim (cases_eq k j) [
                | inl same ↦
                    false≢true (sym w.if-overlaps.false ∙ c.overlaps.ensures.1 (subst (Overlaps inst ds cells i) same lap))
                | inr other ↦ before.1 k rising (omega arith) lap
              ],
            );
      }
    ]

pub returns-clause-none : goal.returns-clause-none
returns-clause-none c = λ e.
    let none = c.loop-j.invariant.none e in (
      none.0,
      λ later. none.1 later.j later.rising
          (omega (arith, later.task, c.loop-j-test.false, c.task_count-count.ensures.count)) later.overlaps,
    )
