use Rattle.std.proofs.Common.{◌<◌, ℕ, List, length, reverse, refl, sym, ap, subst, ◌∙◌, arith}
use Rattle.std.proofs.lemmas.Bool.{false≢true}
use Rattle.std.proofs.lemmas.List.{length-reverse}
use Rattle.qc_starts.specs.declared.step.Step.TheVariants.{Raised}
use Rattle.qc_starts.specs.Fields.{AreNested}
use Rattle.qc_dist.specs.Node.{Node}
use Rattle.qc_starts.proofs.BackLemmas.{back_kept}
use Rattle.qc_starts.proofs.KeptLemmas.{nested_count, nested_less}
use Rattle.qc_starts.proofs.LevelLemmas.{reverse_push}
use Rattle.qc_starts.proofs.starts.Starts.take_back.Goals as goal

pub unreachable-requires : goal.unreachable-requires
unreachable-requires c =
    let f = c.self.inside in
    let count = nested_count _ _ _ _ _ c.self.invariant.nested in
    let some = subst (λ (n : Node). 0 < length n.decisions) (sym c.self.view_is) c.requires in
    let size = length-reverse f.marks.items in
    absurd (false≢true (c.in_default.ensures.variant.1 (omega (arith, count, some, size))))

pub back-requires-clause-mark : goal.back-requires-clause-mark
back-requires-clause-mark c =
    let f = c.self.inside in
    let marks = ap reverse c.in-Some.ensures.items ∙ reverse_push c.pop.new.self.items c.in-Some.mark in
    (nested_less f.network.inst f.network.decisions c.in-Some.mark (reverse c.pop.new.self.items) f.spread.values.trail.notes
    f.spread.values.cells (subst (λ (ms : List ℕ). AreNested f.network.inst f.network.decisions ms f.spread.values.trail.notes
    f.spread.values.cells) marks c.self.invariant.nested)).0

pub invariant_of-self : goal.invariant_of-self
invariant_of-self c =
    let f = c.self.inside in
    let marks = ap reverse c.in-Some.ensures.items ∙ reverse_push c.pop.new.self.items c.in-Some.mark in
    back_kept f c.self.invariant (record f {
      network = c.undo.new.self;
      spread = record f.spread { values = c.back.new.self };
      marks = c.pop.new.self;
      step = Raised;
    }) c.in-Some.mark c.undo.ensures.inst c.undo.ensures.decisions c.undo.ensures.sound marks c.in-Some.ensures.capacity
    refl refl c.back.ensures.trail c.back.ensures.cells c.back.ensures.noted
