use Rattle.std.proofs.Common.{◌≡◌, ℕ, [], ◌<◌, false, Bool, List, length, ap, ap₂, sym, subst, subst₂, ◌∙◌, arith}
use Rattle.std.proofs.Math.ListN.{length-set}
use Rattle.qc_starts.specs.declared.noted.Noted.{Noted}
use Rattle.qc_starts.specs.Noting.{Wrote}
use Rattle.qc_starts.specs.Queue.{IsTaken}
use Rattle.qc_starts.specs.Spread.{IsLifted, IsLooked, IsSpreading, from_task, left}
use Rattle.qc_starts.specs.Values.{AreRest}
use Rattle.qc_starts.proofs.NotingLemmas.{wrote_then}
use Rattle.qc_starts.proofs.SpreadLemmas.{look_begins, look_from, look_less, spread_ends}
use Rattle.qc_starts.proofs.spread.Spread.settle.Goals as goal
use Rattle.qc_starts.proofs.spread.Spread.settle.Goals.{Else-raise_from}

wrote_by : (a b c : Noted) → c ≡ b → Wrote a b → Wrote a c
wrote_by a b c same wrote = subst (Wrote a) (sym same) wrote

pub loop-task-init : goal.loop-task-init
loop-task-init c = record {
  spreading = subst (λ (xs : List ℕ). IsSpreading c.args.network.now c.args.root xs c.raise_root.new.self.values.cells
      c.raise_root.new.self.pending.items []) c.raise_root.ensures.olds c.raise_root.ensures.spreading;
  size = ap (length {A = Bool}) c.raise_root.ensures.pending;
  olds = c.raise_root.ensures.olds;
  queued = c.raise_root.ensures.queued c.requires.queued;
  wrote = c.raise_root.ensures.wrote;
}

pub raise_from-requires : goal.raise_from-requires
raise_from-requires c =
    let net = c.args.network.now in
    let root = c.args.root in
    let task = c.in-Some.task in
    let is = c.loop-task.invariant.spreading in
    let taken = c.in-Some.ensures.taken in
    let low : task < length net.inst.tasks = omega (arith, taken.0, is.size) in
    let cells = ap (λ (v : Noted). v.cells) c.in-Some.ensures.values in
    let olds = c.in-Some.ensures.olds ∙ c.loop-task.invariant.olds in
    let mid = c.take_earliest.new.self in
    let looking = look_begins net root c.args.self.now.olds.items c.loop-task.self.values.cells c.loop-task.self.pending.items
    task low taken.1 is (from_task task net.arcs) (look_from task net.arcs) in
    let there = subst₂ (λ (xs : List ℕ) (marks : List Bool).
    IsSpreading net root c.args.self.now.olds.items xs marks (from_task task net.arcs)) (sym cells) (sym taken.2) looking in
    record {
      task = low;
      spreading = subst (λ (xs : List ℕ). IsSpreading net root xs mid.values.cells mid.pending.items (from_task task net.arcs))
          (sym olds) there;
      lifted = subst₂ (λ (xs ys : List ℕ). IsLifted root xs ys task) (sym olds) (sym cells) (is.pended task taken.1);
      notes = (wrote_by _ _ _ c.in-Some.ensures.values c.loop-task.invariant.wrote).notes;
      queued = c.in-Some.ensures.queued;
    }

pub returns-then-raise_from-clause-wrote : goal.returns-then-raise_from-clause-wrote
returns-then-raise_from-clause-wrote c =
    wrote_then c.args.self.now.values c.take_earliest.new.self.values c.raise_from.new.self.values
    (wrote_by _ _ _ c.in-Some.ensures.values c.loop-task.invariant.wrote) c.raise_from.ensures.wrote

-- the arcs are met, and less is left
looked : (c : Else-raise_from)
    → IsSpreading c.args.network.now c.args.root c.args.self.now.olds.items c.raise_from.new.self.values.cells
    c.raise_from.new.self.pending.items []
    × (left (length c.args.network.now.inst.tasks) c.args.root c.args.self.now.olds.items
    c.raise_from.new.self.values.cells c.raise_from.new.self.pending.items
    < left (length c.args.network.now.inst.tasks) c.args.root c.args.self.now.olds.items
    c.loop-task.self.values.cells c.loop-task.self.pending.items)
looked c =
    let net = c.args.network.now in
    let n = length net.inst.tasks in
    let root = c.args.root in
    let olds = c.args.self.now.olds.items in
    let cells = c.raise_from.new.self.values.cells in
    let pending = c.raise_from.new.self.pending.items in
    let taken = c.in-Some.ensures.taken in
    let mid = c.take_earliest.new.self in
    let mid_olds = c.in-Some.ensures.olds ∙ c.loop-task.invariant.olds in
    let olds_are = c.raise_from.ensures.olds ∙ mid_olds in
    let less = look_less net root olds c.loop-task.self.values.cells c.loop-task.self.pending.items
    c.in-Some.task (omega (arith, taken.0, c.loop-task.invariant.spreading.size)) taken.1 c.loop-task.invariant.spreading in
    let looked = subst (IsLooked net root c.raise_from.new.self.olds.items cells pending
    (left n root mid.olds.items mid.values.cells mid.pending.items))
    c.if-raise_from.false c.raise_from.ensures.looked in
    let olds_then = ap (λ (xs : List ℕ). left n root xs cells pending) olds_are in
    let mid_is = ap (λ (xs : List ℕ). left n root xs mid.values.cells mid.pending.items) mid_olds
    ∙ ap₂ (λ (xs : List ℕ) (marks : List Bool). left n root olds xs marks)
    (ap (λ (v : Noted). v.cells) c.in-Some.ensures.values) taken.2 in (
      subst (λ (xs : List ℕ). IsSpreading net root xs cells pending []) olds_are looked.0,
      omega (arith, less, looked.1, olds_then, mid_is),
    )

pub loop-task-smaller : goal.loop-task-smaller
loop-task-smaller c = (looked (goal.at.loop-task-smaller c).Else-raise_from).1

pub loop-task-preserved : goal.loop-task-preserved
loop-task-preserved c = record {
  spreading = (looked (goal.at.loop-task-preserved c).Else-raise_from).0;
  size = c.raise_from.ensures.size ∙ ap (length {A = Bool}) c.in-Some.ensures.taken.2
      ∙ length-set c.loop-task.self.pending.items c.in-Some.task false ∙ c.loop-task.invariant.size;
  olds = c.raise_from.ensures.olds ∙ c.in-Some.ensures.olds ∙ c.loop-task.invariant.olds;
  queued = c.raise_from.ensures.queued;
  wrote = wrote_then c.args.self.now.values c.take_earliest.new.self.values c.raise_from.new.self.values
      (wrote_by _ _ _ c.in-Some.ensures.values c.loop-task.invariant.wrote) c.raise_from.ensures.wrote;
}

pub returns-then-raise_from-clause-size : goal.returns-then-raise_from-clause-size
returns-then-raise_from-clause-size c =
    c.raise_from.ensures.size ∙ ap (length {A = Bool}) c.in-Some.ensures.taken.2
    ∙ length-set c.loop-task.self.pending.items c.in-Some.task false ∙ c.loop-task.invariant.size

pub returns-clause-size : goal.returns-clause-size
returns-clause-size c =
    let none = subst (IsTaken c.loop-task.self.pending.items c.take_earliest.new.self.pending.items) c.in_default.is
    c.take_earliest.ensures.taken in
    ap (length {A = Bool}) none.0 ∙ c.loop-task.invariant.size

pub returns-clause-wrote : goal.returns-clause-wrote
returns-clause-wrote c = wrote_by _ _ _ c.take_earliest.ensures.values c.loop-task.invariant.wrote

pub returns-clause-settled : goal.returns-clause-settled
returns-clause-settled c =
    let net = c.args.network.now in
    let none = subst (IsTaken c.loop-task.self.pending.items c.take_earliest.new.self.pending.items) c.in_default.is
    c.take_earliest.ensures.taken in
    subst (AreRest net.inst net.decisions) (sym (ap (λ (v : Noted). v.cells) c.take_earliest.ensures.values))
    (spread_ends net c.args.root c.args.self.now.olds.items c.loop-task.self.values.cells
    c.loop-task.self.pending.items c.requires.sound (λ j _. none.1 j) c.loop-task.invariant.spreading)
