use Rattle.std.proofs.Common.{◌≡◌, ◌∷◌, ℕ, List, length, refl, ap, sym, subst, ◌∙◌, arith, false}
use Rattle.qc_arena.specs.declared.edge.Edge.{Edge}
use Rattle.qc_starts.specs.Noting.{Wrote}
use Rattle.qc_starts.specs.Spread.{IsBackAtRoot, IsLooked, IsSpreading, from_task, is_late, left}
use Rattle.qc_starts.proofs.NotingLemmas.{wrote_none, wrote_then}
use Rattle.qc_starts.proofs.SpreadLemmas.{IsLooking, set_size, looking_asks, looking_begins, looking_fits, looking_home, looking_step}
use Rattle.qc_starts.proofs.spread.Spread.raise_from.Goals as goal
use Rattle.qc_starts.proofs.spread.Spread.raise_from.Goals.{After-raise_by, In-Some}

pub loop-arc-init : goal.loop-arc-init
loop-arc-init c =
    let are = ap (from_task c.args.task) c.arena.ensures.arcs in
    record {
      can = tt;
      finite = tt;
      looking = looking_begins c.args.network.now c.args.root c.args.task c.args.self.now.olds.items
          c.args.self.now.values.cells c.args.self.now.pending.items c.into_iter-arc-iterator.result
          (c.into_iter-arc-iterator.ensures.into_iter_gives ∙ c.out-arc-items.ensures ∙ are)
          c.requires.spreading c.requires.lifted;
      size = refl;
      olds = refl;
      queued = c.requires.queued;
      wrote = wrote_none c.args.self.now.values c.requires.notes;
    }

abbrev before : (c : In-Some) → ℕ
before c =
    left (length c.args.network.now.inst.tasks) c.args.root c.args.self.now.olds.items c.args.self.now.values.cells
    c.args.self.now.pending.items

here : (c : In-Some)
    → IsLooking c.args.network.now c.args.root c.args.task c.args.self.now.olds.items c.loop-arc.self.values.cells
    c.loop-arc.self.pending.items (c.in-Some.arc ∷ c.next.new.self) (before c)
here c =
    subst (λ (rest : List Edge). IsLooking c.args.network.now c.args.root c.args.task c.args.self.now.olds.items
    c.loop-arc.self.values.cells c.loop-arc.self.pending.items rest (before c)) c.in-Some.ensures.steps
    c.loop-arc.invariant.looking

pub raise_by-requires : goal.raise_by-requires
raise_by-requires c =
    let net = c.args.network.now in
    let sound = c.arena.ensures.sound in
    let at = (goal.at.raise_by-requires c).In-Some in
    let is = here at in
    let asks = looking_asks net c.args.root c.args.task c.args.self.now.olds.items c.loop-arc.self.values.cells
    c.loop-arc.self.pending.items c.next.new.self (before at) c.in-Some.arc sound is in
    let fits = looking_fits net c.args.root c.args.task c.args.self.now.olds.items c.loop-arc.self.values.cells
    c.loop-arc.self.pending.items c.next.new.self (before at) c.in-Some.arc sound is in
    record {
      from = omega (arith, asks.from, is.spreading.size);
      to = omega (arith, asks.to, is.spreading.size);
      few = omega (arith, is.spreading.size, sound.valid.tasks.count);
      count = omega (arith, is.spreading.size, is.spreading.raising.count);
      fits = omega (arith, fits);
      notes = c.loop-arc.invariant.wrote.notes;
      queued = c.loop-arc.invariant.queued;
    }

-- what a raise keeps
kept : (c : After-raise_by)
    → (length c.raise_by.new.self.pending.items ≡ length c.args.self.now.pending.items)
    × (c.raise_by.new.self.olds.items ≡ c.args.self.now.olds.items)
    × Wrote c.args.self.now.values c.raise_by.new.self.values
kept c = (
  set_size c.raise_by.new.self.pending.items c.loop-arc.self.pending.items
      (is_late c.loop-arc.self.values.cells c.in-Some.arc) c.in-Some.arc.to c.raise_by.ensures.pending
      ∙ c.loop-arc.invariant.size,
  c.raise_by.ensures.olds ∙ c.loop-arc.invariant.olds,
  wrote_then c.args.self.now.values c.loop-arc.self.values c.raise_by.new.self.values c.loop-arc.invariant.wrote
      c.raise_by.ensures.wrote,
)

pub returns-then-raise_by : goal.returns-then-raise_by
returns-then-raise_by c =
    let net = c.args.network.now in
    let at = (goal.at.returns-then-raise_by c).In-Some in
    let is = here at in
    let are = kept (goal.at.returns-then-raise_by c).After-raise_by in
    let back = looking_home net c.args.root c.args.task c.args.self.now.olds.items c.loop-arc.self.values.cells
    c.loop-arc.self.pending.items c.next.new.self (before at) c.in-Some.arc c.arena.ensures.sound
    is c.raise_by.new.self.values.cells c.raise_by.new.self.pending.items
    (length c.loop-arc.self.pending.items) is.spreading.size c.raise_by.ensures.cells
    (sym c.raise_by.ensures.back ∙ c.if-raise_by.true) in
    record {
      size = are.0;
      olds = are.1;
      queued = c.raise_by.ensures.queued;
      wrote = are.2;
      looked = subst (λ (xs : List ℕ). IsBackAtRoot net c.args.root xs c.raise_by.new.self.values.cells) (sym are.1) back;
    }

pub loop-arc-preserved : goal.loop-arc-preserved
loop-arc-preserved c =
    let at = (goal.at.loop-arc-preserved c).In-Some in
    let is = here at in
    let are = kept (goal.at.loop-arc-preserved c).After-raise_by in
    record {
      can = tt;
      finite = tt;
      looking = looking_step c.args.network.now c.args.root c.args.task c.args.self.now.olds.items
          c.loop-arc.self.values.cells c.loop-arc.self.pending.items c.next.new.self (before at) c.in-Some.arc
          c.arena.ensures.sound is c.raise_by.new.self.values.cells c.raise_by.new.self.pending.items
          (length c.loop-arc.self.pending.items) is.spreading.size c.raise_by.ensures.cells c.raise_by.ensures.pending
          (sym c.raise_by.ensures.back ∙ c.if-raise_by.false);
      size = are.0;
      olds = are.1;
      queued = c.raise_by.ensures.queued;
      wrote = are.2;
    }

pub returns-clause-looked : goal.returns-clause-looked
returns-clause-looked c =
    let net = c.args.network.now in
    let root = c.args.root in
    let olds = c.args.self.now.olds.items in
    let self = c.loop-arc.self in
    let is = c.loop-arc.invariant.looking in
    let all = subst (IsSpreading net root olds self.values.cells self.pending.items) c.in-None.ensures.steps.0 is.spreading in
    subst (λ (xs : List ℕ). IsLooked net root xs self.values.cells self.pending.items
    (left (length net.inst.tasks) root olds c.args.self.now.values.cells c.args.self.now.pending.items) false)
    (sym c.loop-arc.invariant.olds) (all, is.less)
