use Rattle.std.proofs.Common.{◌≡◌, ◌-◌, ◌+◌, ◌∙◌, List, None, ℕ, length, refl, ap, sym, subst, arith, rules}
use Rattle.qc_close.specs.Counts.{IsWalked, last_bays}
use Rattle.qc_close.specs.Tried.{tried}
use Rattle.qc_close.proofs.WalkLemmas.{WalkedTo, last_all, none_all, none_walked, walked_no, walked_yes}
use Rattle.qc_close.proofs.count.Count.walk_along.Goals as goal
use Rattle.qc_close.proofs.count.Count.walk_along.Goals.{then-work-gt0+in_ok-walk, else-work-gt0}

pub loop-count-init : goal.loop-count-init
loop-count-init c = record {
  walked = none_walked c.args.self.now.travel c.args.tick c.args.self.now.frames.now c.args.self.now.left.now c.args.way
      (record { last = None; work = 0; legs = 0 }) refl refl refl;
  last = tt;
  work = omega arith;
  legs = omega arith;
}

pub returns-in_err-walk-clause-found : goal.returns-in_err-walk-clause-found
returns-in_err-walk-clause-found c =
    let none =
    none_all c.args.self.now.travel c.args.tick c.args.self.now.frames.now c.args.self.now.left.now c.args.way (length c.args.self.now.left.now - 1)
    c.loop-count.count c.bay_behind-bay.result (omega arith) (omega arith) c.bay_behind-bay.ensures c.if-work-gt0.true
    (c.in_err-walk.ensures.found (last_bays c.args.way c.args.self.now.left.now c.loop-count.count) refl
    c.loop-count.invariant.walked) in
    rw c.from_residual.ensures none

pub loop-count-preserved : goal.loop-count-preserved
loop-count-preserved c = elim c.if-work-gt0.branch [
  | then-work-gt0+in_ok-walk w ↦
      subst (WalkedTo c.args.self.now.travel c.args.tick c.args.self.now.frames.now c.args.self.now.left.now c.args.way (c.loop-count.count + 1)) (sym w.walk-is)
      (record {
        walked =
            walked_yes c.args.self.now.travel c.args.tick c.args.self.now.frames.now c.args.self.now.left.now c.args.way (length c.args.self.now.left.now - 1)
            c.loop-count.count c.bay_behind-bay.result _ (omega arith) (omega arith) c.bay_behind-bay.ensures
            w.if-work-gt0.true
            (w.in_ok-walk.ensures.found (last_bays c.args.way c.args.self.now.left.now c.loop-count.count) refl
            c.loop-count.invariant.walked);
        last = w.in_ok-walk.ensures.last;
        work = omega (arith, w.in_ok-walk.ensures.work, c.loop-count.invariant.work, c.args.self.now.work c.bay_behind-bay.result);
        legs = omega (arith, w.in_ok-walk.ensures.legs, c.loop-count.invariant.legs);
      })
  | else-work-gt0 w ↦
      subst (WalkedTo c.args.self.now.travel c.args.tick c.args.self.now.frames.now c.args.self.now.left.now c.args.way (c.loop-count.count + 1)) (sym w.walk-is)
      (record {
        walked =
            walked_no c.args.self.now.travel c.args.tick c.args.self.now.frames.now c.args.self.now.left.now c.args.way (length c.args.self.now.left.now - 1)
            c.loop-count.count c.bay_behind-bay.result _ (omega arith) (omega arith) c.bay_behind-bay.ensures
            w.if-work-gt0.false c.loop-count.invariant.walked;
        last = c.loop-count.invariant.last;
        work = omega (arith, c.loop-count.invariant.work);
        legs = omega (arith, c.loop-count.invariant.legs);
      })
]

pub returns-clause-found : goal.returns-clause-found
returns-clause-found c =
    let left = c.args.self.now.left.now in
    let t = tried c.args.self.now c.args.tick in
    let many : length left ≡ length left - 1 + 1 = omega (arith, c.args.self.now.bays.0) in
    let at : c.loop-count.count ≡ length left - 1 = omega (arith, c.loop-count-test.false, c.loop-count.auto.count-end) in
    subst (λ (xs : List ℕ). IsWalked t c.args.way xs c.loop-count.walk)
    (ap (last_bays c.args.way left) at ∙ last_all left c.args.self.now.travel c.args.tick c.args.self.now.frames.now c.args.way (length left - 1) many)
    c.loop-count.invariant.walked

pub bounds-self-bay : goal.bounds-self-bay
bounds-self-bay c = search rules

pub step-requires-clause-work : goal.step-requires-clause-work
step-requires-clause-work c = search rules

pub returns-clause-work : goal.returns-clause-work
returns-clause-work c = search rules

pub returns-clause-legs : goal.returns-clause-legs
returns-clause-legs c = search rules
