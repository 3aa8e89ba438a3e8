use Rattle.std.proofs.Common.{◌≡◌, ◌+◌, ◌∙◌, ℕ, List, Option, Some, slice_index, slice_set, refl, ap, subst, arith}
use Rattle.std.proofs.lemmas.Grind.{get_or_default_zero}
use Rattle.qc_model.specs.declared.task.Task.{Task}
use Rattle.qc_rest.specs.Passed.{most_base}
use Rattle.qc_rest.specs.Passing.{EndBy, IsBegin}
use Rattle.qc_rest.proofs.pass.Pass.step.Goals as goal

pub overflow_add-start : goal.overflow_add-start
overflow_add-start c =
    let ends : EndBy c.as_slice.result.now most_base = rw c.as_slice.ensures.value c.requires.ends in
    let first : c.index-first.result.now ≡ slice_index c.args.self.now.starts.items c.args.j =
    c.index-first.ensures ∙ get_or_default_zero c.args.self.now.starts.items c.args.j c.index-first.result.now (omega (arith, c.requires.task, c.requires.room.starts)) in
    let soon = c.due-start.ensures.soon most_base (omega (arith, c.requires.starts c.args.j, first)) ends in
    omega (arith, soon, c.task.ensures.bound)

pub returns : goal.returns
returns c =
    let inst = c.args.inst.now in
    let plan = c.args.slots.now in
    let ends = c.args.self.now.ends.items in
    let r = c.due-start.result in
    let first : c.index-first.result.now ≡ slice_index c.args.self.now.starts.items c.args.j =
    c.index-first.ensures ∙ get_or_default_zero c.args.self.now.starts.items c.args.j c.index-first.result.now (omega (arith, c.requires.task, c.requires.room.starts)) in
    let ticks = ap (λ (t : Task). t.ticks) c.task.ensures.task in record {
      start = r;
      is = subst (λ (f : ℕ). IsBegin inst plan f ends c.args.j r) first
          (subst (λ (xs : List (Option ℕ)). IsBegin inst plan c.index-first.result.now xs c.args.j r) c.as_slice.ensures.value c.due-start.ensures.start);
      soon = λ base from by. c.due-start.ensures.soon base (omega (arith, from, first)) (rw c.as_slice.ensures.value by);
      starts = refl;
      ends = ap (λ (t : ℕ). slice_set ends c.args.j (Some (r + t))) ticks;
      left = refl;
      long = omega (arith, c.task.ensures.bound, ticks);
    }
