use Rattle.std.proofs.lemmas.Int.{ints}
use Rattle.std.proofs.Common.{◌∙◌, arith, subst, sym}
use Rattle.qc_model.proofs.LimitsOf.{limits_of}
use Rattle.qc_model.specs.Assignments.{no_cranes}
use Rattle.qc_close.specs.Lefts.{IsLeft}
use Rattle.qc_close.proofs.SpotLists.{written}
use Rattle.qc_close.proofs.left.work_left.Goals as goal

pub nothing-requires : goal.nothing-requires
nothing-requires c =
    let most = (limits_of c.args.inst.now c.bays.ensures.valid).bays.1 in
    omega (arith, ints, c.bays.ensures.bays, most)

pub returns : goal.returns
returns c =
    let inst = c.args.inst.now in
    let many = c.add_tasks.auto.left ∙ c.as_mut_slice.ensures.len ∙ c.in_ok-left.left.ok.0 in
    subst (IsLeft inst (no_cranes inst)) (sym (written c.in_ok-left.left c.add_tasks.new.left many)) c.add_tasks.ensures
