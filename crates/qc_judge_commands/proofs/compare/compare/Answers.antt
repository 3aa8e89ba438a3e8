use Rattle.std.proofs.Common.{Err, ap, inr, subst, IfSome}
use Rattle.qc_tree.specs.Trees.{NoneEarlier}
use Rattle.qc_num.specs.declared.bound.Bound.{Bound}
use Rattle.qc_num.specs.declared.bound.Bound.TheVariants.{Least}
use Rattle.qc_run.specs.Due.{contents_in}
use Rattle.qc_run.specs.Inputs.{names_of}
use Rattle.qc_run.proofs.AccountLemmas.{reads_found, reads_stopped}
use Rattle.qc_judge_commands.specs.TreeFile.{IsTreeShown}
use Rattle.qc_judge_commands.proofs.ReadLemmas.{shown_bound, shown_none}
use Rattle.qc_judge_commands.proofs.compare.compare.Goals as goal

pub returns-in-Ok : goal.returns-in-Ok
returns-in-Ok g c =
    let names = names_of c.args.inputs.now in
    let files = (g.S.Sink.view c.args.shelf.now).files in
    let job = c.args.job.now in
    let bound = c.compared_of.ensures.bound_told in
    let step = c.in-Ok.ensures.step in
    reads_found step (record {
      read = job;
      due = c.requires.due;
      tells = record {
        read = c.in-Ok.read;
        tree = step.ok.1;
        tells = c.compared_of.ensures;
        none_earlier = subst (NoneEarlier job.inst) bound c.in-Ok.ensures.none_earlier;
        shown = shown_bound names files job (Least c.compared_of.result.bound) c.requires.due
            (subst (λ (b : Bound). IfSome files (λ held. IsTreeShown job.inst (contents_in held names).tree b)) bound c.in-Ok.ensures.shown);
      };
    })

pub returns-in-Err : goal.returns-in-Err
returns-in-Err g c =
    let step = c.in-Err.ensures.step in
    reads_stopped step (
      inr (record { job = c.args.job.now; due = c.requires.due; goes = c.requires.goes; tree = step.err }),
      λ fault e. shown_none (names_of c.args.inputs.now) (g.S.Sink.view c.args.shelf.now).files c.args.job.now c.requires.due
          (c.in-Err.ensures.none fault (ap Err e)),
    )
