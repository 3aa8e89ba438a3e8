use Rattle.std.proofs.Common.{◌≡◌, true, false, arith, sym, ◌∙◌, is_err}
use Rattle.qc_io.proofs.Pieces.{on_err}
use Rattle.qc_run.specs.Inputs.{planning}
use Rattle.qc_plan_command.proofs.FoundLemmas.{rereads, sound_answer}
use Rattle.qc_plan_command.proofs.StoreLemmas.{at_begin, at_end, at_plan, at_tree, by_err, by_ok, writes_told}
use Rattle.qc_plan_command.proofs.command.store_search.Goals as goal

pub returns-then-is_err-clause-cut : goal.returns-then-is_err-clause-cut
returns-then-is_err-clause-cut g c =
    let view = g.S.Sink.view in
    let failed : is_err c.create.result ≡ true = sym c.is_err.ensures.value ∙ c.if-is_err.true in (
      (
        by_err c.create.result failed c.create.ensures.counts.rose,
        at_begin (planning c.args.asked.now) c.args.job.now c.requires.allowed (view c.args.shelf.now).files
            (view c.create.new.self).files c.requires.due c.create.ensures.files_stay,
      ),
      c.create.ensures.read_faults_stay,
    )

pub returns-in_err-done-clause-cut : goal.returns-in_err-done-clause-cut
returns-in_err-done-clause-cut g c =
    let view = g.S.Sink.view in
    let searched = c.in_err-done.ensures.searched in
    on_err c.from_residual.result (
      (
        omega (arith, c.create.ensures.counts.never_falls, c.in_err-done.ensures.counts.rose),
        at_tree (planning c.args.asked.now) c.args.job.now c.requires.allowed (view c.args.shelf.now).files
            (view c.create.new.self).files c.requires.due c.create.ensures.files_stay c.requires.valid
            c.args.search c.requires.search (view c.run_search.new.shelf).files (view c.run_search.new.shelf).files
            _ searched searched.err,
      ),
      c.run_search.ensures.read_faults ∙ c.create.ensures.read_faults_stay,
    )

pub returns-in-Err-clause-cut : goal.returns-in-Err-clause-cut
returns-in-Err-clause-cut g c =
    let view = g.S.Sink.view in
    let searched = c.in_ok-done.ensures.searched in (
      (
        omega (
          arith,
          c.create.ensures.counts.never_falls,
          c.in_ok-done.ensures.counts.never_falls,
          c.in-Err.ensures.counts.rose,
        ),
        at_plan (planning c.args.asked.now) c.args.job.now c.requires.allowed (view c.args.shelf.now).files
            (view c.create.new.self).files c.requires.due c.create.ensures.files_stay c.requires.valid
            c.args.search c.requires.search (view c.run_search.new.shelf).files (view c.store_best.new.shelf).files
            _ searched c.in_ok-done.done searched.ok c.in-Err.ensures.err,
      ),
      c.in-Err.ensures.read_faults ∙ c.run_search.ensures.read_faults ∙ c.create.ensures.read_faults_stay,
    )

pub returns-in-Ok-clause-stored : goal.returns-in-Ok-clause-stored
returns-in-Ok-clause-stored g c =
    let view = g.S.Sink.view in
    let job = c.args.job.now in
    let done = c.in_ok-done.done in
    let searched = c.in_ok-done.ensures.searched in
    let sound = searched.sound in
    let came : is_err c.create.result ≡ false = sym c.is_err.ensures.value ∙ c.if-is_err.false in
    record {
      none_earlier = sound.none_earlier;
      judgeable = sound.judgeable;
      tight = sound.tight;
      goes = sound.goes;
      reread = rereads job.inst done.best sound.judgeable sound.soon c.in-Ok.ensures.reread;
      told = λ a tells. (
        writes_told (planning c.args.asked.now) (view c.args.shelf.now) (view c.store_best.new.shelf) job.inst done
            a tells
            (c.in-Ok.ensures.counts.unfailed ∙ c.in_ok-done.ensures.counts.unfailed
            ∙ by_ok c.create.result came c.create.ensures.counts.unfailed)
            (at_end (planning c.args.asked.now) job c.requires.allowed (view c.args.shelf.now).files
            (view c.create.new.self).files c.requires.due c.create.ensures.files_stay c.requires.valid
            c.args.search c.requires.search (view c.run_search.new.shelf).files (view c.store_best.new.shelf).files
            _ searched done a searched.ok c.in-Ok.ensures.ok tells)
            (c.in-Ok.ensures.unmade c.in_ok-done.ensures.unmade)
            (sound_answer job.inst done (planning c.args.asked.now).inputs.turn c.requires.valid c.requires.turn sound.none_earlier
            sound.tight a tells),
        c.in-Ok.ensures.read_faults ∙ c.run_search.ensures.read_faults ∙ c.create.ensures.read_faults_stay,
      );
    }
