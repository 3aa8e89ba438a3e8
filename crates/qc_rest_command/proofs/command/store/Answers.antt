use Rattle.std.proofs.Common.{◌∙◌, sym}
use Rattle.qc_rest_command.proofs.StoreLemmas.{all_stopped, all_stored, by_err, by_ok, names_stopped}
use Rattle.qc_rest_command.proofs.command.store.Goals as goal

pub returns-then-is_err-clause-writes : goal.returns-then-is_err-clause-writes
returns-then-is_err-clause-writes g c =
    names_stopped c.requires.ready c.try_names.ensures.files
    (by_err c.try_names.result (sym c.is_err.ensures.value ∙ c.if-is_err.true) c.try_names.ensures.counts.rose)

pub returns-in-Err-clause-writes : goal.returns-in-Err-clause-writes
returns-in-Err-clause-writes g c =
    all_stopped c.requires.ready c.try_names.ensures.files
    (by_ok c.try_names.result (sym c.is_err.ensures.value ∙ c.if-is_err.false) c.try_names.ensures.counts.unfailed)
    (rw c.as_slice.ensures at c.in-Err.ensures.makes)

pub returns-in-Ok-clause-writes : goal.returns-in-Ok-clause-writes
returns-in-Ok-clause-writes g c =
    all_stored c.requires.ready c.try_names.ensures.files
    (by_ok c.try_names.result (sym c.is_err.ensures.value ∙ c.if-is_err.false) c.try_names.ensures.counts.unfailed)
    (rw c.as_slice.ensures at c.in-Ok.ensures.makes) c.in-Ok.ensures.list c.in-Ok.ensures.order
