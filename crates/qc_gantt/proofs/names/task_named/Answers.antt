use Rattle.std.proofs.Common.{◌≡◌, rules}
use Rattle.qc_model.specs.Tasks.{task_text}
use Rattle.qc_gantt.specs.Names.{number_of, task_names}
use Rattle.qc_gantt.proofs.EntryLemmas.{found_inside}
use Rattle.qc_gantt.proofs.names.task_named.Goals as goal

pub returns-clause-range : goal.returns-clause-range
returns-clause-range c =
    let named : c.copied.result ≡ number_of (task_names c.args.inst.now) c.args.name.now = search rules in
    found_inside task_text c.args.inst.now.tasks c.args.name.now c.copied.result named
