use Rattle.std.proofs.Common.{◌≡◌, ◌∙◌, List, ℕ, ap, map}
use Rattle.std.proofs.lemmas.List.{map-id}
use Rattle.qc_gantt.specs.Names.{number_of, task_names}
use Rattle.qc_gantt.proofs.slots.slots_by_texts.Goals as goal

pub slots_by-slots-requires-clause-tasks : goal.slots_by-slots-requires-clause-tasks
slots_by-slots-requires-clause-tasks c = λ name.
    let texts : map (λ (text : List ℕ). text) c.args.texts.now ≡ task_names c.args.inst.now =
    map-id c.args.texts.now ∙ c.requires.texts in
    c.in_ok-tasks.ensures name ∙ ap (λ (names : List (List ℕ)). number_of names name) texts
