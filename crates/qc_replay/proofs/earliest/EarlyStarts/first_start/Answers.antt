use Rattle.std.proofs.Common.{◌∙◌, List, ℕ, ap, arith, get_or, map, min}
use Rattle.std.proofs.lemmas.List.{take_all}
use Rattle.std.specs.Option.{option_map_or}
use Rattle.qc_replay.specs.Earliest.{start_in}
use Rattle.qc_replay.proofs.EarlyFacts.{least_of_all, node_start_is}
use Rattle.qc_model.proofs.Extremes.{least_more, least_option}
use Rattle.qc_replay.proofs.earliest.EarlyStarts.first_start.Goals as goal

pub loop-task-preserved : goal.loop-task-preserved
loop-task-preserved c =
    let inst = c.args.self.now.starts.inst in
    let ds = c.args.self.now.starts.decisions in
    let tasks = c.args.tasks.now in
    let i = c.loop-task.task-index in
    let low = c.requires.tasks i 0 c.loop-task-test.true in
    let is = c.start.ensures.start in
    record {
      so_far = λ starts least.
          least_more (start_in starts) tasks i c.loop-task.least c.lesser.result c.loop-task-test.true
          (c.loop-task.invariant.so_far starts least)
          (c.lesser.ensures.least
          ∙ ap (λ t. option_map_or (λ n. min n t) c.loop-task.least t)
          (node_start_is inst ds (get_or tasks i 0) c.start.result low is starts least));
      known = λ _. (is.starts, is.least);
      bound = omega (arith, c.lesser.ensures.bound, c.start.ensures.bound);
    }

pub returns-clause-first : goal.returns-clause-first
returns-clause-first c =
    let tasks = c.args.tasks.now in
    let known = c.loop-task.invariant.known (omega (arith, c.loop-task-test.false, c.requires.some)) in
    record {
      starts = known.0;
      are = known.1;
      is =
          c.unwrap_or.ensures
          ∙ least_of_all c.loop-task.least (map (start_in known.0) tasks)
          (c.loop-task.invariant.so_far known.0 known.1
          ∙ ap (λ (js : List ℕ). least_option (map (start_in known.0) js))
          (take_all c.loop-task.task-index tasks (omega (arith, c.loop-task-test.false))));
    }
