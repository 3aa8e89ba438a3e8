use Rattle.std.proofs.Common.{◌≡◌, ◌*◌, ◌/◌, ◌++◌, ◌∷◌, [], ℕ, List, map, ap, sym, ◌∙◌, append_assoc, arith}
use Rattle.std.proofs.lemmas.List.FromFn.{map-range_with_len_more}
use Rattle.std.specs.List.{range_with_len}
use Rattle.qc_model.specs.Rules.{ends}
use Rattle.qc_gantt.specs.GanttText.{mark}
use Rattle.qc_gantt.proofs.gantt.gantt_line.Goals as goal

pub loop-place-preserved : goal.loop-place-preserved
loop-place-preserved c =
    let f = λ (n : ℕ). mark c.args.inst.now c.args.sched.now c.args.crane (n * ends c.args.inst.now c.args.sched.now / 60) in
    let n = c.loop-place.place in
    let here : c.mark.result ≡ f n = c.mark.ensures ∙ ap (λ (e : ℕ). mark c.args.inst.now c.args.sched.now c.args.crane (n * e / 60)) c.requires.end in
    record {
      marks = c.push.ensures.text ∙ ap (λ (l : List ℕ). l ++ c.mark.result ∷ []) c.loop-place.invariant.marks
          ∙ append_assoc c.line_head-line.result (map f (range_with_len 0 n)) (c.mark.result ∷ [])
          ∙ ap (λ (m : ℕ). c.line_head-line.result ++ (map f (range_with_len 0 n) ++ m ∷ [])) here
          ∙ ap (λ (l : List ℕ). c.line_head-line.result ++ l) (sym (map-range_with_len_more f 0 n n (omega arith)));
      length = omega (arith, c.push.ensures.length, c.loop-place.invariant.length);
    }
