use Rattle.std.proofs.Common.{◌≡◌, ◌+◌, ◌∷◌, [], length, ap, sym, ◌∙◌, arith}
use Rattle.std.proofs.lemmas.List.{length-append}
use Rattle.qc_arena.specs.declared.block.Side.TheVariants.{Out, In}
use Rattle.qc_arena.proofs.Threads.{threaded_popped}
use Rattle.qc_arena.proofs.arcs.ArcArena.pop.Goals as goal

pub invariant_of-self : goal.invariant_of-self
invariant_of-self c =
    let was = c.self.invariant in
    let popped = c.pop-cell.ensures in
    let count : c.self.inside.len ≡ length c.pop-cell.new.self.cells + 1 =
    was.count ∙ ap length popped.0 ∙ length-append c.pop-cell.new.self.cells (c.pop-cell.result ∷ []) in record {
      out = threaded_popped _ _ Out _ _ c.pop-cell.result _ popped.2 popped.0 was.out;
      into = threaded_popped _ _ In _ _ c.pop-cell.result _ popped.2 popped.0 was.into;
      nodes = was.nodes;
      count = omega (arith, count);
      room = omega (arith, count, was.room, popped.1);
      few = was.few;
      at = was.at ∙ sym popped.2;
      size = was.size;
      from = was.from;
    }
