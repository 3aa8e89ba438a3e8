use Rattle.std.proofs.Common.{◌≡◌, ◌<◌, ◌-◌, ℕ, suc, drop, length, reverse, ap, sym, ◌∙◌, arith}
use Rattle.qc_starts.proofs.LevelLemmas.{drop_more, popped}
use Rattle.qc_starts.proofs.network.pop_to.Goals as goal

pub loop-arena-preserved : goal.loop-arena-preserved
loop-arena-preserved c =
    let is = c.loop-arena.invariant in
    let all = reverse c.args.arena.now.arcs in
    let any : 0 < length c.loop-arena.arena.arcs = omega (arith, c.len.ensures, c.loop-arena-test.true) in
    let by = popped c.loop-arena.arena c.pop.new.self c.pop.result c.pop.ensures.arcs c.pop.ensures.some any in
    let back = length c.args.arena.now.arcs - length c.loop-arena.arena.arcs in
    let next : suc (length c.args.arena.now.arcs - length c.loop-arena.arena.arcs)
    ≡ length c.args.arena.now.arcs - length c.pop.new.self.arcs = omega (arith, by.count) in
    record {
      some = omega (arith, by.count, c.len.ensures, c.loop-arena-test.true);
      count = omega (arith, by.count);
      arcs = sym (drop_more back all by.newest (reverse c.pop.new.self.arcs) (sym is.arcs ∙ by.is))
          ∙ ap (λ (k : ℕ). drop k all) next;
      nodes = by.nodes ∙ is.nodes;
      cap = by.cap ∙ is.cap;
    }
