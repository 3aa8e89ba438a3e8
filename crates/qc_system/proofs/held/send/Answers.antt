use Rattle.std.proofs.Common.{List, ℕ, take, subst, ◌∙◌, arith}
use Rattle.std.proofs.lemmas.List.{length-drop, take_rest}
use Rattle.std.specs.Io.KnownBytes.{Appends}
use Rattle.qc_system.proofs.HeldLemmas.{appends_more}
use Rattle.qc_system.proofs.held.send.Goals as goal

pub loop-done-preserved : goal.loop-done-preserved
loop-done-preserved g c = record {
  in_range = omega (arith, length-drop {A = ℕ}, c.in_ok-done.ensures.writes.at_most);
  sent =
      appends_more (g.W.Write.contents c.args.to.now) (g.W.Write.contents c.loop-done.to) (g.W.Write.contents c.write_once.new.to)
      c.args.bytes.now c.loop-done.done c.in_ok-done.field-0 c.loop-done.invariant.sent
      (subst (λ (bs : List ℕ). Appends (g.W.Write.contents c.loop-done.to) (g.W.Write.contents c.write_once.new.to) (take c.in_ok-done.field-0 bs))
      (take_rest c.args.bytes.now c.loop-done.done) c.in_ok-done.ensures.writes.bytes);
  unfailed = c.in_ok-done.ensures.counts.unfailed ∙ c.loop-done.invariant.unfailed;
}
