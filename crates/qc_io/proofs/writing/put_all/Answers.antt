use Rattle.std.proofs.Common.{ℕ, take, drop, ap, ◌∙◌, arith}
use Rattle.std.proofs.lemmas.List.{length-drop, take_rest}
use Rattle.std.specs.Io.KnownBytes.{append_known}
use Rattle.qc_io.proofs.Pieces.{append_known-take}
use Rattle.qc_io.proofs.writing.put_all.Goals as goal

pub loop-done-preserved : goal.loop-done-preserved
loop-done-preserved g c = record {
  in_range = omega (arith, length-drop {A = ℕ}, c.in_ok-done.ensures.at_most);
  grew =
      c.in_ok-done.ensures.appended
      ∙ ap (λ left. append_known (g.K.Sink.view c.loop-done.sink).written (take c.in_ok-done.field-0 left)) (take_rest c.args.piece.now c.loop-done.done)
      ∙ ap (λ bytes. append_known bytes (take c.in_ok-done.field-0 (drop c.loop-done.done c.args.piece.now))) c.loop-done.invariant.grew
      ∙ append_known-take _ c.args.piece.now c.loop-done.done c.in_ok-done.field-0;
  beside_stays = c.in_ok-done.ensures.beside_stays ∙ c.loop-done.invariant.beside_stays;
  unfailed = c.in_ok-done.ensures.counts.unfailed ∙ c.loop-done.invariant.unfailed;
  empty_stays = λ none. absurd (omega arith);
}
