use Rattle.std.proofs.Common.{◌≡◌, ◌<◌, ◌∙◌, length, sym, subst, rules, Option, List, ℕ, Err, IfSome}
use Rattle.qc_io.specs.Outside.{IsFile}
use Rattle.qc_io.specs.declared.reading.ReadAll.TheVariants.{TooLarge}
use Rattle.qc_io.proofs.Pieces.{whole_at_end}
use Rattle.qc_io.proofs.reading.read_all.Goals as goal

pub returns-in_err-read_block-clause-too_large : goal.returns-in_err-read_block-clause-too_large
returns-in_err-read_block-clause-too_large g c =
    let fact = λ (e : Err c.in_err-read_block.field-0.0 ≡ Err TooLarge). subst (λ (whole : Option (List ℕ)). IfSome whole (λ bytes. c.args.limit < length bytes)) c.loop-block.invariant.whole (c.in_err-read_block.ensures.too_large e) in
    search rules

pub returns-clause-whole : goal.returns-clause-whole
returns-clause-whole g c =
    subst (λ bytes. IsFile (g.S.Sink.view c.args.shelf.now).files c.args.name.now bytes) (sym c.of.ensures)
    (whole_at_end _ _ _ (g.S.Sink.view c.read_block.new.shelf).rest c.loop-block.invariant.held (c.in_ok-read_block.ensures.ok ∙ c.loop-block.invariant.whole)
    (c.in_ok-read_block.ensures.ended c.if-branch.false))
