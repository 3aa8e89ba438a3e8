use Rattle.std.proofs.Common.{◌≡◌, ◌∙◌, ◌%◌, ℕ, ap, take}
use Rattle.std.proofs.lemmas.List.{take_all}
use Rattle.qc_odds.specs.Draws.{draw, mix}
use Rattle.qc_odds.proofs.draws.draw.Goals as goal

pub returns : goal.returns
unfolding draw
returns c =
    let all : take c.loop-byte.byte-index c.args.text.now ≡ c.args.text.now = take_all c.loop-byte.byte-index c.args.text.now c.loop-byte-test.false in
    let x = rw all at c.loop-byte.invariant in
    ap (λ (n : ℕ). n % 4294967296) (c.mix-3.ensures ∙ ap mix c.mix-2.ensures ∙ ap (λ (n : ℕ). mix (mix n)) x)
