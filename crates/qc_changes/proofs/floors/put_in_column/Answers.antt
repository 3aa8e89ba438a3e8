use Rattle.std.proofs.Common.{◌∙◌, ℕ, Option, ap, rules}
use Rattle.qc_changes.specs.Floors.{lower}
use Rattle.qc_changes.proofs.FloorLemmas.{put_more}
use Rattle.qc_changes.proofs.floors.put_in_column.Goals as goal

pub returns : goal.returns
returns c = put_more _ _ c.args.floors.now.entries c.insert.new.self.entries c.args.column c.args.tier c.lower-lowest.result (λ other. c.in_ok-insert.ensures.updates.0 other)
    (c.lower-lowest.ensures ∙ ap (λ (o : Option ℕ). lower o c.args.tier) c.get.ensures.value) (λ a b. search rules) (λ b. search rules)
