use Rattle.std.proofs.Common.{ap, arith, ◌∙◌}
use Rattle.std.proofs.lemmas.Int.{ints}
use Rattle.toml.specs.Data.{integer}
use Rattle.toml.proofs.Views.{view-Integer}
use Rattle.qc_rest_files.proofs.ship.clear_value.Goals as goal

pub returns : goal.returns
returns c = view-Integer _ ∙ ap integer (omega (arith, ints, c.margin.ensures.margin))
