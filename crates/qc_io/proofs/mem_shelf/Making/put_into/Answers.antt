use Rattle.std.proofs.Common.{List, ap, ℕ, ◌∙◌}
use Rattle.std.specs.String.{string_bytes}
use Rattle.std.specs.FinMap.{insert}
use Rattle.qc_io.specs.Memory.{files_of}
use Rattle.qc_io.proofs.Named.{files_of-updates}
use Rattle.qc_io.proofs.mem_shelf.Making.put_into.Goals as goal

pub returns-clause-ok : goal.returns-clause-ok
returns-clause-ok c =
    files_of-updates (string_bytes c.self.inside.name) c.args.files.now c.insert.new.self c.self.inside.bytes c.in_ok-insert.ensures.updates
    ∙ ap (λ (making : List ℕ × List ℕ). insert (files_of c.args.files.now) making.0 making.1) c.self.view_is
