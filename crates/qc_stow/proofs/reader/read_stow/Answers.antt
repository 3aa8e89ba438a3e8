use Rattle.std.proofs.Common.{map}
use Rattle.csv.specs.Records.{fields_of}
use Rattle.qc_stow.proofs.StowFacts.{rows-keep}
use Rattle.qc_stow.proofs.reader.read_stow.Goals as goal

pub of-requires : goal.of-requires
of-requires c =
    (rows-keep c.args.ship.now c.in-Ok.at (map fields_of c.in-Some.records.now) c.in_ok-read_rows.field-0.items c.in_ok-read_rows.ensures).0

pub returns-clause-hatches : goal.returns-clause-hatches
returns-clause-hatches c =
    rw c.of.ensures (rows-keep c.args.ship.now c.in-Ok.at (map fields_of c.in-Some.records.now) c.in_ok-read_rows.field-0.items c.in_ok-read_rows.ensures).1
