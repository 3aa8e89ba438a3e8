use Rattle.std.proofs.Common.{refl}
use Rattle.qc_close.proofs.TableLemmas.{no_table}
use Rattle.qc_close.proofs.bars.table_of.Goals as goal

pub returns : goal.returns
returns c =
    no_table c.args.inst.now c.args.spots.now c.requires _ 2400 2410 refl refl c.in_ok-nothings.ensures c.in_ok-nothings-2.ensures
    c.in_ok-nothings-3.ensures
