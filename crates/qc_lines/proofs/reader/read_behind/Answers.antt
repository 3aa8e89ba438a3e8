use Rattle.std.proofs.Common.{◌-◌, arith, length}
use Rattle.qc_lines.proofs.Feeds.{read_more}
use Rattle.qc_lines.proofs.reader.read_behind.Goals as goal

pub returns-clause-left : goal.returns-clause-left
returns-clause-left g c =
    read_more c.args.had c.in_ok-count.count (length c.args.bytes.now - c.args.had) c.args.bytes.now c.read.new.buf _ _
    (omega (arith, c.requires.room)) c.in_ok-count.ensures.at_most c.in_ok-count.ensures.moved
