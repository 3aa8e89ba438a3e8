use Rattle.clap.specs.Words.{app_of, found_of, rows_of}
use Rattle.clap.proofs.WalkLemmas.{both}
use Rattle.qc_words.specs.Words.{texts}
use Rattle.qc_words.proofs.ReadLemmas.{read_some}
use Rattle.qc_words.proofs.words.read.Goals as goal

pub returns-in-Ok : goal.returns-in-Ok
returns-in-Ok c =
    read_some (app_of c.args.command) (texts c.args.words.now) (rows_of (found_of c.in-Ok.matches))
    (c.in-Ok.ensures.kinds c.requires) (c.in-Ok.ensures.matches (both _ _ c.requires).0).0
