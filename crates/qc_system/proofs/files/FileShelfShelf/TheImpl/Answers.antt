use Rattle.std.proofs.Common.{refl, ◌∙◌}
use Rattle.qc_io.proofs.Pieces.{on_err}
use Rattle.qc_system.proofs.Untold.{at_ok, when_ok}
use Rattle.qc_system.proofs.files.FileShelfShelf.TheImpl.Goals as goal

pub read-tells : goal.read-tells
read-tells g c = record {
  at_most = c.ensures.at_most;
  moved = at_ok _ c.result (λ count. refl);
  ended = at_ok _ c.result (λ count. tt);
  err_rest = on_err c.result refl;
  err_rose = c.ensures.counts.rose;
  reading_stays = c.ensures.reading_stays ∙ c.requires.open;
  reads = record {
    written = refl;
    faults = c.ensures.faults_stay;
    files = refl;
    made = c.ensures.made_stays;
    never_falls = c.ensures.counts.never_falls;
    unfailed = λ ok. when_ok c.result c.ensures.counts.unfailed ok;
  };
}
