use Rattle.std.proofs.Common.{refl}
use Rattle.qc_io.proofs.Pieces.{on_err}
use Rattle.qc_system.proofs.Untold.{at_ok}
use Rattle.qc_system.proofs.files.FileShelfSink.TheImpl.Goals as goal

pub write-tells : goal.write-tells
write-tells g c = record {
  at_least = c.ensures.at_least;
  at_most = c.ensures.at_most;
  appended = at_ok _ c.result (λ count. refl);
  err_written = on_err c.result refl;
  counts = c.ensures.counts;
  beside_stays = let made = c.ensures.made_stays in let reading = c.ensures.reading_stays in let faults = c.ensures.read_faults_stay in cc;
}
