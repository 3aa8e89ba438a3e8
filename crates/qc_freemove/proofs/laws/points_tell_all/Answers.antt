use Rattle.qc_freemove.proofs.BetweenPoints.{points_move_between}
use Rattle.qc_freemove.proofs.laws.points_tell_all.Goals as goal

pub returns : goal.returns
returns c = points_move_between
