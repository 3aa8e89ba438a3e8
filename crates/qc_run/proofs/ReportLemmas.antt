-- What goes out of a text and the crane lines behind it, from what the calls say that write both.
use Rattle.std.proofs.Common.{List, [], Result, Ok, Err, ℕ, refl, arith, IsErr}
use Rattle.std.specs.Prelude.{⊤}
use Rattle.qc_gantt.specs.TracksText.{WritesTracks, tracks_text}
use Rattle.qc_io.specs.declared.writing.WriteFault.{WriteFault}
use Rattle.qc_io.specs.Outside.{View}
use Rattle.qc_io.specs.Writes.{Writes}
use Rattle.qc_io.proofs.WritesLemmas.{writes_cut, writes_then}
use Rattle.qc_model.specs.declared.direction.Direction.{Direction}
use Rattle.qc_model.specs.declared.schedule.Slot.{Slot}
use Rattle.qc_model.specs.Instance.{InstanceView}
use Rattle.qc_run.specs.Moved.{WritesMoved}

module _ (before after : View) (head : List ℕ) (inst : InstanceView) (sched : List Slot) (way : Direction) where
  -- what comes ahead of the crane lines was cut
  pub head_cut : (fault : WriteFault) (result : Result ⊤ WriteFault) → IsErr result
      → Writes before after head (Err fault) → WritesMoved before after head inst sched way result
  head_cut fault (Ok u) err w = absurd (cc err)
  head_cut fault (Err other) err w = record {
    tracks = [];
    are = record { few = omega arith; each = λ k below. absurd (omega (arith, below)) };
    all = tt;
    writes = writes_cut before after head (tracks_text inst.cranes []) fault (Err other) refl w;
  }

  -- the crane lines behind it
  pub lines_behind : (now : View) (result : Result ⊤ WriteFault)
      → Writes before now head (Ok tt) → WritesTracks now after inst sched way result
      → WritesMoved before after head inst sched way result
  lines_behind now result first lines = record {
    tracks = lines.tracks;
    are = lines.are;
    all = lines.all;
    writes = writes_then before now after head (tracks_text inst.cranes lines.tracks) result first lines.writes;
  }
