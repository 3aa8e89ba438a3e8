-- What goes out of a plan's report, from what the calls say that write it.
use Rattle.std.proofs.Common.{◌≡◌, arith, List, [], ℕ, Result, Ok, Err, refl, length, OnOk, ◌++◌, IsErr, slice_index_or}
use Rattle.std.specs.Prelude.{⊤}
use Rattle.qc_freemove.specs.FreeTracksText.{free_lines}
use Rattle.qc_freemove.proofs.BetweenPoints.{points_move_between}
use Rattle.qc_gantt.specs.TracksText.{tracks_text}
use Rattle.qc_io.specs.declared.writing.WriteFault.{WriteFault}
use Rattle.qc_io.specs.Outside.{View}
use Rattle.qc_io.specs.Writes.{Writes}
use Rattle.qc_io.proofs.WritesLemmas.{writes_cut, writes_then}
use Rattle.qc_model.specs.declared.schedule.Slot.{Slot}
use Rattle.qc_model.specs.Instance.{InstanceView, Valid}
use Rattle.qc_plan_command.specs.declared.answer.Motion.{Motion}
use Rattle.qc_plan_command.specs.declared.answer.Motion.TheVariants as motion
use Rattle.qc_plan_command.specs.declared.answer.Planned.{Planned}
use Rattle.qc_plan_command.specs.Lines.{WritesLines, WritesPlan}
use Rattle.qc_plan_command.specs.Reports.{AreLines, planned_text}

-- what was written of the lines of the first cranes behind the summary
record WritesBehind (told : Planned) (before after : View) (result : Result ⊤ WriteFault) : Type 0 where
  count : ℕ
  lines : List ℕ
  are : AreLines told.inst told.sched told.motion count lines
  all : OnOk result (count ≡ length told.inst.cranes)
  writes : Writes before after (planned_text told ++ lines) result

-- where it came through it is the whole report, and else a part of it
behind_plan : (told : Planned) (before after : View) (result : Result ⊤ WriteFault) → WritesBehind told before after result
    → WritesPlan told before after result
behind_plan told before after (Ok u) w = record {
  whole = record { lines = w.lines; are = rw w.all at w.are; bytes = w.writes.whole };
  unfailed = w.writes.unfailed;
  part = tt;
  rose = tt;
  beside_stays = w.writes.beside_stays;
  never_falls = w.writes.never_falls;
}
behind_plan told before after (Err fault) w = record {
  whole = tt;
  unfailed = tt;
  part = record { count = w.count; lines = w.lines; are = w.are; part = w.writes.part };
  rose = w.writes.rose;
  beside_stays = w.writes.beside_stays;
  never_falls = w.writes.never_falls;
}

-- the lines of no crane
no_lines : (inst : InstanceView) (sched : List Slot) (m : Motion) → (lines : List ℕ) × AreLines inst sched m 0 lines
no_lines inst sched (motion.OneWay direction track) = (
  tracks_text inst.cranes [],
  record {
    tracks = [];
    are = record { few = omega arith; each = λ k below. absurd (omega (arith, below)) };
    count = refl;
    text = refl;
  },
)
no_lines inst sched (motion.Free track) = (
  free_lines inst.cranes [],
  record {
    tracks = [];
    are = record { few = omega arith; each = λ k below. absurd (omega (arith, below)) };
    between = λ k below. absurd (omega (arith, below));
    count = refl;
    text = refl;
  },
)

-- the summary was cut
pub head_cut : (told : Planned) (before after : View) (fault : WriteFault) (result : Result ⊤ WriteFault) → IsErr result
    → Writes before after (planned_text told) (Err fault) → WritesPlan told before after result
head_cut told before after fault (Ok u) err w = absurd (cc err)
head_cut told before after fault (Err other) err w =
    let none = no_lines told.inst told.sched told.motion in
    behind_plan told before after (Err other) (record {
      count = 0;
      lines = none.0;
      are = none.1;
      all = tt;
      writes = writes_cut before after (planned_text told) none.0 fault (Err other) refl w;
    })

-- the lines of the first cranes went out
record WritesSome (inst : InstanceView) (sched : List Slot) (m : Motion) (before after : View)
    (result : Result ⊤ WriteFault) : Type 0 where
  count : ℕ
  lines : List ℕ
  are : AreLines inst sched m count lines
  all : OnOk result (count ≡ length inst.cranes)
  writes : Writes before after lines result

some_lines : (inst : InstanceView) (sched : List Slot) (m : Motion) (before after : View) (result : Result ⊤ WriteFault)
    → Valid inst → WritesLines inst sched m before after result → WritesSome inst sched m before after result
some_lines inst sched (motion.OneWay direction track) before after result valid w = record {
  count = length w.tracks;
  lines = tracks_text inst.cranes w.tracks;
  are = record { tracks = w.tracks; are = w.are; count = refl; text = refl };
  all = w.all;
  writes = w.writes;
}
some_lines inst sched (motion.Free track) before after result valid w = record {
  count = length w.tracks;
  lines = free_lines inst.cranes w.tracks;
  are = record {
    tracks = w.tracks;
    are = w.are;
    between = λ k below.
        points_move_between inst sched k (slice_index_or w.tracks k []) valid (omega (arith, below, w.are.few))
        (w.are.each k below);
    count = refl;
    text = refl;
  };
  all = w.all;
  writes = w.writes;
}

-- the lines behind the summary
pub lines_behind : (told : Planned) (before now after : View) (result : Result ⊤ WriteFault) → Valid told.inst
    → Writes before now (planned_text told) (Ok tt) → WritesLines told.inst told.sched told.motion now after result
    → WritesPlan told before after result
lines_behind told before now after result valid first w =
    let some = some_lines told.inst told.sched told.motion now after result valid w in
    behind_plan told before after result (record {
      count = some.count;
      lines = some.lines;
      are = some.are;
      all = some.all;
      writes = writes_then before now after (planned_text told) some.lines result first some.writes;
    })
