-- What goes out of the report of a plan that is shown, from what the calls say that write it.
use Rattle.std.proofs.Common.{Result, Ok, Err, refl, inl, inr, IsErr}
use Rattle.std.specs.Prelude.{⊤}
use Rattle.qc_gantt.specs.GanttText.{gantt_text}
use Rattle.qc_io.specs.declared.writing.WriteFault.{WriteFault}
use Rattle.qc_io.specs.Outside.{View}
use Rattle.qc_io.specs.Writes.{Writes}
use Rattle.qc_io.proofs.WritesLemmas.{writes_cut, writes_then}
use Rattle.qc_run.specs.Moved.{WritesMoved}
use Rattle.qc_judge_commands.specs.declared.answer.Shown.{Shown}
use Rattle.qc_judge_commands.specs.Reports.{WritesShown, lines_text}
use Rattle.qc_judge_commands.specs.Texts.{shown_head}

module _ (before after : View) (told : Shown) where
  -- the motion was cut, before the Gantt text
  pub motion_cut : (fault : WriteFault) (result : Result ⊤ WriteFault) → IsErr result
      → WritesMoved before after (shown_head told.inst told.sched told.direction) told.inst told.sched told.direction (Err fault)
      → WritesShown before after told result
  motion_cut fault (Ok u) err w = absurd (cc err)
  motion_cut fault (Err other) err w = record {
    tracks = w.tracks;
    are = w.are;
    all = tt;
    writes = writes_cut before after (lines_text told w.tracks) (gantt_text told.inst told.sched) fault (Err other) refl w.writes;
    part = inl w.writes.part;
  }

  -- the Gantt text behind it
  pub gantt_behind : (now : View) (result : Result ⊤ WriteFault)
      → WritesMoved before now (shown_head told.inst told.sched told.direction) told.inst told.sched told.direction (Ok tt)
      → Writes now after (gantt_text told.inst told.sched) result
      → WritesShown before after told result
  gantt_behind now (Ok u) first gantt = record {
    tracks = first.tracks;
    are = first.are;
    all = first.all;
    writes = writes_then before now after (lines_text told first.tracks) (gantt_text told.inst told.sched) (Ok u) first.writes gantt;
    part = tt;
  }
  gantt_behind now (Err fault) first gantt =
      let all = writes_then before now after (lines_text told first.tracks) (gantt_text told.inst told.sched) (Err fault) first.writes gantt in
      record {
        tracks = first.tracks;
        are = first.are;
        all = tt;
        writes = all;
        part = inr (first.all, all.part);
      }
