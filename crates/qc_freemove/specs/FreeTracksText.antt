-- public: the crane lines of a schedule in any direction: where each crane stands, by its points.
use Rattle.std.specs.Prelude.{ℕ, ◌/◌, ◌%◌, ◌==◌, ℤ, pos, negsuc, unsigned_abs, if◌then◌else◌, List, [], ◌++◌, codes, decimal, Result, ⊤}
use Rattle.qc_io.specs.declared.writing.WriteFault.{WriteFault}
use Rattle.qc_io.specs.Outside.{View}
use Rattle.qc_model.specs.declared.crane.Crane.{Crane}
use Rattle.qc_model.specs.declared.schedule.Slot.{Slot}
use Rattle.qc_model.specs.Instance.{InstanceView}
use Rattle.qc_motion.specs.CraneLines.{AreOfFirst, WritesCranes, crane_lines}
use Rattle.qc_freemove.specs.declared.track.HalfPoint.{HalfPoint}
use Rattle.qc_freemove.specs.HalfPoints.{AreHalfPoints}

-- what is written behind a whole number where one half is left
abbrev pub half_text : ℕ → List ℕ
half_text n = if n % 2 == 1 then codes ".5" else []

-- the half of a number
abbrev pub halved_text : ℕ → List ℕ
halved_text n = decimal (n / 2) ++ half_text n

abbrev pub sign_text : ℤ → List ℕ
sign_text (pos n) = []
sign_text (negsuc n) = codes "-"

-- a point: its tick and its place, both halved
abbrev pub point_text : HalfPoint → List ℕ
point_text w =
    codes " " ++ halved_text w.at ++ codes ":" ++ sign_text w.place ++ halved_text (unsigned_abs w.place)

-- the lines of cranes with these points
abbrev pub free_lines : List Crane → List (List HalfPoint) → List ℕ
free_lines cranes tracks = crane_lines point_text cranes tracks

-- the tracks are those of the first cranes, in order
abbrev pub AreFreeTracks : InstanceView → List Slot → List (List HalfPoint) → Type 0
AreFreeTracks inst sched tracks = AreOfFirst (AreHalfPoints inst sched) inst.cranes tracks

-- what a call says that writes the crane lines
abbrev pub WritesFreeTracks : View → View → InstanceView → List Slot → Result ⊤ WriteFault → Type 0
WritesFreeTracks before after inst sched result =
    WritesCranes point_text (AreHalfPoints inst sched) inst.cranes before after result
