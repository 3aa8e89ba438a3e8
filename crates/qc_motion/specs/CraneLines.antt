-- public: the crane lines of a schedule: where each crane stands, by its points, of whatever kind these are.
use Rattle.std.specs.Prelude.{◌≡◌, ℕ, ◌<◌, ◌≤◌, List, [], ◌++◌, codes, decimal, length, slice_index_or, Result, OnOk, ⊤}
use Rattle.std.specs.Fmt.{signed_decimal}
use Rattle.std.specs.List.{flat_map, zip}
use Rattle.qc_io.specs.declared.writing.WriteFault.{WriteFault}
use Rattle.qc_io.specs.Outside.{View}
use Rattle.qc_io.specs.Writes.{Writes}
use Rattle.qc_model.specs.declared.crane.Crane.{Crane}
use Rattle.qc_motion.specs.declared.track.Waypoint.{Waypoint}

-- a waypoint: its tick and its place
abbrev pub waypoint_text : Waypoint → List ℕ
waypoint_text w = codes " " ++ decimal w.at ++ codes ":" ++ signed_decimal w.place

-- the line of a crane
abbrev pub crane_line : {P : Type 0} → (P → List ℕ) → List ℕ → List P → List ℕ
crane_line text name points = codes "crane " ++ name ++ (flat_map text points ++ codes "\n")

-- the lines of cranes with these points
abbrev pub crane_lines : {P : Type 0} → (P → List ℕ) → List Crane → List (List P) → List ℕ
crane_lines text cranes tracks = flat_map (λ line. crane_line text line.0.name line.1) (zip cranes tracks)

-- the tracks are those of the first cranes, in order
pub record AreOfFirst {P : Type 0} (Is : ℕ → List P → Type 0) (cranes : List Crane)
    (tracks : List (List P)) : Type 0 where
  pub few : length tracks ≤ length cranes
  pub each : (k : ℕ) → k < length tracks → Is k (slice_index_or tracks k [])

-- what a call says that writes the crane lines: those of all cranes where it comes through, and else of the first
-- ones, the last of them cut
pub record WritesCranes {P : Type 0} (text : P → List ℕ) (Is : ℕ → List P → Type 0) (cranes : List Crane)
    (before after : View) (result : Result ⊤ WriteFault) : Type 0 where
  pub tracks : List (List P)
  pub are : AreOfFirst Is cranes tracks
  pub all : OnOk result (length tracks ≡ length cranes)
  pub writes : Writes before after (crane_lines text cranes tracks) result
