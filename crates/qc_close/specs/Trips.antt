-- inner: the trips of cranes, as code keeps them.
use Rattle.std.specs.Prelude.{◌≡◌, ℕ, ◌+◌, ◌*◌, ◌<◌, ◌≤◌, Bool, ◌==◌, List, filter, length, slice_index, slice_index_or, Option, ℤ, pos, negsuc}
use Rattle.qc_close.specs.Model.{InstanceView, IsFrom, crane, trip_along, trip_from, task_numbers, Trip, Way}
use Rattle.qc_close.specs.declared.trip.Trips.{Trips}

-- where cranes stand on the rail, and by all gaps beyond it
abbrev pub IsWide : ℤ → Type 0
IsWide x = IsFrom (negsuc 33999) (pos 34000) x

-- a trip for so many tasks goes no further than this
pub record IsWideTrip (n : ℕ) (t : Trip) : Type 0 where
  pub at : IsWide t.at
  pub low : IsWide t.low
  pub high : IsWide t.high
  pub bays : t.bays ≤ n * 68000

-- what stands for a trip past the end of a list
abbrev pub no_trip : Trip
no_trip = record { at = pos 0; bays = 0; low = pos 0; high = pos 0 }

-- task j lies at spot k
abbrev pub at_spot : List ℕ → ℕ → ℕ → Bool
at_spot spots k j = slice_index spots j == k

-- the tasks at a spot come one behind the other
abbrev pub AreTogether : List ℕ → Type 0
AreTogether spots =
    (i j k : ℕ) → i ≤ j → j ≤ k → k < length spots → slice_index spots i ≡ slice_index spots k
    → slice_index spots j ≡ slice_index spots i

-- that of crane w for the tasks at spot k
abbrev pub trip_of : InstanceView → List (Option ℕ) → List ℕ → ℕ → ℕ → Trip
trip_of inst cranes spots w k =
    trip_along inst cranes w (trip_from (crane inst w).bay) (filter (at_spot spots k) (task_numbers inst))

-- each cell is the trip of a crane for the tasks at a spot: 240 for a crane
pub record AreTrips (inst : InstanceView) (cranes : List (Option ℕ)) (spots : List ℕ) (trips : Trips) : Type 0 where
  pub many : length trips.cells.items ≡ 1920
  pub each : (w k : ℕ) → w < length inst.cranes → k < 240
      → slice_index_or trips.cells.items (240 * w + k) no_trip ≡ trip_of inst cranes spots w k

-- a way that goes no further than this
pub record IsShortWay (way : Way) : Type 0 where
  pub bays : way.bays ≤ 16592000
  pub low : IsWide way.low
  pub high : IsWide way.high
