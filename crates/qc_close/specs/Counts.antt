-- inner: how far a count of the cranes that must come to bays has come.
use Rattle.std.specs.Prelude.{◌≡◌, ℕ, ◌+◌, ◌-◌, ◌≤◌, ◌<◌, pos, true, false, nat_lt, List, [], ◌∷◌, filter, map, reverse, length, slice_index, slice_index_or, sum_by, Option, None, Some}
use Rattle.std.specs.List.{range_with_len}
use Rattle.qc_close.specs.Model.{Direction, Up, Down, Frame, Try, bays_to, fewest, legs, suffices}
use Rattle.qc_close.specs.Trips.{IsWide}
use Rattle.qc_close.specs.declared.walk.Stop.{Stop}
use Rattle.qc_close.specs.declared.walk.Walk.{Walk}

-- what stands for a crane past the end of a list
abbrev pub no_frame : Frame
no_frame = record { works = false; gone = 0; low = pos 0; high = pos 0 }

-- the bays of a crane lie on the rail, or by some gaps beyond it
pub record IsNear (f : Frame) : Type 0 where
  pub low : IsWide f.low
  pub high : IsWide f.high

abbrev pub AreNear : List Frame → Type 0
AreNear frames = (i : ℕ) (d : Frame) → i < length frames → IsNear (slice_index_or frames i d)

-- a number is the same of each crane
abbrev pub AreSame : (Frame → ℕ) → ℕ → List Frame → Type 0
AreSame f n frames = (i : ℕ) (d : Frame) → i < length frames → f (slice_index_or frames i d) ≡ n

-- the bays from bay x on to bay y
abbrev pub apart : Direction → ℕ → ℕ → ℕ
apart Up x y = y - x
apart Down x y = x - y

-- the bays at which work is left, where the list says how much is left at each
abbrev pub bays_of : List ℕ → List ℕ
bays_of left = filter (λ x. nat_lt 0 (slice_index left x)) (range_with_len 1 (length left - 1))

abbrev pub try_by : ℕ → ℕ → List Frame → List ℕ → Try
try_by travel tick frames left = record {
  travel = travel;
  frames = frames;
  bays = bays_of left;
  work = slice_index left;
  tick = tick;
}

-- the bay to which cranes that go this way come first, behind so many: those are counted from the far end
abbrev pub bay_behind : Direction → ℕ → ℕ → ℕ
bay_behind Up bays count = bays - count
bay_behind Down bays count = count + 1

-- the last so many bays, in the order in which cranes come to them
abbrev pub last_bays : Direction → List ℕ → ℕ → List ℕ
last_bays Up left count =
    filter (λ x. nat_lt 0 (slice_index left x)) (range_with_len (length left - count) count)
last_bays Down left count =
    reverse (filter (λ x. nat_lt 0 (slice_index left x)) (range_with_len 1 count))

-- the bays that cranes go from bay x on to the one that was counted last
abbrev pub leg_from : List Frame → Direction → ℕ → Option Stop → ℕ
leg_from frames way x None = 0
leg_from frames way x (Some stop) =
    fewest stop.cranes (map (λ f. bays_to way f stop.bay - bays_to way f x) frames)

-- a number for each of these bays, none above most
abbrev pub AreNumbers : ℕ → List ℕ → List ℕ → Type 0
AreNumbers most [] [] = Unit {0}
AreNumbers most (x ∷ xs) (n ∷ ns) = (n ≤ most) × AreNumbers most xs ns
AreNumbers most xs ns = ⊥

-- numbers of cranes that suffice at these bays
pub record Suffice (t : Try) (way : Direction) (xs ns : List ℕ) : Type 0 where
  pub numbers : AreNumbers (length t.frames) xs ns
  pub suffice : suffices t way xs ns ≡ true

-- the first of these bays, with its number
abbrev pub IsStop : Option Stop → List ℕ → List ℕ → Type 0
IsStop None [] [] = Unit {0}
IsStop (Some stop) (x ∷ xs) (n ∷ ns) = (stop.bay ≡ x) × (stop.cranes ≡ n)
IsStop stop xs ns = ⊥

-- the least numbers that suffice at these bays have been found
pub record IsWalked (t : Try) (way : Direction) (xs : List ℕ) (w : Walk) : Type 0 where
  pub numbers : List ℕ
  pub sufficient : Suffice t way xs numbers
  pub stop : IsStop w.last xs numbers
  pub work : w.work ≡ sum_by t.work xs
  pub leg_sum : w.legs ≡ legs t way xs numbers
  pub least : (ns : List ℕ) → Suffice t way xs ns
      → (legs t way xs numbers ≤ legs t way xs ns) × (slice_index numbers 0 ≤ slice_index ns 0)

-- no numbers suffice
abbrev pub NoneSuffice : Try → Direction → List ℕ → Type 0
NoneSuffice t way xs = (ns : List ℕ) → ¬ Suffice t way xs ns
