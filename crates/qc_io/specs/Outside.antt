-- public: what contracts see of shelves and sinks: files by their names, bytes that grow, counts of faults.
use Rattle.std.specs.Prelude.{◌≡◌, ℕ, ◌+◌, ◌≤◌, ◌<◌, ◌⊎◌, min, Bool, false, List, [], take, length, Option, None, Some}
use Rattle.std.specs.Ordering.{nat_cmp}
use Rattle.std.specs.Cmp.Lexicographic.{slice_cmp}
use Rattle.std.specs.FinMap.{FinMap, get, insert}
use Rattle.std.specs.Io.KnownBytes.{append_known, prepend_known}

-- files: from the bytes of a name to the bytes of the file
abbrev pub Files : Type 0
Files = FinMap (slice_cmp nat_cmp) (List ℕ)

-- the greatest count of faults, where a count stays
abbrev pub most_count : ℕ
most_count = 18446744073709551615

-- the count with one more, or the greatest count
abbrev pub next_count : ℕ → ℕ
next_count count = min (count + 1) most_count

-- the count is greater than before, or stands at the greatest count
abbrev pub Rose : ℕ → ℕ → Type 0
Rose before after = next_count before ≤ after

-- the bytes of a held file; none where files are untold or the name isn't held
abbrev pub file_at : Option Files → List ℕ → Option (List ℕ)
file_at None name = None
file_at (Some files) name = get files name

-- the files are told and don't hold the name
abbrev pub IsMissing : Option Files → List ℕ → Type 0
IsMissing None name = ⊥
IsMissing (Some files) name = get files name ≡ None

-- where the files are told, they hold the name with these bytes
abbrev pub IsFile : Option Files → List ℕ → List ℕ → Type 0
IsFile None name bytes = Unit {0}
IsFile (Some files) name bytes = get files name ≡ Some bytes

-- the files with this file held, in place of one of the same name
abbrev pub with_file : Option Files → List ℕ → List ℕ → Option Files
with_file None name bytes = None
with_file (Some files) name bytes = Some (insert files name bytes)

-- the bytes grew by a part of the piece, from its front, that isn't the whole piece
pub record GrewByPart (before after : Option (List ℕ)) (piece : List ℕ) : Type 0 where
  pub count : ℕ
  pub short : count < length piece
  pub grew : after ≡ append_known before (take count piece)

-- what is left after at most so many bytes were taken off the front
pub record TakesAtMost (most : ℕ) (before after : Option (List ℕ)) : Type 0 where
  pub taken : List ℕ
  pub short : length taken ≤ most
  pub split : before ≡ prepend_known taken after

-- what contracts see of a sink or of a shelf; what may be untold is None where it is
pub record View : Type 0 where
  -- the bytes that were written so far: to the sink, or to the file that is being made
  pub written : Option (List ℕ)
  -- how many calls that write have failed, up to the greatest count
  pub faults : ℕ
  -- the files by their names
  pub files : Option Files
  -- the name of the file that is being made; none where none is
  pub made : Option (List ℕ)
  -- what is left of the file that is being read
  pub rest : Option (List ℕ)
  -- whether a file is open for reading
  pub reading : Bool
  -- how many calls that read have failed, up to the greatest count
  pub read_faults : ℕ

-- what lets a read of the name fail: the count of read faults rose, or the name is missing
abbrev pub ReadCause : View → View → List ℕ → Type 0
ReadCause before after name = Rose before.read_faults after.read_faults ⊎ IsMissing before.files name

-- what no write changes
pub record Beside : Type 0 where
  pub files : Option Files
  pub made : Option (List ℕ)
  pub rest : Option (List ℕ)
  pub reading : Bool
  pub read_faults : ℕ

abbrev pub beside : View → Beside
beside v = record {
  files = v.files;
  made = v.made;
  rest = v.rest;
  reading = v.reading;
  read_faults = v.read_faults;
}

-- a sink that is no shelf, with these bytes and this count of faults
abbrev pub sink_view : Option (List ℕ) → ℕ → View
sink_view written faults = record {
  written = written;
  faults = faults;
  files = None;
  made = None;
  rest = None;
  reading = false;
  read_faults = 0;
}

-- a file that was begun holds no bytes yet; none where files are untold
abbrev pub begun : Option Files → Option (List ℕ)
begun None = None
begun (Some files) = Some []

-- the files once the one that is being made is finished: its name holds what was written
abbrev pub finished : Option Files → Option (List ℕ) → Option (List ℕ) → Option Files
finished (Some files) (Some name) (Some bytes) = Some (insert files name bytes)
finished files made written = files
