-- inner: the files that are in use.
use Rattle.std.specs.Prelude.{◌≡◌, ◌≢◌, ◌++◌, ◌∷◌, [], List, Contains, Option, Some}
use Rattle.qc_system.specs.declared.same.Identity.{Identity}

-- this file is in use now too
abbrev pub NotesOne : List Identity → List Identity → Identity → Type 0
NotesOne before after file = after ≡ before ++ file ∷ []

-- the file is in use, and isn't the one that may be made again
abbrev pub IsInUse : List Identity → Option Identity → Identity → Type 0
IsInUse used again file = Contains used file × (again ≢ Some file)
