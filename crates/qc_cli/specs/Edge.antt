-- public: what the program does with its words, over the files of the system.
use Rattle.std.specs.Prelude.{◌≡◌, ◌⊎◌, ℕ, List, [], ◌∷◌, codes, if◌then◌else◌}
use Rattle.std.specs.Str.{bytes_eq}
use Rattle.qc_io.specs.Outside.{View}
use Rattle.qc_run.specs.declared.status.Status.{Status}
use Rattle.qc_run.specs.declared.status.Status.TheVariants as status
use Rattle.qc_top.specs.Account.{IsRun}

-- the words that are handed on: all but a `-q` that stands first
abbrev pub behind_quiet : List (List ℕ) → List (List ℕ)
behind_quiet [] = []
behind_quiet (word ∷ words) = if bytes_eq word (codes "-q") then words else word ∷ words

-- the program ends with the status of some run with these words, or that of a write that failed behind it
pub record IsEndOf (words : List (List ℕ)) (ended : Status) : Type 0 where
  pub before : View
  pub after : View
  pub out_before : View
  pub out_after : View
  pub status_of : Status
  pub run : IsRun words before after out_before out_after status_of
  pub ends : (ended ≡ status_of) ⊎ (ended ≡ status.WriteFault)
