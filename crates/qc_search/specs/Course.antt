-- inner: how far the rounds of a search have come.
use Rattle.std.specs.Prelude.{◌≡◌, ℕ, ◌+◌, ◌⊎◌, List, Option}
use Rattle.std.specs.Io.KnownBytes.{append_known}
use Rattle.qc_io.specs.Outside.{Files, with_file}
use Rattle.qc_num.specs.declared.bound.Bound.{Bound}
use Rattle.qc_num.specs.Bounds.{IsAtMost}
use Rattle.qc_close.specs.Model.{Slot, InstanceView}
use Rattle.qc_tree.specs.Trees.{Tree, tree_branchings, tree_text, tree_value}
use Rattle.qc_search.specs.declared.progress.Progress.{Progress}
use Rattle.qc_search.specs.declared.round.Told.{Told}
use Rattle.qc_search.specs.declared.rounds.Course.{Course}
use Rattle.qc_search.specs.Progress.{IsBegun, known_best}
use Rattle.qc_search.specs.Rounds.{HasRun, IsRound, Round}
use Rattle.qc_search.specs.Run.{SearchView}

-- the search of an instance that has this progress and isn't run yet
abbrev pub search_in : InstanceView → Progress → SearchView
search_in home now = record { inst = home; nodes = now.limit; first = known_best home now; aim = now.aim }

-- the round that a search with this progress ran, which came to this tree, and knows what the new progress knows
abbrev pub round_of : InstanceView → Tree → (old new : Progress) → Round
round_of home tree old new = record { most = old.limit; aim = old.aim; tree = tree; best = known_best home new }

-- a round was run, its tree was written, this is told of it, and another one may begin with what is known
pub record RunsRound (home : InstanceView) (old new : Progress) (before after : Option (List ℕ)) (told : Told) : Type 0 where
  pub tree : Tree
  pub is : IsRound home (known_best home old) (round_of home tree old new)
  pub bound : told.bound ≡ tree_value home tree
  pub branched : told.branched ≡ tree_branchings tree
  pub begun : IsBegun home new
  pub limit : new.limit ≡ old.limit
  pub written : after ≡ append_known before (tree_text home tree)

-- the search that began with that progress has run in rounds: the tree that shows most is in the file of this name, this it
-- shows, and so many branchings are left
pub record IsCourse (home : InstanceView) (start : Progress) (name : List ℕ) (before : Option Files) (now : Progress)
    (after : Option Files) (course : Course) : Type 0 where
  pub begun : IsBegun home now
  pub tree : Tree
  pub branched : ℕ
  pub ran : HasRun (search_in home start) tree (known_best home now) branched
  pub all : branched + course.left ≡ start.limit
  pub shows : course.shown ≡ tree_value home tree
  pub files : after ≡ with_file before name (tree_text home tree)

-- the tree of a search that has run so far is in the file of this name
pub record IsHalted (home : InstanceView) (start : Progress) (name : List ℕ) (before after : Option Files) : Type 0 where
  pub tree : Tree
  pub best : Option (List Slot)
  pub branched : ℕ
  pub ran : HasRun (search_in home start) tree best branched
  pub files : after ≡ with_file before name (tree_text home tree)

-- where a tree showed this and another one shows that: the one that shows more stands now
abbrev pub Outdoes : (shown bound now : Bound) → (stays put : Type 0) → Type 0
Outdoes shown bound now stays put =
    ((now ≡ shown) × IsAtMost bound shown × stays) ⊎ ((now ≡ bound) × IsAtMost shown bound × put)
