-- public: a search that goes on in rounds: each is a search by itself, which begins with the best schedule that is known.
use Rattle.std.specs.Prelude.{◌≡◌, ℕ, ◌*◌, ◌≤◌, List, [], ◌∷◌, All, Contains, Option, sum_by}
use Rattle.qc_num.specs.declared.bound.Bound.{Bound}
use Rattle.qc_num.specs.Bounds.{IsAtMost}
use Rattle.qc_close.specs.Model.{Slot, InstanceView}
use Rattle.qc_tree.specs.Trees.{Tree, tree_branchings, tree_value}
use Rattle.qc_search.specs.Run.{IsRun, SearchView, best_end, branching_limit, outcome}

-- a round: with at most so many branchings and at this aim it came to this tree, and then this is the best schedule that is
-- known, if any is
pub record Round : Type 0 where
  pub most : ℕ
  pub aim : Bound
  pub tree : Tree
  pub best : Option (List Slot)

-- the round is a search of the instance that began with this schedule, or with none
pub record IsRound (inst : InstanceView) (first : Option (List Slot)) (round : Round) : Type 0 where
  pub run : IsRun inst round.most first round.aim round.tree round.best
      (outcome (tree_value inst round.tree) (best_end inst round.best))
  pub no_later : IsAtMost (best_end inst round.best) (best_end inst first)

-- a round that is the first of a search: it has the search's own aim and seven in eight of its branchings at the least, and
-- all of them where they are enough to decide it
pub record IsFirstRound (search : SearchView) (round : Round) : Type 0 where
  pub is : IsRound search.inst search.first round
  pub aim : round.aim ≡ search.aim
  pub most : 7 * search.nodes ≤ 8 * round.most
  pub whole : branching_limit search.inst ≤ search.nodes → round.most ≡ search.nodes

-- these are the rounds of a search, this one the newest and the others before it, newest first: each but the first begins
-- with the best schedule that was known behind the one before it
abbrev pub AreRounds : SearchView → Round → List Round → Type 0
AreRounds search round [] = IsFirstRound search round
AreRounds search round (before ∷ earlier) = IsRound search.inst before.best round × AreRounds search before earlier

-- how many branchings rounds have in all
abbrev pub branchings_of : List Round → ℕ
branchings_of = sum_by (λ round. tree_branchings round.tree)

-- a search has run in rounds: this schedule is the best that is known, all rounds together have so many branchings, no more
-- than it may, and this tree is one of theirs that shows as much as any
pub record HasRun (search : SearchView) (tree : Tree) (best : Option (List Slot)) (branched : ℕ) : Type 0 where
  pub newest : Round
  pub earlier : List Round
  pub are : AreRounds search newest earlier
  pub is_best : best ≡ newest.best
  pub branched_is : branched ≡ branchings_of (newest ∷ earlier)
  pub few : branched ≤ search.nodes
  pub stands : Round
  pub is_one : Contains (newest ∷ earlier) stands
  pub is_tree : tree ≡ stands.tree
  pub shows_most : All (λ round. IsAtMost (tree_value search.inst round.tree) (tree_value search.inst tree)) (newest ∷ earlier)
