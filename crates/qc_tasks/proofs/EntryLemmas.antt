-- The tasks of the planner's entries, found entry by entry.
use Rattle.std.proofs.Common.{◌≡◌, ℕ, ◌+◌, ◌<◌, ◌&&◌, ◌||◌, Bool, true, false, cond, List, length, get_or, take, position, Option, None, Some, refl, sym, ap, ◌∙◌}
use Rattle.std.specs.List.{list_any}
use Rattle.std.proofs.Math.Bool.{and-false}
use Rattle.std.proofs.lemmas.List.Folds.{list_any_more}
use Rattle.qc_model.specs.declared.task.Task.{Task}
use Rattle.qc_model.specs.Instance.{no_task}
use Rattle.qc_ship.specs.declared.ship.NamePair.{NamePair}
use Rattle.qc_ship.specs.declared.ship.TaskName.{TaskName}
use Rattle.qc_tasks.specs.InstanceOf.{has_name, puts_before, task_at}
use Rattle.qc_tasks.specs.Marks.{ShareNoName}
use Rattle.qc_tasks.specs.Restows.{is_number, same_numbers}
use Rattle.qc_tasks.proofs.Restows.{only_at}

module _ (tasks : List Task) (share : ShareNoName tasks) where
  name_is : (name : TaskName) (o : Option ℕ) → position (λ t. has_name name t) tasks ≡ o → (i : ℕ) → i < length tasks → is_number i o ≡ has_name name (task_at tasks i)
  name_is name o found i lt = ap (is_number i) (sym found) ∙ only_at (λ t. has_name name t) tasks i no_task lt (λ m n d mn nl. share m n d mn nl name)

  module _ (entry : NamePair) (i j : ℕ) (il : i < length tasks) (jl : j < length tasks) where
    pub both_named : (first second : ℕ) → position (λ t. has_name entry.first t) tasks ≡ Some first → position (λ t. has_name entry.second t) tasks ≡ Some second
        → same_numbers (first, second) (i, j) ≡ puts_before (task_at tasks i) (task_at tasks j) entry
    both_named first second at_first at_second =
        rw (name_is entry.first (Some first) at_first i il, name_is entry.second (Some second) at_second j jl) refl

    pub no_first : position (λ t. has_name entry.first t) tasks ≡ None → false ≡ puts_before (task_at tasks i) (task_at tasks j) entry
    no_first none = ap (λ b. b && has_name entry.second (task_at tasks j)) (name_is entry.first None none i il)

    pub no_second : position (λ t. has_name entry.second t) tasks ≡ None → false ≡ puts_before (task_at tasks i) (task_at tasks j) entry
    no_second none =
        sym (and-false (has_name entry.first (task_at tasks i))) ∙ ap (λ b. has_name entry.first (task_at tasks i) && b) (name_is entry.second None none j jl)

-- one entry more
pub entries_turn : (test : NamePair → Bool) (entries : List NamePair) (k : ℕ) (entry : NamePair) (old had has said : Bool) → k < length entries → entry ≡ get_or entries k entry
    → had ≡ (old || list_any test (take k entries)) → said ≡ test entry → has ≡ cond said true had → has ≡ (old || list_any test (take (k + 1) entries))
entries_turn test entries k entry old had has said lt is before told after =
    after ∙ rw (before, told) (one_more old (list_any test (take k entries)) (test entry))
    ∙ ap (λ b. old || b) (ap (λ e. list_any test (take k entries) || test e) is ∙ sym (list_any_more test entries k entry lt))
  where
    one_more : (a b c : Bool) → cond c true (a || b) ≡ (a || (b || c))
    one_more true true true = refl
    one_more true true false = refl
    one_more true false true = refl
    one_more true false false = refl
    one_more false true true = refl
    one_more false true false = refl
    one_more false false true = refl
    one_more false false false = refl
