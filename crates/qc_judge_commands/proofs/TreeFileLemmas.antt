-- A tree's file that is held and has a fault.
use Rattle.std.proofs.Common.{◌≡◌, ℕ, List, Option, None, Some, Result, Err, refl, sym, ap, subst, ◌∙◌, IfSome, ok_or, option_and_then}
use Rattle.std.specs.FinMap.{get}
use Rattle.qc_num.specs.Reading.{◌>>=◌, with_fault}
use Rattle.qc_io.specs.Outside.{Files, IsMissing, file_at}
use Rattle.qc_model.specs.Instance.{InstanceView}
use Rattle.qc_tree.specs.declared.fault.TreeFault.{TreeFault}
use Rattle.qc_tree.specs.Trees.{Tree, IsTree, tree_text}
use Rattle.qc_replay.specs.Walk.{tree_in}
use Rattle.qc_replay.specs.declared.fault.Replayed.{Replayed}
use Rattle.qc_replay.specs.declared.fault.ReplayError.{ReplayError}
use Rattle.qc_replay.specs.declared.fault.ReplayError.TheVariants as error
use Rattle.qc_run.specs.declared.inputs.Input.TheVariants as input
use Rattle.qc_run.specs.declared.refusal.Refusal.TheVariants as refusal
use Rattle.qc_run.specs.Inputs.{Names, name_of}
use Rattle.qc_run.specs.Due.{contents_in}
use Rattle.qc_run.specs.Steps.{ComesTo}
use Rattle.qc_judge_commands.specs.TreeFile.{IsNoTree, tree_due}

-- a tree with a fault was read, and memory was there
pub not_unread : {r : Result Replayed ReplayError} {fault : TreeFault} → r ≡ Err (error.Tree fault) → ¬ (r ≡ Err error.ReadFault)
not_unread is e = absurd (cc (sym is ∙ e))

pub not_starved : {r : Result Replayed ReplayError} {fault : TreeFault} → r ≡ Err (error.Tree fault) → ¬ (r ≡ Err error.OutOfMemory)
not_starved is e = absurd (cc (sym is ∙ e))

-- the fault of a file that is held is due of its tree
tree_fault_in :
    (inst : InstanceView) (tree file : Option (List ℕ)) (fault : TreeFault) → tree ≡ file → ¬ (file ≡ None) → IfSome file (λ bytes. tree_in inst bytes ≡ Err fault)
    → (ok_or tree (refusal.ReadFault input.Tree) >>= λ bytes. with_fault refusal.BadTree (tree_in inst bytes)) ≡ Err (refusal.BadTree fault)
tree_fault_in inst tree None fault same is_held shown = absurd (is_held refl)
tree_fault_in inst tree (Some bytes) fault same is_held shown = rw (same, shown) refl

pub tree_fault :
    (inst : InstanceView) (names : Names) (name : List ℕ) → name_of input.Tree names ≡ Some name → (files : Option Files) (fault : TreeFault) → ¬ IsMissing files name
    → IfSome (file_at files name) (λ bytes. tree_in inst bytes ≡ Err fault) → ComesTo (tree_due inst) names files (Err (refusal.BadTree fault))
tree_fault inst names name named None fault is_held shown = tt
tree_fault inst names name named (Some held) fault is_held shown =
    tree_fault_in inst (contents_in held names).tree (get held name) fault (ap (option_and_then (get held)) named) is_held shown

-- the file of a tree with a fault is held, and is no tree's
no_tree_in :
    (inst : InstanceView) (file : Option (List ℕ)) → ¬ (file ≡ None)
    → ((tree : Tree) → IsTree inst tree → ¬ (file ≡ Some (tree_text inst tree))) → IsNoTree inst file
no_tree_in inst None is_held none = absurd (is_held refl)
no_tree_in inst (Some bytes) is_held none = λ tree is same. none tree is (ap Some same)

pub no_tree :
    (inst : InstanceView) (names : Names) (name : List ℕ) → name_of input.Tree names ≡ Some name → (files : Option Files) → ¬ IsMissing files name
    → ((tree : Tree) → IsTree inst tree → ¬ (file_at files name ≡ Some (tree_text inst tree)))
    → IfSome files (λ held. IsNoTree inst (contents_in held names).tree)
no_tree inst names name named None is_held none = tt
no_tree inst names name named (Some held) is_held none =
    subst (IsNoTree inst) (sym (ap (option_and_then (get held)) named)) (no_tree_in inst (get held name) is_held none)
