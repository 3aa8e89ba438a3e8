-- Lists of nodes, one behind the other.
use Rattle.std.proofs.Common.{◌≡◌, ◌+◌, List, [], ◌∷◌, ◌++◌, cond, map, refl, sym, subst, arith}
use Rattle.std.proofs.lemmas.List.Sums.{sum_by-append}
use Rattle.qc_close.specs.Model.{Decision, InstanceView, chain}
use Rattle.qc_tree.specs.Trees.{Leads, Node, branches, branchings, leaf}

module _ (inst : InstanceView) where
  -- nodes that lead to others, and then nodes that these lead to
  pub leads_then : (one two : List Node) (due between left : List (List Decision))
      → Leads inst due one between → Leads inst between two left
      → Leads inst due (one ++ two) left
  leads_then [] two due between left e h =
      subst (λ (d : List (List Decision)). Leads inst d two left) (sym e) h
  leads_then (node ∷ one) two [] between left h k = absurd h
  leads_then (node ∷ one) two (ds ∷ more) between left h k = (h.0, h.1, leads_then one two _ between left h.2 k)

  -- the chain without tasks holds at each node
  abbrev pub given_up : List Decision → Node
  given_up ds = record { decisions = ds; sign = leaf (chain []) }

  -- whatever nodes must come, they can be given up
  pub all_given_up : (due : List (List Decision)) → Leads inst due (map given_up due) []
  all_given_up [] = refl
  all_given_up (ds ∷ more) = (refl, refl, all_given_up more)

  pub none_branched : (due : List (List Decision)) → branchings (map given_up due) ≡ 0
  none_branched [] = refl
  none_branched (ds ∷ more) = omega (arith, none_branched more)

pub branchings_then : (one two : List Node) → branchings (one ++ two) ≡ branchings one + branchings two
branchings_then = sum_by-append (λ (node : Node). cond (branches node.sign) 1 0)
