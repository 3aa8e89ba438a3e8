-- The nodes that must still come, from line to line.
use Rattle.std.proofs.Common.{◌≡◌, ℕ, ◌<◌, true, cond, List, [], ◌∷◌, ◌++◌, length, map, drop, sym, ap, ◌∙◌}
use Rattle.std.proofs.lemmas.Bool.{lt-ltb}
use Rattle.qc_dist.proofs.ChildLemmas.{cranes_from}
use Rattle.qc_close.specs.Model.{Decision, Assign, Order, crane_numbers}
use Rattle.qc_dist.specs.Children.{behind}
use Rattle.qc_replay.specs.Part.{Standing, nodes}

-- what stands where a node must come, before and after
module _ (s now : Standing) (live : s.live ≡ true) where
  -- the same with these decisions
  abbrev deciding : List Decision → Standing
  deciding ds = record s { decisions = ds; live = true }

  given_is : (ds : List Decision) → record s { decisions = ds } ≡ deciding ds
  given_is ds = ap (λ b. record s { decisions = ds; live = b }) live

  pub left_behind : drop 1 (nodes s) ≡ behind s.inst s.decisions
  left_behind = ap (λ t. drop 1 (nodes t)) (given_is s.decisions)

  pub task_nodes : (j : ℕ) → 0 < length s.inst.cranes → now ≡ record s { decisions = Assign j 0 ∷ s.decisions }
      → nodes now ≡ map (λ k. Assign j k ∷ s.decisions) (crane_numbers s.inst) ++ drop 1 (nodes s)
  task_nodes j some is =
      ap nodes (is ∙ given_is (Assign j 0 ∷ s.decisions))
      ∙ ap (λ ks. map (λ k. Assign j k ∷ s.decisions) ks ++ behind s.inst s.decisions) (sym (cranes_from s.inst 0 some))
      ∙ ap (λ more. map (λ k. Assign j k ∷ s.decisions) (crane_numbers s.inst) ++ more) (sym left_behind)

  pub pair_nodes : (i j : ℕ) → i < j → now ≡ record s { decisions = Order i j ∷ s.decisions }
      → nodes now ≡ (Order i j ∷ s.decisions) ∷ (Order j i ∷ s.decisions) ∷ drop 1 (nodes s)
  pair_nodes i j low is =
      ap nodes (is ∙ given_is (Order i j ∷ s.decisions))
      ∙ ap (λ b. (Order i j ∷ s.decisions) ∷ (cond b ((Order j i ∷ s.decisions) ∷ []) [] ++ behind s.inst s.decisions)) (lt-ltb i j low)
      ∙ ap (λ more. (Order i j ∷ s.decisions) ∷ (Order j i ∷ s.decisions) ∷ more) (sym left_behind)
