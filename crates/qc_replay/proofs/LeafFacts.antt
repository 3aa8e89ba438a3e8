-- What chains, rings and packed tasks come to, step by step.
use Rattle.std.proofs.Common.{◌≡◌, ℕ, ◌+◌, List, [], ◌∷◌, ◌++◌, None, Some, sym, ap, ◌∙◌, arith, option_map}
use Rattle.std.proofs.lemmas.List.{append-nil}
use Rattle.qc_close.specs.Model.{Decision, InstanceView, ticks_of, chain_end, chain_ticks, head}

module _ (inst : InstanceView) (ds : List Decision) (first : ℕ) (tasks : List ℕ) where
  -- nothing leads along the tasks, whatever follows them
  abbrev pub NoWay : Type 0
  NoWay = (behind : List ℕ) → chain_ticks inst ds first (tasks ++ behind) ≡ None

  -- the way along the tasks ends at the last, so many ticks after the first
  abbrev pub IsWay : ℕ → ℕ → Type 0
  IsWay last ticks =
      (behind : List ℕ)
      → chain_ticks inst ds first (tasks ++ behind) ≡ option_map (λ rest. ticks + rest) (chain_ticks inst ds last behind)

  pub no_end : NoWay → chain_end inst ds (first ∷ tasks) ≡ None
  no_end none =
      ap (option_map (λ ticks. head inst ds first + ticks)) (ap (chain_ticks inst ds first) (sym (append-nil tasks)) ∙ none [])

  pub end_is : (last ticks end : ℕ) → IsWay last ticks
      → end ≡ head inst ds first + ticks + ticks_of inst last
      → chain_end inst ds (first ∷ tasks) ≡ Some end
  end_is last ticks end way sum =
      ap (option_map (λ ticks. head inst ds first + ticks)) (ap (chain_ticks inst ds first) (sym (append-nil tasks)) ∙ way [])
      ∙ ap Some (omega (arith, sum))
