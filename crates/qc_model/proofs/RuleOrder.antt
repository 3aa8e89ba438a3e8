-- The rules in the order in which they are judged.
use Rattle.std.proofs.Common.{◌≡◌, ℕ, ◌<◌, zero, suc, List, [], ◌∷◌, slice_index_or, refl, arith}
use Rattle.qc_model.specs.declared.rules.Rule.{Rule}
use Rattle.qc_model.specs.declared.rules.Rule.TheVariants.{Reach, Ready, Travel, Before, Apart, Margin, Berth, OneWay}
use Rattle.qc_model.specs.Judge.{rule_rank}

abbrev pub in_order : List Rule
in_order = Reach ∷ Ready ∷ Travel ∷ Before ∷ Apart ∷ Margin ∷ Berth ∷ OneWay ∷ []

-- a rule stands at its rank
pub at_rank : (rule : Rule) → slice_index_or in_order (rule_rank rule) Reach ≡ rule
at_rank Reach = refl
at_rank Ready = refl
at_rank Travel = refl
at_rank Before = refl
at_rank Apart = refl
at_rank Margin = refl
at_rank Berth = refl
at_rank OneWay = refl

pub rank_below : (rule : Rule) → rule_rank rule < 8
rank_below Reach = omega arith
rank_below Ready = omega arith
rank_below Travel = omega arith
rank_below Before = omega arith
rank_below Apart = omega arith
rank_below Margin = omega arith
rank_below Berth = omega arith
rank_below OneWay = omega arith

-- what stands at an index has it as its rank
pub rank_at : (k : ℕ) → k < 8 → rule_rank (slice_index_or in_order k Reach) ≡ k
rank_at zero h = refl
rank_at (suc zero) h = refl
rank_at (suc (suc zero)) h = refl
rank_at (suc (suc (suc zero))) h = refl
rank_at (suc (suc (suc (suc zero)))) h = refl
rank_at (suc (suc (suc (suc (suc zero))))) h = refl
rank_at (suc (suc (suc (suc (suc (suc zero)))))) h = refl
rank_at (suc (suc (suc (suc (suc (suc (suc zero))))))) h = refl
rank_at (suc (suc (suc (suc (suc (suc (suc (suc k)))))))) h = absurd (omega arith)
