-- What is kept beside no decision at all.
use Rattle.std.proofs.Common.{◌≡◌, ℕ, ◌+◌, ◌≤◌, false, List, [], length, replicate, reverse, slice_index_or, Option, None, ap, sym, subst, ◌∙◌}
use Rattle.std.proofs.lemmas.List.{get_or-replicate, length-replicate}
use Rattle.qc_model.specs.declared.decision.Decision.{Decision}
use Rattle.qc_dist.specs.Heads.{IsHeadTable}
use Rattle.qc_dist.specs.Kept.{AreKept, Beside}
use Rattle.qc_dist.specs.Tables.{IsGrid, IsTable}
use Rattle.qc_model.specs.Instance.{InstanceView, Valid}
use Rattle.qc_model.specs.Nodes.{is_sooner, order_pairs}

-- a table that holds nothing
none_table : {X : Type 0} (n : ℕ) (xs : List (Option X)) → xs ≡ replicate n None → IsTable (λ j. None) n xs
none_table n xs is = record {
  count = ap length is ∙ length-replicate n None;
  values = λ j d low. ap (λ ys. slice_index_or ys j d) is ∙ get_or-replicate n j None d low;
}

pub kept_open : (made : List Decision) (b : Beside) (own inst : InstanceView) → own ≡ inst → Valid inst → made ≡ []
    → length inst.tasks + order_pairs inst ≤ b.room → b.cranes ≡ replicate (length inst.tasks) None
    → IsGrid (is_sooner inst []) (length inst.tasks) b.before → IsGrid (λ _ _. false) (length inst.tasks) b.ordered
    → IsHeadTable inst b.heads → AreKept own (reverse made) b
kept_open made b own inst e valid none room cranes before ordered heads =
    subst (λ ms. AreKept own (reverse ms) b) (sym none)
    (subst (λ (i : InstanceView). AreKept i [] b) (sym e) (record {
      valid = valid;
      fits = tt;
      room = room;
      cranes = none_table (length inst.tasks) b.cranes cranes;
      before = before;
      ordered = ordered;
      heads = heads;
    }))
