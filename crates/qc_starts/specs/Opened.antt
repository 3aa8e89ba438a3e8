-- inner: values before any decision, and when a decision begins.
use Rattle.std.specs.Prelude.{◌≡◌, ℕ, ◌+◌, ◌*◌, ◌<◌, ◌≤◌, [], All, length, replicate, false, true, slice_index_or, vec_capacity}
use Rattle.qc_model.specs.Instance.{InstanceView}
use Rattle.qc_model.specs.Nodes.{order_pairs}
use Rattle.qc_starts.specs.declared.spread.Spread.{Spread}
use Rattle.qc_starts.specs.Noting.{marks}
use Rattle.qc_starts.specs.Spread.{IsOnly}
use Rattle.qc_starts.specs.Values.{start_at}

-- no notes, and all tasks are still to be looked at
pub record IsOpened (s : Spread) (count decisions : ℕ) : Type 0 where
  pub cells : length s.values.cells ≡ 2 * count
  pub notes : s.values.trail.notes ≡ []
  pub cap : s.values.trail.cap ≡ 2 * count * decisions
  pub noted : length s.values.noted.items ≡ 2 * count
  pub olds : length s.olds.items ≡ count
  pub pending : s.pending.items ≡ replicate count true
  pub queue : count ≤ vec_capacity s.queue

-- nothing is noted, the starts are copied, and the root alone is to be looked at
pub record HasBegun (old new : Spread) (root : ℕ) : Type 0 where
  pub cells : new.values.cells ≡ old.values.cells
  pub trail : new.values.trail ≡ old.values.trail
  pub noted : length new.values.noted.items ≡ length old.values.noted.items
  pub none : marks new.values.noted.items ≡ 0
  pub clear :
      (k : ℕ) → k < length new.values.noted.items → slice_index_or new.values.noted.items k true ≡ false
  pub size : length new.olds.items ≡ length old.olds.items
  pub olds : (j : ℕ) → j < length new.olds.items → start_at new.olds.items j ≡ start_at old.values.cells j
  pub only : IsOnly new.pending.items (length old.pending.items) root

-- there is a cell for the start of each task and one for its reason, and room for two notes a task and decision
pub record AreSized (inst : InstanceView) (s : Spread) : Type 0 where
  pub cells : length s.values.cells ≡ 2 * length inst.tasks
  pub noted : length s.values.noted.items ≡ 2 * length inst.tasks
  pub olds : length s.olds.items ≡ length inst.tasks
  pub pending : length s.pending.items ≡ length inst.tasks
  pub queue : length inst.tasks ≤ vec_capacity s.queue
  pub cap : s.values.trail.cap ≡ 2 * length inst.tasks * (length inst.tasks + order_pairs inst)
  pub places : All (λ note. note.place < length s.values.cells) s.values.trail.notes
