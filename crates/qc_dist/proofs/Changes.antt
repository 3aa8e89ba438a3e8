-- What is kept in the fields, after a decision was added and after one was undone.
use Rattle.std.proofs.Common.{◌≡◌, ℕ, ◌+◌, ◌*◌, ◌<◌, ◌≤◌, true, false, None, Some, List, [], ◌∷◌, ◌++◌, length, reverse, slice_set, sym, ap, ◌∙◌, subst, arith, IsFalse}
use Rattle.std.proofs.lemmas.List.{length-reverse, reverse-append}
use Rattle.qc_dist.specs.declared.decisions.Decisions.TheInside.{Inside}
use Rattle.qc_model.specs.declared.decision.Decision.{Decision}
use Rattle.qc_model.specs.declared.decision.Decision.TheVariants.{Assign, Order}
use Rattle.qc_model.specs.Instance.{InstanceView, Valid}
use Rattle.qc_model.specs.Nodes.{Conflicts, Fits, IsSettled, assigned, is_ordered, order_pairs}
use Rattle.qc_dist.specs.Fields.{IsKept, node_of}
use Rattle.qc_dist.specs.Kept.{AreKept, Beside}
use Rattle.qc_dist.specs.Node.{Node}
use Rattle.qc_model.proofs.NodeLemmas.{conflict_inside, unsettled_unordered}
use Rattle.qc_dist.proofs.Assigned.{assigned_here, assigned_other, ordered_here, ordered_other}
use Rattle.qc_dist.proofs.Room.{fits_room}
use Rattle.qc_dist.proofs.Tables.{grid_write, table_write}

-- a further decision finds room
pub made_room : (inst : InstanceView) → Valid inst → (made : List Decision) (capacity : ℕ) (d : Decision)
    → Fits inst (d ∷ reverse made)
    → length inst.tasks + order_pairs inst ≤ capacity → length made < capacity
made_room inst valid made capacity d fits room =
    omega (arith, fits_room inst valid (d ∷ reverse made) fits, length-reverse made)

-- the task can be assigned to the crane
pub record CanAssign (inst : InstanceView) (ds : List Decision) (j k : ℕ) : Type 0 where
  pub task : j < length inst.tasks
  pub crane : k < length inst.cranes
  pub none : assigned ds j ≡ None

pub can_assign : (f : Inside) (node : Node) (j k : ℕ) → node_of f ≡ node → CanAssign node.inst node.decisions j k
    → CanAssign f.inst (reverse f.made.items) j k
can_assign f node j k view = subst (λ (n : Node). CanAssign n.inst n.decisions j k) (sym view)

-- the first task can be ordered before the second
pub record CanOrder (inst : InstanceView) (ds : List Decision) (i j : ℕ) : Type 0 where
  pub conflict : Conflicts inst ds i j
  pub one : IsFalse (is_ordered ds i j)
  pub other : IsFalse (is_ordered ds j i)
  pub first : i < length inst.tasks
  pub second : j < length inst.tasks

pub can_order : (f : Inside) → IsKept f → (node : Node) (i j : ℕ) → node_of f ≡ node
    → Conflicts node.inst node.decisions i j → (¬ IsSettled node.inst node.decisions i j)
    → CanOrder f.inst (reverse f.made.items) i j
can_order f kept node i j view conflict unsettled =
    let at = subst (λ (n : Node). Conflicts n.inst n.decisions i j) (sym view) conflict in
    let settled = subst (λ (n : Node). ¬ IsSettled n.inst n.decisions i j) (sym view) unsettled in
    let free = unsettled_unordered f.inst (reverse f.made.items) i j settled in
    let range = conflict_inside f.inst kept.valid (reverse f.made.items) i j at in
    record { conflict = at; one = free.0; other = free.1; first = range.0; second = range.1 }

-- a task was assigned
pub after_assign : (inst : InstanceView) (made more : List Decision) (room : ℕ) (b : Beside) (j k : ℕ)
    → AreKept inst (reverse made) b → CanAssign inst (reverse made) j k → more ≡ made ++ Assign j k ∷ []
    → room ≡ b.room
    → AreKept inst (reverse more) (record b { room = room; cranes = slice_set b.cranes j (Some k) })
after_assign inst made more room b j k kept can pushed held =
    let ds = reverse made in
    rw (pushed, held, reverse-append made (Assign j k ∷ [])) (record {
      valid = kept.valid;
      fits = (can.task, can.crane, can.none, kept.fits);
      room = kept.room;
      cranes = table_write (assigned ds) (assigned (Assign j k ∷ ds)) (length inst.tasks) b.cranes j (Some k)
          can.task (sym (assigned_here ds j k)) (λ i differ. sym (assigned_other ds j k i differ)) kept.cranes;
      before = kept.before;
      ordered = kept.ordered;
      heads = kept.heads;
    })

-- the order of two tasks was decided
pub after_order :
    (inst : InstanceView) (made more : List Decision) (room : ℕ) (b : Beside) (i j at : ℕ)
    → AreKept inst (reverse made) b → CanOrder inst (reverse made) i j → at ≡ 240 * i + j
    → more ≡ made ++ Order i j ∷ [] → room ≡ b.room
    → AreKept inst (reverse more) (record b { room = room; ordered = slice_set b.ordered at true })
after_order inst made more room b i j at kept can is pushed held =
    let ds = reverse made in
    rw (pushed, held, is, reverse-append made (Order i j ∷ [])) (record {
      valid = kept.valid;
      fits = (can.conflict, can.one, can.other, kept.fits);
      room = kept.room;
      cranes = kept.cranes;
      before = kept.before;
      ordered = grid_write (is_ordered ds) (is_ordered (Order i j ∷ ds)) (length inst.tasks) b.ordered i j
          true kept.valid.tasks.count can.first can.second (sym (ordered_here ds i j))
          (λ v w differ. sym (ordered_other ds i j v w differ)) kept.ordered;
      heads = kept.heads;
    })

-- what was decided, with the newest in sight
newest_is : (made left : List Decision) (d e : Decision) → made ≡ left ++ d ∷ [] → d ≡ e
    → reverse made ≡ e ∷ reverse left
newest_is made left d e popped is =
    ap reverse popped ∙ reverse-append left (d ∷ []) ∙ ap (λ x. x ∷ reverse left) is

-- the crane of a task was taken back
pub after_unassign :
    (inst : InstanceView) (made left : List Decision) (d : Decision) (room : ℕ) (b : Beside) (j k : ℕ)
    → AreKept inst (reverse made) b → made ≡ left ++ d ∷ [] → d ≡ Assign j k → room ≡ b.room
    → AreKept inst (reverse left) (record b { room = room; cranes = slice_set b.cranes j None })
after_unassign inst made left d room b j k all popped is held =
    let ds = reverse left in
    let kept = subst (λ ds. AreKept inst ds b) (newest_is made left d (Assign j k) popped is) all in
    let fits = kept.fits in
    rw held (record {
      valid = kept.valid;
      fits = fits.3;
      room = kept.room;
      cranes = table_write (assigned (Assign j k ∷ ds)) (assigned ds) (length inst.tasks) b.cranes j None
          fits.0 (sym fits.2) (λ i differ. assigned_other ds j k i differ) kept.cranes;
      before = kept.before;
      ordered = kept.ordered;
      heads = kept.heads;
    })

-- a task that was assigned is one of the instance, and its crane too
pub newest_assigned :
    (inst : InstanceView) (made left : List Decision) (d : Decision) (b : Beside) (j k : ℕ)
    → AreKept inst (reverse made) b → made ≡ left ++ d ∷ [] → d ≡ Assign j k
    → (j < length inst.tasks) × (k < length inst.cranes)
newest_assigned inst made left d b j k all popped is =
    let kept = subst (λ ds. AreKept inst ds b) (newest_is made left d (Assign j k) popped is) all in
    (kept.fits.0, kept.fits.1)

-- tasks of which the order was decided are tasks of the instance
pub newest_range :
    (inst : InstanceView) (made left : List Decision) (d : Decision) (b : Beside) (i j : ℕ)
    → AreKept inst (reverse made) b → made ≡ left ++ d ∷ [] → d ≡ Order i j
    → (i < length inst.tasks) × (j < length inst.tasks)
newest_range inst made left d b i j all popped is =
    let kept = subst (λ ds. AreKept inst ds b) (newest_is made left d (Order i j) popped is) all in
    conflict_inside inst kept.valid (reverse left) i j kept.fits.0

-- the order of two tasks was taken back
pub after_unorder :
    (inst : InstanceView) (made left : List Decision) (d : Decision) (room : ℕ) (b : Beside) (i j at : ℕ)
    → AreKept inst (reverse made) b → made ≡ left ++ d ∷ [] → d ≡ Order i j → at ≡ 240 * i + j
    → room ≡ b.room → AreKept inst (reverse left) (record b { room = room; ordered = slice_set b.ordered at false })
after_unorder inst made left d room b i j at all popped is found held =
    let ds = reverse left in
    let kept = subst (λ ds. AreKept inst ds b) (newest_is made left d (Order i j) popped is) all in
    let range = conflict_inside inst kept.valid ds i j kept.fits.0 in
    rw (held, found) (record {
      valid = kept.valid;
      fits = kept.fits.3;
      room = kept.room;
      cranes = kept.cranes;
      before = kept.before;
      ordered = grid_write (is_ordered (Order i j ∷ ds)) (is_ordered ds) (length inst.tasks) b.ordered i j
          false kept.valid.tasks.count range.0 range.1 (sym kept.fits.1)
          (λ v w differ. ordered_other ds i j v w differ) kept.ordered;
      heads = kept.heads;
    })

-- the decisions were the newest one and those that are left
pub undone : (f : Inside) (left : List Decision) (d e : Decision) (node : Node) → node_of f ≡ node
    → f.made.items ≡ left ++ d ∷ [] → d ≡ e
    → node ≡ record { inst = f.inst; decisions = e ∷ reverse left }
undone f left d e node view popped is =
    sym view
    ∙ ap (λ (ds : List Decision). record { inst = f.inst; decisions = ds }) (newest_is f.made.items left d e popped is)

pub left_fits : (inst : InstanceView) (made left : List Decision) (d : Decision) (b : Beside)
    → AreKept inst (reverse made) b → made ≡ left ++ d ∷ [] → Fits inst (reverse left)
left_fits inst made left d b kept popped =
    fits_before d (subst (Fits inst) (ap reverse popped ∙ reverse-append left (d ∷ [])) kept.fits)
  where
    fits_before : (d : Decision) → Fits inst (d ∷ reverse left) → Fits inst (reverse left)
    fits_before (Assign j k) fits = fits.3
    fits_before (Order i j) fits = fits.3
