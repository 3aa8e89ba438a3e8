-- What a decision leaves is kept.
use Rattle.std.proofs.Common.{◌≡◌, ℕ, ◌+◌, ◌*◌, ◌<◌, ◌≤◌, List, [], ◌∷◌, ◌++◌, All, length, reverse, sym, ap, subst, subst₂, ◌∙◌, length-append, vec_capacity, arith}
use Rattle.std.proofs.lemmas.List.Sums.{count_by-le-length}
use Rattle.std.proofs.Math.Nat.{mul-le-mul_left}
use Rattle.qc_dist.specs.Node.{Node}
use Rattle.qc_dist.proofs.Room.{fits_room}
use Rattle.qc_model.specs.declared.decision.Decision.{Decision}
use Rattle.qc_model.specs.Instance.{InstanceView}
use Rattle.qc_model.specs.Nodes.{HasStarts, IsInReach, order_pairs}
use Rattle.qc_starts.specs.declared.spread.Spread.{Spread}
use Rattle.qc_starts.specs.declared.starts.Starts.TheInside.{Inside}
use Rattle.qc_starts.specs.Fields.{AreNested, IsKept, node_of}
use Rattle.qc_starts.specs.NodeArcs.{IsSound}
use Rattle.qc_starts.specs.Noting.{HasNotes, IsNoting, Wrote}
use Rattle.qc_starts.specs.Opened.{AreSized, HasBegun}
use Rattle.qc_starts.specs.Seen.{IsReached}
use Rattle.qc_starts.specs.Spread.{IsSettledTo}
use Rattle.qc_starts.specs.Values.{AreRest}
use Rattle.qc_starts.proofs.KeptLemmas.{home_rest, in_reach_more, nested_more, settled_step}
use Rattle.qc_starts.proofs.LevelLemmas.{reverse_push}
use Rattle.qc_starts.proofs.NotingLemmas.{noting_begins}
use Rattle.qc_arena.specs.declared.trail.Note.{Note}
use Rattle.qc_arena.specs.Trails.{Notes, written_back}

module _ (f : Inside) (node : Node) (is : IsKept f) (view : node_of f ≡ node) (g : Inside) (mid : Spread)
    (d : Decision)
    (home : g.network.inst ≡ f.network.inst)
    (ds_is : g.network.decisions ≡ (d ∷ f.network.decisions)) (sound : IsSound g.network)
    (begun : HasBegun f.spread mid g.root) where
  abbrev n : ℕ
  n = length f.network.inst.tasks

  room_for : 2 * n * length f.network.decisions + 2 * n ≤ 2 * n * (n + order_pairs f.network.inst)
  room_for =
      let fits = fits_room g.network.inst sound.valid g.network.decisions sound.fits in
      let same = ap (λ (i : InstanceView). length i.tasks + order_pairs i) home in
      let more = ap (length {A = Decision}) ds_is in
      let up : length f.network.decisions + 1 ≤ n + order_pairs f.network.inst = omega (arith, fits, same, more) in
      let product = mul-le-mul_left (2 * n) up in
      omega (arith, product)

  -- there is room for the notes of the decision
  pub begun_notes : HasNotes mid.values
  begun_notes = record {
    size = begun.noted ∙ is.sized.noted ∙ sym is.sized.cells ∙ ap (length {A = ℕ}) (sym begun.cells);
    room = omega (
      arith,
      ap (λ (t : Notes). length t.notes) begun.trail,
      ap (λ (t : Notes). t.cap) begun.trail,
      begun.noted,
      is.sized.noted,
      is.sized.cap,
      is.few,
      room_for,
    );
    places = subst₂ (λ (t : Notes) (xs : List ℕ). All (λ note. note.place < length xs) t.notes) (sym begun.trail) (sym begun.cells)
        is.sized.places;
  }

  module _ (mark : ℕ) (starts : HasStarts node.inst node.decisions) (reach : IsReached f.network.inst d)
      (marks_are : g.marks.items ≡ f.marks.items ++ mark ∷ [])
      (mark_is : mark ≡ length f.spread.values.trail.notes)
      (wide : vec_capacity f.marks ≤ vec_capacity g.marks)
      (wrote : Wrote mid.values g.spread.values)
      (olds_are : g.spread.olds.items ≡ mid.olds.items)
      (pend_size : length g.spread.pending.items ≡ length mid.pending.items)
      (queue_room : length g.spread.pending.items ≤ vec_capacity g.spread.queue)
      (settled : IsSettledTo g.network g.root g.spread.olds.items g.spread.values.cells g.step) where
    rest : AreRest f.network.inst f.network.decisions f.spread.values.cells
    rest = home_rest f node is view starts

    noting : IsNoting mid.values.trail.notes mid.values.cells g.spread.values
    noting = wrote.noting mid.values.trail.notes mid.values.cells
        (noting_begins mid.values begun.none begun_notes.size begun.clear)

    notes_are : g.spread.values.trail.notes ≡ f.spread.values.trail.notes ++ noting.since
    notes_are = noting.notes ∙ ap (λ (t : Notes). t.notes ++ noting.since) begun.trail

    back : written_back noting.since g.spread.values.cells ≡ f.spread.values.cells
    back = noting.back g.spread.values.cells noting.size noting.same ∙ begun.cells

    cells_count : length g.spread.values.cells ≡ 2 * length f.network.inst.tasks
    cells_count = noting.size ∙ ap (length {A = ℕ}) begun.cells ∙ is.sized.cells

    since_few : length noting.since ≤ 2 * length f.network.inst.tasks
    since_few =
        omega (arith, noting.count, count_by-le-length (λ b. b) g.spread.values.noted.items, wrote.notes.size, cells_count)

    nested : AreNested f.network.inst (d ∷ f.network.decisions) (mark ∷ reverse f.marks.items) g.spread.values.trail.notes
        g.spread.values.cells
    nested =
        subst₂ (λ (m : ℕ) (ns : List Note).
        AreNested f.network.inst (d ∷ f.network.decisions) (m ∷ reverse f.marks.items) ns g.spread.values.cells)
        (sym mark_is) (sym notes_are)
        (nested_more f.network.inst d f.network.decisions (reverse f.marks.items) f.spread.values.trail.notes noting.since
        f.spread.values.cells g.spread.values.cells is.nested rest is.few back)

    marks_reversed : reverse g.marks.items ≡ mark ∷ reverse f.marks.items
    marks_reversed = ap reverse marks_are ∙ reverse_push f.marks.items mark

    pub kept_decided : IsKept g
    kept_decided = record {
      sound = sound;
      in_reach = subst₂ IsInReach (sym home) (sym ds_is) (in_reach_more f.network.inst d f.network.decisions reach is.in_reach);
      sized = subst (λ (i : InstanceView). AreSized i g.spread) (sym home) (record {
        cells = cells_count;
        noted = wrote.notes.size ∙ cells_count;
        olds = ap (length {A = ℕ}) olds_are ∙ begun.size ∙ is.sized.olds;
        pending = pend_size ∙ begun.only.size ∙ is.sized.pending;
        queue = omega (arith, queue_room, pend_size, begun.only.size, is.sized.pending);
        cap = wrote.cap ∙ ap (λ (t : Notes). t.cap) begun.trail ∙ is.sized.cap;
        places = wrote.notes.places;
      });
      few = subst₂ (λ (i : InstanceView) (xs : List Decision).
          length g.spread.values.trail.notes ≤ 2 * length i.tasks * length xs) (sym home) (sym ds_is)
          (omega (arith, ap (length {A = Note}) notes_are, length-append f.spread.values.trail.notes noting.since, since_few, is.few));
      nested = subst₂ (λ (i : InstanceView) (xs : List Decision).
          AreNested i xs (reverse g.marks.items) g.spread.values.trail.notes g.spread.values.cells) (sym home) (sym ds_is)
          (subst (λ (ms : List ℕ). AreNested f.network.inst (d ∷ f.network.decisions) ms g.spread.values.trail.notes
          g.spread.values.cells) (sym marks_reversed) nested);
      room = omega (arith, is.room, ap (λ (i : InstanceView). length i.tasks + order_pairs i) home);
      state = settled_step g.network g.root g.spread.olds.items g.spread.values.cells g.step sound settled;
    }
