-- What is left when the newest decision is taken back is kept.
use Rattle.std.proofs.Common.{◌≡◌, ℕ, ◌+◌, ◌<◌, ◌≤◌, List, [], ◌∷◌, All, length, drop, take, reverse, sym, ap, subst, subst₂, ◌∙◌, vec_capacity, arith}
use Rattle.std.proofs.lemmas.List.Elements.{All-take}
use Rattle.qc_model.specs.declared.decision.Decision.{Decision}
use Rattle.qc_model.specs.declared.decision.Decision.TheVariants.{Assign, Order}
use Rattle.qc_model.specs.Instance.{InstanceView}
use Rattle.qc_model.specs.Nodes.{IsInReach, order_pairs, is_in_reach, reaches}
use Rattle.qc_starts.specs.declared.starts.Starts.TheInside.{Inside}
use Rattle.qc_starts.specs.declared.step.Step.TheVariants.{Raised}
use Rattle.qc_starts.specs.Fields.{AreNested, IsKept, IsStateOf}
use Rattle.qc_starts.specs.NodeArcs.{IsSound}
use Rattle.qc_starts.specs.Opened.{AreSized}
use Rattle.qc_starts.proofs.KeptLemmas.{IsBackNode, nested_less}
use Rattle.qc_arena.proofs.Written.{written_back_length}
use Rattle.qc_arena.specs.declared.trail.Note.{Note}
use Rattle.qc_arena.specs.Trails.{Notes, written_back}
use Rattle.std.proofs.lemmas.Bool.{and_parts}

in_reach_less : (inst : InstanceView) (ds : List Decision) → IsInReach inst ds → IsInReach inst (drop 1 ds)
in_reach_less inst [] all = all
in_reach_less inst (Assign j k ∷ ds) all = (and_parts (reaches inst j k) (is_in_reach inst ds) all).1
in_reach_less inst (Order i j ∷ ds) all = all

module _ (f : Inside) (is : IsKept f) (g : Inside) (mark : ℕ)
    (home : g.network.inst ≡ f.network.inst) (ds_is : g.network.decisions ≡ drop 1 f.network.decisions)
    (sound : IsSound g.network) (marks_are : reverse f.marks.items ≡ mark ∷ reverse g.marks.items)
    (wide : vec_capacity g.marks ≡ vec_capacity f.marks)
    (spread_is : g.spread ≡ record f.spread { values = g.spread.values }) (raised : g.step ≡ Raised)
    (trail_is : g.spread.values.trail ≡ record f.spread.values.trail { notes = take mark f.spread.values.trail.notes })
    (cells_are : g.spread.values.cells ≡ written_back (drop mark f.spread.values.trail.notes) f.spread.values.cells)
    (noted_are : g.spread.values.noted.items ≡ f.spread.values.noted.items) where
  abbrev past : List Note
  past = f.spread.values.trail.notes

  less : (mark ≤ length past)
      × IsBackNode f.network.inst (drop 1 f.network.decisions) (reverse g.marks.items) (take mark past)
      (written_back (drop mark past) f.spread.values.cells)
  less =
      nested_less f.network.inst f.network.decisions mark (reverse g.marks.items) past f.spread.values.cells
      (subst (λ (ms : List ℕ). AreNested f.network.inst f.network.decisions ms past f.spread.values.cells) marks_are is.nested)

  notes_are : g.spread.values.trail.notes ≡ take mark past
  notes_are = ap (λ (t : Notes). t.notes) trail_is

  back : IsBackNode g.network.inst g.network.decisions (reverse g.marks.items) g.spread.values.trail.notes g.spread.values.cells
  back =
      subst₂ (λ (i : InstanceView) (ds : List Decision).
      IsBackNode i ds (reverse g.marks.items) g.spread.values.trail.notes g.spread.values.cells) (sym home) (sym ds_is)
      (subst₂ (IsBackNode f.network.inst (drop 1 f.network.decisions) (reverse g.marks.items)) (sym notes_are) (sym cells_are) less.1)

  pub back_kept : IsKept g
  back_kept =
      let size = ap (length {A = ℕ}) cells_are ∙ written_back_length (drop mark past) f.spread.values.cells in
      let all : All (λ note. note.place < length g.spread.values.cells) g.spread.values.trail.notes =
      subst₂ (λ (ns : List Note) (n : ℕ). All (λ note. note.place < n) ns) (sym notes_are) (sym size)
      (All-take (λ note. note.place < length f.spread.values.cells) mark past is.sized.places) in
      record {
        sound = sound;
        in_reach = subst₂ IsInReach (sym home) (sym ds_is) (in_reach_less f.network.inst f.network.decisions is.in_reach);
        sized = subst₂ AreSized (sym home) (sym spread_is) (record {
          cells = size ∙ is.sized.cells;
          noted = ap (length {A = _}) noted_are ∙ is.sized.noted;
          olds = is.sized.olds;
          pending = is.sized.pending;
          queue = is.sized.queue;
          cap = ap (λ (t : Notes). t.cap) trail_is ∙ is.sized.cap;
          places = all;
        });
        few = back.few;
        nested = back.nested;
        room = omega (arith, is.room, wide, ap (λ (i : InstanceView). length i.tasks + order_pairs i) home);
        state = subst (λ step. IsStateOf g.network g.spread.values.cells g.root step) (sym raised) back.rest;
      }
