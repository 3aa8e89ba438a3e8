-- The start of a task by the arcs into it, one arc after another.
use Rattle.std.proofs.Common.{◌≡◌, ℕ, ◌+◌, ◌≤◌, inl, inr, Bool, true, false, eqb, ltb, cond, List, ◌∷◌, Option, Some, refl, sym, ap, subst, subst₂, arith, slice_index}
use Rattle.std.proofs.lemmas.Bool.{eqb-true, eq-eqb, ltb-false, ltb-true}
use Rattle.qc_arena.specs.declared.edge.Edge.{Edge}
use Rattle.qc_model.specs.Nodes.{forced}
use Rattle.qc_starts.specs.Arcs.{IsArc}
use Rattle.qc_starts.specs.NodeArcs.{IsSound, NodeArcs}
use Rattle.qc_starts.specs.Place.{IsSoonest}
use Rattle.qc_starts.specs.Spread.{IsIn, into_task}
use Rattle.qc_starts.specs.Values.{start_at}
use Rattle.qc_starts.proofs.ArcLemmas.{arc_of}
use Rattle.qc_starts.proofs.SpreadLemmas.{filter_in, in_filter}

pub into_all : (net : NodeArcs) (j : ℕ) (arcs : List Edge) → arcs ≡ into_task j net.arcs
    → (arc : Edge) → IsIn net.arcs arc → arc.to ≡ j → IsIn arcs arc
into_all net j arcs are arc in_ same =
    subst (λ (xs : List Edge). IsIn xs arc) (sym are)
    (in_filter (λ arc. eqb arc.to j) net.arcs arc in_ (eq-eqb arc.to j same))

pub into_inside : (net : NodeArcs) (j : ℕ) (arcs : List Edge) → arcs ≡ into_task j net.arcs
    → (arc : Edge) → IsIn arcs arc → IsIn net.arcs arc × (arc.to ≡ j)
into_inside net j arcs are arc in_ =
    let found = filter_in (λ arc. eqb arc.to j) net.arcs arc (subst (λ (xs : List Edge). IsIn xs arc) are in_) in
    (found.0, eqb-true arc.to j found.1)

module _ (net : NodeArcs) (cells : List ℕ) (j s : ℕ) (why : Option ℕ) (rest : List Edge) (arc : Edge)
    (sound : IsSound net) (is : IsSoonest net cells j s why (arc ∷ rest)) where
  among : IsIn net.arcs arc
  among = (is.inside arc (inl refl)).0

  to_j : arc.to ≡ j
  to_j = (is.inside arc (inl refl)).1

  abbrev after : ℕ
  after = start_at cells arc.from + arc.len

  pub soonest_asks : IsArc net.inst net.decisions arc
  soonest_asks = arc_of (IsArc net.inst net.decisions) net.arcs sound.all.each arc among

  short : arc.len ≤ 2147483648
  short = arc_of (λ arc. arc.len ≤ 2147483648) net.arcs sound.low arc among

  pub soonest_fits : ((one : Edge) → IsIn net.arcs one → one.to ≡ j → start_at cells one.from ≤ 4398046511104)
      → after ≤ 18446744073709551615
  soonest_fits soon = omega (arith, soon arc among to_j, short)

  soonest_next : (late : Bool) → ltb s after ≡ late
      → IsSoonest net cells j (cond late after s) (cond late (Some arc.from) why) rest
  soonest_next false early = record {
    above = is.above;
    low = is.low;
    reason = is.reason;
    least = is.least;
    met = λ one in_ same. elim (is.met one in_ same) [
      | inl met ↦ inl met
      | inr left_over ↦ elim left_over [
        | inl this ↦ inl (subst (λ (a : Edge). start_at cells a.from + a.len ≤ s) this (ltb-false s after early))
        | inr more ↦ inr more
      ]
    ];
    inside = λ one in_. is.inside one (inr in_);
    bound = is.bound;
  }
  soonest_next true late =
      let less = ltb-true s after late in
      let step = subst (λ (k : ℕ). forced net.inst net.decisions arc.from k ≡ Some soonest_asks.ticks) to_j soonest_asks.is in
      record {
        above = omega (arith, is.above);
        low = is.low;
        reason = (soonest_asks.from, soonest_asks.ticks, step, omega (arith, soonest_asks.within));
        least = λ others meets early.
            let from = early arc among to_j in
            let to = meets.steps arc.from arc.to soonest_asks.ticks soonest_asks.from soonest_asks.to soonest_asks.is in
            omega (arith, from, to, soonest_asks.within, ap (slice_index others) to_j);
        met = λ one in_ same. elim (is.met one in_ same) [
          | inl met ↦ inl (omega arith)
          | inr left_over ↦ elim left_over [
            | inl this ↦ inl (subst (λ (a : Edge). start_at cells a.from + a.len ≤ after) this (omega arith))
            | inr more ↦ inr more
          ]
        ];
        inside = λ one in_. is.inside one (inr in_);
        bound = λ limit below. omega (arith, below arc among to_j, short);
      }

  pub soonest_step : (s_next : ℕ) (why_next : Option ℕ) → s_next ≡ cond (ltb s after) after s
      → why_next ≡ cond (ltb s after) (Some arc.from) why
      → IsSoonest net cells j s_next why_next rest
  soonest_step s_next why_next starts whys =
      subst₂ (λ (t : ℕ) (o : Option ℕ). IsSoonest net cells j t o rest) (sym starts) (sym whys)
      (soonest_next (ltb s after) refl)
