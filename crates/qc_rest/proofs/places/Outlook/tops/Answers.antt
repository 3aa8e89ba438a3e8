use Rattle.std.proofs.lemmas.Int.{to_z-of_z}
use Rattle.std.proofs.Common.{w64, rules, ℕ, ◌-◌, ◌∙◌, length, refl, sym, ap, subst, arith}
use Rattle.qc_model.specs.Instance.{InstanceView}
use Rattle.qc_rest.specs.Limits.{AreTops, view_of}
use Rattle.qc_rest.proofs.PlacingLemmas.{more_tops, no_tops}
use Rattle.qc_rest.proofs.places.Outlook.tops.Goals as goal

pub loop-k-init : goal.loop-k-init
loop-k-init c =
    let o = view_of c.args.self.now in
    let count = c.crane_count-k.ensures.count ∙ ap (λ (i : InstanceView). length i.cranes) c.instance.ensures in record {
      are = subst (λ (n : ℕ). AreTops o n _) (sym count) (no_tops o _ refl);
      within = omega (arith, count);
    }

pub top-requires-clause-tops : goal.top-requires-clause-tops
top-requires-clause-tops c = subst (λ (n : ℕ). AreTops (view_of c.args.self.now) n c.loop-k.tops) (omega (arith, c.loop-k-test.true)) c.loop-k.invariant.are

pub loop-k-preserved : goal.loop-k-preserved
loop-k-preserved c =
    rw (to_z-of_z w64 c.top.result (search rules)) (record {
      are = more_tops (view_of c.args.self.now) c.loop-k.k (c.loop-k.k - 1) c.loop-k.tops c.top.result
          (omega (arith, c.loop-k-test.true)) (omega (arith, c.loop-k.invariant.within, c.requires.known.valid.cranes.count.1)) c.loop-k.invariant.are c.top.ensures;
      within = omega (arith, c.loop-k.invariant.within);
    })

pub returns : goal.returns
returns c = subst (λ (n : ℕ). AreTops (view_of c.args.self.now) n c.loop-k.tops) (omega (arith, c.loop-k-test.false)) c.loop-k.invariant.are
