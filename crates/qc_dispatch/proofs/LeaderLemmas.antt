-- Which of its leaders a task waits for.
use Rattle.std.proofs.Common.{◌≡◌, ℕ, ◌<◌, Bool, true, Option, None, Some, is_none, List, length, refl, ap, arith}
use Rattle.std.proofs.lemmas.Bool.{and_from, and_parts, cond-true}
use Rattle.std.proofs.lemmas.Option.{cond_some}
use Rattle.qc_dispatch.specs.declared.next.Next.{Next}
use Rattle.qc_dispatch.specs.declared.waits.Wait.{Wait}
use Rattle.qc_dispatch.specs.Course.{Course, IsAwaited, KeepsOff, WaitsFor, end_at}
use Rattle.qc_dispatch.specs.Kept.{AreKept}
use Rattle.qc_dispatch.specs.Marks.{mark}
use Rattle.qc_dispatch.specs.Waits.{IsFirst, IsNext, is_open, open_start}
use Rattle.qc_model.specs.Rules.{start_of}

none_of : (o : Option ℕ) → is_none o ≡ true → o ≡ None
none_of None h = refl
none_of (Some end) h = absurd (cc h)

module _ (c : Course) (marks : List Bool) (waits : List Wait) (kept : AreKept c marks waits) (j : ℕ)
    (inside : j < length c.inst.tasks) (n : ℕ) (all : n ≡ length c.inst.tasks) where
  abbrev opens : ℕ → Option ℕ
  opens = open_start marks (end_at c) c.plan j

  opened : (i : ℕ) → KeepsOff c j i → opens i ≡ Some (start_of c.plan i)
  opened i off =
      cond-true _ _ _ (and_from (mark marks i j) (is_none (end_at c i))
      ((kept.marks_are.says i j off.leads.leader inside).1 off.leads) (ap is_none off.no_end))

  -- no leader is open
  pub awaits_none : IsNext opens n None → WaitsFor c j None
  awaits_none none i off = absurd (cc (none i (omega (arith, off.leads.leader, all)), opened i off))

  -- this is the first that is
  pub awaits : (next : Next) → IsFirst opens n next → IsAwaited c j next.task
  awaits next first =
      let i = next.task in
      let at = cond_some (is_open marks (end_at c) j i) (start_of c.plan i) next.moment first.at_it in
      let both = and_parts (mark marks i j) (is_none (end_at c i)) at.0 in
      record {
        is = record {
          leads = (kept.marks_are.says i j (omega (arith, first.inside, all)) inside).0 both.0;
          no_end = none_of (end_at c i) both.1;
        };
        soonest = λ k off. omega (arith, at.1, first.soonest k (start_of c.plan k) (omega (arith, off.leads.leader, all)) (opened k off));
        lowest = λ k less off. omega (arith, at.1, first.lowest k (start_of c.plan k) less (opened k off));
      }
