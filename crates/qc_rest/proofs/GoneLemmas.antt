-- Once all tasks that are left are passed, the old order goes on when they start.
use Rattle.std.proofs.Common.{◌≡◌, ℕ, ◌+◌, ◌<◌, ◌≤◌, inl, inr, Bool, false, List, length, map, Option, None, Some, slice_index, ap, sym, subst, ◌∙◌, arith}
use Rattle.std.specs.List.{range_with_len}
use Rattle.std.proofs.lemmas.Bool.{cases_Bool, cond-false, cond-true}
use Rattle.std.proofs.lemmas.List.FromFn.{get_or-map-range_with_len, length-map-range_with_len}
use Rattle.qc_dispatch.specs.Course.{Course, is_waiting, stage_of}
use Rattle.qc_dispatch.specs.Journal.{Journal}
use Rattle.qc_dispatch.specs.Order.{gap}
use Rattle.qc_model.specs.Instance.{ticks_of}
use Rattle.qc_rest.specs.declared.pass.Pass.{Pass}
use Rattle.qc_rest.specs.Going.{first_end, first_go}
use Rattle.qc_rest.specs.GoneOn.{AreGoneOn, end_with}
use Rattle.qc_rest.specs.Passing.{ArePassed, HasRoom, MayBy, end_in, is_open}
use Rattle.qc_rest.specs.Remaining.{over_at}

module _ (j : Journal) where
  abbrev c : Course
  c = j.course

  abbrev n : ℕ
  n = length c.inst.tasks

  -- what is known before any is passed
  pub record IsFirst (old : Pass) : Type 0 where
    pub left_are : old.left.items ≡ map (λ i. is_waiting (stage_of c i)) (range_with_len 0 n)
    pub starts_are : old.starts.items ≡ map (first_go c) (range_with_len 0 n)
    pub ends_are : old.ends.items ≡ map (first_end j) (range_with_len 0 n)

  module _ (old : Pass) (first : IsFirst old) where
    pub first_room : HasRoom c.inst old
    first_room = record {
      left = ap length first.left_are ∙ length-map-range_with_len (λ i. is_waiting (stage_of c i)) 0 n;
      starts = ap length first.starts_are ∙ length-map-range_with_len (first_go c) 0 n;
      ends = ap length first.ends_are ∙ length-map-range_with_len (first_end j) 0 n;
    }

    open_is : (i : ℕ) → i < n → is_open old.left.items i ≡ is_waiting (stage_of c i)
    open_is i low =
        ap (λ (xs : List Bool). is_open xs i) first.left_are
        ∙ get_or-map-range_with_len (λ k. is_waiting (stage_of c k)) 0 n i i false low (omega arith)

    start_is : (i : ℕ) → i < n → slice_index old.starts.items i ≡ first_go c i
    start_is i low = ap (λ (xs : List ℕ). slice_index xs i) first.starts_are ∙ get_or-map-range_with_len (first_go c) 0 n i i 0 low (omega arith)

    end_is : (i : ℕ) → i < n → end_in old.ends.items i ≡ first_end j i
    end_is i low = ap (λ (xs : List (Option ℕ)). end_in xs i) first.ends_are ∙ get_or-map-range_with_len (first_end j) 0 n i i None low (omega arith)

    -- ---- once all are passed

    module _ (new : Pass) (passed : ArePassed c.inst c.plan old new) where
      abbrev goes : ℕ → ℕ
      goes = slice_index new.starts.items

      end_now : (i : ℕ) → i < n → end_in new.ends.items i ≡ Some (end_with c (over_at j) goes i)
      end_now i low = elim (cases_Bool (is_waiting (stage_of c i))) [
        | inl waits ↦
            (passed.passed i low (open_is i low ∙ waits)).end
            ∙ ap Some (sym (cond-true (is_waiting (stage_of c i)) (goes i + ticks_of c.inst i) (over_at j i) waits))
        | inr begun ↦
            passed.others i (open_is i low ∙ begun) ∙ end_is i low
            ∙ cond-false (is_waiting (stage_of c i)) None (Some (over_at j i)) begun
            ∙ ap Some (sym (cond-false (is_waiting (stage_of c i)) (goes i + ticks_of c.inst i) (over_at j i) begun))
      ]

      same_some : (o : Option ℕ) (x y : ℕ) → o ≡ Some x → o ≡ Some y → x ≡ y
      same_some o x y one other = cc

      pub gone_on : AreGoneOn c (over_at j) goes
      gone_on = record {
        each_one = λ i left moment.
            let is = passed.passed i left.task (open_is i left.task ∙ ap is_waiting left.waits) in
            let first_is = start_is i left.task in (
              λ le. let may : MayBy c.inst c.plan (slice_index old.starts.items i) new.ends.items i moment = (is.start moment).0 le in record {
                now = omega (arith, may.from, first_is);
                free = omega (arith, may.from, first_is);
                clear = λ k leads. may.clear k (end_with c (over_at j) goes k) leads (end_now k leads.leader);
              },
              λ may. (is.start moment).1 (record {
                from = omega (arith, may.now, may.free, first_is);
                clear = λ k end leads e.
                    let same = same_some (end_in new.ends.items k) end (end_with c (over_at j) goes k) e (end_now k leads.leader) in
                    subst (λ (t : ℕ). t + gap c.inst c.plan k i ≤ moment) (sym same) (may.clear k leads);
              }),
            );
      }
