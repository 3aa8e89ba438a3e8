use Rattle.std.proofs.Common.{◌≡◌, ℕ, ◌+◌, ◌<◌, List, [], ◌∷◌, ◌++◌, length, get_or, map, take, All, ap, ap₂, sym, ◌∙◌, subst, arith}
use Rattle.std.proofs.lemmas.Grind.{common_steps}
use Rattle.std.proofs.lemmas.List.{map_push, take_more}
use Rattle.std.proofs.lemmas.List.Elements.{All-push}
use Rattle.qc_sheet.specs.declared.entry.Entry.{Entry}
use Rattle.qc_sheet.specs.Entries.{IsEntry}
use Rattle.qc_sheet.proofs.entry.entries_of.Goals as goal

-- the entry of one move more
one_more : (before after : List Entry) (e : Entry) (numbers : List ℕ) (i : ℕ) → i < length numbers → after ≡ before ++ e ∷ []
    → e.number ≡ get_or numbers i 0 → map (λ (e : Entry). e.number) before ≡ take i numbers → map (λ (e : Entry). e.number) after ≡ take (i + 1) numbers
one_more before after e numbers i low pushed is so_far =
    ap (map (λ (e : Entry). e.number)) pushed ∙ map_push (λ (e : Entry). e.number) before e
    ∙ ap₂ (λ (xs : List ℕ) (n : ℕ). xs ++ n ∷ []) so_far is ∙ sym (take_more numbers i 0 low)

pub loop-number-preserved : goal.loop-number-preserved
loop-number-preserved c = record {
  numbers =
      one_more c.loop-number.entries.items _ c.of.result c.args.numbers.now c.loop-number.number-index c.loop-number-test.true
      c.in_ok-push.ensures.items c.of.ensures.number c.loop-number.invariant.numbers;
  entries =
      subst (All (IsEntry c.args.rows.now c.args.table.now)) (sym c.in_ok-push.ensures.items)
      (All-push (IsEntry c.args.rows.now c.args.table.now) c.loop-number.entries.items c.of.result c.loop-number.invariant.entries c.of.ensures.entry);
}

pub returns-clause-numbers : goal.returns-clause-numbers
returns-clause-numbers c = grind (arith, common_steps)

pub returns-clause-entries : goal.returns-clause-entries
returns-clause-entries c = grind (arith, common_steps)
