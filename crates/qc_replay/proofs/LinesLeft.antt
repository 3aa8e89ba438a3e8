-- With each line that is accepted fewer may still come.
use Rattle.std.proofs.Common.{◌≡◌, ℕ, ◌+◌, ◌-◌, ◌*◌, ◌<◌, ◌≤◌, ◌==◌, ◌&&◌, Bool, true, false, cond, List, [], ◌∷◌, ◌++◌, length, map, refl, ap, sym, subst, ◌∙◌, arith, Ok}
use Rattle.std.proofs.lemmas.List.{length-append, length-map}
use Rattle.std.proofs.lemmas.List.FromFn.{length-range_with_len}
use Rattle.qc_num.specs.declared.bound.Bound.{Bound}
use Rattle.qc_num.specs.Bounds.{is_bound}
use Rattle.qc_num.proofs.ReadingLemmas.{same_ok}
use Rattle.qc_close.specs.Model.{Decision, InstanceView, crane_numbers, most_branchings, most_cranes, seen}
use Rattle.qc_model.specs.declared.decision.Decision.TheVariants as decide
use Rattle.qc_model.proofs.SeenLemmas.{seen-crane_count}
use Rattle.qc_tree.specs.declared.line.Line.{Line}
use Rattle.qc_tree.specs.declared.line.Line.TheVariants as line
use Rattle.qc_tree.specs.LineIn.{Listed}
use Rattle.qc_tree.specs.Trees.{Sign, branches, children, leaf, on_pair, on_task}
use Rattle.qc_tree.specs.declared.fault.TreeKind.TheVariants as kind
use Rattle.qc_replay.specs.Read.{with_line}
use Rattle.qc_replay.specs.Stages.{lines_left}
use Rattle.qc_replay.specs.Walk.{Coming, Reading, at_due, down, end, node, title, up}
use Rattle.qc_replay.proofs.ReadLemmas.{known_due, reading}
use Rattle.qc_replay.proofs.SignLemmas.{accepted, counts, failed, tested}

-- a node has as many children as there are cranes, or two
children_few : (inst : InstanceView) (ds : List Decision) (sign : Sign) → length inst.cranes ≤ most_cranes
    → length (children inst ds sign) ≤ most_cranes * counts sign
children_few inst ds (leaf shows) few = omega arith
children_few inst ds (on_task j) few =
    omega (
      arith,
      few,
      length-map (crane_numbers inst) (λ k. decide.Assign j k ∷ ds),
      length-range_with_len 0 (length inst.cranes),
    )
children_few inst ds (on_pair i j) few = omega arith

left_behind : (n c l : ℕ) (some : Bool) → (some ≡ true → n < most_branchings) → c ≤ most_cranes * cond some 1 0
    → c + l + most_cranes * (most_branchings - (n + cond some 1 0)) < l + 1 + most_cranes * (most_branchings - n)
left_behind n c l true few low = omega (arith, few refl, low)
left_behind n c l false few low = omega (arith, low)

module _ (inst : InstanceView) (cranes : length inst.cranes ≤ most_cranes) (more : List Coming) (n : ℕ) (b : Bound)
    (now : Reading) where
  came_on : (x : Bound) → reading more n x ≡ now → lines_left now < length more + 1 + most_cranes * (most_branchings - n)
  came_on x e = subst (λ (r : Reading). lines_left r < length more + 1 + most_cranes * (most_branchings - n)) e (omega arith)

  fewer_at : (c : Coming) (l : Line) (list : List ℕ) → at_due inst (reading (c ∷ more) n b) c l list ≡ Ok now
      → lines_left now < length more + 1 + most_cranes * (most_branchings - n)
  fewer_at title line.Title list e = came_on b (same_ok e)
  fewer_at title line.FreeTitle list e = came_on b (same_ok e)
  fewer_at up line.Up list e = came_on b (same_ok e)
  fewer_at down line.Down list e = came_on b (same_ok e)
  fewer_at end (line.End m x) list e =
      came_on b (same_ok (tested ((m == n) && is_bound x b) kind.Counts (λ _. Ok (reading more n b)) now e).1)
  fewer_at (node d ds) l list e =
      let i = seen inst d in
      let a = accepted i d ds more n b l list now e in
      let cs = children i ds a.sign in
      let few = children_few i ds a.sign (omega (arith, seen-crane_count inst d, cranes)) in
      let count : length (map (node d) cs ++ more) ≡ length cs + length more =
      omega (arith, length-append (map (node d) cs) more, length-map cs (node d)) in
      subst (λ (r : Reading). lines_left r < length more + 1 + most_cranes * (most_branchings - n)) (sym a.leads)
      (omega (arith, count, left_behind n (length cs) (length more) (branches a.sign) a.few few))
  fewer_at title l list e = failed kind.Place now e
  fewer_at up l list e = failed kind.Place now e
  fewer_at down l list e = failed kind.Place now e
  fewer_at end l list e = failed kind.Place now e

pub fewer_left : (inst : InstanceView) → length inst.cranes ≤ most_cranes → (r now : Reading) (seen_line : Listed)
    → with_line inst r seen_line ≡ Ok now → lines_left now < lines_left r
fewer_left inst cranes r now seen_line e =
    by_coming r.coming refl
  where
    by_coming : (coming : List Coming) → r.coming ≡ coming → lines_left now < lines_left r
    by_coming [] is = failed kind.After now (sym (ap (λ c. with_line inst (record r { coming = c }) seen_line) is) ∙ e)
    by_coming (c ∷ more) is =
        let leads = known_due inst (reading (c ∷ more) r.branched r.bound) c seen_line.line seen_line.list now
        (sym (ap (λ cs. with_line inst (record r { coming = cs }) seen_line) is) ∙ e) in
        let here = fewer_at inst cranes more r.branched r.bound now c seen_line.line seen_line.list leads.1 in
        omega (arith, here, ap length is)
