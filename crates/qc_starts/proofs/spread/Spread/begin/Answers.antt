use Rattle.std.proofs.Common.{◌≡◌, ℕ, [], ◌∷◌, ◌++◌, ◌<◌, Bool, true, false, List, drop, length, refl, take, ap, sym, subst, ◌∙◌, arith, slice_index_or, slice_set}
use Rattle.std.proofs.lemmas.List.{get_or-set_other, get_or-set_same, get_or-take, take_at}
use Rattle.std.proofs.Math.ListN.{length-set}
use Rattle.qc_starts.specs.Noting.{marks}
use Rattle.qc_starts.specs.Queue.{AreListed}
use Rattle.qc_starts.specs.Spread.{IsOnly}
use Rattle.qc_starts.specs.Values.{start_at}
use Rattle.qc_starts.proofs.NotingLemmas.{all_clear, marks_none}
use Rattle.qc_starts.proofs.QueueLemmas.{listed_more, listed_none}
use Rattle.qc_starts.proofs.spread.Spread.begin.Goals as goal

-- what a vector holds once its slice is filled
filled : {A : Type 0} (n : ℕ) (news olds : List A) → length news ≡ n
    → take n (news ++ drop (length news) olds) ≡ news
filled n news olds same = take_at news (drop (length news) olds) n same

pub push_reserved-requires : goal.push_reserved-requires
push_reserved-requires c = omega (arith, c.clear-3.ensures.len, c.clear-3.ensures.capacity, c.requires.room, c.requires.root)

pub returns-clause-begun : goal.returns-clause-begun
returns-clause-begun c =
    let noted_size : length c.clear.new.marks ≡ c.args.self.now.values.noted.len = omega (arith, c.clear.auto.marks, c.deref_mut.ensures.len) in
    let olds_size : length c.copy_front.new.to ≡ c.args.self.now.olds.len = omega (arith, c.copy_front.auto.to, c.deref_mut-2.ensures.len) in
    let noted = filled _ c.clear.new.marks c.args.self.now.values.noted.items noted_size in
    let olds = filled _ c.copy_front.new.to c.args.self.now.olds.items olds_size in
    let cleared = c.clear-2.new.marks in
    let size : length cleared ≡ c.args.self.now.pending.len = omega (arith, c.clear-2.auto.marks, c.deref_mut-3.ensures.len) in
    record {
      cells = refl;
      trail = refl;
      noted = omega (arith, ap (length {A = Bool}) noted, noted_size);
      none = ap marks noted ∙ marks_none c.clear.new.marks c.clear.ensures;
      clear = subst (λ (xs : List Bool). (k : ℕ) → k < length xs → slice_index_or xs k true ≡ false) (sym noted) c.clear.ensures;
      size = omega (arith, ap (length {A = ℕ}) olds, olds_size);
      olds = λ j low. ap (λ (xs : List ℕ). start_at xs j) (olds ∙ c.copy_front.ensures)
          ∙ get_or-take _ c.args.self.now.values.cells j 0 (omega (arith, low, ap (length {A = ℕ}) olds, c.copy_front.auto.to));
      only = subst (λ (xs : List Bool). IsOnly (slice_set xs c.args.root true) (length c.args.self.now.pending.items) c.args.root)
          (sym (filled _ cleared c.args.self.now.pending.items size)) (record {
            size = omega (arith, length-set cleared c.args.root true, size);
            first = get_or-set_same cleared c.args.root true false (omega (arith, size, c.requires.root));
            others = λ j other. get_or-set_other cleared c.args.root j true false other ∙ all_clear cleared c.clear-2.ensures j;
          });
    }

pub returns-clause-queued : goal.returns-clause-queued
returns-clause-queued c =
    let cleared = c.clear-2.new.marks in
    let size : length cleared ≡ c.args.self.now.pending.len = omega (arith, c.clear-2.auto.marks, c.deref_mut-3.ensures.len) in
    let pending = sym (filled _ cleared c.args.self.now.pending.items size) in
    record {
      listed = subst (λ (xs : List Bool). AreListed (slice_set xs c.args.root true) c.push_reserved.new.self.items) pending
          (subst (AreListed (slice_set cleared c.args.root true))
          (sym (c.push_reserved.ensures.items ∙ ap (λ (xs : List ℕ). xs ++ c.args.root ∷ []) c.clear-3.ensures.items))
          (listed_more cleared [] (listed_none cleared c.clear-2.ensures) c.args.root
          (omega (arith, size, c.requires.root)) (all_clear cleared c.clear-2.ensures c.args.root)));
      room = omega (
        arith,
        ap (λ (xs : List Bool). length (slice_set xs c.args.root true)) pending,
        length-set cleared c.args.root true,
        size,
        c.requires.room,
        c.push_reserved.ensures.capacity,
        c.clear-3.ensures.capacity,
      );
    }
