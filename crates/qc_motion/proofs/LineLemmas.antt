-- The lines of one crane more.
use Rattle.std.proofs.Common.{◌≡◌, ℕ, ◌+◌, ◌<◌, ◌≤◌, ◌⊎◌, inl, inr, List, [], ◌∷◌, ◌++◌, length, get_or, Result, Ok, Err, refl, ap, sym, subst, ◌∙◌, arith, IsErr, slice_index_or}
use Rattle.std.proofs.Math.Nat.{eq-or-lt_of_le}
use Rattle.std.proofs.Math.Seq.{get_or-append_seam}
use Rattle.std.proofs.lemmas.List.{append-nil, get_or_append_left, get_or_read, length-append}
use Rattle.std.proofs.lemmas.Grind.{flat_map-append}
use Rattle.std.specs.Prelude.{⊤}
use Rattle.std.specs.List.{flat_map, zip}
use Rattle.qc_io.specs.declared.writing.WriteFault.{WriteFault}
use Rattle.qc_io.specs.Outside.{View}
use Rattle.qc_io.specs.Writes.{Writes}
use Rattle.qc_io.proofs.WritesLemmas.{writes_then, zip-push}
use Rattle.qc_model.specs.declared.crane.Crane.{Crane}
use Rattle.qc_model.specs.Instance.{no_crane}
use Rattle.qc_motion.specs.CraneLines.{AreOfFirst, WritesCranes, crane_line, crane_lines}

-- what holds of each track holds of each with one more
pub each_more : {P : Type 0} (Is : ℕ → List P → Type 0) (tracks : List (List P)) (points : List P)
    → ((k : ℕ) → k < length tracks → Is k (slice_index_or tracks k [])) → Is (length tracks) points
    → (k : ℕ) → k < length (tracks ++ points ∷ []) → Is k (slice_index_or (tracks ++ points ∷ []) k [])
each_more Is tracks points each is k below =
    by_place (eq-or-lt_of_le (omega (arith, below, length-append tracks (points ∷ []))))
  where
    by_place : (k ≡ length tracks) ⊎ (k < length tracks) → Is k (slice_index_or (tracks ++ points ∷ []) k [])
    by_place (inl e) =
        subst (λ (n : ℕ). Is n (slice_index_or (tracks ++ points ∷ []) n [])) (sym e)
        (subst (Is (length tracks)) (sym (get_or-append_seam tracks points [] [])) is)
    by_place (inr before) =
        subst (Is k) (sym (get_or_append_left tracks (points ∷ []) [] k before)) (each k before)

module _ {P : Type 0} (text : P → List ℕ) where
  lines_push : (cranes : List Crane) (tracks : List (List P)) (points : List P)
      → length tracks < length cranes
      → crane_lines text cranes (tracks ++ points ∷ [])
      ≡ crane_lines text cranes tracks ++ crane_line text (get_or cranes (length tracks) no_crane).name points
  lines_push cranes tracks points low =
      let line = λ (l : Crane × List P). crane_line text l.0.name l.1 in
      let here : Crane × List P = (get_or cranes (length tracks) no_crane, points) in
      ap (flat_map line) (zip-push cranes tracks no_crane points low)
      ∙ flat_map-append line (zip cranes tracks) (here ∷ [])
      ∙ ap (λ (t : List ℕ). crane_lines text cranes tracks ++ t) (append-nil (line here))

  no_lines : (cranes : List Crane) → [] ≡ crane_lines text cranes []
  no_lines [] = refl
  no_lines (c ∷ cs) = refl

-- the lines of the first k cranes were written, or the last of them was cut
pub record WritesFirst {P : Type 0} (text : P → List ℕ) (Is : ℕ → List P → Type 0) (cranes : List Crane)
    (before now : View) (k : ℕ) (result : Result ⊤ WriteFault) : Type 0 where
  pub tracks : List (List P)
  pub are : AreOfFirst Is cranes tracks
  pub count : length tracks ≡ k
  pub writes : Writes before now (crane_lines text cranes tracks) result

-- and that of crane k, which was read from these cranes, with its points as they were read
module _ {P : Type 0} {text : P → List ℕ} {Is : ℕ → List P → Type 0} {cranes : List Crane} {before now : View} {k : ℕ}
    (first : WritesFirst text Is cranes before now k (Ok tt))
    {listed : List Crane} (same : listed ≡ cranes) (low : k < length listed)
    {here : Crane} (is_here : here ≡ slice_index_or listed k here)
    {points shown : List P} (are_shown : shown ≡ points) (is : Is k points) where
  fewer : length first.tracks < length cranes
  fewer = omega (arith, low, first.count, ap length same)

  its_own : here ≡ get_or cranes (length first.tracks) no_crane
  its_own = get_or_read listed k here low is_here no_crane
      ∙ ap (λ (cs : List Crane). slice_index_or cs k no_crane) same
      ∙ ap (λ (n : ℕ). get_or cranes n no_crane) (sym first.count)

  text_more : crane_lines text cranes first.tracks ++ crane_line text here.name shown
      ≡ crane_lines text cranes (first.tracks ++ points ∷ [])
  text_more =
      ap (λ (ps : List P). crane_lines text cranes first.tracks ++ crane_line text here.name ps) are_shown
      ∙ ap (λ (c : Crane). crane_lines text cranes first.tracks ++ crane_line text c.name points) its_own
      ∙ sym (lines_push text cranes first.tracks points fewer)

  pub crane_next : {after : View} (result : Result ⊤ WriteFault)
      → Writes now after (crane_line text here.name shown) result
      → WritesFirst text Is cranes before after (k + 1) result
  crane_next {after} result writes = record {
    tracks = first.tracks ++ points ∷ [];
    are = record {
      few = omega (arith, fewer, length-append first.tracks (points ∷ []));
      each = each_more Is first.tracks points first.are.each (subst (λ (n : ℕ). Is n points) (sym first.count) is);
    };
    count = omega (arith, first.count, length-append first.tracks (points ∷ []));
    writes = subst (λ (t : List ℕ). Writes before after t result) text_more
        (writes_then before now after _ _ result first.writes writes);
  }

  pub crane_cut : {after : View} (result : Result ⊤ WriteFault) → IsErr result
      → {fault : WriteFault} → Writes now after (crane_line text here.name shown) (Err fault)
      → WritesCranes text Is cranes before after result
  crane_cut (Ok u) err writes = absurd (cc err)
  crane_cut (Err other) err writes =
      let next = crane_next (Err other) writes in
      record { tracks = next.tracks; are = next.are; all = tt; writes = next.writes }

module _ {P : Type 0} {text : P → List ℕ} {Is : ℕ → List P → Type 0} {cranes : List Crane} {before : View} where
  pub all_written : {now : View} {k : ℕ} → WritesFirst text Is cranes before now k (Ok tt) → length cranes ≤ k
      → WritesCranes text Is cranes before now (Ok tt)
  all_written first high = record {
    tracks = first.tracks;
    are = first.are;
    all = omega (arith, high, first.count, first.are.few);
    writes = first.writes;
  }

  pub none_written : Writes before before [] (Ok tt) → WritesFirst text Is cranes before before 0 (Ok tt)
  none_written writes = record {
    tracks = [];
    are = record { few = omega arith; each = λ k below. absurd (omega (arith, below)) };
    count = refl;
    writes = subst (λ (t : List ℕ). Writes before before t (Ok tt)) (no_lines text cranes) writes;
  }
