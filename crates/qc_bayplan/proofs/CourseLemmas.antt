-- The counts of a course behind a segment.
use Rattle.std.proofs.Common.{◌≡◌, ◌+◌, ◌-◌, ◌≤◌, ℕ, Bool, true, false, cond, Option, None, Some, Result, Ok, refl, subst, arith}
use Rattle.std.specs.Prelude.{⊤}
use Rattle.qc_num.specs.Reading.{◌>>=◌, require}
use Rattle.qc_num.proofs.ReadingLemmas.{same_ok}
use Rattle.qc_edifact.specs.Cuts.{Elements, part_of}
use Rattle.qc_bayplan.specs.Courses.{course_behind, has_container, has_text, is_container, is_number, is_other, is_partial, one_if, opened, others_at, with_container}
use Rattle.qc_bayplan.specs.Taken.{HasCounts, HasRisen}
use Rattle.qc_bayplan.specs.declared.course.Course.{Course}
use Rattle.qc_bayplan.specs.declared.course.Place.{Place}
use Rattle.qc_bayplan.specs.declared.fault.BayPlanKind.{BayPlanKind}
use Rattle.qc_bayplan.specs.declared.stage.Tag.{Tag}
use Rattle.qc_bayplan.specs.declared.stage.Tag.TheVariants as tag
use Rattle.std.specs.Prelude.{codes, not}

one_if-small : (test : Bool) → one_if test ≤ 1
one_if-small true = omega arith
one_if-small false = omega arith

others-small : (place : Option Place) → others_at place ≤ 1
others-small None = omega arith
others-small (Some place) = one_if-small (is_other place.held)

-- a course that a test let through
required : (P : Course → Type 0) (test : Bool) (why : BayPlanKind) (made behind : Course) → (require test why >>= λ (u : ⊤). Ok made) ≡ Ok behind → P made → P behind
required P true why made behind e p = subst P (same_ok e) p
required P false why made behind e p = cc e

-- and one that a test chose
chosen : (P : Course → Type 0) (test : Bool) (a b : Course) → P a → P b → P (cond test a b)
chosen P true a b p q = p
chosen P false a b p q = q

chosen-ok : (P : Course → Type 0) (test : Bool) (a b : Result Course BayPlanKind) (behind : Course)
    → (a ≡ Ok behind → P behind) → (b ≡ Ok behind → P behind) → cond test a b ≡ Ok behind → P behind
chosen-ok P true a b behind p q e = p e
chosen-ok P false a b behind p q e = q e

-- a course with the same counts, one whose place was closed, and one with one more that is bundled
module _ (number : ℕ) (course behind : Course) (has : HasCounts number course) (first : behind.first ≡ course.first) (unnamed : behind.unnamed ≡ course.unnamed) where
  kept : behind.bundled ≡ course.bundled → behind.other ≡ course.other → HasRisen number behind
  kept bundled other = record {
    first = omega (arith, has.first);
    unnamed = omega (arith, has.unnamed);
    bundled = omega (arith, has.bundled);
    other = omega (arith, has.other);
  }

  closes : behind.bundled ≡ course.bundled → behind.other ≡ course.other + others_at course.place → HasRisen number behind
  closes bundled other = record {
    first = omega (arith, has.first);
    unnamed = omega (arith, has.unnamed);
    bundled = omega (arith, has.bundled);
    other = omega (arith, has.other, others-small course.place);
  }

  bundles : behind.bundled ≡ course.bundled + 1 → behind.other ≡ course.other → HasRisen number behind
  bundles bundled other = record {
    first = omega (arith, has.first);
    unnamed = omega (arith, has.unnamed);
    bundled = omega (arith, has.bundled);
    other = omega (arith, has.other);
  }

contains : (number : ℕ) (course behind : Course) (place : Option Place) → HasCounts number course → with_container course place ≡ Ok behind → HasRisen number behind
contains number course behind None has e = cc e
contains number course behind (Some place) has e =
    chosen-ok (HasRisen number) (has_container place.held) _ _ behind
    (λ more. subst (HasRisen number) (same_ok more) (bundles number course _ has refl refl refl refl))
    (λ one. subst (HasRisen number) (same_ok one) (kept number course _ has refl refl refl refl)) e

-- each count rises by one at most
pub risen : (number : ℕ) (t : Tag) (segment : Elements) (course behind : Course) → HasCounts number course → course_behind number t segment course ≡ Ok behind
    → HasRisen number behind
risen number tag.Interchange segment course behind has e = subst (HasRisen number) (same_ok e) (kept number course (opened course) has refl refl refl refl)
risen number tag.Message segment course behind has e =
    required (HasRisen number) (has_text segment 2 0 (codes "BAPLIE")) _ _ behind e
    (record { first = omega arith; unnamed = has.unnamed; bundled = omega (arith, has.bundled); other = omega (arith, has.other) })
risen number tag.Kind segment course behind has e =
    required (HasRisen number) (not (is_partial segment)) _ course behind e (kept number course course has refl refl refl refl)
risen number tag.Location segment course behind has e =
    subst (HasRisen number) (same_ok e) (chosen (HasRisen number) (has_text segment 1 0 (codes "147")) _ course
    (closes number course _ has refl refl refl refl) (kept number course course has refl refl refl refl))
risen number tag.Equipment segment course behind has e =
    chosen-ok (HasRisen number) (is_container segment) _ _ behind (contains number course behind course.place has)
    (λ other. subst (HasRisen number) (same_ok other) (kept number course _ has refl refl refl refl)) e
risen number tag.MessageEnd segment course behind has e =
    required (HasRisen number) (is_number (number + 1 - course.first) (part_of segment 1 0)) _ _ behind e (closes number course _ has refl refl refl refl)
risen number tag.InterchangeEnd segment course behind has e =
    required (HasRisen number) (is_number 1 (part_of segment 1 0)) _ _ behind e (kept number course _ has refl refl refl refl)
risen number tag.Barred segment course behind has e = subst (HasRisen number) (same_ok e) (kept number course course has refl refl refl refl)
risen number tag.Other segment course behind has e = subst (HasRisen number) (same_ok e) (kept number course course has refl refl refl refl)
