-- Every feasible schedule moves safely.
use Rattle.std.proofs.Common.{◌≡◌, ℕ, ◌<◌, ℤ, List, length, refl, ap}
use Rattle.qc_model.specs.declared.schedule.Slot.{Slot}
use Rattle.qc_model.specs.Instance.{HasValidCranes, InstanceView}
use Rattle.qc_model.specs.Motion.{IsFloor, scaled}
use Rattle.qc_model.specs.Rules.{Feasible}
use Rattle.qc_model.proofs.Levels.{berths_of}
use Rattle.qc_model.proofs.Places.{AreLow, Term, floor_exists, floor_unique, greatest_exists, term_place}
use Rattle.qc_model.proofs.Places.Term.{berth, floor, task}
use Rattle.qc_model.proofs.Standing.{stand_safely}
use Rattle.qc_freemove.specs.FreeMotion.{FreeLowPlace, IsFreePlace, IsFreeSafe, IsFreeSafeBy, parts_off}
use Rattle.qc_freemove.specs.FreeMotion.FreeLowPlace.{of_berth, of_floor, of_task}
use Rattle.qc_freemove.proofs.FreeLevels.{free_visits}

module _ (inst : InstanceView) (sched : List Slot) (d : ℕ) where
  abbrev off : ℕ → ℕ → ℕ
  off i m = parts_off inst sched i m d

  low : (k m : ℕ) (x : ℤ) → IsFloor inst sched k x → AreLow inst sched k x d off m (FreeLowPlace inst sched k m d)
  low k m x f = record { place_of = place_of; term_of = term_of }
    where
      place : Term inst sched k → ℤ
      place = term_place inst sched k x d off m

      place_of : (t : Term inst sched k) → FreeLowPlace inst sched k m d (place t)
      place_of (task i there below) = of_task i there below
      place_of (berth v below) = of_berth v below
      place_of floor = of_floor x f

      term_of : (y : ℤ) → FreeLowPlace inst sched k m d y → (t : Term inst sched k) × (y ≡ place t)
      term_of _ (of_task i there below) = (task i there below, refl)
      term_of _ (of_berth v below) = (berth v below, refl)
      term_of _ (of_floor y g) = (floor, ap (scaled inst d) (floor_unique inst sched k y x g f))

  safe_by : HasValidCranes inst → Feasible inst sched → IsFreeSafeBy inst sched d
  safe_by cranes feasible =
      let stand = stand_safely inst sched d off (free_visits inst sched feasible d) feasible
      (berths_of inst sched feasible cranes d) (λ k m. FreeLowPlace inst sched k m d) low in
      record {
        somewhere = λ k m low _. stand.somewhere k m low;
        margin = λ v w m p q lower high _. stand.margin v w m p q lower high;
        at_task = stand.at_task;
        at_berth = λ k m p low _. stand.at_berth k m p low;
        speed = λ k m p q low _. stand.speed k m p q low;
      }

-- each crane has a place
pub free_place_exists : (inst : InstanceView) (sched : List Slot) (k m d : ℕ) → k < length inst.cranes
    → (p : ℤ) × IsFreePlace inst sched k m d p
free_place_exists inst sched k m d is_crane =
    let bottom = floor_exists inst sched k is_crane in
    greatest_exists inst sched k bottom.0 d (off inst sched d) m (FreeLowPlace inst sched k m d)
    (low inst sched d k m bottom.0 bottom.1)

pub free_safe : (inst : InstanceView) (sched : List Slot) → HasValidCranes inst → Feasible inst sched
    → IsFreeSafe inst sched
free_safe inst sched cranes feasible d _ = safe_by inst sched d cranes feasible
