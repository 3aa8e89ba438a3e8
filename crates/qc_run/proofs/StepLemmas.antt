-- Steps that read, one after the other: what is due of both.
use Rattle.std.proofs.Common.{◌≡◌, ◌⊎◌, ℕ, List, Option, None, Some, Result, Ok, Err, refl, sym, inl, inr, ap, subst, ◌∙◌, IfErr, IfSome, IsErrAnd, IsSome, length, nat_le, arith}
use Rattle.std.proofs.lemmas.Bool.{cond_both}
use Rattle.qc_num.specs.Reading.{◌>>=◌, with_fault}
use Rattle.qc_io.specs.Outside.{Files, View}
use Rattle.qc_bayplan.specs.Reading.{bay_plan_in}
use Rattle.qc_bayplan.specs.declared.fault.BayPlanFault.{BayPlanFault}
use Rattle.qc_bayplan.specs.declared.plan.Which.{Which}
use Rattle.qc_bayplan.specs.declared.plan.Which.TheVariants.{Arrival, Departure}
use Rattle.qc_gantt.specs.Plan.{plan_in}
use Rattle.qc_model.specs.declared.turn.Turn.{Turn}
use Rattle.qc_model.specs.Instance.{InstanceView, with_turn}
use Rattle.qc_tree.specs.declared.fault.TreeFault.{TreeFault}
use Rattle.qc_ship.specs.Ship.{ShipView}
use Rattle.qc_ship.specs.declared.fault.ShipFault.{ShipFault}
use Rattle.qc_ship.specs.ShipFile.{ship_file}
use Rattle.qc_stow.specs.Stow.{moves_in}
use Rattle.qc_stow.specs.declared.row.Row.{Row}
use Rattle.qc_tasks.specs.Rings.{tasks_due}
use Rattle.qc_run.specs.declared.inputs.Input.{Input}
use Rattle.qc_run.specs.declared.inputs.Input.TheVariants as input
use Rattle.qc_run.specs.declared.refusal.Refusal.{Refusal}
use Rattle.qc_run.specs.declared.refusal.Refusal.TheVariants as refusal
use Rattle.qc_run.specs.declared.refusal.Stop.{Stop}
use Rattle.qc_run.specs.declared.refusal.Stop.TheVariants as stop
use Rattle.qc_run.specs.Inputs.{IsWhole, Moving, Names, bay_plans_named, input_of, name_of}
use Rattle.qc_ship.specs.Keys.{fault}
use Rattle.qc_ship.specs.declared.fault.Key.TheVariants as key
use Rattle.qc_ship.specs.declared.fault.ShipKind.TheVariants as kind
use Rattle.qc_run.specs.Due.{Contents, without, bay_plan_due, file_limit, input_due, instance_due, job_due, moves_due, order_due, contents_in, schedule_due, ship_due, within_limit}
use Rattle.qc_run.specs.Steps.{ComesTo, IsDue, IsStep, Stops}
use Rattle.qc_run.proofs.DueLemmas.{stops_from}

-- without a file that it reads a step finds it unread, and without another it comes to the same
abbrev pub Steady : {A : Type 0} → (Contents → Result A Refusal) → Type 0
Steady step = (file : Input) (contents : Contents) → (step (without file contents) ≡ step contents) ⊎ (step (without file contents) ≡ Err (refusal.ReadFault file))

module _ {A B : Type 0} (step : Contents → Result A Refusal) (next : A → Contents → Result B Refusal) (names : Names) where
  -- the second step comes to what both do, where the first came through
  pub comes_then : (files : Option Files) (x : A) (r : Result B Refusal) → ComesTo step names files (Ok x) → ComesTo (next x) names files r → ComesTo (λ contents. step contents >>= λ a. next a contents) names files r
  comes_then None x r first second = tt
  comes_then (Some held) x r first second = ap (λ (s : Result A Refusal). s >>= λ a. next a (contents_in held names)) first ∙ second

  -- what the first step stopped for is what both stop for
  comes_stopped : (files : Option Files) (why : Refusal) → ComesTo step names files (Err why) → ComesTo (λ contents. step contents >>= λ a. next a contents) names files (Err why)
  comes_stopped None why h = tt
  comes_stopped (Some held) why h = ap (λ (s : Result A Refusal). s >>= λ a. next a (contents_in held names)) h

  unread_stopped : (files : Option Files) (file : Input) → IfSome files (λ held. step (without file (contents_in held names)) ≡ Err (refusal.ReadFault file))
      → IfSome files (λ held. (step (without file (contents_in held names)) >>= λ a. next a (without file (contents_in held names))) ≡ Err (refusal.ReadFault file))
  unread_stopped None file h = tt
  unread_stopped (Some held) file h = ap (λ (s : Result A Refusal). s >>= λ a. next a (without file (contents_in held names))) h

  stopped : (before after : View) (why : Stop) → Stops step names before after why → Stops (λ contents. step contents >>= λ a. next a contents) names before after why
  stopped before after stop.OutOfMemory h = h
  stopped before after (stop.Refused refusal.Usage) h = h
  stopped before after (stop.Refused (refusal.ReadFault file)) h = record { cause = h.cause; turn = unread_stopped before.files file h.turn }
  stopped before after (stop.Refused why) h = (h.0, comes_stopped before.files why h.1)

  -- a first step that stopped
  pub step_stops : {before after : View} {why : Stop} {out : Result B Stop} → IsStep step names before after (Err why) → IsErrAnd out (λ e. e ≡ why) → IsStep (λ contents. step contents >>= λ a. next a contents) names before after out
  step_stops {out = Ok y} first handed = absurd handed
  step_stops {before = before} {after = after} {why = why} {out = Err e} first handed = rw handed (record {
    ok = tt;
    err = stopped before after why first.err;
    may = first.may;
    files = first.files;
    made = first.made;
    faults = first.faults;
    read_faults = first.read_faults;
  })

  -- what the second step stopped for, where the first came through
  unread_then : Steady step → (files : Option Files) (x : A) (file : Input) → ComesTo step names files (Ok x)
      → IfSome files (λ held. next x (without file (contents_in held names)) ≡ Err (refusal.ReadFault file))
      → IfSome files (λ held. (step (without file (contents_in held names)) >>= λ a. next a (without file (contents_in held names))) ≡ Err (refusal.ReadFault file))
  unread_then steady None x file first second = tt
  unread_then steady (Some held) x file first second =
      let less = without file (contents_in held names) in
      elim (steady file (contents_in held names)) [
        | inl same ↦ ap (λ (s : Result A Refusal). s >>= λ a. next a less) (same ∙ first) ∙ second
        | inr unread ↦ ap (λ (s : Result A Refusal). s >>= λ a. next a less) unread
      ]

  then_stopped : Steady step → (before after : View) (x : A) (why : Stop) → ComesTo step names before.files (Ok x)
      → Stops (next x) names before after why → Stops (λ contents. step contents >>= λ a. next a contents) names before after why
  then_stopped steady before after x stop.OutOfMemory first h = h
  then_stopped steady before after x (stop.Refused refusal.Usage) first h = h
  then_stopped steady before after x (stop.Refused (refusal.ReadFault file)) first h =
      record { cause = h.cause; turn = unread_then steady before.files x file first h.turn }
  then_stopped steady before after x (stop.Refused why) first h = (h.0, comes_then before.files x (Err why) first h.1)

  -- a step that came through, and then a second that came through or stopped
  pub step_then : {before mid after : View} {x : A} {out : Result B Stop} → Steady step → IsStep step names before mid (Ok x)
      → IsStep (next x) names mid after out → IsStep (λ contents. step contents >>= λ a. next a contents) names before after out
  step_then {before = before} {mid = mid} {after = after} {x = x} {out = Ok y} steady first second = record {
    ok = (
      second.ok.0 ∙ first.ok.0,
      comes_then before.files x (Ok y) first.ok.1
          (subst (λ (f : Option Files). ComesTo (next x) names f (Ok y)) first.files second.ok.1),
    );
    err = tt;
    may = tt;
    files = second.files ∙ first.files;
    made = second.made ∙ first.made;
    faults = second.faults ∙ first.faults;
    read_faults = omega (arith, first.read_faults, second.read_faults);
  }
  step_then {before = before} {mid = mid} {after = after} {x = x} {out = Err why} steady first second = record {
    ok = tt;
    err = then_stopped steady before after x why first.ok.1 (stops_from (next x) names before mid after first.files first.ok.0 why second.err);
    may = second.may;
    files = second.files ∙ first.files;
    made = second.made ∙ first.made;
    faults = second.faults ∙ first.faults;
    read_faults = omega (arith, first.read_faults, second.read_faults);
  }

  -- a step that came through, and then what it leads to without a further file
  pub step_same : {before after : View} {x : A} {y : B} → IsStep step names before after (Ok x) → ((held : Files) → next x (contents_in held names) ≡ Ok y)
      → IsStep (λ contents. step contents >>= λ a. next a contents) names before after (Ok y)
  step_same {before = before} {x = x} {y = y} first same = record {
    ok = (first.ok.0, comes_then before.files x (Ok y) first.ok.1 (everywhere before.files));
    err = tt;
    may = tt;
    files = first.files;
    made = first.made;
    faults = first.faults;
    read_faults = first.read_faults;
  } where
    everywhere : (files : Option Files) → ComesTo (next x) names files (Ok y)
    everywhere None = tt
    everywhere (Some held) = same held

  -- a step that came through, and then want of memory
  pub step_starved : {before after : View} {x : A} {out : Result B Stop} → IsStep step names before after (Ok x) → IsErrAnd out (λ e. e ≡ stop.OutOfMemory)
      → IsStep (λ contents. step contents >>= λ a. next a contents) names before after out
  step_starved {out = Ok y} first starved = absurd starved
  step_starved {out = Err e} first starved = rw starved (record {
    ok = tt;
    err = first.ok.0;
    may = tt;
    files = first.files;
    made = first.made;
    faults = first.faults;
    read_faults = first.read_faults;
  })

  -- a step that came through, and then a refusal of the ship file that is due of what was read
  pub step_ship : {before after : View} {x : A} {out : Result B Stop} → IsStep step names before after (Ok x) → IsSome names.ship → (why : ShipFault)
      → ((held : Files) → next x (contents_in held names) ≡ Err (refusal.BadShip why)) → IsErrAnd out (λ e. e ≡ stop.Refused (refusal.BadShip why))
      → IsStep (λ contents. step contents >>= λ a. next a contents) names before after out
  step_ship {out = Ok y} first named why due handed = absurd handed
  step_ship {before = before} {x = x} {out = Err e} first named why due handed = rw handed (record {
    ok = tt;
    err = (first.ok.0, comes_then before.files x (Err (refusal.BadShip why)) first.ok.1 (everywhere before.files));
    may = named;
    files = first.files;
    made = first.made;
    faults = first.faults;
    read_faults = first.read_faults;
  }) where
    everywhere : (files : Option Files) → ComesTo (next x) names files (Err (refusal.BadShip why))
    everywhere None = tt
    everywhere (Some held) = due held

-- the order of a ship's tasks is refused for a fault of the ship file, or memory was wanting
module _ {B : Type 0} (ship : ShipView) (rows : List Row) (next : List Row → InstanceView → Contents → Result B Refusal) (names : Names) where
  pub order_stops : {before after : View} {out : Result B Stop} (why : Stop) → IsStep (moves_due ship) names before after (Ok rows) → IsSome names.ship
      → IsDue (order_due ship rows) (Err why) → IsErrAnd out (λ e. e ≡ why)
      → IsStep (λ contents. moves_due ship contents >>= λ rows. order_due ship rows >>= λ inst. next rows inst contents) names before after out
  order_stops stop.OutOfMemory first named due handed = step_starved (moves_due ship) (λ rows contents. order_due ship rows >>= λ inst. next rows inst contents) names first handed
  order_stops {before = before} {after = after} {out = out} (stop.Refused why) first named due handed = by (tasks_due ship rows) refl
    where
      by : (r : Result InstanceView ℕ) → tasks_due ship rows ≡ r → IsStep (λ contents. moves_due ship contents >>= λ rows. order_due ship rows >>= λ inst. next rows inst contents) names before after out
      by (Ok inst) is = absurd (cc (sym due ∙ ap (with_fault (λ k. refusal.BadShip (fault kind.Ring key.Before k))) is))
      by (Err k) is =
          let ring = fault kind.Ring key.Before k in
          let refused : order_due ship rows ≡ Err (refusal.BadShip ring) = ap (with_fault (λ k. refusal.BadShip (fault kind.Ring key.Before k))) is in
          let same : why ≡ refusal.BadShip ring = cc (sym due ∙ refused) in
          step_ship (moves_due ship) (λ rows contents. order_due ship rows >>= λ inst. next rows inst contents) names first named ring
          (λ held. ap (λ (r : Result InstanceView Refusal). r >>= λ inst. next rows inst (contents_in held names)) refused)
          (subst (λ (w : Refusal). IsErrAnd out (λ e. e ≡ stop.Refused w)) same handed)

-- ---- each step is steady

input_steady : (read : Input) → Steady (input_due read)
input_steady input.Ship input.Ship contents = inr refl
input_steady input.Stow input.Stow contents = inr refl
input_steady input.Plan input.Plan contents = inr refl
input_steady input.Tree input.Tree contents = inr refl
input_steady input.Own input.Own contents = inr refl
input_steady input.Log input.Log contents = inr refl
input_steady input.Arrival input.Arrival contents = inr refl
input_steady input.Departure input.Departure contents = inr refl
input_steady input.Past input.Past contents = inr refl
input_steady read file contents = inl refl

pub then_steady : {A B : Type 0} (step : Contents → Result A Refusal) (next : A → Contents → Result B Refusal) → Steady step → ((a : A) → Steady (next a))
    → Steady (λ contents. step contents >>= λ a. next a contents)
then_steady {A = A} step next first second file contents =
    let less = without file contents in
    elim (first file contents) [
      | inl same ↦ rw same (onward (step contents))
      | inr unread ↦ inr (ap (λ (s : Result A Refusal). s >>= λ a. next a less) unread)
    ]
  where
    onward : (r : Result A Refusal) → ((r >>= λ a. next a (without file contents)) ≡ (r >>= λ a. next a contents))
        ⊎ ((r >>= λ a. next a (without file contents)) ≡ Err (refusal.ReadFault file))
    onward (Ok a) = second a file contents
    onward (Err e) = inl refl

same_turn : (file : Input) (contents : Contents) → (without file contents).turn ≡ contents.turn
same_turn input.Ship contents = refl
same_turn input.Stow contents = refl
same_turn input.Plan contents = refl
same_turn input.Tree contents = refl
same_turn input.Own contents = refl
same_turn input.Log contents = refl
same_turn input.Arrival contents = refl
same_turn input.Departure contents = refl
same_turn input.Past contents = refl

pub ship_steady : Steady ship_due
ship_steady = then_steady (input_due input.Ship) (λ bytes _. with_fault refusal.BadShip (ship_file bytes)) (input_steady input.Ship) (λ bytes file contents. inl refl)

pub moves_steady : (ship : ShipView) → Steady (moves_due ship)
moves_steady ship = then_steady (input_due input.Stow) (λ bytes _. with_fault refusal.BadStow (moves_in ship bytes)) (input_steady input.Stow) (λ bytes file contents. inl refl)

pub instance_steady : Steady instance_due
instance_steady =
    then_steady ship_due (λ ship contents. moves_due ship contents >>= λ rows. order_due ship rows >>= λ inst. Ok (with_turn inst contents.turn)) ship_steady
    (λ ship. then_steady (moves_due ship) (λ rows contents. order_due ship rows >>= λ inst. Ok (with_turn inst contents.turn)) (moves_steady ship)
    (λ rows file contents. inl (ap (λ (turn : Turn). order_due ship rows >>= λ inst. Ok (with_turn inst turn)) (same_turn file contents))))

-- a bay plan's file is named, and is read whole
pub plan_named : (which : Which) (asked : Moving) → IsSome (name_of (input_of which) (bay_plans_named asked))
plan_named Arrival asked = refl
plan_named Departure asked = refl

pub plan_whole : (which : Which) (asked : Moving) → IsWhole (input_of which) (bay_plans_named asked)
plan_whole Arrival asked = refl
plan_whole Departure asked = refl

pub plan_steady : (which : Which) → Steady (bay_plan_due which)
plan_steady which = then_steady (input_due (input_of which)) (λ bytes _. with_fault (refusal.BadBayPlan which) (bay_plan_in which bytes)) (input_steady (input_of which)) (λ bytes file contents. inl refl)

-- a fault of a bay plan, whose file was read
pub plan_refused : (which : Which) (asked : Moving) {before after : View} {bytes : List ℕ}
    → IsStep (input_due (input_of which)) (bay_plans_named asked) before after (Ok bytes) → (fault : BayPlanFault) → bay_plan_in which bytes ≡ Err fault
    → IsStep (bay_plan_due which) (bay_plans_named asked) before after (Err (stop.Refused (refusal.BadBayPlan which fault)))
plan_refused which asked {before = before} {bytes = bytes} first fault bad = record {
  ok = tt;
  err = (
    first.ok.0,
    comes_then (input_due (input_of which)) (λ read _. with_fault (refusal.BadBayPlan which) (bay_plan_in which read)) (bay_plans_named asked) before.files bytes
        (Err (refusal.BadBayPlan which fault)) first.ok.1 (told before.files),
  );
  may = plan_named which asked;
  files = first.files;
  made = first.made;
  faults = first.faults;
  read_faults = first.read_faults;
}
  where
    told : (files : Option Files) → IfSome files (λ held. with_fault (refusal.BadBayPlan which) (bay_plan_in which bytes) ≡ Err (refusal.BadBayPlan which fault))
    told None = tt
    told (Some held) = ap (with_fault (refusal.BadBayPlan which)) bad

-- ---- no fault of a tree, of a log or of past tasks comes of the other files

abbrev pub IsEarly : Refusal → Type 0
IsEarly (refusal.BadTree fault) = ⊥
IsEarly (refusal.BadLog fault) = ⊥
IsEarly (refusal.BadPast fault) = ⊥
IsEarly why = Unit {0}

pub input_early : (file : Input) (bytes : Option (List ℕ)) → IfErr (within_limit file bytes) IsEarly
input_early file None = tt
input_early file (Some bytes) =
    cond_both (nat_le (length bytes) file_limit) (Ok bytes) (Err (refusal.TooLarge file)) (λ r. IfErr r IsEarly) (λ _. tt) (λ _. tt)

fault_early : {A E : Type 0} (f : E → Refusal) → ((e : E) → IsEarly (f e)) → (r : Result A E) → IfErr (with_fault f r) IsEarly
fault_early f early (Ok a) = tt
fault_early f early (Err e) = early e

then_early : {A B : Type 0} (r : Result A Refusal) (next : A → Result B Refusal) → IfErr r IsEarly
    → ((a : A) → IfErr (next a) IsEarly) → IfErr (r >>= next) IsEarly
then_early (Ok a) next first second = second a
then_early (Err e) next first second = first

pub instance_early : (contents : Contents) → IfErr (instance_due contents) IsEarly
instance_early contents =
    then_early (ship_due contents) (λ ship. moves_due ship contents >>= λ rows. order_due ship rows >>= λ inst. Ok (with_turn inst contents.turn))
    (then_early (input_due input.Ship contents) (λ bytes. with_fault refusal.BadShip (ship_file bytes)) (input_early input.Ship contents.ship)
    (λ bytes. fault_early refusal.BadShip (λ _. tt) (ship_file bytes)))
    (λ ship. then_early (moves_due ship contents) (λ rows. order_due ship rows >>= λ inst. Ok (with_turn inst contents.turn))
    (then_early (input_due input.Stow contents) (λ bytes. with_fault refusal.BadStow (moves_in ship bytes)) (input_early input.Stow contents.stow)
    (λ bytes. fault_early refusal.BadStow (λ _. tt) (moves_in ship bytes)))
    (λ rows. then_early (order_due ship rows) (λ inst. Ok (with_turn inst contents.turn))
    (fault_early (λ k. refusal.BadShip (fault kind.Ring key.Before k)) (λ _. tt) (tasks_due ship rows)) (λ inst. tt)))

pub job_early : (contents : Contents) → IfErr (job_due contents) IsEarly
job_early contents =
    then_early (instance_due contents) (λ inst. schedule_due input.Plan inst contents >>= λ sched. Ok (record { inst = inst; sched = sched })) (instance_early contents)
    (λ inst. then_early (schedule_due input.Plan inst contents) (λ sched. Ok (record { inst = inst; sched = sched }))
    (then_early (input_due input.Plan contents) (λ bytes. with_fault refusal.BadPlan (plan_in inst bytes)) (input_early input.Plan contents.plan)
    (λ bytes. fault_early refusal.BadPlan (λ _. tt) (plan_in inst bytes)))
    (λ sched. tt))

pub no_fault_yet :
    {A : Type 0} (step : Contents → Result A Refusal) → ((contents : Contents) → IfErr (step contents) IsEarly)
    → (names : Names) (before after : View) (result : Result A Stop) → IfErr result (Stops step names before after)
    → (fault : TreeFault) → result ≡ Err (stop.Refused (refusal.BadTree fault)) → (P : Files → Type 0) → IfSome before.files P
no_fault_yet {A = A} step early names before after result stops fault is P =
    told before.files (subst (λ (r : Result A Stop). IfErr r (Stops step names before after)) is stops).1
  where
    told : (files : Option Files) → ComesTo step names files (Err (refusal.BadTree fault)) → IfSome files P
    told None due = tt
    told (Some held) due =
        absurd (subst (λ (r : Result A Refusal). IfErr r IsEarly) due (early (contents_in held names)))
