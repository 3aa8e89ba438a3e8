-- What stopped is due where no call failed, and the turn of what came through.
use Rattle.std.proofs.Common.{◌≡◌, ℕ, List, Option, None, Some, Result, Ok, Err, refl, sym, ap, inl, inr, ◌∙◌, ◌⊎◌, subst, subst₂, IfSome, IsSomeAnd, option_and_then}
use Rattle.std.specs.FinMap.{get}
use Rattle.qc_num.specs.Reading.{◌>>=◌}
use Rattle.qc_num.proofs.ReadingLemmas.{bind_ok, same_ok}
use Rattle.qc_io.specs.Outside.{Files, View, IsMissing, Rose}
use Rattle.qc_model.specs.Instance.{InstanceView, with_turn}
use Rattle.qc_run.specs.declared.inputs.Input.{Input}
use Rattle.qc_run.specs.declared.inputs.Input.TheVariants as input
use Rattle.qc_run.specs.declared.refusal.Refusal.{Refusal}
use Rattle.qc_run.specs.declared.refusal.Refusal.TheVariants as refusal
use Rattle.qc_run.specs.declared.refusal.Stop.{Stop}
use Rattle.qc_run.specs.declared.refusal.Stop.TheVariants as stop
use Rattle.qc_run.specs.declared.reading.OwnJob.{OwnJob}
use Rattle.qc_run.specs.Inputs.{Names, name_of}
use Rattle.qc_run.specs.Due.{Contents, contents_in, instance_due, moves_due, order_due, own_due, own_job_due, ship_due, without}
use Rattle.qc_run.specs.Steps.{ComesTo, Stops}

some_and : {A : Type 0} {P : A → Type 0} (o : Option A) → IsSomeAnd o P → (a : A) × (o ≡ Some a) × P a
some_and None h = absurd h
some_and (Some a) h = (a, refl, h)

-- without a file that isn't held all is as with it
without_missing : (file : Input) (held : Files) (names : Names) (name : List ℕ) → name_of file names ≡ Some name → get held name ≡ None → without file (contents_in held names) ≡ contents_in held names
without_missing input.Ship held names name named missing = let contents = contents_in held names in ap (λ (o : Option (List ℕ)). record contents { ship = o }) (sym (ap (option_and_then (get held)) named ∙ missing))
without_missing input.Stow held names name named missing = let contents = contents_in held names in ap (λ (o : Option (List ℕ)). record contents { stow = o }) (sym (ap (option_and_then (get held)) named ∙ missing))
without_missing input.Plan held names name named missing = let contents = contents_in held names in ap (λ (o : Option (List ℕ)). record contents { plan = o }) (sym (ap (option_and_then (get held)) named ∙ missing))
without_missing input.Tree held names name named missing = let contents = contents_in held names in ap (λ (o : Option (List ℕ)). record contents { tree = o }) (sym (ap (option_and_then (get held)) named ∙ missing))
without_missing input.Own held names name named missing = let contents = contents_in held names in ap (λ (o : Option (List ℕ)). record contents { own = o }) (sym (ap (option_and_then (get held)) named ∙ missing))
without_missing input.Log held names name named missing = let contents = contents_in held names in ap (λ (o : Option (List ℕ)). record contents { log = o }) (sym (ap (option_and_then (get held)) named ∙ missing))
without_missing input.Arrival held names name named missing = let contents = contents_in held names in ap (λ (o : Option (List ℕ)). record contents { arrival = o }) (sym (ap (option_and_then (get held)) named ∙ missing))
without_missing input.Departure held names name named missing = let contents = contents_in held names in ap (λ (o : Option (List ℕ)). record contents { departure = o }) (sym (ap (option_and_then (get held)) named ∙ missing))
without_missing input.Past held names name named missing = let contents = contents_in held names in ap (λ (o : Option (List ℕ)). record contents { past = o }) (sym (ap (option_and_then (get held)) named ∙ missing))

module _ {A : Type 0} (step : Contents → Result A Refusal) (names : Names) where
  -- what comes of told files is due of them
  pub comes_due : (held : Files) (files : Option Files) → files ≡ Some held → (r : Result A Refusal) → ComesTo step names files r → step (contents_in held names) ≡ r
  comes_due held None told r h = absurd (cc told)
  comes_due held (Some files) told r h = let same : files ≡ held = cc in rw (← same) h

  -- a file that couldn't be read though no call failed is due as unread
  unread_due : (held : Files) (files : Option Files) → files ≡ Some held → (file : Input) (rb ra : ℕ) → ¬ Rose rb ra → IsSomeAnd (name_of file names) (λ name. Rose rb ra ⊎ IsMissing files name)
      → IfSome files (λ held. step (without file (contents_in held names)) ≡ Err (refusal.ReadFault file)) → step (contents_in held names) ≡ Err (refusal.ReadFault file)
  unread_due held None told file rb ra none cause turn = absurd (cc told)
  unread_due held (Some files) told file rb ra none cause turn =
      let same : files ≡ held = cc in
      let (name, named, why) = some_and (name_of file names) cause in
      elim why [
        | inl rose ↦ absurd (none rose)
        | inr missing ↦ rw (← same) (rw (without_missing file files names name named missing) at turn)
      ]

  pub stop_is : (before after : View) (held : Files) → before.files ≡ Some held → ¬ Rose before.read_faults after.read_faults → (why : Refusal)
      → Stops step names before after (stop.Refused why) → step (contents_in held names) ≡ Err why
  stop_is before after held told none refusal.Usage h = absurd h
  stop_is before after held told none (refusal.ReadFault file) h = unread_due held before.files told file before.read_faults after.read_faults none h.cause h.turn
  stop_is before after held told none why h = comes_due held before.files told (Err why) h.1

  -- what stopped behind calls that left the files and came through stopped as from their beginning
  pub stops_from : (before mid after : View) → mid.files ≡ before.files → mid.read_faults ≡ before.read_faults → (why : Stop)
      → Stops step names mid after why → Stops step names before after why
  stops_from before mid after files reads stop.OutOfMemory h = h ∙ reads
  stops_from before mid after files reads (stop.Refused refusal.Usage) h = h
  stops_from before mid after files reads (stop.Refused (refusal.ReadFault file)) h = record {
    cause = subst₂ (λ (f : Option Files) (n : ℕ). IsSomeAnd (name_of file names) (λ name. Rose n after.read_faults ⊎ IsMissing f name))
        files reads h.cause;
    turn = subst (λ (f : Option Files). IfSome f (λ held. step (without file (contents_in held names)) ≡ Err (refusal.ReadFault file))) files h.turn;
  }
  stops_from before mid after files reads (stop.Refused why) h =
      (h.0 ∙ reads, subst (λ (f : Option Files). ComesTo step names f (Err why)) files h.1)

-- ---- the instance that is due has the turn that is asked about

pub instance_turn : (contents : Contents) (inst : InstanceView) → instance_due contents ≡ Ok inst → inst.turn ≡ contents.turn
instance_turn contents inst e =
    let (ship, first, rest) = bind_ok (ship_due contents) (λ ship. moves_due ship contents >>= λ rows. order_due ship rows >>= λ inst. Ok (with_turn inst contents.turn)) inst e in
    let (rows, second, next) = bind_ok (moves_due ship contents) (λ rows. order_due ship rows >>= λ inst. Ok (with_turn inst contents.turn)) inst rest in
    let (one_way, third, made) = bind_ok (order_due ship rows) (λ inst. Ok (with_turn inst contents.turn)) inst next in
    sym (ap (λ (i : InstanceView). i.turn) (same_ok made))

pub own_job_turn : (name : Option (List ℕ)) (contents : Contents) (job : OwnJob) → own_job_due name contents ≡ Ok job → job.inst.turn ≡ contents.turn
own_job_turn name contents job e =
    let (inst, first, rest) = bind_ok (instance_due contents) (λ inst. own_due name inst contents >>= λ own. Ok (record { inst = inst; own = own })) job e in
    let (own, second, made) = bind_ok (own_due name inst contents) (λ own. Ok (record { inst = inst; own = own })) job rest in
    ap (λ (j : OwnJob). j.inst.turn) (sym (same_ok made)) ∙ instance_turn contents inst first
