-- What a made ship and its list come to: the stored tree and plan, and what is told.
use Rattle.std.proofs.Common.{◌≡◌, ◌≤◌, ◌⊎◌, ℕ, List, length, Option, None, Some, Result, Ok, Err, refl, sym, subst, ap, inl, inr, ◌∙◌, IfSome, IsSomeAnd, codes}
use Rattle.std.specs.Cmp.Lexicographic.{nat_list_cmp_total}
use Rattle.std.specs.FinMap.{get, get-insert, insert}
use Rattle.std.proofs.lemmas.Option.{same_Some}
use Rattle.qc_num.specs.Reading.{◌>>=◌, with_fault}
use Rattle.qc_gantt.specs.Plan.{HasShortEnds, plan_in}
use Rattle.qc_gantt.specs.PlanText.{plan_text}
use Rattle.qc_io.specs.Outside.{Files, View}
use Rattle.qc_io.proofs.Named.{get-insert_same}
use Rattle.qc_make.specs.MadeList.{list_text}
use Rattle.qc_make.specs.MadeTable.{ship_table}
use Rattle.qc_model.specs.declared.limits.TheConstants.{MOST_START}
use Rattle.qc_model.specs.declared.schedule.Slot.{Slot}
use Rattle.qc_model.specs.Instance.{InstanceView}
use Rattle.qc_model.specs.Judge.{IsJudgeable}
use Rattle.qc_model.specs.Rules.{ends}
use Rattle.qc_search.specs.Run.{DoneView, SearchView, search_from}
use Rattle.qc_ship.specs.declared.fault.ShipFault.{ShipFault}
use Rattle.qc_ship.specs.Ship.{ShipView}
use Rattle.qc_ship.specs.ShipFile.{ship_of}
use Rattle.qc_stow.specs.declared.fault.StowFault.{StowFault}
use Rattle.qc_stow.specs.declared.row.Row.{Row}
use Rattle.qc_stow.specs.Stow.{moves_in}
use Rattle.qc_ship.specs.Keys.{fault}
use Rattle.qc_ship.specs.declared.fault.Key.TheVariants as key
use Rattle.qc_ship.specs.declared.fault.ShipKind.TheVariants as kind
use Rattle.qc_tasks.specs.Rings.{tasks_due}
use Rattle.qc_run.specs.Due.{order_due}
use Rattle.qc_tree.specs.Trees.{Tree, tree_text}
use Rattle.qc_search.specs.Stored.{with_plan}
use Rattle.qc_search.specs.Stored.{IsTreeStored as IsSearchStored}
use Rattle.qc_search.proofs.OutcomeLemmas.{short_ends}
use Rattle.qc_search.proofs.RoundLemmas.{ran_tree}
use Rattle.qc_run.specs.declared.refusal.Refusal.{Refusal}
use Rattle.qc_run.specs.declared.refusal.Refusal.TheVariants as refusal
use Rattle.qc_run.specs.declared.refusal.Stop.{Stop}
use Rattle.qc_run.specs.declared.refusal.Stop.TheVariants as stop
use Rattle.qc_run.specs.declared.status.Status.{Status}
use Rattle.qc_run.specs.declared.status.Status.TheVariants as status
use Rattle.qc_run.specs.Reports.{Printing, Prints, PrintsPart, answer_prints, answer_status}
use Rattle.qc_run.specs.Texts.{refusal_status}
use Rattle.qc_run.specs.Told.{EndsWith, IsRefusal}
use Rattle.qc_run.proofs.StatusLemmas.{stop_is_not}
use Rattle.qc_run.proofs.ToldLemmas.{cut_told, memory_told, never_usage, of_status, refused_told}
use Rattle.qc_trial.specs.declared.made.Made.{Made}
use Rattle.qc_trial.specs.Account.{IsMaking, IsMakingTold, IsTrialRun, TrialPromises}
use Rattle.qc_trial.specs.Made.{made_branchings, made_due}
use Rattle.qc_trial.specs.Stored.{AreStored, IsPlanStored, IsSearchFor}
use Rattle.qc_trial.specs.Texts.{made_text}

-- ---- what is made

-- no step refuses the words
module _ {A : Type 0} (last : List Row → InstanceView → A) where
  order_made : (rows : List Row) (inst : Result InstanceView ℕ)
      → (with_fault (λ k. refusal.BadShip (fault kind.Ring key.Before k)) inst >>= λ inst. Ok (last rows inst)) ≡ Err refusal.Usage → ⊥
  order_made rows (Ok inst) e = cc e
  order_made rows (Err k) e = cc e

  list_made : (ship : ShipView) (rows : Result (List Row) StowFault)
      → (with_fault refusal.BadStow rows >>= λ rows. order_due ship rows >>= λ inst. Ok (last rows inst)) ≡ Err refusal.Usage → ⊥
  list_made ship (Ok rows) e = order_made rows (tasks_due ship rows) e
  list_made ship (Err fault) e = cc e

  words_made : (ship : Result ShipView ShipFault) (moves : ShipView → Result (List Row) StowFault)
      → (with_fault refusal.BadShip ship >>= λ s. with_fault refusal.BadStow (moves s) >>= λ rows. order_due s rows >>= λ inst. Ok (last rows inst)) ≡ Err refusal.Usage → ⊥
  words_made (Ok ship) moves e = list_made ship (moves ship) e
  words_made (Err fault) moves e = cc e

never_words : (n h c : ℕ) → made_due n h c ≡ Err refusal.Usage → ⊥
never_words n h c e =
    let last : List Row → InstanceView → ℕ × InstanceView = λ rows inst. (length rows, inst) in
    words_made last (ship_of (ship_table h c)) (λ ship. moves_in ship (list_text n h)) e

-- ---- the files

module _ (inst : InstanceView) (tree : Tree) (held mid after : Files)
    (mid_is : mid ≡ insert held (codes "tree") (tree_text inst tree)) where
  tree_there : get mid (codes "tree") ≡ Some (tree_text inst tree)
  tree_there =
      ap (λ (m : Files). get m (codes "tree")) mid_is
      ∙ get-insert_same held (codes "tree") (tree_text inst tree)

  still_there : (best : Option (List Slot)) → after ≡ with_plan mid (codes "plan") inst best
      → get after (codes "tree") ≡ Some (tree_text inst tree)
  still_there None is = ap (λ (m : Files). get m (codes "tree")) is ∙ tree_there
  still_there (Some sched) is =
      ap (λ (m : Files). get m (codes "tree")) is
      ∙ get-insert nat_list_cmp_total mid (codes "plan") (plan_text inst sched) (codes "tree") ∙ tree_there

  plan_there : (best : Option (List Slot)) → after ≡ with_plan mid (codes "plan") inst best
      → IfSome best (IsJudgeable inst) → IfSome best (λ sched. ends inst sched ≤ MOST_START)
      → IfSome best (λ sched. HasShortEnds inst sched → plan_in inst (plan_text inst sched) ≡ Ok sched)
      → IfSome best (IsPlanStored inst after)
  plan_there None is judged soon reread = tt
  plan_there (Some sched) is judged soon reread = record {
    text = ap (λ (m : Files). get m (codes "plan")) is
        ∙ get-insert_same mid (codes "plan") (plan_text inst sched);
    reread = reread (short_ends inst sched judged soon);
  }

-- the tree was stored, and then the plan
pub are_stored : (inst : InstanceView) (search : SearchView) → IsSearchFor inst search
    → (before mid after : Option Files) (done : DoneView)
    → IfSome before (λ held. IsSearchStored search (codes "tree") held mid done)
    → IfSome mid (λ held. after ≡ Some (with_plan held (codes "plan") inst done.best))
    → IfSome done.best (λ sched. HasShortEnds inst sched → plan_in inst (plan_text inst sched) ≡ Ok sched)
    → IfSome before (λ held. IsSomeAnd after (λ files. AreStored inst files done))
are_stored inst search search_is None mid after done stored wrote reread = tt
are_stored inst search search_is (Some held) None after done stored wrote reread = absurd (cc stored.files)
are_stored inst search search_is (Some held) (Some now) after done found_stored wrote reread =
    let stored = subst (λ (s : SearchView). IsSearchStored s (codes "tree") held (Some now) done) search_is.is found_stored in
    let is = same_Some _ _ stored.files in
    let sound = stored.came.sound in
    let files : Files = with_plan now (codes "plan") inst done.best in
    subst (λ (o : Option Files). IsSomeAnd o (λ files. AreStored inst files done)) (sym wrote) (record {
      tree = stored.tree;
      found = record {
        first = search.first;
        begins = record { found = search_is.found; own_first = None; own_offered = refl; offered = search_is.offered };
        came = stored.came;
      };
      tree_stored = record {
        is_tree = ran_tree (search_from inst made_branchings search.first) stored.tree done.best done.branched
            stored.came.ran;
        text = still_there inst stored.tree held now files is done.best refl;
      };
      plan_stored = plan_there inst stored.tree held now files is done.best refl sound.judgeable sound.soon
          reread;
    })

-- ---- what is told

module _ (n h c : ℕ) (pb pa : View) (ended : Status) (run : IsTrialRun n h c pb pa ended) where
  abbrev part : Made → Printing
  part told = PrintsPart (made_text told)

  abbrev whole : Made → Printing
  whole told = Prints (made_text told)

  abbrev done : Made → Status
  done told = status.Done

  making_told : (r : Result Made Stop) → IsMaking n h c r → answer_status done r ≡ status.Done
      → answer_prints Prints whole r pb.written pa.written → IsMakingTold n h c pb pa
  making_told (Ok told) making e report = record { told = told; made = making; report = report }
  making_told (Err why) making e report = absurd (stop_is_not why status.Done e tt)

  refusal_is : (why : Refusal) → IsRefusal (refusal_status why)
  refusal_is refusal.Usage = tt
  refusal_is other = tt

  making_ends : (r : Result Made Stop)
      → (answer_status done r ≡ status.Done) ⊎ ((answer_status done r ≡ status.OutOfMemory) ⊎ IsRefusal (answer_status done r))
  making_ends (Ok told) = inl refl
  making_ends (Err stop.OutOfMemory) = inr (inl refl)
  making_ends (Err (stop.Refused why)) = inr (inr (refusal_is why))

  make_complete : EndsWith status.Done pb pa ended ⊎ ((ended ≡ status.OutOfMemory) ⊎ IsRefusal ended)
  make_complete = elim run.reports.ending [
    | inl told ↦ elim (making_ends run.answer) [
      | inl is ↦ inl (inl (told.status ∙ is))
      | inr other ↦ inr (elim other [
        | inl wanting ↦ inl (told.status ∙ wanting)
        | inr refused ↦ inr (subst IsRefusal (sym told.status) refused)
      ])
    ]
    | inr cut ↦ inl (inr (cut.status, cut.rose))
  ]

  pub trial_promises : TrialPromises n h c pb pa ended
  trial_promises = record {
    make_done = λ e. of_status (IsMaking n h c) whole part done pb pa ended run status.Done e
        (λ f. cc f) making_told;
    make_complete = make_complete;
    refused = refused_told (IsMaking n h c) whole part done pb pa ended run (λ told. tt);
    no_usage = never_usage (IsMaking n h c) whole part done pb pa ended run (λ told. tt) (never_words n h c);
    out_of_memory = memory_told (IsMaking n h c) whole part done pb pa ended run (λ told. tt);
    write_fault = cut_told (IsMaking n h c) whole part done pb pa ended run (λ told e. cc e);
  }
