-- A line that is taken at each stage.
use Rattle.std.proofs.Common.{◌≡◌, ℕ, true, false, List, [], ◌∷◌, ◌++◌, map, Option, None, Some, Result, Err, refl, ap, sym, ◌∙◌, if◌then◌else◌}
use Rattle.qc_num.specs.Reading.{◌>>=◌, require}
use Rattle.qc_dist.specs.Children.{behind}
use Rattle.qc_model.specs.declared.direction.Direction.TheVariants as way
use Rattle.qc_model.specs.Instance.{InstanceView}
use Rattle.qc_tree.specs.declared.line.Line.{Line}
use Rattle.qc_tree.specs.LineIn.{Listed}
use Rattle.qc_tree.specs.declared.fault.TreeKind.{TreeKind}
use Rattle.qc_tree.specs.declared.fault.TreeKind.TheVariants as kind
use Rattle.qc_replay.specs.declared.walk.Stage.{Stage}
use Rattle.qc_replay.specs.declared.walk.Stage.TheVariants.{Title, Up, Part, Done}
use Rattle.qc_replay.specs.declared.walk.Walk.TheInside.{Inside}
use Rattle.qc_replay.specs.Part.{Standing, nodes}
use Rattle.qc_replay.specs.Read.{with_known, with_line}
use Rattle.qc_replay.specs.Stages.{IsKeptWalk, WalkView, behind_part, behind_title, leading, reading_at, walk_of, word_of}
use Rattle.qc_replay.specs.Walk.{Reading, at_due, came, end, is_known, next_of, node, title}

-- a fault that is handed on
pub handed_on : {A B : Type 0} (f : A → Reading) (g : B → Reading) (result : Result A TreeKind) (out : Result B TreeKind)
    (why : TreeKind) → result ≡ Err why → out ≡ Err why → leading f result ≡ leading g out
handed_on f g result out why e h = ap (leading f) e ∙ sym (ap (leading g) h)

-- no node of a part is left
pub none_left : (s : Standing) → s.live ≡ false → nodes s ≡ []
none_left s over = ap (λ b. if b then s.decisions ∷ behind s.inst s.decisions else []) over

-- a line that trees for the turn have
pub known_line : (inst : InstanceView) (r : Reading) (taken : Listed) → is_known inst.turn taken.line ≡ true
    → with_line inst r taken ≡ with_known inst r taken
known_line inst r taken known =
    ap (λ k. next_of r.coming >>= λ c. require k kind.Spelling >>= λ _. at_due inst r c taken.line taken.list) known

-- ---- at each stage

module _ (w : Inside) (old : WalkView) (is : walk_of w ≡ old) (kept : IsKeptWalk w) (line : Line) (list : List ℕ) where
  abbrev taken : Listed
  taken = record { line = line; list = list }

  abbrev here : Stage → Reading
  here stage = reading_at stage w.way w.part w.second w.tally

  abbrev Takes : Result Reading TreeKind → Type 0
  Takes result = with_known old.inst old.reading taken ≡ result

  begins : (stage : Stage) → w.stage ≡ stage → Takes (with_known w.inst (here stage) taken)
  begins stage at_stage =
      ap (λ (v : WalkView). with_known v.inst v.reading taken) (sym is)
      ∙ ap (λ s. with_known w.inst (here s) taken) at_stage

  pub title_taken : w.stage ≡ Title → {A : Type 0} (result : Result A TreeKind)
      → ((inst : InstanceView) (r : Reading) (list : List ℕ) → at_due inst r title line list ≡ leading (λ _. came r) result)
      → Takes (leading (λ _. reading_at (behind_title w.second) w.way w.part w.second w.tally) result)
  title_taken stage result judged = begins Title stage ∙ by_second w.second
    where
      by_second : (second : Option Standing)
          → with_known w.inst (reading_at Title w.way w.part second w.tally) taken
          ≡ leading (λ _. reading_at (behind_title second) w.way w.part second w.tally) result
      by_second None = judged w.inst (reading_at Title w.way w.part None w.tally) list
      by_second (Some s) = judged w.inst (reading_at Title w.way w.part (Some s) w.tally) list

  pub up_taken : w.stage ≡ Up → {A : Type 0} (result : Result A TreeKind)
      → ((inst : InstanceView) (r : Reading) (list : List ℕ)
      → at_due inst r (word_of way.Up) line list ≡ leading (λ _. came r) result)
      → Takes (leading (λ _. here Part) result)
  up_taken stage result judged = begins Up stage ∙ judged w.inst (here Up) list

  -- behind the last node of a part
  behind_last : w.stage ≡ Part → w.part.live ≡ false → (second : Option Standing) → w.second ≡ second
      → Takes (with_known w.inst (record (here Part) { coming = behind_part second }) taken)
  behind_last stage over second which =
      begins Part stage
      ∙ ap (λ ns. with_known w.inst (record (here Part) { coming = map (node w.way) ns ++ behind_part w.second }) taken)
      (none_left w.part over)
      ∙ ap (λ s. with_known w.inst (record (here Part) { coming = behind_part s }) taken) which

  pub down_taken : w.stage ≡ Part → w.part.live ≡ false → (second : Standing) → w.second ≡ Some second
      → {A : Type 0} (result : Result A TreeKind)
      → ((inst : InstanceView) (r : Reading) (list : List ℕ)
      → at_due inst r (word_of way.Down) line list ≡ leading (λ _. came r) result)
      → Takes (leading (λ _. reading_at Part way.Down second None w.tally) result)
  down_taken stage over second which result judged =
      behind_last stage over (Some second) which
      ∙ judged w.inst (record (here Part) { coming = behind_part (Some second) }) list

  -- the walk with the second part in the place of the first
  pub down_read : w.stage ≡ Part → (second part : Standing) → part ≡ second → (after : Option Standing) → after ≡ None
      → reading_at Part way.Down second None w.tally ≡ reading_at w.stage way.Down part after w.tally
  down_read stage second part same after none =
      ap (λ s. reading_at s way.Down second None w.tally) (sym stage)
      ∙ ap (λ p. reading_at w.stage way.Down p None w.tally) (sym same)
      ∙ ap (λ o. reading_at w.stage way.Down part o w.tally) (sym none)

  pub end_taken : w.stage ≡ Part → w.part.live ≡ false → w.second ≡ None → {A : Type 0} (result : Result A TreeKind)
      → ((inst : InstanceView) (r : Reading) (list : List ℕ) → r.branched ≡ w.tally.branched → r.bound ≡ w.tally.bound
      → at_due inst r end line list ≡ leading (λ _. came r) result)
      → (second : Option Standing) → Takes (leading (λ _. reading_at Done w.way w.part second w.tally) result)
  end_taken stage over which result judged second =
      behind_last stage over None which
      ∙ judged w.inst (record (here Part) { coming = end ∷ [] }) list refl refl
