use Rattle.std.proofs.Common.{◌≡◌, ◌<◌, ◌-◌, ◌∙◌, ℕ, All, IfSome, ap, subst, sym}
use Rattle.qc_model.specs.declared.schedule.Slot.{Slot}
use Rattle.qc_search.specs.Progress.{known_best}
use Rattle.qc_search.specs.Run.{DoneView, IsSound, SearchView}
use Rattle.qc_search.specs.Stored.{IsTreeLeft, IsTreeStored}
use Rattle.qc_search.proofs.CourseLemmas.{left_all, ran_done, ran_outcome, ran_sound, stored_all}
use Rattle.qc_search.proofs.RunLemmas.{done_with}
use Rattle.qc_search.proofs.ShownLemmas.{cranes_low}
use Rattle.qc_search.proofs.search.Search.store_tree.Goals as goal

pub returns-in_default-clause-err : goal.returns-in_default-clause-err
returns-in_default-clause-err g c =
    let view = g.S.Sink.view in
    let name = c.args.name.now in
    let files = (view c.args.shelf.now).files in
    let left = (view c.run_rounds-ran.new.shelf).files in
    subst (λ (s : SearchView). IfSome files (λ held. IsTreeLeft s name held left)) c.self.view_is
    (left_all c.self.inside.roots c.self.inside.progress name files left c.in_default.ensures.err)

pub ran_done-requires-clause-cranes : goal.ran_done-requires-clause-cranes
ran_done-requires-clause-cranes g c = λ end e.
    let home = c.self.inside.roots in
    let now = c.run_rounds-ran.new.progress in
    let count = rw c.instance.ensures.same at c.crane_count-cranes.ensures.count in
    subst (λ (n : ℕ). All (λ (s : Slot). s.crane < n) now.incumbent) (sym count)
    (cranes_low home (known_best home now) c.instance.ensures.valid now _ c.in-Ok.ensures.ok.begun.progress end e)

pub returns-clause-sound : goal.returns-clause-sound
returns-clause-sound g c =
    let view = g.S.Sink.view in
    let home = c.self.inside.roots in
    let start = c.self.inside.progress in
    let now = c.run_rounds-ran.new.progress in
    let course = c.in-Ok.course in
    let files = (view c.args.shelf.now).files in
    let left = (view c.run_rounds-ran.new.shelf).files in
    let ran = c.in-Ok.ensures.ok in
    let count = rw c.instance.ensures.same at c.crane_count-cranes.ensures.count in
    let is : c.ran_done.result ≡ ran_done home c.instance.ensures.valid start c.self.invariant c.args.name.now files now left course ran =
    c.ran_done.ensures ∙ ap (λ (n : ℕ). done_with n start.incumbent_end (record now {
      bound = course.shown;
      branched = start.limit - course.left;
    })) count in
    subst (IsSound c.args.self) (sym is)
    (subst (λ (s : SearchView). IsSound s (ran_done home c.instance.ensures.valid start c.self.invariant c.args.name.now files now left course ran)) c.self.view_is
    (ran_sound home c.instance.ensures.valid start c.self.invariant c.args.name.now files now left course ran
    c.in-Ok.ensures.spent))

pub returns-clause-ok : goal.returns-clause-ok
returns-clause-ok g c =
    let view = g.S.Sink.view in
    let home = c.self.inside.roots in
    let start = c.self.inside.progress in
    let now = c.run_rounds-ran.new.progress in
    let course = c.in-Ok.course in
    let files = (view c.args.shelf.now).files in
    let left = (view c.run_rounds-ran.new.shelf).files in
    let ran = c.in-Ok.ensures.ok in
    let v = c.instance.ensures.valid in
    let b = c.self.invariant in
    let name = c.args.name.now in
    let count = rw c.instance.ensures.same at c.crane_count-cranes.ensures.count in
    let is : c.ran_done.result ≡ ran_done home v start b name files now left course ran =
    c.ran_done.ensures ∙ ap (λ (n : ℕ). done_with n start.incumbent_end (record now {
      bound = course.shown;
      branched = start.limit - course.left;
    })) count in
    subst (λ (d : DoneView). IfSome files (λ held. IsTreeStored c.args.self name held left d)) (sym is)
    (subst (λ (s : SearchView). IfSome files (λ held. IsTreeStored s name held left (ran_done home v start b name files now left course ran)))
    c.self.view_is
    (stored_all home start name files left ran.tree (ran_done home v start b name files now left course ran)
    (ran_outcome home v start b name files now left course ran
    (ran_sound home v start b name files now left course ran c.in-Ok.ensures.spent)) ran.files))
