use Rattle.std.proofs.Common.{◌≡◌, ◌<◌, ◌∙◌, ℕ, All, ap, sym, subst}
use Rattle.qc_model.specs.declared.schedule.Slot.{Slot}
use Rattle.qc_search.specs.Progress.{known_best}
use Rattle.qc_search.specs.Run.{IsCutOff, IsSearched, IsSound, SearchView}
use Rattle.qc_search.proofs.RunLemmas.{done_of, done_with, went_cranes, went_searched, went_sound}
use Rattle.qc_search.proofs.search.Search.run.Goals as goal

pub done_of-requires : goal.done_of-requires
done_of-requires g c = λ end e.
    let home = c.self.inside.roots in
    let old = c.self.inside.progress in
    let w = c.in-Ok.ensures.writes (known_best home old) c.self.invariant.progress in
    let count = rw c.instance.ensures.same at c.crane_count-cranes.ensures.count in
    subst (λ (n : ℕ). All (λ (s : Slot). s.crane < n) c.write-written.new.progress.incumbent) (sym count)
    (went_cranes home c.instance.ensures.valid old c.write-written.new.progress c.self.invariant w end e)

pub returns-clause-searched : goal.returns-clause-searched
returns-clause-searched g c =
    let home = c.self.inside.roots in
    let old = c.self.inside.progress in
    let now = c.write-written.new.progress in
    let before = (g.K.Sink.view c.args.sink.now).written in
    let after = (g.K.Sink.view c.write-written.new.sink).written in
    let w = c.in-Ok.ensures.writes (known_best home old) c.self.invariant.progress in
    let count = rw c.instance.ensures.same at c.crane_count-cranes.ensures.count in
    let done : c.done_of.result ≡ done_of home old.incumbent_end now =
    c.done_of.ensures ∙ ap (λ (n : ℕ). done_with n old.incumbent_end now) count in
    subst (IsSearched c.args.self before after) (sym done)
    (subst (λ (s : SearchView). IsSearched s before after (done_of home old.incumbent_end now)) c.self.view_is
    (went_searched home c.instance.ensures.valid old now c.self.invariant w))

pub returns-clause-sound : goal.returns-clause-sound
returns-clause-sound g c =
    let home = c.self.inside.roots in
    let old = c.self.inside.progress in
    let now = c.write-written.new.progress in
    let w = c.in-Ok.ensures.writes (known_best home old) c.self.invariant.progress in
    let count = rw c.instance.ensures.same at c.crane_count-cranes.ensures.count in
    let done : c.done_of.result ≡ done_of home old.incumbent_end now =
    c.done_of.ensures ∙ ap (λ (n : ℕ). done_with n old.incumbent_end now) count in
    subst (IsSound c.args.self) (sym done)
    (subst (λ (s : SearchView). IsSound s (done_of home old.incumbent_end now)) c.self.view_is
    (went_sound home c.instance.ensures.valid old now c.self.invariant w))

pub returns-in_default-clause-cut : goal.returns-in_default-clause-cut
returns-in_default-clause-cut g c =
    let home = c.self.inside.roots in
    let w = c.in_default.ensures.writes (known_best home c.self.inside.progress) c.self.invariant.progress in
    subst (λ (s : SearchView). IsCutOff s.inst (g.K.Sink.view c.args.sink.now).written (g.K.Sink.view c.write-written.new.sink).written)
    c.self.view_is (record { tree = w.tree; is_tree = w.is_tree; part = w.writes.part })

pub returns-in_default-clause-counts : goal.returns-in_default-clause-counts
returns-in_default-clause-counts g c =
    let home = c.self.inside.roots in
    let w = c.in_default.ensures.writes (known_best home c.self.inside.progress) c.self.invariant.progress in
    record { unfailed = tt; rose = w.writes.rose; never_falls = w.writes.never_falls }

pub returns-in_default-clause-beside_stays : goal.returns-in_default-clause-beside_stays
returns-in_default-clause-beside_stays g c =
    let home = c.self.inside.roots in
    (c.in_default.ensures.writes (known_best home c.self.inside.progress) c.self.invariant.progress).writes.beside_stays

pub returns-clause-counts : goal.returns-clause-counts
returns-clause-counts g c =
    let home = c.self.inside.roots in
    let w = c.in-Ok.ensures.writes (known_best home c.self.inside.progress) c.self.invariant.progress in
    record { unfailed = w.writes.unfailed; rose = tt; never_falls = w.writes.never_falls }

pub returns-clause-beside_stays : goal.returns-clause-beside_stays
returns-clause-beside_stays g c =
    let home = c.self.inside.roots in
    (c.in-Ok.ensures.writes (known_best home c.self.inside.progress) c.self.invariant.progress).writes.beside_stays
