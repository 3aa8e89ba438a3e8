use Rattle.std.proofs.Common.{ℕ, ◌∙◌, ap, sym}
use Rattle.qc_io.specs.Outside.{View}
use Rattle.qc_plan_command.proofs.StoreLemmas.{was_run}
use Rattle.qc_search.specs.Run.{SearchView, search_from}
use Rattle.qc_plan_command.proofs.command.run_search.Goals as goal

pub returns-clause-searched : goal.returns-clause-searched
returns-clause-searched g c =
    let view = g.S.Sink.view in
    let now = c.offer_to.new.search in
    was_run c.args.inst.now c.args.asked.now.nodes now
    (c.offer_to.ensures.stays
    ∙ ap (λ (s : SearchView). search_from c.args.inst.now s.nodes now.first) c.requires.search)
    c.offer_to.ensures.offered.0 c.args.search.first c.offer_to.ensures.offered.1 c.args.asked.now.tree.now
    (view c.args.shelf.now).files (view c.tell.new.shelf).files (view c.store_tree.new.shelf).files
    (ap (λ (v : View). v.files) c.tell.ensures)
    c.store_tree.result c.store_tree.ensures.ok c.store_tree.ensures.err c.store_tree.ensures.sound

pub offer_to-requires-clause-plain : goal.offer_to-requires-clause-plain
offer_to-requires-clause-plain g c =
    let nodes = sym (ap (λ (s : SearchView). s.nodes) c.requires.search) in
    c.requires.search ∙ ap (λ (n : ℕ). search_from c.args.inst.now n c.args.search.first) nodes
