use Rattle.std.proofs.Common.{◌+◌, ap, refl, ◌∙◌}
use Rattle.qc_model.specs.declared.crane.Crane.{Crane}
use Rattle.qc_figures.specs.Figures.{figures}
use Rattle.qc_figures.specs.declared.crane.Figures.{Figures}
use Rattle.qc_figures.specs.FiguresText.{row_of, row_text}
use Rattle.qc_figures.specs.Views.{view_of}
use Rattle.qc_figures.proofs.PageLemmas.{page_more}
use Rattle.qc_figures.proofs.table.put_rows.Goals as goal

pub loop-crane-preserved : goal.loop-crane-preserved
loop-crane-preserved c =
    let p = view_of c.args.of.now in
    let k = c.loop-crane.crane in
    page_more (row_of p) k (k + 1) c.args.page.now c.loop-crane.page c.put.new.self c.as_bytes.result.now refl c.loop-crane.invariant c.in_ok-put.ensures
    (c.as_bytes.ensures.bytes ∙ c.row_text.ensures ∙ ap (λ (f : Figures). row_text c.crane.result.now.name f) c.figures_of-figures.ensures
    ∙ ap (λ (x : Crane). row_text x.name (figures p k)) c.crane.ensures.crane)
