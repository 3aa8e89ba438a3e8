use Rattle.std.proofs.Common.{◌∙◌, ap, inl, inr}
use Rattle.qc_changes.specs.Changes.{ChangesView}
use Rattle.qc_changes.specs.ListText.{list_text}
use Rattle.qc_io.specs.Outside.{with_file}
use Rattle.qc_moves_command.proofs.command.store_found.Goals as goal

pub returns-in-Ok-clause-writes : goal.returns-in-Ok-clause-writes
returns-in-Ok-clause-writes g c =
    let view = g.S.Sink.view in
    record {
      found = c.requires.are;
      figures = c.requires.told;
      stored = c.in-Ok.ensures.ok
          ∙ ap (λ (found : ChangesView). with_file (view c.args.shelf.now).files c.args.asked.now.stow.now (list_text found.rows)) c.requires.changes;
      made = c.in-Ok.ensures.unmade;
      faults = c.in-Ok.ensures.counts.unfailed;
    }

pub returns-in-Err-clause-writes : goal.returns-in-Err-clause-writes
returns-in-Err-clause-writes g c =
    let view = g.S.Sink.view in
    record {
      found = c.requires.are;
      left = elim c.in-Err.ensures.err [
        | inl same ↦ inl same
        | inr stored ↦ inr (stored
            ∙ ap (λ (found : ChangesView). with_file (view c.args.shelf.now).files c.args.asked.now.stow.now (list_text found.rows)) c.requires.changes)
      ];
      rose = c.in-Err.ensures.counts.rose;
    }
