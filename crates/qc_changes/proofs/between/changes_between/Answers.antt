use Rattle.std.proofs.Common.{◌∙◌, ap, subst, sym, length, List}
use Rattle.qc_stow.specs.declared.row.Row.{Row}
use Rattle.qc_changes.specs.Changes.{AreChanges}
use Rattle.qc_changes.proofs.ChangesLemmas.{off_is}
use Rattle.qc_changes.proofs.between.changes_between.Goals as goal

pub counts_of-counts-requires-clause-off : goal.counts_of-counts-requires-clause-off
counts_of-counts-requires-clause-off c =
    let (lifted, (are, parts)) = c.in_ok-fill.ensures in
    record {
      lifted = lifted;
      are = are;
      count = ap (λ (rs : List Row). length rs) c.as_slice.ensures.value
          ∙ off_is c.args.first.now c.args.second.now lifted c.fill.new.off.items c.fill.new.on.items parts;
    }

pub returns : goal.returns
returns c =
    let (lifted, (are, parts)) = c.in_ok-fill.ensures in
    subst (AreChanges c.args.first.now c.args.second.now) (sym c.of.ensures) (record {
      lifted = lifted;
      are = are;
      rows_are = record { off = c.fill.new.off.items; on = c.fill.new.on.items; rows_are = c.in_ok-append.ensures.items; parts = parts };
      counts_are = c.counts_of-counts.ensures lifted are;
    })
