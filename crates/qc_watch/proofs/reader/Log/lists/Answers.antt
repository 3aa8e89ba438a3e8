use Rattle.std.proofs.Common.{◌≡◌, ◌∙◌, Global, List, Vec, subst}
use Rattle.qc_watch.specs.declared.entry.Entry.{Entry}
use Rattle.qc_watch.specs.declared.report.Report.{Report}
use Rattle.qc_watch.specs.Log.{told_of}
use Rattle.qc_watch.proofs.LogFacts.{lists_more}
use Rattle.qc_watch.proofs.reader.Log.lists.Goals as goal

pub loop-crane-preserved : goal.loop-crane-preserved
loop-crane-preserved c =
    let told = subst (λ (es : List Entry). c.in_ok-told_of.field-0.items ≡ told_of es c.loop-crane.crane) (c.as_slice.ensures.value ∙ c.self.view_is) c.in_ok-told_of.ensures in
    lists_more (λ (list : Vec Report Global). list.items) c.args.self.now c.loop-crane.lists.items c.push.new.self.items c.in_ok-told_of.field-0 c.loop-crane.crane
    c.in_ok-push.ensures.items told c.loop-crane.invariant
