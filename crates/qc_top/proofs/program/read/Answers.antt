use Rattle.qc_top.proofs.program.read.Goals as goal

pub returns-in-Check-clause-account : goal.returns-in-Check-clause-account
returns-in-Check-clause-account g c = rw c.in-Check.is c.check_plan.ensures.account

pub returns-in-CheckTree-clause-account : goal.returns-in-CheckTree-clause-account
returns-in-CheckTree-clause-account g c = rw c.in-CheckTree.is c.check_tree.ensures.account

pub returns-in-Tasks-clause-account : goal.returns-in-Tasks-clause-account
returns-in-Tasks-clause-account g c = rw c.in-Tasks.is c.list_tasks.ensures.account

pub returns-in-Show-clause-account : goal.returns-in-Show-clause-account
returns-in-Show-clause-account g c = rw c.in-Show.is c.show.ensures.account

pub returns-in-Sheet-clause-account : goal.returns-in-Sheet-clause-account
returns-in-Sheet-clause-account g c = rw c.in-Sheet.is c.print_sheet.ensures.account

pub returns-in-Watch-clause-account : goal.returns-in-Watch-clause-account
returns-in-Watch-clause-account g c = rw c.in-Watch.is c.watch.ensures.account

pub returns-in-Dispatch-clause-account : goal.returns-in-Dispatch-clause-account
returns-in-Dispatch-clause-account g c = rw c.in-Dispatch.is c.dispatch.ensures.account

pub returns-in-Picture-clause-account : goal.returns-in-Picture-clause-account
returns-in-Picture-clause-account g c = rw c.in-Picture.is c.print_plan.ensures.account

pub returns-in-Report-clause-account : goal.returns-in-Report-clause-account
returns-in-Report-clause-account g c = rw c.in-Report.is c.print_plan-in-Report.ensures.account
