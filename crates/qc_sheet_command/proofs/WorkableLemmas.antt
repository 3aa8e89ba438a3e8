-- What is told with a work sheet.
use Rattle.std.proofs.Common.{ℕ, List, sym, subst}
use Rattle.qc_model.specs.Instance.{InstanceView}
use Rattle.qc_model.specs.Rules.{Feasible}
use Rattle.qc_sheet.specs.Kept.{IsWorkable}
use Rattle.qc_sheet.specs.Order.{AreOrders}
use Rattle.qc_sheet.proofs.WorkLemmas.{workable}
use Rattle.qc_sheet_command.specs.declared.load.Load.{Load}
use Rattle.qc_sheet_command.specs.Listed.{IsLoad, TellsSheet}

pub tells_sheet : (load : Load) (sheet : List (List ℕ)) → IsLoad load → Feasible load.cargo.inst load.sched → AreOrders load.cargo.moves load.cargo.inst.tasks sheet
    → TellsSheet (record { load = load; sheet = sheet })
tells_sheet load sheet is feasible orders = record {
  feasible = feasible;
  instance = is.cargo.instance;
  judgeable = is.judgeable;
  orders = orders;
  workable = subst
      (λ (inst : InstanceView). AreOrders load.cargo.moves inst.tasks sheet → Feasible inst load.sched
      → IsWorkable (record { ship = load.cargo.ship; inst = inst; rows = load.cargo.moves; sched = load.sched; orders = sheet }))
      (sym is.cargo.instance)
      (λ are kept. workable load.cargo.ship is.cargo.ship load.cargo.moves is.cargo.moves is.cargo.hatches load.sched sheet are kept) orders feasible;
}
