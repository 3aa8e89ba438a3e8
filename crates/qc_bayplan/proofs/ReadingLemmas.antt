-- The plan of a file, segment by segment.
use Rattle.std.proofs.Common.{◌≡◌, ◌+◌, ◌≤◌, ℕ, List, [], length, Result, Ok, IfOk, sym, ap, subst, ◌∙◌, arith}
use Rattle.qc_num.specs.Reading.{IsReading}
use Rattle.qc_num.specs.declared.read_error.ReadError.{ReadError}
use Rattle.qc_edifact.specs.Segments.{Entry, segments_in}
use Rattle.qc_edifact.specs.Texts.{plain_text}
use Rattle.qc_edifact.specs.declared.segments.NoSigns.{NoSigns}
use Rattle.qc_edifact.proofs.SizeLemmas.{few_segments, plain-few}
use Rattle.qc_bayplan.specs.Courses.{beginning}
use Rattle.qc_bayplan.specs.Plan.{PlanView}
use Rattle.qc_bayplan.specs.Reading.{bay_plan_in, plan_by, plan_from}
use Rattle.qc_bayplan.specs.declared.fault.BayPlanFault.{BayPlanFault}
use Rattle.qc_bayplan.specs.declared.plan.Which.{Which}

-- the segments of a file, whose signs could be told
module _ (bytes text : List ℕ) (segments : List Entry) (is : text ≡ plain_text bytes) (opened : Ok segments ≡ segments_in text) where
  pub few-opened : length segments ≤ length bytes + 1
  few-opened =
      let fits : length segments ≤ length text + 1 = subst (λ (x : Result (List Entry) NoSigns). IfOk x (λ xs. length xs ≤ length text + 1)) (sym opened) (few_segments text) in
      omega (arith, fits, ap length is, plain-few bytes)

  pub plan-opened : (which : Which) (came : Result PlanView (ReadError BayPlanFault)) → IsReading {T = PlanView} (λ plan. plan) (plan_from which 1 beginning [] segments) came
      → IsReading {T = PlanView} (λ plan. plan) (bay_plan_in which bytes) came
  plan-opened which came read =
      subst (λ (x : Result (List Entry) NoSigns). IsReading {T = PlanView} (λ plan. plan) (plan_by which x) came) (opened ∙ ap segments_in is) read
