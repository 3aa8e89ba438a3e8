-- What is known of a plan whose figures or drawing are printed.
use Rattle.std.proofs.Common.{◌≡◌, ℕ, List, Result, Ok, Err, IfOk, arith}
use Rattle.qc_model.specs.Instance.{Valid}
use Rattle.qc_num.specs.declared.memory.OutOfMemory.{OutOfMemory}
use Rattle.qc_figures.specs.FiguresText.{figures_text}
use Rattle.qc_figures.specs.Views.{IsReady}
use Rattle.qc_figures.proofs.MotionLemmas.{evenly_of}
use Rattle.qc_figures.proofs.WholeLemmas.{whole}
use Rattle.qc_picture_command.specs.declared.answer.Planned.{Planned}
use Rattle.qc_picture_command.specs.Motion.{IsPrintable}
use Rattle.qc_picture_command.specs.Planned.{TellsFigures, TellsPicture, plan_with}

-- the figures can be told
pub ready : (plan : Planned) → IsPrintable plan → IsReady (plan_with plan.load plan.way plan.tracks)
ready plan is = record {
  judgeable = is.load.judgeable;
  few = is.load.cargo.moves.count;
  tracks = is.planned.all;
  rising = λ k low. (evenly_of plan.load.cargo.inst plan.load.sched plan.way k _ (is.planned.are k low)).rising;
}

-- a text tells of the plan: the figures, and the drawing
pub tells_figures : (plan : Planned) → IsPrintable plan → (r : Result (List ℕ) OutOfMemory)
    → IfOk r (λ text. text ≡ figures_text (plan_with plan.load plan.way plan.tracks)) → IfOk r (λ text. Valid plan.load.cargo.inst)
    → IfOk r (TellsFigures plan.load)
tells_figures plan is (Err why) text_is valid = tt
tells_figures plan is (Ok text) text_is valid = record {
  way = plan.way;
  tracks = plan.tracks;
  planned = is.planned;
  text_is = text_is;
  whole = λ k low. whole (plan_with plan.load plan.way plan.tracks) k valid is.load.judgeable
      is.planned.feasible is.planned.goes low (is.planned.are k (omega (arith, low, is.planned.all)));
}

pub tells_picture : (plan : Planned) → IsPrintable plan → (r : Result (List ℕ) OutOfMemory) → IfOk r (TellsPicture plan.load)
tells_picture plan is (Err why) = tt
tells_picture plan is (Ok text) = is.planned.feasible
