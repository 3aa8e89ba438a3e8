pub mod MotionLemmas
