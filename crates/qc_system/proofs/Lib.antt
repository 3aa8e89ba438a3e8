pub mod Untold
mod HeldLemmas
