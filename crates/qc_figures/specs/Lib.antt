pub mod Motions
pub mod Figures
pub mod FiguresText
pub mod Views
pub mod Tallies
pub mod Whole
