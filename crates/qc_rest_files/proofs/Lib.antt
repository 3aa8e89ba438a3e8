pub mod Backs
pub mod KeptLemmas
pub mod NameBack
pub mod ShipBack
pub mod LeftLemmas
pub mod TableLemmas
pub mod TextLemmas
pub mod ValueLemmas
