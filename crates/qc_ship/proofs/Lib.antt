pub mod CraneLaws
pub mod EachLemmas
pub mod HatchLaws
pub mod Items
pub mod NameLaws
pub mod ReleaseLaws
pub mod ShipLaws
pub mod TimesLaws
