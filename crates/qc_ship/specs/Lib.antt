pub mod Numbers
pub mod Keys
pub mod Ship
pub mod ShipFile
pub mod ShipValues
pub mod ShipFields
pub mod Cells
