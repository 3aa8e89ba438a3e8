pub mod ShipTable
pub mod RestShip
pub mod LeftRows
pub mod LeftLines
pub mod Aboard
