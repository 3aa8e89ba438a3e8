pub mod Arcs
pub mod Chains
pub mod Memory
pub mod Sound
pub mod Room
pub mod Trails
