pub mod Feeder
pub mod Cell
pub mod Tick
pub mod State
pub mod Start
pub mod Run
pub mod claims
