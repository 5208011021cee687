pub mod ArrayCalls
pub mod RoadCalls
pub mod claims
