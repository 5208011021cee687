pub mod WayAnswer
