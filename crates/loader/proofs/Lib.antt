pub mod Coming
pub mod Starting
pub mod Paces
pub mod Lawfulness
pub mod Steps
