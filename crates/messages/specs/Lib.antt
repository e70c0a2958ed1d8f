pub mod Order
pub mod Messages
pub mod Meaning
pub mod Steps
pub mod Laws
pub mod Composition
pub mod Lawful
pub mod Content
