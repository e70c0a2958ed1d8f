pub mod Limits
pub mod Numbers
pub mod Written
pub mod Sections
pub mod Refusals
pub mod RefusalText
