pub mod Calendar
pub mod Rules
pub mod Sections
pub mod SectionRules
pub mod Positions
pub mod Values
