pub mod Runs
pub mod Handed
pub mod Canonical
pub mod StringFaults
pub mod Theorems
