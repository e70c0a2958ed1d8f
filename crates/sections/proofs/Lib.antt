pub mod Firsts
pub mod Nearest
pub mod Entries
