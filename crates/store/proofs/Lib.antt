pub mod Changes
pub mod Copies
pub mod Writes
