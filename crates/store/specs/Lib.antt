pub mod Bytes
pub mod Copies
pub mod Histories
pub mod Stores
