pub mod Histories
pub mod Records
pub mod Logs
pub mod Meaning
