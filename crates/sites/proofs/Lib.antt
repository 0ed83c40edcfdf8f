pub mod Bits
pub mod Bounded
pub mod Members
pub mod Ranges
pub mod Tests
