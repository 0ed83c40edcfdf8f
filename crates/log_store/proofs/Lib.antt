pub mod Newest
pub mod Laid
pub mod Carrying
pub mod Writing
pub mod Remembering
