pub mod Columns
pub mod Examples
pub mod Grids
pub mod Laws
pub mod Rules
pub mod Tallies
pub mod Votes
