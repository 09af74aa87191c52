-- The walks, their units and the answers (document 01, "Verdicts"), and what the answers mean.
pub mod Order
pub mod Walk
pub mod Answers
pub mod Meanings
pub mod Listings
pub mod FullWalk
pub mod RisingOrder
