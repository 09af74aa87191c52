-- The order of the walks, what the answers mean, and the listing of all states.
pub mod Searches
pub mod Filters
pub mod Order
pub mod FirstStates
pub mod Judged
pub mod FullWalk
pub mod Agreement
pub mod Meanings
pub mod Foremost
pub mod NextAgreement
pub mod NextStates
pub mod Listing
pub mod WalksAgree
pub mod RisingOrder
