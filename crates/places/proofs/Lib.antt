-- The laws of places.
pub mod Places
pub mod TurnedSets
