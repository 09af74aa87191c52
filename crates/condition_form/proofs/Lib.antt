-- The laws of a condition's parts.
pub mod StandingPlaces
pub mod FormWalks
pub mod ThenPlaces
