-- The laws of made atoms put in their place.
pub mod PlaceNumbers
pub mod PlacedParts
pub mod PlacedState
