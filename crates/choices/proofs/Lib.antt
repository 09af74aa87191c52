-- What is visited: the final choices come in the order of their places, and those that are models are all models with allowed values.
pub mod MoreAtoms
pub mod MorePlaces
pub mod SetsBelow
pub mod Trees
pub mod Finals
pub mod Closing
pub mod LastFinal
pub mod Starts
pub mod Examples
