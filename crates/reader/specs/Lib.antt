-- What the lines of a text leave, and which texts are written.
pub mod FormedState
pub mod Gathering
pub mod WrittenText
pub mod RoundTrips
