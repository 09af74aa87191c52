-- The lines of a text: brackets and words, forms, faults, what they say, and which are strict; then what the code finds at its places.
pub mod Lines
pub mod Tokens
pub mod Conditions
pub mod Forms
pub mod Faults
pub mod Said
pub mod Strict
pub mod Shapes
