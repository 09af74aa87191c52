-- The listing over filled masks.
pub mod ListedMasks
