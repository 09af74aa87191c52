-- What the writing of an index keeps on its way.
pub mod Filling
