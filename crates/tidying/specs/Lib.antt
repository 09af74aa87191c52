-- What sorting the lists of stored rules leaves.
pub mod TidyWords
