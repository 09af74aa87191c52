-- Names in the scratch store, and their numbers.
pub mod HashedItems
pub mod Numbers
pub mod Entries
