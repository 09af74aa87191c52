-- What the functions on the way to the grown store and its index take and leave.
pub mod CheckedStore
pub mod GrownLists
pub mod Delivered
