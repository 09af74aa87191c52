-- Two stores as they were read.
pub mod ReadStores
