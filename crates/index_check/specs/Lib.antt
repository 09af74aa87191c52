-- Where the lists of an index stand, and how it is read along the rules.
pub mod Lists
