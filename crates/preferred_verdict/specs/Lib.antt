-- The search with the rules sorted.
pub mod SortedSearch
