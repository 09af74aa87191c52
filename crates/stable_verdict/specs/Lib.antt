-- The marks of the reduct, and the search with its rules sorted.
pub mod ReductMarks
pub mod SortedSearch
