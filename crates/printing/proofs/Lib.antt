-- The laws of printing.
pub mod PrintedLines
