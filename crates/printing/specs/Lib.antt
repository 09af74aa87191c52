-- Parts of the lines that the two programs print.
pub mod Parts
