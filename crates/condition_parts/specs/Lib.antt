-- What reading a condition finds and leaves.
pub mod Places
pub mod Parts
