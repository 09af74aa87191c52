-- What the functions of a flip give each other.
pub mod Joined
pub mod Places
pub mod Checked
