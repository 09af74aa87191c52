-- Conditions in a preference file: what they mean, the rules written for them, the two readings, the written program over numbers and what is left of it.
pub mod Conditions
pub mod Written
pub mod Rows
pub mod Readings
pub mod Numbers
pub mod Table
pub mod Programs
pub mod Left
pub mod DirectReading
