-- The demands and the marked cases, proved.
pub mod Demand1
pub mod Demand2
pub mod Demand3
pub mod Sheet
