-- The laws of the delivery.
pub mod Fitting
pub mod Delivering
pub mod Outcomes
