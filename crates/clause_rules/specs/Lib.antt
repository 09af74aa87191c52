-- What the scratch holds of the clauses so far.
pub mod HeldClauses
pub mod AsPreference
