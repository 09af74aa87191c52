-- Laws of programs over some of their atoms.
pub mod Places
pub mod RuleAtoms
pub mod PreferredLeft
pub mod Forms
pub mod Whole
pub mod Examples
