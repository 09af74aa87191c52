use native.Mathlib.Omega.{arith}
use Rattle.stores.proofs.ClassWord.{minimised, varies, is_fixed_lem, below, above}
use Rattle.stores.proofs.roles.role_of.Goals as goal

pub returns-in-17 : goal.returns-in-17
returns-in-17 c = varies _ c.in-17.is

pub returns-in-18 : goal.returns-in-18
returns-in-18 c = is_fixed_lem _ c.in-18.is

pub returns-in-1-to-16 : goal.returns-in-1-to-16
returns-in-1-to-16 c = minimised _ (omega arith) (omega arith)

pub returns-in_default : goal.returns-in_default
returns-in_default c = below _ (omega arith)

pub returns-in_default-2 : goal.returns-in_default-2
returns-in_default-2 c = above _ (omega arith) (λ e. omega arith) (λ e. omega arith)
