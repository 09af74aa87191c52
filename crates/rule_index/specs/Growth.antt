-- A rule added at a program's end: the store and the index with it (document 02, W-209).
use Rattle.std.specs.Prelude.{ℕ, zero, suc, ◌+◌, List, [], ◌∷◌, ◌++◌, get_or, take, drop}
use Rattle.rules.specs.Lists.{keep}
use Rattle.rules.specs.Rules.{Rule}
use Rattle.stores.specs.Program.{Program}
use Rattle.rule_index.specs.Index.{is_standing, counted}

abbrev pub with_rule : Program → Rule ℕ → Program
with_rule p r = record { kind = p.kind; atoms = p.atoms; classes = p.classes; words = p.words; rules = p.rules ++ (r ∷ []) }

-- a store's words with a rule's behind them, and one rule more counted
unfoldable pub grown_store : List ℕ → List ℕ → List ℕ
grown_store ws rule = take 3 ws ++ (suc (get_or ws 3 0) ∷ (drop 4 ws ++ rule))

-- the index of n atoms, the first being number a, with rule i behind the lists of the atoms that r holds
unfoldable pub grown_index : Rule ℕ → ℕ → ℕ → ℕ → List ℕ → List ℕ
grown_index r i a zero ws = []
grown_index r i a (suc n) ws = counted (take (get_or ws 0 0) (drop 1 ws) ++ keep (is_standing a r) i []) ++ grown_index r i (suc a) n (drop (1 + get_or ws 0 0) ws)
