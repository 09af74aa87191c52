-- "Atom i becomes `v` and its number, all in one `min` line, with empty `vary` and `fix`" (document 02, W-202).
use Rattle.std.specs.Prelude.{ℕ, suc, List, ◌∷◌, map, replicate}
use Rattle.kinds.specs.Words.{byte, decimal}
use Rattle.kinds.specs.declared.limits.Kind.TheVariants.{Preference}
use Rattle.rules.specs.Lists.{from}
use Rattle.rules.specs.Rules.{Rule}
use Rattle.stores.specs.Program.{Program}

abbrev pub clause_name : ℕ → List ℕ
clause_name a = byte "v" ∷ decimal (suc a)

unfoldable pub clause_names : ℕ → List (List ℕ)
clause_names n = map clause_name (from 0 n)

abbrev pub clause_program : ℕ → List (Rule ℕ) → Program
clause_program n rs = record {
  kind = Preference;
  atoms = n;
  classes = 1;
  words = replicate n 1;
  rules = rs;
}
