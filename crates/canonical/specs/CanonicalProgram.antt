-- The canonical program: the same declarations, canonical rules (document 02, W-205).
use Rattle.std.specs.Prelude.{◌≡◌, List, ℕ}
use Rattle.stores.specs.Program.{Program}
use Rattle.canonical.specs.Canonical.{canonical, SameRules}

unfoldable pub canonical_program : Program → Program
canonical_program p = record { kind = p.kind; atoms = p.atoms; classes = p.classes; words = p.words; rules = canonical p.rules }

-- "the same declarations in the same order and the same rules as sets"
pub record SamePrograms (p : Program) (names : List (List ℕ)) (q : Program) (others : List (List ℕ)) : Type 0 where
  pub same_kind : p.kind ≡ q.kind
  pub same_classes : p.classes ≡ q.classes
  pub same_words : p.words ≡ q.words
  pub same_names : names ≡ others
  pub same_rules : SameRules p.rules q.rules
