-- The lines of a text in document 01's words ("The two kinds of file"): "each line ended by byte 10". A last line may lack it, and is then faulty.
use Rattle.std.specs.Prelude.{ℕ, ◌≡◌, ◌⊎◌, ◌≢◌, List, [], ◌∷◌, ◌++◌}
use Rattle.kinds.specs.Words.{line_end_lem, atoms_word}
use Rattle.rules.specs.Lists.{All, flat}
use Rattle.lines.specs.Tokens.{Token, opening, word}
use Rattle.faults.specs.LineForms.{AreTokens}

abbrev pub NoEnd : List ℕ → Type 0
NoEnd s = All (λ b. b ≢ line_end_lem) s

-- byte 10 ends the line and stands nowhere else in it
abbrev pub EndedLine : List ℕ → Type 0
EndedLine l = (s : List ℕ) × NoEnd s × (l ≡ s ++ (line_end_lem ∷ []))

-- each is ended, but the last may be some bytes without byte 10
abbrev pub EachEnded : List (List ℕ) → Type 0
EachEnded [] = Unit {0}
EachEnded (l ∷ ls) = (EndedLine l × EachEnded ls) ⊎ (NoEnd l × (l ≢ []) × (ls ≡ []))

abbrev pub AreLines : List ℕ → List (List ℕ) → Type 0
AreLines text ls = (text ≡ flat (λ l. l) ls) × EachEnded ls

-- "the first bracket form tells the kind" (document 02, W-205): the first line that has a bracket or a word opens with `(atoms`
pub record OpensPlain (ls : List (List ℕ)) : Type 0 where
  pub before : List (List ℕ)
  pub line : List ℕ
  pub later : List (List ℕ)
  pub behind : List Token
  pub are_lines : ls ≡ before ++ (line ∷ later)
  pub nothing_before : All (λ l. AreTokens l []) before
  pub opens : AreTokens line (opening ∷ word atoms_word ∷ behind)
