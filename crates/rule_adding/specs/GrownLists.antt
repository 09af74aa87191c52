-- Lists behind their counts, one after the other, and a number behind those that are marked.
use Rattle.std.specs.Prelude.{ℕ, zero, suc, ◌+◌, ◌≤◌, Bool, List, [], ◌∷◌, ◌++◌, length, get_or, take, drop}
use Rattle.rules.specs.Lists.{keep}
use Rattle.output.specs.Emitted.{InRange}
use Rattle.rule_index.specs.Index.{counted}

-- n lists, each behind its count
abbrev pub CountedLists : ℕ → List ℕ → Type 0
CountedLists zero ws = Unit {0}
CountedLists (suc n) ws = (1 + get_or ws 0 0 ≤ length ws) × CountedLists n (drop (1 + get_or ws 0 0) ws)

-- the list at the front, with i behind it if it is marked
unfoldable pub grown_list : ℕ → Bool → List ℕ → List ℕ
grown_list i mark ws = counted (take (get_or ws 0 0) (drop 1 ws) ++ keep mark i [])

unfoldable pub grown_lists : ℕ → List Bool → List ℕ → List ℕ
grown_lists i [] ws = []
grown_lists i (mark ∷ marks) ws = grown_list i mark ws ++ grown_lists i marks (drop (1 + get_or ws 0 0) ws)

-- a list at the front of short words, with room for it from `at` on
pub record FrontList (number : ℕ) (mark : Bool) (words : List ℕ) (at : ℕ) : Type 0 where
  pub inside : 1 + get_or words 0 0 ≤ length words
  pub short : length words ≤ 65535
  pub range : InRange at (grown_list number mark words)
