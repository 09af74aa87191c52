-- The name store: each atom's length in one byte, then its name (document 01).
use Rattle.std.specs.Prelude.{ℕ, zero, suc, ◌+◌, ◌≡◌, Bool, true, false, not, ◌&&◌, List, [], ◌∷◌, ◌++◌, T, leb, eqb, length, get_or, take, drop}
use Rattle.kinds.specs.declared.limits.Kind.{Kind}
use Rattle.rules.specs.Lists.{All, Distinct, some, flat, is_empty}
use Rattle.names.specs.Names.{allowed}

abbrev pub name_bytes : List ℕ → List ℕ
name_bytes x = length x ∷ x

unfoldable pub encode_names : List (List ℕ) → List ℕ
encode_names names = flat name_bytes names

-- n different names allowed to that kind
pub record NamesForm (kind : Kind) (n : ℕ) (names : List (List ℕ)) : Type 0 where
  pub count : length names ≡ n
  pub all_allowed : All (λ x. T (allowed kind x)) names
  pub different : Distinct names

-- the bytes are the name store of these names, and it fits a program of that kind with n atoms
pub record NamesOf (bs : List ℕ) (kind : Kind) (n : ℕ) (names : List (List ℕ)) : Type 0 where
  pub form : NamesForm kind n names
  pub bytes : encode_names names ≡ bs

-- the name at the front of the bytes
abbrev pub first_name : List ℕ → List ℕ
first_name bs = take (get_or bs 0 0) (drop 1 bs)

-- n names
unfoldable pub decode_names : ℕ → List ℕ → List (List ℕ)
decode_names zero bs = []
decode_names (suc n) bs = first_name bs ∷ decode_names n (drop (1 + get_or bs 0 0) bs)

-- the test

unfoldable pub same_bytes : List ℕ → List ℕ → Bool
same_bytes [] [] = true
same_bytes [] (y ∷ ys) = false
same_bytes (x ∷ xs) [] = false
same_bytes (x ∷ xs) (y ∷ ys) = eqb x y && same_bytes xs ys

-- the name is among the names
abbrev pub among : List (List ℕ) → List ℕ → Bool
among names x = some (same_bytes x) names

-- n names follow, none of them among those seen before
unfoldable pub are_names_from : Kind → List (List ℕ) → ℕ → List ℕ → Bool
are_names_from kind seen zero bs = is_empty bs
are_names_from kind seen (suc n) bs =
    (leb 1 (length bs) && leb (1 + get_or bs 0 0) (length bs))
    && (allowed kind (first_name bs)
    && (not (among seen (first_name bs))
    && are_names_from kind (seen ++ (first_name bs ∷ [])) n (drop (1 + get_or bs 0 0) bs)))

unfoldable pub are_names : Kind → ℕ → List ℕ → Bool
are_names kind n bs = are_names_from kind [] n bs
