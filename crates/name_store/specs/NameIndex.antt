-- The index of a name store: an atom's name by its number, and its number by the name.
use Rattle.std.specs.Prelude.{ℕ, zero, suc, ◌+◌, ◌*◌, ◌%◌, ◌≤◌, ◌<◌, ◌≡◌, ◌&&◌, cond, List, [], ◌∷◌, ◌++◌, leb, eqb, length, get_or, take, drop, Option, Some, None}
use Rattle.rules.specs.Lists.{Distinct}
use Rattle.name_store.specs.NameStore.{encode_names, same_bytes}

-- the number of the first name that equals x, names being numbered from i
unfoldable pub found_from : ℕ → List ℕ → List (List ℕ) → Option ℕ
found_from i x [] = None
found_from i x (y ∷ names) = cond (same_bytes y x) (Some i) (found_from (suc i) x names)

abbrev pub found : List ℕ → List (List ℕ) → Option ℕ
found x names = found_from 0 x names

-- the end of the name whose length byte stands at that place, if it is inside the bytes
unfoldable pub name_end : List ℕ → ℕ → Option ℕ
name_end bs p = cond (leb 1 (length (drop p bs)) && leb (1 + get_or (drop p bs) 0 0) (length (drop p bs))) (Some (p + 1 + get_or bs p 0)) None

-- the values of the hash
abbrev pub buckets : ℕ
buckets = 4096

unfoldable pub hash_from : ℕ → List ℕ → ℕ
hash_from h [] = h
hash_from h (b ∷ bs) = hash_from ((h * 31 + b) % buckets) bs

abbrev pub name_hash : List ℕ → ℕ
name_hash x = hash_from 0 x

abbrev pub hashes : List (List ℕ) → ℕ → ℕ
hashes names i = name_hash (get_or names i [])

-- the greatest number below i at which f is h, plus one; 0 where there is none
unfoldable pub last_with : (ℕ → ℕ) → ℕ → ℕ → ℕ
last_with f h zero = 0
last_with f h (suc i) = cond (eqb (f i) h) (suc i) (last_with f h i)

-- the place of atom i's length byte
abbrev pub name_start : List (List ℕ) → ℕ → ℕ
name_start names i = length (encode_names (take i names))

-- the bytes begin with the store of these names, and `starts` has the place of each
pub record Placed (names : List (List ℕ)) (bytes starts : List ℕ) : Type 0 where
  pub stored : encode_names names ++ drop (length (encode_names names)) bytes ≡ bytes
  pub room : length names ≤ length starts
  pub start : (i : ℕ) → i < length names → get_or starts i 0 ≡ name_start names i

-- `firsts` has for each hash the last atom with it, `links` for each atom the one before with its hash, each plus one
pub record Indexed (names : List (List ℕ)) (bytes starts firsts links : List ℕ) : Type 0 where
  pub placed : Placed names bytes starts
  pub different : Distinct names
  pub firsts_room : buckets ≤ length firsts
  pub links_room : length names ≤ length links
  pub first : (h : ℕ) → h < buckets → get_or firsts h 0 ≡ last_with (hashes names) h (length names)
  pub link : (i : ℕ) → i < length names → get_or links i 0 ≡ last_with (hashes names) (hashes names i) i
