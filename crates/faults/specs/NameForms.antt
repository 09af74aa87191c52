-- The names in document 01's words ("The two kinds of file"), house names and `T.` names in those of document 02, W-201 and W-208.
use Rattle.std.specs.Prelude.{ℕ, ◌+◌, ◌≤◌, ◌<◌, ◌≡◌, ◌⊎◌, List, [], ◌∷◌, ◌++◌, length}
use Rattle.kinds.specs.Limits.{atom_limit, name_limit}
use Rattle.kinds.specs.Words.{bytes, byte, decimal}
use Rattle.kinds.specs.declared.limits.Kind.TheVariants.{Preference}
use Rattle.rules.specs.Lists.{All}

-- a to z, and 0 to 9
abbrev pub Letter : ℕ → Type 0
Letter b = (byte "a" ≤ b) × (b ≤ byte "z")

abbrev pub Digit : ℕ → Type 0
Digit b = (byte "0" ≤ b) × (b ≤ byte "9")

-- "letters a to z, digits or `_`"
abbrev pub NameByte : ℕ → Type 0
NameByte b = Letter b ⊎ (Digit b ⊎ (b ≡ byte "_"))

-- "may start with a digit" or a letter, "then letters a to z, digits or `_`", of any length
abbrev pub HouseBytes : List ℕ → Type 0
HouseBytes [] = ⊥
HouseBytes (b ∷ bs) = (Letter b ⊎ Digit b) × All NameByte bs

-- "A house name may be up to 24 bytes"
abbrev pub HouseName : List ℕ → Type 0
HouseName x = HouseBytes x × (length x ≤ name_limit)

abbrev pub LongHouseName : List ℕ → Type 0
LongHouseName x = HouseBytes x × (name_limit < length x)

-- "`T.1` to `T.256` (no leading zero)"
abbrev pub MadeName : List ℕ → Type 0
MadeName x = (t : ℕ) × (1 ≤ t) × (t ≤ atom_limit Preference) × (x ≡ bytes "T." ++ decimal t)

-- a name of both kinds of file
abbrev pub CommonName : List ℕ → Type 0
CommonName x = HouseName x ⊎ MadeName x

-- x is y after `N.`, `S.` or `D.`
abbrev pub Marked : List ℕ → List ℕ → Type 0
Marked x y = (x ≡ bytes "N." ++ y) ⊎ ((x ≡ bytes "S." ++ y) ⊎ (x ≡ bytes "D." ++ y))

-- "0 to 16 without leading zero": 0 to 9, or 10 to 16
abbrev pub ClassNumber : List ℕ → Type 0
ClassNumber y = ((d : ℕ) × (d ≤ 9) × (y ≡ (byte "0" + d) ∷ [])) ⊎ ((d : ℕ) × (d ≤ 6) × (y ≡ byte "1" ∷ (byte "0" + d) ∷ []))

-- "`N.`, `S.` or `D.` before a house name, `E.` before 0 to 16 without leading zero, and `U`"; "`T.` names too, also after `N.`, `S.` or `D.`"
abbrev pub GeneratedName : List ℕ → Type 0
GeneratedName x = ((y : List ℕ) × Marked x y × CommonName y) ⊎ (((y : List ℕ) × (x ≡ bytes "E." ++ y) × ClassNumber y) ⊎ (x ≡ bytes "U"))

-- "house name too long (after `N.`, `S.` or `D.` too)"
abbrev pub TooLongName : List ℕ → Type 0
TooLongName x = LongHouseName x ⊎ ((y : List ℕ) × Marked x y × LongHouseName y)
