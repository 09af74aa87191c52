-- Names entered into the scratch name store and its index.
use Rattle.std.specs.Prelude.{ℕ, ◌+◌, ◌*◌, ◌≤◌, ◌<◌, ◌≡◌, Bool, true, false, List, [], ◌∷◌, ◌++◌, length, drop, Result, Ok, Err}
use Rattle.kinds.specs.Sizes.{longest_name, longest_entry, store_bytes}
use Rattle.kinds.specs.Limits.{atom_limit}
use Rattle.kinds.specs.declared.limits.Kind.TheVariants.{Plain}
use Rattle.rules.specs.Lists.{All}
use Rattle.name_store.specs.NameStore.{encode_names, among}
use Rattle.name_store.specs.NameIndex.{Indexed}
use Rattle.numbering.specs.declared.entries.Entered.{Entered}
use Rattle.numbering.specs.declared.entries.Unentered.{Unentered}
use Rattle.numbering.specs.declared.entries.Unentered.TheVariants.{Full, Twice}
use Rattle.lines.specs.Tokens.{items}
use Rattle.lines.specs.Faults.{twice}

-- there is room for one name more
pub record EntryRoom (names : List (List ℕ)) (x bytes starts links : List ℕ) (atom at : ℕ) : Type 0 where
  pub count : atom ≡ length names
  pub place : at ≡ length (encode_names names)
  pub short : length x ≤ longest_name
  pub inside : at + longest_entry ≤ length bytes
  pub bytes_small : length bytes < 65536
  pub starts_room : atom < length starts
  pub starts_small : length starts < 65536
  pub links_room : atom < length links

abbrev pub EntrySays : List (List ℕ) → List ℕ → List ℕ → List ℕ → List ℕ → List ℕ → Bool → Type 0
EntrySays names x bytes starts firsts links true = (among names x ≡ false) × Indexed (names ++ (x ∷ [])) bytes starts firsts links
EntrySays names x bytes starts firsts links false = among names x ≡ true

-- a new name is entered, or the name is not new
pub record EntryIs (names : List (List ℕ)) (x bytes starts firsts links : List ℕ) (r : Bool) : Type 0 where
  pub says : EntrySays names x bytes starts firsts links r

-- the lengths of the scratch store and its index
pub record Room (bytes starts links : List ℕ) : Type 0 where
  pub bytes_long : length bytes ≡ store_bytes
  pub starts_long : length starts ≡ atom_limit Plain
  pub links_long : length links ≡ atom_limit Plain

-- the store has so many names, and the bytes end there
pub record Stored (names : List (List ℕ)) (bytes starts firsts links : List ℕ) (atoms used : ℕ) : Type 0 where
  pub index : Indexed names bytes starts firsts links
  pub count : atoms ≡ length names
  pub ends : used ≡ length (encode_names names)
  pub short : used ≤ longest_entry * atoms
  pub few : atoms ≤ atom_limit Plain

-- no name is longer than a name of any kind may be
abbrev pub Short : List (List ℕ) → Type 0
Short xs = All (λ x. length x ≤ longest_name) xs

-- every name of the list is entered
pub record AllEntered (names xs : List (List ℕ)) (bytes starts firsts links : List ℕ) (atoms used : ℕ) : Type 0 where
  pub once : twice names xs ≡ false
  pub stored : Stored (names ++ xs) bytes starts firsts links atoms used

-- those before the place are entered, and there is no room for the next
pub record SomeEntered (names : List (List ℕ)) (s : List ℕ) (from : ℕ) (bytes starts firsts links : List ℕ) (at : ℕ) : Type 0 where
  pub passed : List (List ℕ)
  pub inside : at ≤ length s
  pub all : passed ++ items (drop at s) ≡ items (drop from s)
  pub once : twice names passed ≡ false
  pub index : Indexed (names ++ passed) bytes starts firsts links
  pub full : length (names ++ passed) ≡ atom_limit Plain
  pub more : 1 ≤ length (items (drop at s))
  pub onward : from + length passed ≤ at

abbrev pub EnteredSays : List (List ℕ) → List ℕ → ℕ → List ℕ → List ℕ → List ℕ → List ℕ → Result Entered Unentered → Type 0
EnteredSays names s from bytes starts firsts links (Ok e) = AllEntered names (items (drop from s)) bytes starts firsts links e.atoms e.bytes
EnteredSays names s from bytes starts firsts links (Err (Full at)) = SomeEntered names s from bytes starts firsts links at
EnteredSays names s from bytes starts firsts links (Err Twice) = twice names (items (drop from s)) ≡ true

pub record EnteredIs (names : List (List ℕ)) (s : List ℕ) (from : ℕ) (bytes starts firsts links : List ℕ) (r : Result Entered Unentered) : Type 0 where
  pub says : EnteredSays names s from bytes starts firsts links r
