-- The order of the lines in document 01's words ("The two kinds of file"): which lines have come at each stage.
use Rattle.std.specs.Prelude.{ℕ, ◌≡◌, ◌⊎◌, List, [], ◌∷◌, ◌++◌}
use Rattle.kinds.specs.declared.limits.Kind.{Kind}
use Rattle.kinds.specs.declared.limits.Kind.TheVariants.{Plain, Preference}
use Rattle.rules.specs.Lists.{All, flat}
use Rattle.lines.specs.declared.stage.Stage.{Stage}
use Rattle.lines.specs.declared.stage.Stage.TheVariants.{Declaring, Fixing, Ruling}
use Rattle.lines.specs.Tokens.{Token}
use Rattle.lines.specs.Forms.{atoms, min, vary, fix, LineForm, declares, rules, condition, blank, broken, form_of}

-- blank lines are passed over
abbrev pub unless_blank : LineForm → List LineForm
unless_blank (declares w xs) = declares w xs ∷ []
unless_blank (rules hs bs ns) = rules hs bs ns ∷ []
unless_blank (condition ts a) = condition ts a ∷ []
unless_blank blank = []
unless_blank broken = broken ∷ []

abbrev pub forms_of : List (List ℕ) → List LineForm
forms_of ls = flat (λ l. unless_blank (form_of l)) ls

abbrev pub IsMin : LineForm → Type 0
IsMin f = (xs : List (List ℕ)) × (f ≡ declares min xs)

abbrev pub IsRule : LineForm → Type 0
IsRule f = (hs : List (List ℕ)) × (bs : List (List ℕ)) × (ns : List (List ℕ)) × (f ≡ rules hs bs ns)

abbrev pub IsWhen : LineForm → Type 0
IsWhen f = (ts : List Token) × (a : List ℕ) × (f ≡ condition ts a)

-- "A line `(when COND (then a))` may stand among a preference file's rules." (document 02, W-208)
abbrev pub AmongRules : Kind → LineForm → Type 0
AmongRules kind f = IsRule f ⊎ ((kind ≡ Preference) × IsWhen f)

-- "A plain program has one `(atoms ..)` line, then rules."
-- "A preference file has 0 to 16 `min` lines .., one `vary` line, one `fix` line, then rules."
abbrev pub Came : Kind → Stage → List LineForm → Type 0
Came Plain Declaring fs = fs ≡ []
Came Plain Fixing fs = ⊥
Came Plain Ruling fs = (xs : List (List ℕ)) × (rs : List LineForm) × All (AmongRules Plain) rs × (fs ≡ declares atoms xs ∷ rs)
Came Preference Declaring fs = All IsMin fs
Came Preference Fixing fs = (ms : List LineForm) × (xs : List (List ℕ)) × All IsMin ms × (fs ≡ ms ++ (declares vary xs ∷ []))
Came Preference Ruling fs =
    (ms : List LineForm) × (xs : List (List ℕ)) × (ys : List (List ℕ)) × (rs : List LineForm) × All IsMin ms × All (AmongRules Preference) rs × (fs ≡ ms ++ (declares vary xs ∷ declares fix ys ∷ rs))

-- the lines are no beginning of a file of that kind
abbrev pub OutOfOrder : Kind → List LineForm → Type 0
OutOfOrder kind fs = (stage : Stage) → Came kind stage fs → ⊥
