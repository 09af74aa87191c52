-- A condition's parts at their places in its line (document 02, W-208).
use Rattle.std.specs.Prelude.{ℕ, zero, suc, ◌+◌, ◌-◌, ◌≤◌, ◌≡◌, ◌⊎◌, Bool, true, false, List, [], ◌∷◌, ◌++◌, length, take, drop, Option, Some, None}
use Rattle.kinds.specs.Words.{open_bracket, close_bracket}
use Rattle.kinds.specs.declared.limits.Kind.{Kind}
use Rattle.rules.specs.Lists.{some, is_empty}
use Rattle.lines.specs.declared.forms.NameFit.{NameFit}
use Rattle.lines.specs.declared.forms.NameFit.TheVariants as Fit
use Rattle.lines.specs.Tokens.{Token, opening, closing, word, tokens}
use Rattle.lines.specs.Conditions.{words_in, names_in, pairs}
use Rattle.lines.specs.Forms.{LineForm, condition, broken, when_form, are_names, named}
use Rattle.lines.specs.Faults.{refused_name}
use Rattle.lines.specs.Shapes.{spaced, item_of, name_fit, ByteBehind, then_tokens}
use Rattle.condition_form.specs.declared.condition.Standing.{Standing}
use Rattle.condition_form.specs.declared.condition.Walk.{Walk}
use Rattle.condition_form.specs.declared.condition.Then.{Then}
use Rattle.condition_form.specs.declared.condition.ConditionPlaces.{ConditionPlaces}

-- the bytes between two places
abbrev pub between : ℕ → ℕ → List ℕ → List ℕ
between from to l = take (to - from) (drop from l)

-- at a place stands a word up to another
pub record WordUpTo (kind : Kind) (s : List ℕ) (at to : ℕ) (fit : NameFit) : Type 0 where
  pub gap : ℕ
  pub size : ℕ
  pub item : item_of (drop at s) ≡ spaced gap size
  pub place : to ≡ at + gap + size
  pub fits : name_fit kind (between (at + gap) (at + gap + size) s) ≡ fit

abbrev pub StandingSays : Kind → List ℕ → ℕ → Option Standing → Type 0
StandingSays kind s at (Some (Standing.Opening p)) = ByteBehind s at open_bracket p
StandingSays kind s at (Some (Standing.Closing p)) = ByteBehind s at close_bracket p
StandingSays kind s at (Some (Standing.Taken to)) = WordUpTo kind s at to Fit.Taken
StandingSays kind s at (Some (Standing.Refused to)) = WordUpTo kind s at to Fit.Refused
StandingSays kind s at None = (tokens (drop at s) ≡ []) ⊎ (are_names (words_in (tokens (drop at s))) ≡ false)

pub record StandingIs (kind : Kind) (s : List ℕ) (at : ℕ) (r : Option Standing) : Type 0 where
  pub says : StandingSays kind s at r

-- behind a form's opening bracket, where d more are open: they pair, and its own closes last
unfoldable pub one_form : ℕ → List Token → Bool
one_form d [] = false
one_form d (opening ∷ ts) = one_form (suc d) ts
one_form zero (closing ∷ ts) = is_empty ts
one_form (suc d) (closing ∷ ts) = one_form d ts
one_form d (word x ∷ ts) = one_form d ts

-- the tokens from the last opening bracket on, or others where there is none
unfoldable pub from_last : List Token → List Token → List Token
from_last others [] = others
from_last others (opening ∷ ts) = from_last (opening ∷ ts) ts
from_last others (closing ∷ ts) = from_last others ts
from_last others (word x ∷ ts) = from_last others ts

-- the tokens us from a place on are one form
pub record Walked (kind : Kind) (l : List ℕ) (from : ℕ) (us : List Token) (last : ℕ) (refused : Bool) : Type 0 where
  pub onward : from ≤ last
  pub inside : last ≤ length l
  pub cut : us ≡ tokens (between from last l) ++ tokens (drop last l)
  pub at_last : tokens (drop last l) ≡ from_last us us
  pub one : one_form 0 us ≡ true
  pub are_names_lem : are_names (words_in us) ≡ true
  pub is_refused : refused ≡ some (refused_name kind) (words_in us)

abbrev pub WalkSays : Kind → List ℕ → ℕ → Option Walk → Type 0
WalkSays kind l from (Some w) = Walked kind l from (tokens (drop from l)) w.last w.refused
WalkSays kind l from None = named (when_form (tokens (drop from l))) ≡ broken

pub record WalkIs (kind : Kind) (l : List ℕ) (from : ℕ) (r : Option Walk) : Type 0 where
  pub says : WalkSays kind l from r

-- `(then a))`
pub record ThenAt (s : List ℕ) (at start end : ℕ) : Type 0 where
  pub onward : start ≤ end
  pub inside : end ≤ length s
  pub is : tokens (drop at s) ≡ then_tokens (between start end s)

abbrev pub ThenSays : List ℕ → ℕ → Option Then → Type 0
ThenSays s at (Some t) = ThenAt s at t.start t.end
ThenSays s at None = (a : List ℕ) → tokens (drop at s) ≡ then_tokens a → ⊥

pub record ThenIs (s : List ℕ) (at : ℕ) (r : Option Then) : Type 0 where
  pub says : ThenSays s at r

-- the line's form f is a condition: the tokens of its bytes from..to, of the name start..end
pub record ConditionAt (kind : Kind) (l : List ℕ) (f : LineForm) (p : ConditionPlaces) : Type 0 where
  pub onward : p.from ≤ p.to
  pub inside : p.to ≤ length l
  pub name_onward : p.start ≤ p.end
  pub name_inside : p.end ≤ length l
  pub form : f ≡ condition (tokens (between p.from p.to l)) (between p.start p.end l)
  pub paired : pairs 0 (tokens (between p.from p.to l)) ≡ true
  pub is_refused : p.refused ≡ some (refused_name kind) (names_in (tokens (between p.from p.to l)) ++ (between p.start p.end l ∷ []))

abbrev pub ConditionIs : Kind → List ℕ → LineForm → Option ConditionPlaces → Type 0
ConditionIs kind l f (Some p) = ConditionAt kind l f p
ConditionIs kind l f None = f ≡ broken
