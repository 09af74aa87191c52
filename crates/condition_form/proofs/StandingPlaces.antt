-- A bracket or a name at a place.
use Prim.Native.Nat.{ℕ, ◌+◌}
use mathlib.Core.Path.{◌≡◌, refl, sym, ap, ◌∙◌, subst}
use mathlib.Core.Logic.{inl, inr}
use mathlib.Core.Bool.{Bool, ◌&&◌}
use mathlib.Core.List.{List}
use lib.ListN.{drop}
use Rattle.std.specs.Prelude.{Option, Some, None}
use Rattle.kinds.specs.declared.limits.Kind.{Kind}
use Rattle.lines.specs.declared.scan.Item.{Item}
use Rattle.lines.specs.declared.scan.Bracket.{Bracket}
use Rattle.lines.specs.declared.forms.NameFit.{NameFit}
use Rattle.lines.specs.declared.forms.NameFit.TheVariants as Fit
use Rattle.lines.specs.Tokens.{tokens}
use Rattle.lines.specs.Conditions.{words_in}
use Rattle.lines.specs.Forms.{are_names}
use Rattle.lines.specs.Shapes.{spaced, item_of, name_fit, BracketSays, BracketIs}
use Rattle.lines.proofs.TokenPlaces.{item, word_is}
use Rattle.lines.proofs.TokenCuts.{nothing_left}
use Rattle.lines.proofs.NameLists.{fit_says}
use Rattle.condition_form.specs.declared.condition.Standing.TheVariants as Standing
use Rattle.condition_form.specs.ConditionForms.{StandingIs}

module _ (kind : Kind) (s : List ℕ) (at : ℕ) {r : Option Item} (e : r ≡ item_of (drop at s)) where
  module _ (d : r ≡ None) {q : Bracket} (c : BracketIs s at q) where
    pub opening_stands : {p : ℕ} → q ≡ Bracket.Opening p → StandingIs kind s at (Some (Standing.Opening p))
    opening_stands f = record { says = subst (BracketSays s at) f c.says }

    pub closing_stands : {p : ℕ} → q ≡ Bracket.Closing p → StandingIs kind s at (Some (Standing.Closing p))
    closing_stands f = record { says = subst (BracketSays s at) f c.says }

    pub nothing_stands : q ≡ Bracket.Absent → StandingIs kind s at None
    nothing_stands f = record { says = inl (nothing_left s at e d c f) }

  module _ {g n : ℕ} (d : r ≡ spaced g n) {q : NameFit} (f : q ≡ name_fit kind (item s at e d)) where
    pub taken_stands : q ≡ Fit.Taken → StandingIs kind s at (Some (Standing.Taken (at + g + n)))
    taken_stands k = record { says = record { gap = g; size = n; item = sym e ∙ d; place = refl; fits = sym f ∙ k } }

    pub refused_stands : q ≡ Fit.Refused → StandingIs kind s at (Some (Standing.Refused (at + g + n)))
    refused_stands k = record { says = record { gap = g; size = n; item = sym e ∙ d; place = refl; fits = sym f ∙ k } }

    pub wrong_stands : q ≡ Fit.Wrong → StandingIs kind s at None
    unfolding words_in
    wrong_stands k =
        record { says = inr (ap (λ ts. are_names (words_in ts)) (word_is s at e d) ∙ ap (λ (b : Bool). b && are_names (words_in (tokens (drop (at + g + n) s)))) (fit_says kind (item s at e d) f k)) }
