-- The names of a list, one after another: a turn of the walk over them.
use Prim.Native.Nat.{ℕ, ◌+◌, ◌≤◌, zero-le}
use native.Mathlib.Nat.{add-zero}
use native.Mathlib.Omega.{arith}
use mathlib.Core.Path.{◌≡◌, refl, sym, ap, ◌∙◌, subst}
use mathlib.Core.List.{List, [], ◌∷◌}
use mathlib.Core.Bool.{Bool, true, false, not, cond, ◌&&◌, ◌||◌}
use lib.ListN.{length, drop}
use Rattle.kinds.specs.declared.limits.Kind.{Kind}
use Rattle.kinds.specs.declared.limits.Kind.TheVariants.{Plain, Preference}
use Rattle.names.specs.declared.forms.NameClass.{NameClass}
use Rattle.names.specs.declared.forms.NameClass.TheVariants.{Common, Generated, TooLong, Wrong}
use Rattle.names.specs.Names.{name_class, takes, allowed}
use Rattle.name_store.specs.NameStore.{same_bytes}
use Rattle.name_store.proofs.NameStores.{same_self}
use Rattle.rules.specs.Lists.{some}
use Rattle.rules.proofs.Booleans.{or_assoc, or-true, or-false, is_true_lem}
use Rattle.lines.specs.declared.scan.Item.{Item}
use Rattle.std.specs.Prelude.{Option, Some, None}
use Rattle.lines.specs.declared.forms.NameFit.{NameFit}
use Rattle.lines.specs.declared.forms.NameFit.TheVariants as Fit
use Rattle.lines.specs.declared.forms.Names.{Names}
use Rattle.lines.specs.Tokens.{Token, opening, closing, word, tokens, leading, behind, items}
use Rattle.lines.specs.Forms.{Opened, opened, unopened, opened_of, split, none, closed_by, split_names, on_opened, split_list, is_name, are_names}
use Rattle.lines.specs.Faults.{refused_name}
use Rattle.lines.specs.Shapes.{spaced, item_of, is_closing, opens_with, ClosedSays, ClosedIs, OpenedSays, OpenedIs, class_fit, name_fit, Listed, NamesSay, NamesAre, ListedBehind, ListSays, ListIs}
use Rattle.lines.proofs.TokenPlaces.{items_end, behind_end, item_fits, item_long, item, later, item_is, behind_is}

-- what a name is to a kind

pub fit_is : (kind : Kind) (x : List ℕ) {c : NameClass} → c ≡ name_class x → {d : NameClass} → c ≡ d → class_fit kind d ≡ name_fit kind x
unfolding name_fit
fit_is kind x e d = ap (class_fit kind) (sym d ∙ e)

abbrev pub Says : Kind → NameClass → NameFit → Type 0
Says kind c Fit.Taken = (is_name c ≡ true) × (not (takes kind c) ≡ false)
Says kind c Fit.Refused = (is_name c ≡ true) × (not (takes kind c) ≡ true)
Says kind c Fit.Wrong = is_name c ≡ false

says : (kind : Kind) (c : NameClass) → Says kind c (class_fit kind c)
says Plain Common = (refl, refl)
says Plain Generated = (refl, refl)
says Plain TooLong = (refl, refl)
says Plain Wrong = refl
says Preference Common = (refl, refl)
says Preference Generated = (refl, refl)
says Preference TooLong = (refl, refl)
says Preference Wrong = refl

pub fit_says : (kind : Kind) (x : List ℕ) {q d : NameFit} → q ≡ name_fit kind x → q ≡ d → Says kind (name_class x) d
unfolding name_fit
fit_says kind x e d = subst (Says kind (name_class x)) (sym e ∙ d) (says kind (name_class x))

-- the names of a list are those at its front
pub split_is : (ts : List Token) {xs : List (List ℕ)} {rest : List Token} → split_names ts ≡ split xs rest → xs ≡ leading ts
unfolding split_names
split_is ts {xs} {rest} e = go (behind ts) e
  where
    go : (us : List Token) → closed_by (leading ts) us ≡ split xs rest → xs ≡ leading ts
    go [] e = absurd (let z : ◌≡◌ {A = ℕ} 0 1 = cc in omega arith)
    go (opening ∷ us) e = absurd (let z : ◌≡◌ {A = ℕ} 0 1 = cc in omega arith)
    go (closing ∷ us) e = let q : leading ts ≡ xs = cc in sym q
    go (word x ∷ us) e = absurd (let z : ◌≡◌ {A = ℕ} 0 1 = cc in omega arith)

-- the names from a place on end where no word stands, and there the list is closed or not
module _ (s : List ℕ) (from end : ℕ) (same : behind (tokens (drop end s)) ≡ behind (tokens (drop from s))) {r : Option Item} (e : r ≡ item_of (drop end s)) (d : r ≡ None) {q : Option ℕ} (c : ClosedIs s end q) where
  cut : split_names (tokens (drop from s)) ≡ closed_by (items (drop from s)) (tokens (drop end s))
  unfolding split_names items
  cut = ap (closed_by (items (drop from s))) (sym same ∙ behind_end s end e d)

  pub list_closed : {p : ℕ} → q ≡ Some p → (split_names (tokens (drop from s)) ≡ split (items (drop from s)) (tokens (drop p s))) × (p ≤ length s)
  list_closed {p} g =
      let k : ClosedSays s end (Some p) = subst (ClosedSays s end) g c.says in
      (cut ∙ ap (closed_by (items (drop from s))) k.1, k.0.inside)

  pub list_unclosed : q ≡ None → {xs : List (List ℕ)} {rest : List Token} → split_names (tokens (drop from s)) ≡ split xs rest → ⊥
  list_unclosed g i = go (tokens (drop end s)) (subst (ClosedSays s end) g c.says) (sym cut ∙ i)
    where
      go : (ts : List Token) → is_closing ts ≡ false → {xs : List (List ℕ)} {rest : List Token} → closed_by (items (drop from s)) ts ≡ split xs rest → ⊥
      go [] n i = let z : ◌≡◌ {A = ℕ} 0 1 = cc in omega arith
      go (opening ∷ ts) n i = let z : ◌≡◌ {A = ℕ} 0 1 = cc in omega arith
      go (closing ∷ ts) n i = let z : ◌≡◌ {A = ℕ} 0 1 = cc in omega arith
      go (word x ∷ ts) n i = let z : ◌≡◌ {A = ℕ} 0 1 = cc in omega arith

-- the names up to `end` are passed
pub record Naming (kind : Kind) (s : List ℕ) (from end count : ℕ) (refused : Bool) : Type 0 where
  pub inside : end ≤ length s
  pub few : count ≤ end
  pub same_behind : behind (tokens (drop end s)) ≡ behind (tokens (drop from s))
  pub counted : count + length (items (drop end s)) ≡ length (items (drop from s))
  pub refusing : (refused || some (refused_name kind) (items (drop end s))) ≡ some (refused_name kind) (items (drop from s))
  pub naming : are_names (items (drop end s)) ≡ are_names (items (drop from s))

pub begins_naming : (kind : Kind) (s : List ℕ) (from : ℕ) → from ≤ length s → Naming kind s from from 0 false
begins_naming kind s from h = record { inside = h; few = zero-le; same_behind = refl; counted = omega arith; refusing = refl; naming = refl }

module _ {kind : Kind} {s : List ℕ} {from end count : ℕ} {refused : Bool} (h : Naming kind s from end count refused) {r : Option Item} (e : r ≡ item_of (drop end s)) where
  -- behind the last name
  module _ (d : r ≡ None) {q : Option ℕ} (c : ClosedIs s end q) where
    pub names_closed : {p : ℕ} → q ≡ Some p → NamesAre kind s from (Some (record { end = p; count = count; refused = refused }))
    names_closed g =
        let k = list_closed s from end h.same_behind e d c g in
        let out = items_end s end e d in
        record {
          says = record {
            cuts = k.0;
            inside = k.1;
            are_names_lem = sym h.naming ∙ ap are_names out;
            is_count = sym (add-zero count) ∙ ap (λ l. count + length l) (sym out) ∙ h.counted;
            is_refused = sym (or-false refused) ∙ ap (λ l. refused || some (refused_name kind) l) (sym out) ∙ h.refusing;
          };
        }

    pub names_unclosed : q ≡ None → NamesAre kind s from None
    names_unclosed g = record { says = λ xs rest i. absurd (list_unclosed s from end h.same_behind e d c g i) }

  module _ {g n : ℕ} (d : r ≡ spaced g n) where
    pub name_inside : end + g + n ≤ length s
    name_inside = item_fits s end e d

    pub name_long : 1 ≤ n
    name_long = item_long s end e d

    abbrev x : List ℕ
    x = item s end e d

    abbrev ns : List (List ℕ)
    ns = later s end e d

    module _ {q : NameFit} (f : q ≡ name_fit kind x) where
      pub name_wrong : q ≡ Fit.Wrong → NamesAre kind s from None
      unfolding items
      name_wrong k =
          let wrong : are_names (items (drop from s)) ≡ false = sym h.naming ∙ ap are_names (item_is s end e d) ∙ ap (λ (b : Bool). b && are_names ns) (fit_says kind x f k) in
          record { says = λ xs rest i. ap are_names (split_is (tokens (drop from s)) i) ∙ wrong }

      on : is_name (name_class x) ≡ true → {b : Bool} → b ≡ (refused || refused_name kind x) → Naming kind s from (end + g + n) (count + 1) b
      on p {b} q =
          record {
            inside = name_inside;
            few = omega (arith, h.few, name_long);
            same_behind = sym (behind_is s end e d) ∙ h.same_behind;
            counted = omega (arith, h.counted, ap length (item_is s end e d));
            refusing =
                ap (λ (y : Bool). y || some (refused_name kind) ns) q
                ∙ sym (or_assoc refused (refused_name kind x) (some (refused_name kind) ns))
                ∙ ap (λ l. refused || some (refused_name kind) l) (sym (item_is s end e d))
                ∙ h.refusing;
            naming = ap (λ (y : Bool). y && are_names ns) (sym p) ∙ ap are_names (sym (item_is s end e d)) ∙ h.naming;
          }

      pub name_taken : q ≡ Fit.Taken → {b : Bool} → b ≡ refused → Naming kind s from (end + g + n) (count + 1) b
      unfolding allowed
      name_taken k p = let t = fit_says kind x f k in on t.0 (p ∙ sym (ap (λ (y : Bool). refused || y) t.1 ∙ or-false refused))

      pub name_refused : q ≡ Fit.Refused → {b : Bool} → b ≡ true → Naming kind s from (end + g + n) (count + 1) b
      unfolding allowed
      name_refused k p = let t = fit_says kind x f k in on t.0 (p ∙ sym (ap (λ (y : Bool). refused || y) t.1 ∙ or-true refused))

-- a bracket with its word

module _ (w s : List ℕ) (at : ℕ) {q : Option ℕ} (o : OpenedIs s at w q) where
  pub opened_list : {p : ℕ} → q ≡ Some p → split_list w (tokens (drop at s)) ≡ split_names (tokens (drop p s))
  unfolding split_list
  opened_list {p} e =
      let k : OpenedSays s at w (Some p) = subst (OpenedSays s at w) e o.says in
      ap (λ t. on_opened t w) k.1 ∙ ap (λ (b : Bool). cond b (split_names (tokens (drop p s))) none) (is_true_lem (same_bytes w w) (same_self w))

  pub opened_inside : {p : ℕ} → q ≡ Some p → p ≤ length s
  opened_inside {p} e = let k : OpenedSays s at w (Some p) = subst (OpenedSays s at w) e o.says in k.0.inside

  pub unopened_list : q ≡ None → split_list w (tokens (drop at s)) ≡ none
  unfolding split_list
  unopened_list e = go (opened_of (tokens (drop at s))) (subst (OpenedSays s at w) e o.says)
    where
      go : (t : Opened) → opens_with w t ≡ false → on_opened t w ≡ none
      go (opened x ts) n = ap (λ (b : Bool). cond b (split_names ts) none) n
      go unopened n = refl

  pub list_there : (kind : Kind) {p : ℕ} → q ≡ Some p → {r : Option Names} → NamesAre kind s p r → ListIs kind w s at r
  list_there kind {p} e {r} l = record { says = go r l.says }
    where
      go : (r : Option Names) → NamesSay kind s p r → ListSays kind w s at r
      go (Some names) k =
          record { names = items (drop p s); cuts = opened_list e ∙ k.cuts; inside = k.inside; are_names_lem = k.are_names_lem; is_refused = k.is_refused }
      go None k = λ xs rest i. k xs rest (sym (opened_list e) ∙ i)

  pub list_absent : (kind : Kind) → q ≡ None → ListIs kind w s at None
  list_absent kind e = record { says = λ xs rest i. absurd (let j : none ≡ split xs rest = sym (unopened_list e) ∙ i in let z : ◌≡◌ {A = ℕ} 0 1 = cc in omega arith) }

-- what the answer for a list says
module _ {kind : Kind} {s : List ℕ} {from : ℕ} {r : Option Names} (l : NamesAre kind s from r) where
  pub listed : {names : Names} → r ≡ Some names → Listed kind s from names.end names.count names.refused
  listed e = subst (NamesSay kind s from) e l.says

  pub not_listed : r ≡ None → (xs : List (List ℕ)) (rest : List Token) → split_names (tokens (drop from s)) ≡ split xs rest → are_names xs ≡ false
  not_listed e = subst (NamesSay kind s from) e l.says

module _ {kind : Kind} {w s : List ℕ} {at : ℕ} {r : Option Names} (l : ListIs kind w s at r) where
  pub list_is : {names : Names} → r ≡ Some names → ListedBehind kind w s at names.end names.refused
  list_is e = subst (ListSays kind w s at) e l.says

  pub no_list : r ≡ None → (xs : List (List ℕ)) (rest : List Token) → split_list w (tokens (drop at s)) ≡ split xs rest → are_names xs ≡ false
  no_list e = subst (ListSays kind w s at) e l.says
