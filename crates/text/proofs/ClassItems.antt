-- The lines of the class words, each of a run of atoms.
use Prim.Native.Nat.{ℕ, suc, ◌+◌, ◌-◌, ◌≤◌, ◌<◌}
use native.Mathlib.Numerals.{add-one}
use native.Mathlib.Decide.{dec_lt}
use native.Mathlib.Omega.{arith}
use mathlib.Core.Path.{◌≡◌, refl, sym, ap, ap₂, ◌∙◌, subst}
use mathlib.Core.Bool.{Bool, true, false, ◌&&◌, cond}
use mathlib.Core.Logic.{◌⊎◌, inl, inr}
use mathlib.Core.List.{List, [], ◌∷◌, ◌++◌, append_assoc, append-nil}
use lib.Dec.{leb, eqb}
use lib.ListN.{length, get_or}
use borrow.Author.Tests.{leb-true, eqb-true}
use Rattle.rules.specs.Lists.{from}
use Rattle.kinds.specs.Limits.{varying, fixed}
use Rattle.rules.specs.Preferred.{of_class}
use Rattle.rules.proofs.Lists.{all_at}
use Rattle.stores.specs.Program.{RoleForm, role_of}
use Rattle.stores.specs.declared.roles.Role.TheVariants.{Minimised, Varying, Fixed, Unknown}
use Rattle.kinds.specs.Words.{open_bracket, close_bracket, line_end_lem, min_word, vary_word, fix_word}
use Rattle.text.specs.Text.{open_text, list_line, named}
use Rattle.text.specs.ClassRuns.{ClassWordsOf, up_to}
use Rattle.output.specs.Emitted.{Emitted, InRange}
use Rattle.text.specs.Items.{atom_items, atom_line, class_item, min_items, class_items}
use Rattle.output.proofs.Emitting.{Ahead, Emitting, start, turn, finish, range_here}
use Rattle.text.proofs.ClassWords.{up_to_le, up_to_rises, within, stops, class_run}

-- a class up to k, varying or fixed
Known : ℕ → ℕ → Type 0
Known k w = ((1 ≤ w) × (w ≤ k)) ⊎ ((w ≡ 17) ⊎ (w ≡ 18))

known_word : (k w : ℕ) → RoleForm k (role_of w) → Known k w
unfolding Known role_of
known_word k w h = go (leb 1 w) (leb w 16) (eqb w 17) (eqb w 18) refl refl refl h
  where
    go : (a b c d : Bool) → leb 1 w ≡ a → eqb w 17 ≡ c → eqb w 18 ≡ d → RoleForm k (cond (a && b) (Minimised w) (cond c Varying (cond d Fixed Unknown))) → Known k w
    go true true c d e f g h = inl (leb-true 1 w e, h)
    go true false true d e f g h = inr (inl (eqb-true w 17 f))
    go true false false true e f g h = inr (inr (eqb-true w 18 g))
    go true false false false e f g h = absurd h
    go false b true d e f g h = inr (inl (eqb-true w 17 f))
    go false b false true e f g h = inr (inr (eqb-true w 18 g))
    go false b false false e f g h = absurd h

module _ {n k : ℕ} {ws : List ℕ} (f : ClassWordsOf n k ws) where
  known_at : (i : ℕ) → i < length ws → Known k (get_or ws i 0)
  known_at i l = known_word k (get_or ws i 0) (all_at (λ w. RoleForm k (role_of w)) 0 ws f.form.2 i l)

  -- no word is 0
  pub none_before : 0 ≡ up_to 0 ws
  unfolding Known
  none_before = go (dec_lt 0 (up_to 0 ws))
    where
      positive : Known k (get_or ws 0 0) → get_or ws 0 0 ≤ 0 → ⊥
      positive (inl h) l = omega (arith, h.0)
      positive (inr (inl h)) l = omega arith
      positive (inr (inr h)) l = omega arith

      go : Dec (0 < up_to 0 ws) → 0 ≡ up_to 0 ws
      go (yes h) = absurd (positive (known_at 0 (omega (arith, up_to_le 0 ws))) (within 0 ws 0 h))
      go (no h) = omega arith

  -- none is above 18
  pub all_counted : up_to fixed ws ≡ length ws
  unfolding Known
  all_counted = go (dec_lt (up_to fixed ws) (length ws))
    where
      small : (w : ℕ) → Known k w → 18 < w → ⊥
      small w (inl h) l = omega (arith, h.1, f.form.0)
      small w (inr (inl h)) l = omega arith
      small w (inr (inr h)) l = omega arith

      go : Dec (up_to fixed ws < length ws) → up_to fixed ws ≡ length ws
      go (yes h) = absurd (small (get_or ws (up_to fixed ws) 0) (known_at (up_to fixed ws) h) (stops fixed ws h))
      go (no h) = omega (arith, up_to_le fixed ws)

  pub vary_before : {vary : ℕ} → vary ≡ up_to k ws → vary ≤ up_to varying ws
  vary_before v = omega (arith, up_to_rises k varying (omega (arith, f.form.0)) ws)

  pub fix_inside : {fix : ℕ} → fix ≡ up_to varying ws → fix ≤ n
  fix_inside x = omega (arith, up_to_le varying ws, f.form.1)

-- the line of a class word whose atoms are a run
line_of_run : (names : List (List ℕ)) (ws word : List ℕ) (w first end : ℕ) → of_class ws w ≡ from first (end - first) → class_item names ws word w ≡ atom_line names (open_bracket ∷ word) (from first (end - first))
unfolding class_item list_line open_text atom_line atom_items
line_of_run names ws word w first end e =
    ap (λ (xs : List ℕ). list_line word (named names xs)) e
    ∙ ap (λ (l : List ℕ). open_bracket ∷ l) (append_assoc word (atom_items names (from first (end - first))) (close_bracket ∷ line_end_lem ∷ []))

-- the `min` lines that are left, from a class on
pub record MinsLeft (names : List (List ℕ)) (n k : ℕ) (ws before : List ℕ) (at : ℕ) (now : List ℕ) (next first class : ℕ) : Type 0 where
  pub words : ClassWordsOf n k ws
  pub positive : 1 ≤ class
  pub counted : first ≡ up_to (class - 1) ws
  pub so : Emitting (min_items names ws 1 k) before at (min_items names ws class (k + 1 - class)) now next

pub mins_begin : {names : List (List ℕ)} {n k : ℕ} {ws before : List ℕ} {at : ℕ} → ClassWordsOf n k ws → InRange at (min_items names ws 1 k) → MinsLeft names n k ws before at before at 0 1
mins_begin {names} {n} {k} {ws} {before} {at} f r =
    let e : k ≡ k + 1 - 1 = omega arith in
    record {
      words = f;
      positive = omega arith;
      counted = none_before f;
      so = subst (λ (c : ℕ). Emitting (min_items names ws 1 k) before at (min_items names ws 1 c) before at) e (start r);
    }

module _ {names : List (List ℕ)} {n k : ℕ} {ws before : List ℕ} {at : ℕ} {now : List ℕ} {next first class : ℕ} (h : MinsLeft names n k ws before at now next first class) where
  pub mins_end : k < class → Emitted before at (min_items names ws 1 k) now next
  unfolding min_items
  mins_end l = let e : k + 1 - class ≡ 0 = omega arith in finish h.so (ap (min_items names ws class) e)

  pub next_class : first ≤ up_to class ws
  next_class = omega (arith, h.counted, up_to_rises (class - 1) class (omega arith) ws)

  module _ (l : class ≤ k) {end : ℕ} (e : end ≡ up_to class ws) where
    pub end_inside : end ≤ n
    end_inside = omega (arith, up_to_le class ws, h.words.form.1)

    run : of_class ws class ≡ from first (end - first)
    run =
        let p = h.positive in
        class_run (class - 1) class ws h.words.form.3 (omega arith) (λ i u v. omega arith)
        ∙ ap₂ (λ (a b : ℕ). from a (b - a)) (sym h.counted) (sym e)

    min_ahead : Ahead (min_items names ws class (k + 1 - class)) (atom_line names (open_bracket ∷ min_word) (from first (end - first))) (min_items names ws (class + 1) (k + 1 - (class + 1)))
    unfolding min_items
    min_ahead =
        let m : k + 1 - class ≡ suc (k + 1 - (class + 1)) = omega arith in
        record {
          is =
              ap (min_items names ws class) m
              ∙ ap₂ (λ (x : List ℕ) (c : ℕ). x ++ min_items names ws c (k + 1 - (class + 1))) (line_of_run names ws min_word class first end run) (sym (add-one class));
        }

    pub min_range : InRange next (atom_line names (open_bracket ∷ min_word) (from first (end - first)))
    min_range = range_here h.so min_ahead

    pub mins_again : {now' : List ℕ} {next' : ℕ} → Emitted now next (atom_line names (open_bracket ∷ min_word) (from first (end - first))) now' next' → MinsLeft names n k ws before at now' next' end (class + 1)
    mins_again p =
        let c : class ≡ class + 1 - 1 = omega arith in
        record { words = h.words; positive = omega arith; counted = e ∙ ap (λ (w : ℕ). up_to w ws) c; so = turn h.so min_ahead p }

module _ (names : List (List ℕ)) {n k : ℕ} {ws : List ℕ} (f : ClassWordsOf n k ws) where
  -- the lines after them
  pub mins_ahead : Ahead (class_items names ws k) (min_items names ws 1 k) (class_item names ws vary_word varying ++ class_item names ws fix_word fixed)
  unfolding class_items
  mins_ahead = record { is = refl }

  module _ {vary fix : ℕ} (v : vary ≡ up_to k ws) (x : fix ≡ up_to varying ws) where
    pub vary_ahead : Ahead (class_item names ws vary_word varying ++ class_item names ws fix_word fixed) (atom_line names (open_bracket ∷ vary_word) (from vary (fix - vary))) (class_item names ws fix_word fixed)
    unfolding Known
    vary_ahead =
        let run : of_class ws varying ≡ from vary (fix - vary) =
        class_run k varying ws f.form.3 (omega (arith, f.form.0)) (λ i u w. above (get_or ws i 0) (known_at f i u) w)
        ∙ ap₂ (λ (a b : ℕ). from a (b - a)) (sym v) (sym x) in
        record { is = ap (λ (l : List ℕ). l ++ class_item names ws fix_word fixed) (line_of_run names ws vary_word varying vary fix run) }
      where
        above : (w : ℕ) → Known k w → k < w → varying ≤ w
        above w (inl h) l = absurd (omega (arith, h.1))
        above w (inr (inl h)) l = omega arith
        above w (inr (inr h)) l = omega arith

    pub fix_ahead : Ahead (class_item names ws fix_word fixed) (atom_line names (open_bracket ∷ fix_word) (from fix (length ws - fix))) []
    fix_ahead =
        let run : of_class ws fixed ≡ from fix (length ws - fix) =
        class_run varying fixed ws f.form.3 (omega arith) (λ i u w. omega arith)
        ∙ ap₂ (λ (a b : ℕ). from a (b - a)) (sym x) (all_counted f) in
        record { is = line_of_run names ws fix_word fixed fix (length ws) run ∙ sym (append-nil (atom_line names (open_bracket ∷ fix_word) (from fix (length ws - fix)))) }
