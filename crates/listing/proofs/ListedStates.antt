-- The lister's loop: what stands written, and what is left to list.
use Prim.Native.Nat.{ℕ, zero, suc, ◌+◌, ◌-◌, ◌*◌, ◌^◌, ◌≤◌, ◌<◌}
use native.Mathlib.Numerals.{add-one}
use native.Mathlib.Omega.{arith}
use mathlib.Core.Path.{◌≡◌, refl, sym, ap, ap₂, ◌∙◌}
use mathlib.Core.Bool.{Bool, true, false, cond}
use mathlib.Core.Logic.{◌⊎◌, inl, inr, ⊎_elim}
use mathlib.Core.List.{List, [], ◌∷◌, ◌++◌, append_assoc}
use lib.Dec.{T, leb}
use lib.ListN.{length, get_or, take, drop, length-append}
use lib.Pow.{pow_mono}
use types.Run.{OneOf}
use denote.Enum.Declared.{tag_of}
use borrow.Author.Tests.{le-leb, leb-true, leb-false}
use Rattle.kinds.specs.Sizes.{longest_name, longest_entry}
use Rattle.kinds.specs.Limits.{stream_limit, walk_atoms, budget_limit}
use Rattle.kinds.specs.declared.limits.Kind.TheVariants.{Preference}
use Rattle.kinds.specs.declared.refusals.Refusal.{Refusal}
use Rattle.kinds.specs.declared.refusals.Refusal.TheVariants.{Output}
use Rattle.rules.specs.Lists.{All}
use Rattle.rules.specs.Sets.{has}
use Rattle.rules.proofs.Lists.{all_imp}
use Rattle.names.specs.Names.{allowed}
use Rattle.name_store.proofs.NamePlaces.{length_decode}
use Rattle.name_store.proofs.NameStores.{allowed_short}
use Rattle.text.specs.Text.{item}
use Rattle.text.specs.Items.{stored_names}
use Rattle.output.specs.Emitted.{Emitted, InRange}
use Rattle.output.proofs.Emitting.{none, then, renamed, same_length}
use Rattle.places.specs.Places.{place}
use Rattle.places.proofs.Places.{turned_twice}
use Rattle.masks.specs.AnswersAt.{next_at}
use Rattle.lister.specs.NextMasks.{next_m}
use Rattle.lister.proofs.NextInside.{next_between}
use Rattle.walks.specs.declared.answers.NextState.{NextState}
use Rattle.walks.specs.declared.answers.NextState.TheVariants.{State, Nothing, Spent, Refused}
use Rattle.walks.specs.contracts.answers.NextState.{the_type}
use Rattle.answers.specs.Printed.{closing, state_line, total_line, spent_line, refused_text}
use Rattle.printing.specs.Parts.{member, members}
use Rattle.answers.specs.Listed.{on_next, listing, streamed}
use Rattle.answers.specs.NextInside.{Inside}
use Rattle.listing.specs.ListedMasks.{ListedNames, last_line, Limited}
use Rattle.printing.proofs.PrintedLines.{member_next, members_end, state_opens, total_short, written_front}

-- a state's line is short

name_short : (names : List (List ℕ)) → All (λ x. length x ≤ longest_name) names → (a : ℕ) → length (get_or names a []) ≤ longest_name
name_short [] h a = omega arith
name_short (x ∷ names) h zero = h.0
name_short (x ∷ names) h (suc a) = name_short names h.1 a

module _ (names : List (List ℕ)) (short : All (λ x. length x ≤ longest_name) names) (s : ℕ) where
  member_short : (a : ℕ) → length (member names s a) ≤ longest_entry
  unfolding member
  member_short a = go (has s a)
    where
      go : (b : Bool) → length (cond b (item (get_or names a [])) []) ≤ longest_entry
      go true = omega (arith, name_short names short a)
      go false = omega arith

  members_short : (c i n : ℕ) → n - i ≡ c → length (members names s i n) ≤ longest_entry * c
  members_short zero i n e = omega (arith, ap length (members_end names s i n (omega arith)))
  members_short (suc c) i n e =
      omega (
        arith,
        ap length (member_next names s i n (omega arith)).is ∙ length-append (member names s i) (members names s (i + 1) n),
        member_short i,
        members_short c (i + 1) n (omega arith),
      )

  state_short : length names ≤ walk_atoms → length (state_line names s) ≤ 8 + longest_entry * walk_atoms
  state_short few =
      omega (
        arith,
        ap length (state_opens names s (length names) refl).is,
        length-append (members names s 0 (length names)) closing,
        members_short (length names) 0 (length names) (omega arith),
      )

module _ {n : ℕ} {names starts : List ℕ} (h : ListedNames n names starts) where
  all_short : All (λ x. length x ≤ longest_name) (stored_names names starts)
  all_short = all_imp (λ x. T (allowed Preference x)) (λ x. length x ≤ longest_name) (allowed_short Preference) (stored_names names starts) h.all_allowed

  pub few_starts : length starts ≤ walk_atoms
  few_starts = omega (arith, h.few, h.count)

  pub few_sets : 2 ^ n ≤ 2 ^ walk_atoms
  few_sets = pow_mono h.few

  pub state_range : (at s : ℕ) → at ≤ stream_limit → InRange at (state_line (stored_names names starts) s)
  state_range at s l = record { below = omega (arith, state_short (stored_names names starts) all_short s (omega (arith, few_starts, length_decode (length starts) names))) }

pub between : (care want groups classes : List ℕ) (fixed n : ℕ) → Inside (λ p. p) (λ t. next_m care want groups classes fixed n t budget_limit) (2 ^ n)
between care want groups classes fixed n t p u l e = next_between care want groups classes fixed n t budget_limit p u e

-- the states up to the start are written, `count` of them
pub record Listing (next : ℕ → NextState) (n : ℕ) (names : List (List ℕ)) (before now : List ℕ) (at start count : ℕ) : Type 0 where
  pub inside : start ≤ 2 ^ n
  pub counted : count ≤ start
  pub left : ℕ
  pub enough : 2 ^ n < start + left
  pub written : List ℕ
  pub so : Emitted before 0 written now at
  pub all : written ++ listing (place n) (λ t. next_at n (next t)) left names start count ≡ listing (place n) (λ t. next_at n (next t)) (suc (2 ^ n)) names 0 0

pub begins : (next : ℕ → NextState) (n : ℕ) (names : List (List ℕ)) (out : List ℕ) → Listing next n names out out 0 0 0
begins next n names out = record {
  inside = omega arith;
  counted = omega arith;
  left = suc (2 ^ n);
  enough = omega arith;
  written = [];
  so = none;
  all = refl;
}

other_lines : (n : ℕ) (found : NextState) (more : ℕ → List ℕ) (c : ℕ) → OneOf (1 ∷ 2 ∷ 3 ∷ []) (tag_of the_type found) → on_next (next_at n found) more (total_line c) spent_line ≡ last_line found c
unfolding last_line next_at
other_lines n (State s u) more c k = absurd (⊎_elim (λ (e : ◌≡◌ {A = ℕ} 0 1). omega arith) (λ q. ⊎_elim (λ (e : ◌≡◌ {A = ℕ} 0 2). omega arith) (λ (e : ◌≡◌ {A = ℕ} 0 3). omega arith) q) k)
other_lines n (Nothing u) more c k = refl
other_lines n (Spent u) more c k = refl
other_lines n (Refused f) more c k = refl

module _ {found : NextState} (c : ℕ) where
  last_state : {s u : ℕ} → found ≡ State s u → [] ≡ last_line found c
  unfolding last_line
  last_state e = rw e

  pub last_total : {u : ℕ} → found ≡ Nothing u → total_line c ≡ last_line found c
  unfolding last_line
  last_total e = rw e

  pub last_spent : {u : ℕ} → found ≡ Spent u → spent_line ≡ last_line found c
  unfolding last_line
  last_spent e = rw e

  last_refused : {f : Refusal} → found ≡ Refused f → [] ≡ last_line found c
  unfolding last_line
  last_refused e = rw e

  pub last_none : ((s : ℕ) × (u : ℕ) × (found ≡ State s u)) ⊎ ((f : Refusal) × (found ≡ Refused f)) → [] ≡ last_line found c
  last_none (inl (s, u, e)) = last_state e
  last_none (inr (f, e)) = last_refused e

last_short : (found : NextState) (c : ℕ) → length (last_line found c) ≤ 29
unfolding last_line
last_short (State s u) c = omega arith
last_short (Nothing u) c = total_short c
last_short (Spent u) c = omega arith
last_short (Refused f) c = omega arith

module _ {next : ℕ → NextState} {n : ℕ} {names : List (List ℕ)} {before now : List ℕ} {at start count : ℕ} (h : Listing next n names before now at start count) where
  abbrev rest : ℕ → List ℕ
  rest left = listing (place n) (λ t. next_at n (next t)) left names start count

  abbrev more : ℕ → List ℕ
  more s = state_line names s ++ listing (place n) (λ t. next_at n (next t)) (h.left - 1) names (suc (place n s)) (suc count)

  unfolded : rest h.left ≡ on_next (next_at n (next start)) more (total_line count) spent_line
  unfolding listing
  unfolded =
      let k = h.inside in
      let l = h.enough in
      let e : h.left ≡ suc (h.left - 1) = omega arith in
      ap rest e

  -- the listing so far already passes the size
  pub passed : stream_limit < at → Limited (listing (place n) (λ t. next_at n (next t)) (suc (2 ^ n)) names 0 0) before now at
  passed l =
      let e = ap length (sym h.all) ∙ length-append h.written (rest h.left) in
      record { fits = λ k. absurd (omega (arith, e, h.so.place)); past = λ k. l }

  module _ {found : NextState} (e : found ≡ next start) where
    -- there is no further state, or the budget is spent
    pub ended : {now' : List ℕ} {at' : ℕ} → OneOf (1 ∷ 2 ∷ 3 ∷ []) (tag_of the_type found) → Emitted now at (last_line found count) now' at' → Limited (listing (place n) (λ t. next_at n (next t)) (suc (2 ^ n)) names 0 0) before now' at'
    ended k p =
        let last : rest h.left ≡ last_line found count = unfolded ∙ ap (λ (v : NextState). on_next (next_at n v) more (total_line count) spent_line) (sym e) ∙ other_lines n found more count k in
        let whole = renamed (then h.so p) (ap (λ (l : List ℕ). h.written ++ l) (sym last) ∙ h.all) in
        record { fits = λ l. whole; past = λ l. omega (arith, whole.place) }

    -- the state at place p
    module _ (between : Inside (λ p. p) next (2 ^ n)) {p u : ℕ} (f : found ≡ State p u) where
      at_state : (start ≤ p) × (p < 2 ^ n)
      at_state = between start p u h.inside (sym e ∙ f)

      pub state_small : 2 ^ n ≤ 2 ^ walk_atoms → p < 2 ^ walk_atoms
      state_small l = omega (arith, at_state.1)

      pub count_small : 2 ^ n ≤ 2 ^ walk_atoms → count < 2 ^ walk_atoms
      count_small l = omega (arith, state_small l, at_state.0, h.counted)

      pub falls : 2 ^ n - (p + 1) < 2 ^ n - start
      falls = omega (arith, at_state.0, at_state.1)

      pub listed : {s : ℕ} → s ≡ place n p → {now' : List ℕ} {at' : ℕ} → Emitted now at (state_line names s) now' at' → Listing next n names before now' at' (p + 1) (count + 1)
      unfolding next_at
      listed {s} turned {now'} {at'} w =
          let a = at_state.0 in
          let b = at_state.1 in
          let k = h.enough in
          let back : place n s ≡ p = ap (place n) turned ∙ turned_twice n p b in
          let step : rest h.left ≡ more s = unfolded ∙ ap (λ (v : NextState). on_next (next_at n v) more (total_line count) spent_line) (sym e ∙ f) ∙ ap more (sym turned) in
          record {
            inside = omega arith;
            counted = omega (arith, h.counted);
            left = h.left - 1;
            enough = omega arith;
            written = h.written ++ state_line names s;
            so = then h.so w;
            all =
                ap₂ (λ (x y : ℕ). (h.written ++ state_line names s) ++ listing (place n) (λ t. next_at n (next t)) (h.left - 1) names x y) (add-one p ∙ ap suc (sym back)) (add-one count)
                ∙ append_assoc h.written (state_line names s) (listing (place n) (λ t. next_at n (next t)) (h.left - 1) names (suc (place n s)) (suc count))
                ∙ ap (λ (l : List ℕ). h.written ++ l) (sym step)
                ∙ h.all;
          }

  pub length_kept : length now ≡ length before
  length_kept = same_length h.so

  pub last_range : (found : NextState) → at ≤ stream_limit → InRange at (last_line found count)
  last_range found l = record { below = omega (arith, last_short found count) }

-- the text against the size of an output

module _ {text before after : List ℕ} {size : ℕ} (h : Limited text before after size) where
  pub too_long : stream_limit < size → refused_text Output 0 ≡ streamed text
  too_long l = go (leb (length text) stream_limit) refl
    where
      go : (b : Bool) → leb (length text) stream_limit ≡ b → refused_text Output 0 ≡ cond b text (refused_text Output 0)
      go true e = absurd (omega (arith, leb-true (length text) stream_limit e, (h.fits (leb-true (length text) stream_limit e)).place))
      go false e = refl

  module _ (l : size ≤ stream_limit) (room : length before ≡ stream_limit) where
    short : length text ≤ stream_limit
    short = go (leb (length text) stream_limit) refl
      where
        go : (b : Bool) → leb (length text) stream_limit ≡ b → length text ≤ stream_limit
        go true e = leb-true (length text) stream_limit e
        go false e = absurd (omega (arith, h.past (leb-false (length text) stream_limit e)))

    pub all_is : take (size - 0) (drop 0 after) ≡ streamed text
    all_is = written_front (h.fits short) (omega (arith, short)) ∙ sym (ap (λ (b : Bool). cond b text (refused_text Output 0)) (le-leb (length text) stream_limit short))
