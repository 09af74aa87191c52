-- What is left of the written program is what is written for the atoms that stand in a rule or a condition; every T atom is left.
use Prim.Native.Nat.{ℕ, ◌+◌, ◌-◌, ◌≤◌, ◌<◌}
use native.Mathlib.Omega.{arith}
use mathlib.Core.Path.{◌≡◌, refl, sym, ap, ap₂, subst, ◌∙◌}
use mathlib.Core.List.{List, [], map, map-append}
use mathlib.Core.Bool.{Bool}
use lib.Dec.{T}
use lib.ListN.{length, get_or, take, drop, replicate, length-drop, length-map, length-replicate}
use lib.Seq.{length-take-le, get_or-take, get_or-drop}
use Rattle.kinds.specs.Limits.{varying}
use Rattle.kinds.specs.declared.limits.Kind.TheVariants.{Preference}
use Rattle.rules.specs.Lists.{All, filter, flat, from}
use Rattle.rules.specs.Rules.{rename}
use Rattle.rules.specs.Renumbering.{Within}
use Rattle.rules.proofs.Lists.{all_imp, all_zip, all_at, all_map}
use Rattle.rules.proofs.Renumbering.{rename_same, rename_again}
use Rattle.restriction.specs.Atoms.{is_member, is_used, place_in, renumbered, entries}
use Rattle.restriction.specs.Remaining.{restrict, remaining, remaining_names}
use Rattle.restriction.proofs.Places.{members, member_filter, at_place}
use Rattle.restriction.proofs.Forms.{same_place}
use Rattle.restriction.proofs.Whole.{remaining_preference, names_preference}
use Rattle.conditions.specs.Conditions.{Atom, Statement, statement_names, made_atoms}
use Rattle.conditions.specs.Written.{written}
use Rattle.conditions.specs.Numbers.{unfixed, place, placed_words, placed_rules, Taken, Declared}
use Rattle.conditions.specs.Programs.{Typed, written_program}
use Rattle.conditions.specs.Left.{spoken, left_statements, written_names}
use Rattle.names.specs.Names.{made_name}
use Rattle.conditions.proofs.Classes.{Unfixed, Fixed, unfixed_le, unfixed_parts, unfixed_app, words_high}
use Rattle.conditions.proofs.InFile.{written_declared}
use Rattle.conditions.proofs.Between.{filter_two, filter_within}
use Rattle.conditions.proofs.Renamed.{rename_atom, all_names_renamed, made_renamed, written_renamed}
use Rattle.conditions.proofs.Programs.{typed_taken}
use Rattle.conditions.proofs.Names.{names_size}
use Rattle.conditions.proofs.Used.{ys, q', used_at, left_length, left_entries, left_place}

module _ (ws : List ℕ) (ls : List Statement) (taken : Taken ws ls) where
  abbrev n : ℕ
  n = length ws

  abbrev k : ℕ
  k = length (made_atoms ls)

  abbrev q : ℕ
  q = unfixed ws

  abbrev xs : List ℕ
  xs = spoken n ls

  -- the class words and the statements that are left
  abbrev ws' : List ℕ
  ws' = entries 0 ws xs

  abbrev ls' : List Statement
  ls' = left_statements xs ls

  words_left : length ws' ≡ length xs
  words_left = length-map xs (λ a. get_or ws a 0)

  -- the statements

  all_spoken : All (λ a. T (is_member xs a)) (flat statement_names ls)
  unfolding spoken
  all_spoken = all_zip (λ a. a < n) (λ a. T (is_member (flat statement_names ls) a)) _ (λ a l m. (member_filter (is_member (flat statement_names ls)) n a).1 (l, m)) (flat statement_names ls) taken.declared (members (flat statement_names ls))

  pub left_taken : Taken ws' ls'
  left_taken = record {
    declared =
        subst (All (λ a. a < length ws')) (sym (all_names_renamed (place_in xs) ls))
        (all_map (λ a. a < length ws') (place_in xs) (flat statement_names ls) (all_imp (λ a. T (is_member xs a)) _ (λ a m. omega (arith, words_left, (at_place xs a m).0)) (flat statement_names ls) all_spoken));
    numbered = let e = made_renamed (place_in xs) ls in e ∙ (taken.numbered ∙ ap (λ (l : List ℕ). from 1 (length l)) (sym e));
  }

  made_left : k ≡ length (made_atoms ls')
  made_left = sym (ap length (made_renamed (place_in xs) ls))

  -- the rules

  abbrev left : List ℕ
  left = ys ws ls taken q (unfixed_le ws)

  -- the unfixed atoms that are left
  abbrev first : ℕ
  first = q' ws ls taken q (unfixed_le ws)

  left_rules : renumbered left (placed_rules q k ls) ≡ placed_rules first k ls'
  unfolding placed_rules
  left_rules =
      rename_again (place_in left) (place q k) (written ls)
      ∙ (rename_same (λ c. place_in left (place q k c)) (λ c. place first k (rename_atom (place_in xs) c)) (written ls) placed
      ∙ (sym (rename_again (place first k) (rename_atom (place_in xs)) (written ls))
      ∙ ap (map (rename (place first k))) (sym (written_renamed (place_in xs) (λ a. T (is_member xs a)) (same_place xs) ls all_spoken))))
    where
      each : (l : List Atom) → All (Declared n k) l → All (λ c. T (is_used (placed_rules q k ls) (place q k c))) l → All (λ c. place_in left (place q k c) ≡ place first k (rename_atom (place_in xs) c)) l
      each = all_zip _ _ _ (left_place ws ls taken q (unfixed_le ws))

      placed : All (Within (λ c. place_in left (place q k c) ≡ place first k (rename_atom (place_in xs) c))) (written ls)
      placed = all_zip (Within (Declared n k)) (Within (λ c. T (is_used (placed_rules q k ls) (place q k c)))) _
          (λ r f g. record { head = each r.head f.head g.head; body = each r.body f.body g.body; nots = each r.nots f.nots g.nots })
          (written ls) (written_declared ws ls taken) (used_at ws ls taken q (unfixed_le ws))

-- W-203 with conditions
module _ (classes : ℕ) (ws : List ℕ) (ls : List Statement) (typed : Typed classes ws ls) where
  abbrev h : Taken ws ls
  h = typed_taken classes ws ls typed

  unfixed_left : first ws ls h ≡ unfixed (ws' ws ls h)
  unfolding spoken
  unfixed_left = sym (
      ap unfixed (ap (map old) (filter_two t q n fits) ∙ map-append old firsts others)
      ∙ (unfixed_app (map old firsts) (map old others) (all_map Unfixed old firsts (all_imp _ _ low firsts (filter_within t 0 q))) (all_map Fixed old others (all_imp _ _ high others (filter_within t q (n - q))))
      ∙ length-map firsts old)
      )
    where
      n : ℕ
      n = length ws

      q : ℕ
      q = unfixed ws

      fits : q ≤ n
      fits = unfixed_le ws

      t : ℕ → Bool
      t = is_member (flat statement_names ls)

      old : ℕ → ℕ
      old a = get_or ws a 0

      firsts : List ℕ
      firsts = filter t (from 0 q)

      others : List ℕ
      others = filter t (from q (n - q))

      parts : All Unfixed (take q ws) × All Fixed (drop q ws)
      parts = unfixed_parts 0 ws (words_high classes ws typed.classes_form) typed.classes_form.3

      low : (a : ℕ) → (0 ≤ a) × (a < 0 + q) → Unfixed (old a)
      low a i = subst Unfixed (get_or-take q ws a 0 (omega (arith, i.1))) (all_at Unfixed 0 (take q ws) parts.0 a (omega (arith, i.1, length-take-le q ws fits)))

      high : (a : ℕ) → (q ≤ a) × (a < q + (n - q)) → Fixed (old a)
      high a i =
          let e : q + (a - q) ≡ a = omega (arith, i.0) in
          subst Fixed (get_or-drop q ws (a - q) 0 ∙ ap old e) (all_at Fixed 0 (drop q ws) parts.1 (a - q) (omega (arith, i.0, i.1, length-drop q ws)))

  pub written_left : remaining (written_program classes ws ls) ≡ written_program classes (entries 0 ws (spoken (length ws) ls)) (left_statements (spoken (length ws) ls) ls)
  unfolding written_program restrict placed_words
  written_left = remaining_preference (written_program classes ws ls) refl ∙ (λ i. record { kind = Preference; atoms = atoms i; classes = classes; words = words i; rules = rules i })
    where
      k : ℕ
      k = length (made_atoms ls)

      k' : ℕ
      k' = length (made_atoms (ls' ws ls h))

      atoms : length (left ws ls h) ≡ length (ws' ws ls h) + k'
      atoms = omega (arith, left_length ws ls h (unfixed ws) (unfixed_le ws), made_left ws ls h, words_left ws ls h)

      words : entries 0 (placed_words (unfixed ws) k ws) (left ws ls h) ≡ placed_words (unfixed (ws' ws ls h)) k' (ws' ws ls h)
      words =
          left_entries ws ls h (unfixed ws) (unfixed_le ws) 0 ws (replicate k varying) refl (length-replicate k varying)
          ∙ ap₂ (λ (a b : ℕ). placed_words a b (ws' ws ls h)) unfixed_left (made_left ws ls h)

      rules : renumbered (left ws ls h) (placed_rules (unfixed ws) k ls) ≡ placed_rules (unfixed (ws' ws ls h)) k' (ls' ws ls h)
      rules = left_rules ws ls h ∙ ap₂ (λ (a b : ℕ). placed_rules a b (ls' ws ls h)) unfixed_left (made_left ws ls h)

  pub written_names_left : (names : List (List ℕ)) → length names ≡ length ws
      → remaining_names (written_program classes ws ls) (written_names (unfixed ws) (length (made_atoms ls)) names)
      ≡ written_names (unfixed (entries 0 ws (spoken (length ws) ls))) (length (made_atoms ls)) (entries [] names (spoken (length ws) ls))
  unfolding written_program written_names
  written_names_left names count =
      let k = length (made_atoms ls) in
      names_preference (written_program classes ws ls) (written_names (unfixed ws) k names) refl
      ∙ (left_entries ws ls h (unfixed ws) (unfixed_le ws) [] names (map made_name (from 1 k)) count (names_size k)
      ∙ ap (λ (a : ℕ). written_names a k (entries [] names (spoken (length ws) ls))) unfixed_left)
