-- Steps 2 and 3, rule by rule.
use Prim.Native.Nat.{ℕ, ◌+◌, ◌-◌, ◌≤◌, ◌<◌}
use native.Mathlib.Omega.{arith}
use mathlib.Core.Path.{◌≡◌, sym, ap, ap₂, ◌∙◌, subst}
use mathlib.Core.List.{List, [], ◌∷◌, ◌++◌, map, append_assoc}
use lib.ListN.{length, take, drop, length-append, length-map, length-drop}
use lib.Seq.{length-take-le}
use Rattle.rules.specs.Lists.{All, filter}
use Rattle.rules.specs.Rules.{rule}
use Rattle.rules.proofs.Lists.{all_imp}
use Rattle.stores.specs.RuleStore.{heads, bodies, places, rule_at, rule_words}
use Rattle.stores.specs.StoredRules.{StoredRule}
use Rattle.stores.proofs.RuleLists.{heads_below, bodies_below}
use Rattle.pairing.specs.Loops.{below, beyond, loop2, loop3}
use Rattle.pairing.proofs.SumLaws.{length_parts}
use Rattle.atom_lists.specs.Split.{count_below, lows, highs}
use Rattle.atom_lists.proofs.ListLaws.{each_raised, each_itself}
use Rattle.steps.specs.RuleLists.{RuleLists}
use Rattle.steps.specs.StepWords.{lists2, words2, lists3, words3}

-- the lists of the rule at the front of the words

module _ {n : ℕ} {ws : List ℕ} (h : StoredRule n ws) where
  heads_few : length (rule_at ws).head ≤ places ws
  unfolding rule_at
  heads_few = omega (arith, length-take-le (heads ws) (drop 3 ws) (omega (arith, h.inside, length-drop 3 ws)))

  bodies_few : length (rule_at ws).body ≤ places ws
  unfolding rule_at
  bodies_few = omega (arith, length-take-le (bodies ws) (drop (3 + heads ws) ws) (omega (arith, h.inside, length-drop (3 + heads ws) ws)))

  pub lists_fit : {hs bs : List ℕ} → hs ≡ (rule_at ws).head → bs ≡ (rule_at ws).body → n ≤ 256 → RuleLists hs bs
  lists_fit {hs} {bs} eh eb l =
      record {
        few_heads = omega (arith, ap length eh, heads_few, h.few);
        few_bodies = omega (arith, ap length eb, bodies_few, h.few);
        heads_below = few hs (heads_below h eh);
        bodies_below = few bs (bodies_below h eb);
      }
    where
      few : (xs : List ℕ) → All (λ a. a < n) xs → All (λ a. a < 256) xs
      few = all_imp (λ a. a < n) (λ a. a < 256) (λ a k. omega arith)

-- the steps by the lists of a rule

module _ (m n : ℕ) where
  abbrev words_by2 : List ℕ → List ℕ → List ℕ
  words_by2 h b = rule_words (loop2 m n (rule h b []))

  by_lists2 : (h b : List ℕ) → words_by2 h b ≡ lists2 m n h b
  unfolding lists2 count_below lows highs
  by_lists2 h b =
      let others = map (λ a. n + a) (filter (beyond m) b) in
      let third : length (filter (beyond m) h ++ others) ≡ length h - length (filter (below m) h) + (length b - length (filter (below m) b)) =
      omega (arith, length-append (filter (beyond m) h) others, length-map (filter (beyond m) b) (λ a. n + a), length_parts (below m) h, length_parts (below m) b) in
      rw (third, each_itself (below m) h, each_itself (below m) b, each_itself (beyond m) h, each_raised (beyond m) n b)

  pub by_rule2 : (ws : List ℕ) {hs bs : List ℕ} → hs ≡ (rule_at ws).head → bs ≡ (rule_at ws).body → words2 m n (rule_at ws) ≡ lists2 m n hs bs
  unfolding words2
  by_rule2 ws {hs} {bs} eh eb = ap₂ words_by2 (sym eh) (sym eb) ∙ by_lists2 hs bs

module _ (q s u : ℕ) where
  abbrev words_by3 : List ℕ → List ℕ → List ℕ
  words_by3 h b = rule_words (loop3 q s u (rule h b []))

  by_lists3 : (h b : List ℕ) → words_by3 h b ≡ lists3 q s u h b
  unfolding lists3 count_below lows highs
  by_lists3 h b =
      let heads = map (λ a. s + a) (filter (below q) h) in
      let bodies = map (λ a. s + a) (filter (below q) b) in
      let first : length (heads ++ (u ∷ [])) ≡ length (filter (below q) h) + 1 =
      omega (arith, length-append heads (u ∷ []), length-map (filter (below q) h) (λ a. s + a)) in
      let second : length (bodies ++ filter (beyond q) b) ≡ length b =
      omega (arith, length-append bodies (filter (beyond q) b), length-map (filter (below q) b) (λ a. s + a), length_parts (below q) b) in
      let third : length (filter (beyond q) h) ≡ length h - length (filter (below q) h) = omega (arith, length_parts (below q) h) in
      let lists = append_assoc heads (u ∷ []) ((bodies ++ filter (beyond q) b) ++ filter (beyond q) h) ∙ ap (λ (l : List ℕ). heads ++ (u ∷ l)) (append_assoc bodies (filter (beyond q) b) (filter (beyond q) h)) in
      rw (first, second, third, each_raised (below q) s h, each_raised (below q) s b, each_itself (beyond q) h, each_itself (beyond q) b) (ap (λ (l : List ℕ). (length (filter (below q) h) + 1) ∷ length b ∷ (length h - length (filter (below q) h)) ∷ l) lists)

  pub by_rule3 : (ws : List ℕ) {hs bs : List ℕ} → hs ≡ (rule_at ws).head → bs ≡ (rule_at ws).body → words3 q s u (rule_at ws) ≡ lists3 q s u hs bs
  unfolding words3
  by_rule3 ws {hs} {bs} eh eb = ap₂ words_by3 (sym eh) (sym eb) ∙ by_lists3 hs bs
