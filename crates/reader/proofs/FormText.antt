-- The lines that the writer gives are strict lines, and have the form of what they say.
use Prim.Native.Nat.{ℕ, ◌≤◌}
use native.Mathlib.Omega.{arith}
use mathlib.Core.Path.{◌≡◌, sym, ap, ◌∙◌, subst}
use mathlib.Core.List.{List, [], ◌∷◌, ◌++◌, map, append_assoc}
use lib.ListN.{length}
use lib.Seq.{take_all}
use Rattle.rules.specs.Lists.{All, flat}
use Rattle.rules.proofs.Lists.{all_app, all_imp, all_map}
use Rattle.kinds.specs.Words.{space, open_bracket, close_bracket, line_end_lem, rule_word, head_word, body_word, not_word}
use Rattle.text.specs.Text.{item, open_text, list_line, rule_line}
use Rattle.lines.specs.Tokens.{Token, opening, closing, word, run}
use Rattle.lines.specs.Forms.{Word, word_bytes, declares, rules}
use Rattle.lines.specs.Strict.{spelled, strict_line}
use Rattle.lines.specs.Shapes.{WholeWord}
use Rattle.lines.proofs.LineShapes.{whole_word, whole_rule, whole_head, whole_body, whole_not}
use Rattle.faults.specs.TextLines.{EndedLine}
use Rattle.faults.specs.LineForms.{WordByte, IsWord, IsName, Ended, list_then, AreTokens, declaring_tokens, rule_tokens, HasForm}
use Rattle.faults.proofs.LineTokens.{run_bytes}
use Rattle.faults.proofs.LineForms.{name_word}
use Rattle.reader.proofs.StrictLines.{TokenForm, strict_tokens, strict_ended}

-- a bracket, its word and names

names_spelled : (x : List ℕ) (xs : List (List ℕ)) (rest : List Token) → spelled (word x ∷ (map word xs ++ (closing ∷ rest))) ≡ (x ++ flat item xs) ++ spelled (closing ∷ rest)
unfolding spelled
names_spelled x [] rest = sym (append_assoc x [] (spelled (closing ∷ rest)))
names_spelled x (y ∷ xs) rest = ap (λ l. x ++ (space ∷ l)) (names_spelled y xs rest) ∙ sym (append_assoc x (space ∷ (y ++ flat item xs)) (spelled (closing ∷ rest)))

list_spelled : (w : List ℕ) (xs : List (List ℕ)) (rest : List Token) → spelled (list_then w xs rest) ≡ open_text w xs ++ spelled (closing ∷ rest)
unfolding spelled open_text
list_spelled w xs rest = ap (λ l. open_bracket ∷ l) (names_spelled w xs rest)

pub list_line_lem : (w : Word) (xs : List (List ℕ)) → strict_line (declaring_tokens w xs) ≡ list_line (word_bytes w) xs
unfolding spelled list_line
list_line_lem w xs = ap (λ l. l ++ (line_end_lem ∷ [])) (list_spelled (word_bytes w) xs []) ∙ append_assoc (open_text (word_bytes w) xs) (close_bracket ∷ []) (line_end_lem ∷ [])

pub rule_line_lem : (hs bs ns : List (List ℕ)) → strict_line (rule_tokens hs bs ns) ≡ rule_line hs bs ns
unfolding spelled rule_line
rule_line_lem hs bs ns =
    let third = list_then not_word ns (closing ∷ []) in
    let second = list_then body_word bs third in
    let h = open_text head_word hs in
    let b = open_text body_word bs in
    let n = open_text not_word ns in
    ap (λ l. ((open_bracket ∷ rule_word) ++ (space ∷ l)) ++ (line_end_lem ∷ []))
    (list_spelled head_word hs second
    ∙ ap (λ l. h ++ (close_bracket ∷ space ∷ l)) (list_spelled body_word bs third ∙ ap (λ l. b ++ (close_bracket ∷ space ∷ l)) (list_spelled not_word ns (closing ∷ []))))
    ∙ ap (λ l. (open_bracket ∷ rule_word) ++ (space ∷ l))
    (append_assoc h (close_bracket ∷ space ∷ (b ++ (close_bracket ∷ space ∷ (n ++ (close_bracket ∷ close_bracket ∷ []))))) (line_end_lem ∷ [])
    ∙ ap (λ l. h ++ (close_bracket ∷ space ∷ l))
    (append_assoc b (close_bracket ∷ space ∷ (n ++ (close_bracket ∷ close_bracket ∷ []))) (line_end_lem ∷ [])
    ∙ ap (λ l. b ++ (close_bracket ∷ space ∷ l)) (append_assoc n (close_bracket ∷ close_bracket ∷ []) (line_end_lem ∷ []))))

-- their words are words

keyword : {w : List ℕ} → WholeWord w → IsWord w
keyword {w} h = (some w h.filled, subst (All WordByte) (take_all (run w) w (omega (arith, h.whole))) (run_bytes w).0)
  where
    some : (x : List ℕ) → 1 ≤ length x → x ≡ [] → ⊥
    some x l e = absurd (let n : length x ≡ 0 = ap length e in omega arith)

list_form : {w : List ℕ} → WholeWord w → (xs : List (List ℕ)) (rest : List Token) → All IsName xs → All TokenForm rest → All TokenForm (list_then w xs rest)
list_form k xs rest h r = (tt, (keyword k, all_app TokenForm (map word xs) (closing ∷ rest) (all_map TokenForm word xs (all_imp IsName IsWord name_word xs h)) (tt, r)))

is_ended_lem : {l : List ℕ} → EndedLine l → Ended l
is_ended_lem (s, n, e) = (s, e)

module _ (w : Word) (xs : List (List ℕ)) (h : All IsName xs) where
  declaring_form : All TokenForm (declaring_tokens w xs)
  declaring_form = list_form (whole_word w) xs [] h tt

  pub list_ended : EndedLine (list_line (word_bytes w) xs)
  list_ended = subst EndedLine (list_line_lem w xs) (strict_ended opening (word (word_bytes w) ∷ (map word xs ++ (closing ∷ []))) declaring_form)

  pub list_declares : HasForm (list_line (word_bytes w) xs) (declares w xs)
  list_declares = (is_ended_lem list_ended, subst (λ l. AreTokens l (declaring_tokens w xs)) (list_line_lem w xs) (strict_tokens (declaring_tokens w xs) declaring_form), h)

module _ (hs bs ns : List (List ℕ)) (h : All IsName hs) (b : All IsName bs) (n : All IsName ns) where
  abbrev third : List Token
  third = list_then not_word ns (closing ∷ [])

  abbrev second : List Token
  second = list_then body_word bs third

  rule_form_lem : All TokenForm (rule_tokens hs bs ns)
  rule_form_lem = (tt, (keyword whole_rule, list_form whole_head hs second h (list_form whole_body bs third b (list_form whole_not ns (closing ∷ []) n (tt, tt)))))

  pub rule_ended : EndedLine (rule_line hs bs ns)
  rule_ended = subst EndedLine (rule_line_lem hs bs ns) (strict_ended opening (word rule_word ∷ list_then head_word hs second) rule_form_lem)

  pub rule_rules : HasForm (rule_line hs bs ns) (rules hs bs ns)
  rule_rules = (is_ended_lem rule_ended, subst (λ l. AreTokens l (rule_tokens hs bs ns)) (rule_line_lem hs bs ns) (strict_tokens (rule_tokens hs bs ns) rule_form_lem), h, b, n)
