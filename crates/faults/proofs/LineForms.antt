-- The form of a line: it is what the documents' words say.
use Prim.Native.Nat.{ℕ, suc, ◌≤◌}
use native.Mathlib.Omega.{arith}
use mathlib.Core.Path.{◌≡◌, refl, sym, ap, ap₂, ◌∙◌, subst}
use mathlib.Core.Logic.{◌⊎◌, inl, inr, ◌↔◌, ◌≢◌}
use mathlib.Core.Bool.{true, cond}
use mathlib.Core.List.{List, [], ◌∷◌, ◌++◌, map}
use lib.Dec.{T, eqb→eq}
use lib.ListN.{length, get_or, drop}
use Rattle.kinds.specs.Words.{decimal, line_end_lem, rule_word, head_word, body_word, not_word, when_word}
use Rattle.rules.specs.Lists.{All}
use Rattle.rules.proofs.Booleans.{eq_to_eqb, is_true_lem}
use Rattle.rules.proofs.Connectives.{on_cond}
use Rattle.rules.proofs.Lists.{all_app, all_app_l, all_app_r, all_imp, every_all}
use Rattle.names.specs.declared.forms.NameClass.{NameClass}
use Rattle.names.specs.declared.forms.NameClass.TheVariants.{Common, Generated, TooLong, Wrong}
use Rattle.names.specs.Numerals.{is_digit}
use Rattle.names.specs.Names.{name_class}
use Rattle.names.proofs.Decimals.{digits_all}
use Rattle.names.proofs.Numerals.{digit_range}
use Rattle.name_store.specs.NameStore.{same_bytes}
use Rattle.name_store.proofs.NameStores.{same_equal, same_self}
use Rattle.lines.specs.Lines.{is_ended}
use Rattle.lines.specs.Tokens.{Token, opening, closing, word, tokens, leading, behind}
use Rattle.lines.specs.Conditions.{WordSort, negation, conjunction, disjunction, called, sort_of, by_sort, words_in, names_in, pairs}
use Rattle.lines.specs.Forms.{Word, word_bytes, atoms, min, vary, fix, LineForm, declares, rules, condition, blank, broken, Opened, opened, unopened, opened_by, opened_of, Split, split, none, closed_by, split_names, on_opened, split_list, on_split, lastly, closed_lastly, declared_form, rule_form, Conditional, conditional, unconditional, split_then, paired_form, when_form, opened_form, token_form, typed_form, is_name, are_names, named, form_of}
use Rattle.lines.specs.Shapes.{then_tokens}
use Rattle.lines.proofs.ConditionLines.{then_split, when_form_lem}
use Rattle.faults.specs.NameForms.{Letter, Digit, NameByte, HouseBytes, CommonName, Marked, ClassNumber}
use Rattle.faults.specs.LineForms.{WordByte, IsWord, IsName, Ended, list_then, declaring_tokens, rule_tokens, condition_tokens, Paired, DeclaringLine, RuleLine, ConditionLine, BlankLine, HasForm}
use Rattle.faults.specs.Sentences.{names_of}
use Rattle.faults.proofs.NameClasses.{common_iff, long_iff, generated_iff}
use Rattle.faults.proofs.LineTokens.{tokens_iff}
use Rattle.faults.proofs.Pairs.{pairs_law}

-- a name is a word

name_byte : (b : ℕ) → 46 ≤ b → b ≢ 59 → WordByte b
name_byte b l n = (λ e. omega arith, λ e. omega arith, λ e. omega arith, n, λ e. omega arith)

one_byte : (b : ℕ) → NameByte b → WordByte b
one_byte b (inl h) = let l = h.0 in name_byte b (omega arith) (λ e. omega arith)
one_byte b (inr (inl h)) = let l = h.0 in let k = h.1 in name_byte b (omega arith) (λ e. omega arith)
one_byte b (inr (inr e)) = name_byte b (omega arith) (λ q. omega arith)

first_byte : (b : ℕ) → Letter b ⊎ Digit b → WordByte b
first_byte b (inl h) = one_byte b (inl h)
first_byte b (inr h) = one_byte b (inr (inl h))

some_bytes : (b : ℕ) (x : List ℕ) → b ∷ x ≢ []
some_bytes b x e = absurd (let z : suc (length x) ≡ 0 = ap length e in omega arith)

house_word : (x : List ℕ) → HouseBytes x → IsWord x
house_word [] h = absurd h
house_word (b ∷ x) h = (some_bytes b x, (first_byte b h.0, all_imp NameByte WordByte one_byte x h.1))

marked_word : (a : ℕ) (y : List ℕ) → 60 ≤ a → All WordByte y → IsWord (a ∷ 46 ∷ y)
marked_word a y l h = (some_bytes a (46 ∷ y), (name_byte a (omega arith) (λ e. omega arith), (name_byte 46 (omega arith) (λ e. omega arith), h)))

marked_name : (x y : List ℕ) → Marked x y → All WordByte y → IsWord x
marked_name x y (inl e) h = subst IsWord (sym e) (marked_word 78 y (omega arith) h)
marked_name x y (inr (inl e)) h = subst IsWord (sym e) (marked_word 83 y (omega arith) h)
marked_name x y (inr (inr e)) h = subst IsWord (sym e) (marked_word 68 y (omega arith) h)

number_bytes : (y : List ℕ) → ClassNumber y → All WordByte y
number_bytes y (inl (d, l, e)) = subst (All WordByte) (sym e) (name_byte _ (omega arith) (λ q. omega arith), tt)
number_bytes y (inr (d, l, e)) = subst (All WordByte) (sym e) (name_byte 49 (omega arith) (λ q. omega arith), (name_byte _ (omega arith) (λ q. omega arith), tt))

common_word : (x : List ℕ) → CommonName x → IsWord x
common_word x (inl h) = house_word x h.0
common_word x (inr (t, l, u, e)) = subst IsWord (sym e) (marked_word 84 (decimal t) (omega arith) (all_imp (λ b. T (is_digit b)) WordByte digit_byte (decimal t) (digits_all 20 t)))
  where
    digit_byte : (b : ℕ) → T (is_digit b) → WordByte b
    digit_byte b h = one_byte b (inr (inl (digit_range b (is_true_lem (is_digit b) h))))

pub name_word : (x : List ℕ) → IsName x → IsWord x
name_word x (inl h) = common_word x h
name_word x (inr (inl (inl (y, m, h)))) = marked_name x y m (common_word y h).1
name_word x (inr (inl (inr (inl (y, e, h))))) = subst IsWord (sym e) (marked_word 69 y (omega arith) (number_bytes y h))
name_word x (inr (inl (inr (inr e)))) = subst IsWord (sym e) (some_bytes 85 [], (name_byte 85 (omega arith) (λ q. omega arith), tt))
name_word x (inr (inr (inl h))) = house_word x h.0
name_word x (inr (inr (inr (y, m, h)))) = marked_name x y m (house_word y h.0).1

pub name_law : (x : List ℕ) → T (is_name (name_class x)) ↔ IsName x
name_law x = (λ t. there (name_class x) refl t, back)
  where
    there : (c : NameClass) → name_class x ≡ c → T (is_name c) → IsName x
    there Common e t = inl ((common_iff x).0 e)
    there Generated e t = inr (inl ((generated_iff x).0 e))
    there TooLong e t = inr (inr ((long_iff x).0 e))
    there Wrong e t = absurd t

    back : IsName x → T (is_name (name_class x))
    back (inl h) = subst (λ c. T (is_name c)) (sym ((common_iff x).1 h)) tt
    back (inr (inl h)) = subst (λ c. T (is_name c)) (sym ((generated_iff x).1 h)) tt
    back (inr (inr h)) = subst (λ c. T (is_name c)) (sym ((long_iff x).1 h)) tt

pub not_wrong : (x : List ℕ) → IsName x → name_class x ≢ Wrong
not_wrong x h e = subst (λ c. T (is_name c)) e ((name_law x).1 h)

every_name : (xs : List (List ℕ)) → T (are_names xs) ↔ All IsName xs
every_name xs = every_all (λ x. is_name (name_class x)) IsName name_law xs

-- a line's end

ended_law : (l : List ℕ) → T (is_ended l) ↔ Ended l
ended_law [] = (λ t. absurd t, λ h. never h.0 h.1)
  where
    never : (s : List ℕ) → [] ≡ s ++ (line_end_lem ∷ []) → ⊥
    never [] e = some_bytes line_end_lem [] (sym e)
    never (b ∷ s) e = some_bytes b (s ++ (line_end_lem ∷ [])) (sym e)
ended_law (b ∷ []) = (λ t. ([], ap (λ c. c ∷ []) (eqb→eq b line_end_lem t)), λ h. eq_to_eqb b line_end_lem (one h.0 h.1))
  where
    one : (s : List ℕ) → b ∷ [] ≡ s ++ (line_end_lem ∷ []) → b ≡ line_end_lem
    one [] e = ap (λ l. get_or l 0 0) e
    one (c ∷ []) e = absurd (some_bytes line_end_lem [] (sym (ap (drop 1) e)))
    one (c ∷ d ∷ s) e = absurd (some_bytes d (s ++ (line_end_lem ∷ [])) (sym (ap (drop 1) e)))
ended_law (b ∷ c ∷ l) = let r = ended_law (c ∷ l) in (λ t. let h = r.0 t in (b ∷ h.0, ap (λ m. b ∷ m) h.1), λ h. r.1 (later h.0 h.1))
  where
    later : (s : List ℕ) → b ∷ c ∷ l ≡ s ++ (line_end_lem ∷ []) → Ended (c ∷ l)
    later [] e = absurd (some_bytes c l (ap (drop 1) e))
    later (d ∷ s) e = (s, ap (drop 1) e)

-- a bracket with its word, and the names behind it

leads : (ts : List Token) → ts ≡ map word (leading ts) ++ behind ts
leads [] = refl
leads (opening ∷ ts) = refl
leads (closing ∷ ts) = refl
leads (word x ∷ ts) = ap (λ us. word x ∷ us) (leads ts)

-- what a cut says of the tokens that were cut
abbrev CutOf : List Token → Split → Type 0
CutOf ts (split xs rest) = ts ≡ map word xs ++ (closing ∷ rest)
CutOf ts none = Unit {0}

cut_names : (ts : List Token) → CutOf ts (split_names ts)
unfolding split_names
cut_names ts = go (behind ts) (leads ts)
  where
    go : (us : List Token) → ts ≡ map word (leading ts) ++ us → CutOf ts (closed_by (leading ts) us)
    go [] e = tt
    go (opening ∷ us) e = tt
    go (closing ∷ us) e = e
    go (word x ∷ us) e = tt

abbrev pub OpenedFrom : List Token → Opened → Type 0
OpenedFrom ts (opened x us) = ts ≡ opening ∷ word x ∷ us
OpenedFrom ts unopened = Unit {0}

pub opened_from : (ts : List Token) → OpenedFrom ts (opened_of ts)
unfolding opened_of
opened_from [] = tt
opened_from (opening ∷ ts) = go ts
  where
    go : (us : List Token) → OpenedFrom (opening ∷ us) (opened_by us)
    go [] = tt
    go (opening ∷ us) = tt
    go (closing ∷ us) = tt
    go (word x ∷ us) = refl
opened_from (closing ∷ ts) = tt
opened_from (word x ∷ ts) = tt

abbrev ListCut : List ℕ → List Token → Split → Type 0
ListCut w ts (split xs rest) = ts ≡ list_then w xs rest
ListCut w ts none = Unit {0}

cut_list : (w : List ℕ) (ts : List Token) → ListCut w ts (split_list w ts)
unfolding split_list
cut_list w ts = go (opened_of ts) (opened_from ts)
  where
    behind_word : (x : List ℕ) (us : List Token) → ts ≡ opening ∷ word x ∷ us → x ≡ w → (c : Split) → CutOf us c → ListCut w ts c
    behind_word x us e q (split xs rest) h = e ∙ ap₂ (λ y vs. opening ∷ word y ∷ vs) q h
    behind_word x us e q none h = tt

    go : (o : Opened) → OpenedFrom ts o → ListCut w ts (on_opened o w)
    go (opened x us) e = on_cond (ListCut w ts) (same_bytes x w) (split_names us) none (λ t. behind_word x us e (same_equal x w t) (split_names us) (cut_names us)) (λ n. tt)
    go unopened e = tt

names_cut : (xs : List (List ℕ)) (rest : List Token) → split_names (map word xs ++ (closing ∷ rest)) ≡ split xs rest
unfolding split_names
names_cut xs rest = ap₂ closed_by (front xs) (after xs)
  where
    front : (ys : List (List ℕ)) → leading (map word ys ++ (closing ∷ rest)) ≡ ys
    front [] = refl
    front (y ∷ ys) = ap (λ zs. y ∷ zs) (front ys)

    after : (ys : List (List ℕ)) → behind (map word ys ++ (closing ∷ rest)) ≡ closing ∷ rest
    after [] = refl
    after (y ∷ ys) = after ys

list_cut : (w : List ℕ) (xs : List (List ℕ)) (rest : List Token) → split_list w (list_then w xs rest) ≡ split xs rest
unfolding split_list opened_of
list_cut w xs rest =
    ap (λ b. cond b (split_names (map word xs ++ (closing ∷ rest))) none) (is_true_lem (same_bytes w w) (same_self w)) ∙ names_cut xs rest

-- the form found says what the tokens are

abbrev Reads : List Token → LineForm → Type 0
Reads ts (declares w xs) = ts ≡ declaring_tokens w xs
Reads ts (rules hs bs ns) = ts ≡ rule_tokens hs bs ns
Reads ts (condition us a) = (ts ≡ condition_tokens us a) × Paired us
Reads ts blank = ts ≡ []
Reads ts broken = Unit {0}

reads_last : (ts rest : List Token) (f : LineForm) → (rest ≡ [] → Reads ts f) → Reads ts (lastly rest f)
reads_last ts [] f h = h refl
reads_last ts (t ∷ rest) f h = tt

reads_closed : (ts rest : List Token) (f : LineForm) → (rest ≡ closing ∷ [] → Reads ts f) → Reads ts (closed_lastly rest f)
reads_closed ts [] f h = tt
reads_closed ts (opening ∷ rest) f h = tt
reads_closed ts (closing ∷ rest) f h = reads_last ts rest f (λ e. h (ap (λ us. closing ∷ us) e))
reads_closed ts (word x ∷ rest) f h = tt

reads_cut : (ts : List Token) (w : List ℕ) (us : List Token) (f : List (List ℕ) → List Token → LineForm)
    → ((xs : List (List ℕ)) (rest : List Token) → us ≡ list_then w xs rest → Reads ts (f xs rest))
    → Reads ts (on_split (split_list w us) f)
reads_cut ts w us f h = go (split_list w us) (cut_list w us)
  where
    go : (c : Split) → ListCut w us c → Reads ts (on_split c f)
    go (split xs rest) k = h xs rest k
    go none k = tt

reads_declared : (w : Word) (x : List ℕ) (us : List Token) → x ≡ word_bytes w → Reads (opening ∷ word x ∷ us) (declared_form w us)
unfolding declared_form
reads_declared w x us e = go (split_names us) (cut_names us)
  where
    go : (c : Split) → CutOf us c → Reads (opening ∷ word x ∷ us) (on_split c (λ xs rest. lastly rest (declares w xs)))
    go (split xs rest) h = reads_last (opening ∷ word x ∷ us) rest (declares w xs) (λ q. ap₂ (λ y vs. opening ∷ word y ∷ vs) e (h ∙ ap (λ vs. map word xs ++ (closing ∷ vs)) q))
    go none h = tt

reads_rule : (x : List ℕ) (us : List Token) → x ≡ rule_word → Reads (opening ∷ word x ∷ us) (rule_form us)
unfolding rule_form
reads_rule x us e =
    let ts = opening ∷ word x ∷ us in
    reads_cut ts head_word us (λ hs r. on_split (split_list body_word r) (λ bs s. on_split (split_list not_word s) (λ ns rest. closed_lastly rest (rules hs bs ns)))) (λ hs r e₁.
    reads_cut ts body_word r (λ bs s. on_split (split_list not_word s) (λ ns rest. closed_lastly rest (rules hs bs ns))) (λ bs s e₂.
    reads_cut ts not_word s (λ ns rest. closed_lastly rest (rules hs bs ns)) (λ ns rest e₃.
    reads_closed ts rest (rules hs bs ns) (λ k.
    ap₂ (λ y vs. opening ∷ word y ∷ vs) e (e₁ ∙ ap (list_then head_word hs) (e₂ ∙ ap (list_then body_word bs) (e₃ ∙ ap (list_then not_word ns) k)))))))

reads_when : (x : List ℕ) (us : List Token) → x ≡ when_word → Reads (opening ∷ word x ∷ us) (when_form us)
unfolding when_form
reads_when x us e = go (split_then us) refl
  where
    go : (d : Conditional) → split_then us ≡ d → Reads (opening ∷ word x ∷ us) (paired_form d)
    go (conditional vs a) q =
        on_cond (Reads (opening ∷ word x ∷ us)) (pairs 0 vs) (condition vs a) broken (λ t. (ap₂ (λ y l. opening ∷ word y ∷ l) e (then_split us q), (pairs_law vs).0 t)) (λ n. tt)
    go unconditional q = tt

reads_tokens : (ts : List Token) → Reads ts (token_form ts)
unfolding token_form
reads_tokens [] = refl
reads_tokens (t ∷ ts) = go (opened_of (t ∷ ts)) (opened_from (t ∷ ts))
  where
    choice : (x : List ℕ) (us : List Token) (w : Word) (g : LineForm) → Reads (opening ∷ word x ∷ us) g → Reads (opening ∷ word x ∷ us) (cond (same_bytes x (word_bytes w)) (declared_form w us) g)
    choice x us w g h = on_cond (Reads (opening ∷ word x ∷ us)) (same_bytes x (word_bytes w)) (declared_form w us) g (λ q. reads_declared w x us (same_equal x (word_bytes w) q)) (λ n. h)

    all : (x : List ℕ) (us : List Token) → Reads (opening ∷ word x ∷ us) (opened_form (opened x us))
    all x us =
        choice x us atoms _ (choice x us min _ (choice x us vary _ (choice x us fix _
        (on_cond (Reads (opening ∷ word x ∷ us)) (same_bytes x rule_word) (rule_form us) _ (λ q. reads_rule x us (same_equal x rule_word q)) (λ n.
        on_cond (Reads (opening ∷ word x ∷ us)) (same_bytes x when_word) (when_form us) broken (λ q. reads_when x us (same_equal x when_word q)) (λ m. tt))))))

    go : (o : Opened) → OpenedFrom (t ∷ ts) o → Reads (t ∷ ts) (opened_form o)
    go (opened x us) e = subst (λ vs. Reads vs (opened_form (opened x us))) (sym e) (all x us)
    go unopened e = tt

-- and tokens of a form are found to have it

declared_form_lem : (w : Word) (xs : List (List ℕ)) → declared_form w (map word xs ++ (closing ∷ [])) ≡ declares w xs
unfolding declared_form
declared_form_lem w xs = ap (λ c. on_split c (λ ys rest. lastly rest (declares w ys))) (names_cut xs [])

list_form : (w : Word) (xs : List (List ℕ)) → token_form (declaring_tokens w xs) ≡ declares w xs
unfolding token_form opened_of same_bytes
list_form atoms xs = declared_form_lem atoms xs
list_form min xs = declared_form_lem min xs
list_form vary xs = declared_form_lem vary xs
list_form fix xs = declared_form_lem fix xs

rule_form_lem : (hs bs ns : List (List ℕ)) → token_form (rule_tokens hs bs ns) ≡ rules hs bs ns
unfolding token_form opened_of rule_form same_bytes
rule_form_lem hs bs ns =
    let f₃ : List (List ℕ) → List (List ℕ) → List (List ℕ) → List Token → LineForm = λ xs ys zs rest. closed_lastly rest (rules xs ys zs) in
    let f₂ : List (List ℕ) → List (List ℕ) → List Token → LineForm = λ xs ys s. on_split (split_list not_word s) (f₃ xs ys) in
    let f₁ : List (List ℕ) → List Token → LineForm = λ xs r. on_split (split_list body_word r) (f₂ xs) in
    let third = list_then not_word ns (closing ∷ []) in
    ap (λ c. on_split c f₁) (list_cut head_word hs (list_then body_word bs third))
    ∙ ap (λ c. on_split c (f₂ hs)) (list_cut body_word bs third)
    ∙ ap (λ c. on_split c (f₃ hs bs)) (list_cut not_word ns (closing ∷ []))

condition_form : (ts : List Token) (a : List ℕ) → Paired ts → token_form (condition_tokens ts a) ≡ condition ts a
unfolding token_form opened_of same_bytes
condition_form ts a p = when_form_lem (ts ++ then_tokens a) ts a refl ∙ ap (λ b. cond b (condition ts a) broken) (is_true_lem (pairs 0 ts) ((pairs_law ts).1 p))

blank_form : token_form [] ≡ blank
unfolding token_form
blank_form = refl

-- the two together

is_whole : LineForm → Type 0
is_whole (declares w xs) = Unit {0}
is_whole (rules hs bs ns) = Unit {0}
is_whole (condition ts a) = Unit {0}
is_whole blank = Unit {0}
is_whole broken = ⊥

module _ (l : List ℕ) where
  abbrev Found : LineForm → Type 0
  Found (declares w xs) = DeclaringLine l w xs
  Found (rules hs bs ns) = RuleLine l hs bs ns
  Found (condition ts a) = ConditionLine l ts a
  Found blank = BlankLine l
  Found broken = Unit {0}

  named_found : Ended l → (f : LineForm) → Reads (tokens l) f → Found (named f)
  named_found e (declares w xs) r = on_cond Found (are_names xs) (declares w xs) broken (λ h. (e, (tokens_iff l (declaring_tokens w xs)).0 r, (every_name xs).0 h)) (λ n. tt)
  named_found e (rules hs bs ns) r =
      on_cond Found (are_names hs) (cond (are_names bs) (cond (are_names ns) (rules hs bs ns) broken) broken) broken (λ h.
      on_cond Found (are_names bs) (cond (are_names ns) (rules hs bs ns) broken) broken (λ b.
      on_cond Found (are_names ns) (rules hs bs ns) broken (λ n.
      (e, (tokens_iff l (rule_tokens hs bs ns)).0 r, (every_name hs).0 h, (every_name bs).0 b, (every_name ns).0 n)) (λ n. tt)) (λ n. tt)) (λ n. tt)
  named_found e (condition ts a) r =
      let words = words_in ts ++ (a ∷ []) in
      on_cond Found (are_names words) (condition ts a) broken (λ h. (e, (tokens_iff l (condition_tokens ts a)).0 r.0, r.1, (every_name words).0 h)) (λ n. tt)
  named_found e blank r = (e, (tokens_iff l []).0 r)
  named_found e broken r = tt

  found_line : Found (form_of l)
  unfolding form_of typed_form
  found_line = on_cond (λ f. Found (named f)) (is_ended l) (token_form (tokens l)) broken (λ t. named_found ((ended_law l).0 t) (token_form (tokens l)) (reads_tokens (tokens l))) (λ n. tt)

  pub form_of_lem : Ended l → {ts : List Token} → tokens l ≡ ts → {f : LineForm} → token_form ts ≡ f → form_of l ≡ named f
  unfolding form_of typed_form
  form_of_lem h e q = ap (λ b. named (cond b (token_form (tokens l)) broken)) (is_true_lem (is_ended l) ((ended_law l).1 h)) ∙ ap (λ ts. named (token_form ts)) e ∙ ap named q

  are_names_lem : (xs : List (List ℕ)) → All IsName xs → are_names xs ≡ true
  are_names_lem xs h = is_true_lem (are_names xs) ((every_name xs).1 h)

  declares_found : (w : Word) (xs : List (List ℕ)) → DeclaringLine l w xs → form_of l ≡ declares w xs
  declares_found w xs h = form_of_lem h.0 ((tokens_iff l (declaring_tokens w xs)).1 h.1) (list_form w xs) ∙ ap (λ b. cond b (declares w xs) broken) (are_names_lem xs h.2)

  rules_found : (hs bs ns : List (List ℕ)) → RuleLine l hs bs ns → form_of l ≡ rules hs bs ns
  rules_found hs bs ns h =
      form_of_lem h.0 ((tokens_iff l (rule_tokens hs bs ns)).1 h.1) (rule_form_lem hs bs ns)
      ∙ ap (λ b. cond b (cond (are_names bs) (cond (are_names ns) (rules hs bs ns) broken) broken) broken) (are_names_lem hs h.2)
      ∙ ap₂ (λ b c. cond b (cond c (rules hs bs ns) broken) broken) (are_names_lem bs h.3) (are_names_lem ns h.4)

  condition_found : (ts : List Token) (a : List ℕ) → ConditionLine l ts a → form_of l ≡ condition ts a
  condition_found ts a h =
      form_of_lem h.0 ((tokens_iff l (condition_tokens ts a)).1 h.1) (condition_form ts a h.2)
      ∙ ap (λ b. cond b (condition ts a) broken) (are_names_lem (words_in ts ++ (a ∷ [])) h.3)

  blank_found : BlankLine l → form_of l ≡ blank
  blank_found h = form_of_lem h.0 ((tokens_iff l []).1 h.1) blank_form

  pub form_iff : (f : LineForm) → form_of l ≡ f ↔ HasForm l f
  unfolding is_whole
  form_iff (declares w xs) = (λ e. subst Found e found_line, declares_found w xs)
  form_iff (rules hs bs ns) = (λ e. subst Found e found_line, rules_found hs bs ns)
  form_iff (condition ts a) = (λ e. subst Found e found_line, condition_found ts a)
  form_iff blank = (λ e. subst Found e found_line, blank_found)
  form_iff broken = (
    λ e. (
      λ w xs h. subst is_whole (sym (declares_found w xs h) ∙ e) tt,
      λ hs bs ns h. subst is_whole (sym (rules_found hs bs ns h) ∙ e) tt,
      λ ts a h. subst is_whole (sym (condition_found ts a h) ∙ e) tt,
      λ h. subst is_whole (sym (blank_found h) ∙ e) tt,
    ),
    λ h. back h (form_of l) refl found_line,
  )
    where
      back : HasForm l broken → (f : LineForm) → form_of l ≡ f → Found (form_of l) → form_of l ≡ broken
      back h (declares w xs) e r = absurd (h.0 w xs (subst Found e r))
      back h (rules hs bs ns) e r = absurd (h.1 hs bs ns (subst Found e r))
      back h (condition ts a) e r = absurd (h.2 ts a (subst Found e r))
      back h blank e r = absurd (h.3 (subst Found e r))
      back h broken e r = e

  names_among : (ts : List Token) → All IsName (words_in ts) → All IsName (names_in ts)
  unfolding words_in names_in
  names_among [] h = tt
  names_among (opening ∷ ts) h = names_among ts h
  names_among (closing ∷ ts) h = names_among ts h
  names_among (word x ∷ ts) h = go (sort_of x) (names_among ts h.1)
    where
      go : (s : WordSort) → All IsName (names_in ts) → All IsName (by_sort s (names_in ts) (names_in ts) (names_in ts) (x ∷ names_in ts))
      go negation k = k
      go conjunction k = k
      go disjunction k = k
      go called k = (h.0, k)

  pub line_names : All IsName (names_of (form_of l))
  line_names = go (form_of l) found_line
    where
      go : (f : LineForm) → Found f → All IsName (names_of f)
      go (declares w xs) h = h.2
      go (rules hs bs ns) h = all_app IsName hs (bs ++ ns) h.2 (all_app IsName bs ns h.3 h.4)
      go (condition ts a) h = all_app IsName (names_in ts) (a ∷ []) (names_among ts (all_app_l IsName (words_in ts) (a ∷ []) h.3)) (all_app_r IsName (words_in ts) (a ∷ []) h.3)
      go blank h = tt
      go broken h = tt
