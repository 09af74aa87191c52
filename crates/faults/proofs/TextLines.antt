-- The lines of a text and its kind: they are what the documents' words say.
use Prim.Native.Nat.{ℕ, zero, suc, ◌+◌}
use native.Mathlib.Omega.{arith}
use mathlib.Core.Path.{◌≡◌, refl, sym, ap, ap₂, ◌∙◌, subst}
use mathlib.Core.Logic.{◌⊎◌, inl, inr, ◌↔◌, ◌≢◌}
use mathlib.Core.Bool.{Bool, true, false, cond}
use mathlib.Core.List.{List, [], ◌∷◌, ◌++◌}
use lib.Dec.{T, eqb, eqb→eq}
use lib.ListN.{length, take, drop, length-append, take-append-drop}
use lib.Seq.{append_snoc, drop-nil, take-append_seam, drop-append_seam}
use borrow.Author.Tests.{ne_eqb}
use Rattle.kinds.specs.Words.{line_end_lem, atoms_word}
use Rattle.rules.specs.Lists.{All, flat}
use Rattle.rules.proofs.Booleans.{eq_to_eqb}
use Rattle.kinds.specs.declared.limits.Kind.{Kind}
use Rattle.kinds.specs.declared.limits.Kind.TheVariants.{Plain, Preference}
use Rattle.name_store.specs.NameStore.{same_bytes}
use Rattle.name_store.proofs.NameStores.{same_equal}
use Rattle.lines.specs.Tokens.{Token, opening, word, tokens}
use Rattle.lines.specs.Forms.{Opened, opened, unopened, opened_of}
use Rattle.lines.specs.Said.{kind_opened, kind_by, kind_of, start}
use Rattle.lines.specs.Lines.{line_length, lines_from, lines}
use Rattle.lines.proofs.LinePlaces.{cut_first}
use Rattle.faults.specs.LineForms.{AreTokens}
use Rattle.faults.specs.TextLines.{NoEnd, EndedLine, EachEnded, AreLines, OpensPlain}
use Rattle.faults.proofs.Entries.{cons_same, no_cons, no_append}
use Rattle.faults.proofs.LineTokens.{tokens_iff}
use Rattle.faults.proofs.LineForms.{OpenedFrom, opened_from}

joined_from : (k : ℕ) (s : List ℕ) → drop k s ≡ flat (λ l. l) (lines_from k s)
unfolding lines_from line_length
joined_from k [] = drop-nil k
joined_from zero (b ∷ s) =
    let k = cond (eqb b line_end_lem) 0 (line_length s) in ap (λ l. b ∷ l) (sym (take-append-drop k s) ∙ ap (λ l. take k s ++ l) (joined_from k s))
joined_from (suc k) (b ∷ s) = joined_from k s

-- the first line is ended, or goes to the end
first_line_lem : (s : List ℕ) → EndedLine (take (line_length s) s) ⊎ (NoEnd (take (line_length s) s) × (line_length s ≡ length s))
unfolding line_length
first_line_lem [] = inr (tt, refl)
first_line_lem (b ∷ s) = go (eqb b line_end_lem) (eqb→eq b line_end_lem) (eq_to_eqb b line_end_lem) (first_line_lem s)
  where
    go : (c : Bool) → (T c → b ≡ line_end_lem) → (b ≡ line_end_lem → T c)
        → EndedLine (take (line_length s) s) ⊎ (NoEnd (take (line_length s) s) × (line_length s ≡ length s))
        → EndedLine (b ∷ take (cond c 0 (line_length s)) s) ⊎ (NoEnd (b ∷ take (cond c 0 (line_length s)) s) × (suc (cond c 0 (line_length s)) ≡ suc (length s)))
    go true e n r = inl ([], tt, ap (λ c. c ∷ []) (e tt))
    go false e n (inl (l, h, q)) = inl (b ∷ l, (n, h), ap (λ t. b ∷ t) q)
    go false e n (inr (h, q)) = inr ((n, h), ap suc q)

none_from : (s : List ℕ) → lines_from (length s) s ≡ []
unfolding lines_from
none_from [] = refl
none_from (b ∷ s) = none_from s

ended_from : (k : ℕ) (s : List ℕ) → EachEnded (lines_from k s)
unfolding lines_from line_length
ended_from k [] = tt
ended_from zero (b ∷ s) = go (first_line_lem (b ∷ s)) (ended_from (cond (eqb b line_end_lem) 0 (line_length s)) s)
  where
    k : ℕ
    k = cond (eqb b line_end_lem) 0 (line_length s)

    go : EndedLine (b ∷ take k s) ⊎ (NoEnd (b ∷ take k s) × (suc k ≡ suc (length s))) → EachEnded (lines_from k s) → EachEnded ((b ∷ take k s) ∷ lines_from k s)
    go (inl h) r = inl (h, r)
    go (inr (h, e)) r = let n : k ≡ length s = omega arith in inr (h, (λ q. full q), ap (λ j. lines_from j s) n ∙ none_from s)
      where
        full : b ∷ take k s ≡ [] → ⊥
        full q = absurd (let z : suc (length (take k s)) ≡ 0 = ap length q in omega arith)
ended_from (suc k) (b ∷ s) = ended_from k s

-- and back

cut_at : (l rest : List ℕ) → l ≢ [] → line_length (l ++ rest) ≡ length l → lines (l ++ rest) ≡ l ∷ lines rest
cut_at l rest n e =
    cut_first (l ++ rest) (λ q. n (front l q))
    ∙ ap₂ ◌∷◌ (ap (λ k. take k (l ++ rest)) e ∙ take-append_seam l rest) (ap (λ k. lines (drop k (l ++ rest))) e ∙ ap lines (drop-append_seam l rest))
  where
    front : (m : List ℕ) → m ++ rest ≡ [] → m ≡ []
    front [] q = refl
    front (b ∷ m) q = absurd (let z : suc (length (m ++ rest)) ≡ 0 = ap length q in omega arith)

-- bytes before the line's end
before_end : (s t : List ℕ) → NoEnd s → line_length (s ++ t) ≡ length s + line_length t
unfolding line_length
before_end [] t h = omega arith
before_end (b ∷ s) t h =
    ap (λ c. suc (cond c 0 (line_length (s ++ t)))) (ne_eqb b line_end_lem h.0) ∙ (let e = before_end s t h.1 in omega arith)

ended_length : (l rest : List ℕ) → EndedLine l → (l ≢ []) × (line_length (l ++ rest) ≡ length l)
unfolding line_length
ended_length l rest (s, h, e) =
    let n : length l ≡ suc (length s) = omega (arith, ap length e, length-append s (line_end_lem ∷ [])) in
    let is : l ++ rest ≡ s ++ (line_end_lem ∷ rest) = ap (λ m. m ++ rest) e ∙ append_snoc s line_end_lem rest in
    let one : line_length (line_end_lem ∷ rest) ≡ 1 = refl in
    (λ q. (let z : length l ≡ 0 = ap length q in omega arith), ap line_length is ∙ omega (arith, before_end s (line_end_lem ∷ rest) h))

open_length : (l : List ℕ) → NoEnd l → line_length (l ++ []) ≡ length l
unfolding line_length
open_length l h = let e = before_end l [] h in omega arith

no_lines : lines [] ≡ []
unfolding lines lines_from
no_lines = refl

lines_back : (ls : List (List ℕ)) → EachEnded ls → lines (flat (λ l. l) ls) ≡ ls
lines_back [] h = no_lines
lines_back (l ∷ ls) (inl (h, r)) = let e = ended_length l (flat (λ m. m) ls) h in cut_at l (flat (λ m. m) ls) e.0 e.1 ∙ ap (λ m. l ∷ m) (lines_back ls r)
lines_back (l ∷ ls) (inr (h, n, e)) = ap (λ m. lines (l ++ flat (λ x. x) m)) e ∙ cut_at l [] n (open_length l h) ∙ ap (λ m. l ∷ m) (no_lines ∙ sym e)

found : (t : List ℕ) → AreLines t (lines t)
unfolding lines
found t = (joined_from 0 t, ended_from 0 t)

pub lines_iff : (text : List ℕ) (ls : List (List ℕ)) → lines text ≡ ls ↔ AreLines text ls
lines_iff text ls = (λ e. subst (AreLines text) e (found text), λ h. ap lines h.0 ∙ lines_back ls h.1)

-- the kind of a text

plain_opened : (o : Opened) (ts : List Token) → OpenedFrom ts o → kind_opened o ≡ Plain → (us : List Token) × (ts ≡ opening ∷ word atoms_word ∷ us)
plain_opened (opened x us) ts f e = go (same_bytes x atoms_word) (same_equal x atoms_word) e
  where
    go : (b : Bool) → (T b → x ≡ atoms_word) → cond b Plain Preference ≡ Plain → (vs : List Token) × (ts ≡ opening ∷ word atoms_word ∷ vs)
    go true g e = (us, f ∙ ap (λ y. opening ∷ word y ∷ us) (g tt))
    go false g e = absurd (let z : ◌≡◌ {A = ℕ} 0 1 = cc in omega arith)
plain_opened unopened ts f e = absurd (let z : ◌≡◌ {A = ℕ} 0 1 = cc in omega arith)

atoms_kind : (us : List Token) (later : Kind) → kind_by (opening ∷ word atoms_word ∷ us) later ≡ Plain
unfolding opened_of same_bytes
atoms_kind us later = refl

module _ (l : List ℕ) (ls : List (List ℕ)) where
  -- the line is blank, or it tells the kind
  opens_cons : OpensPlain (l ∷ ls) → ((tokens l ≡ []) × OpensPlain ls) ⊎ ((us : List Token) × (tokens l ≡ opening ∷ word atoms_word ∷ us))
  opens_cons h = go h.before h.are_lines h.nothing_before
    where
      go : (before : List (List ℕ)) → l ∷ ls ≡ before ++ (h.line ∷ h.later) → All (λ m. AreTokens m []) before
          → ((tokens l ≡ []) × OpensPlain ls) ⊎ ((us : List Token) × (tokens l ≡ opening ∷ word atoms_word ∷ us))
      go [] e n = inr (h.behind, ap tokens (cons_same e).0 ∙ (tokens_iff h.line (opening ∷ word atoms_word ∷ h.behind)).1 h.opens)
      go (m ∷ before) e n = inl (
        ap tokens (cons_same e).0 ∙ (tokens_iff m []).1 n.0,
        record { before = before; line = h.line; later = h.later; behind = h.behind; are_lines = (cons_same e).1; nothing_before = n.1; opens = h.opens },
      )

  kind_step : kind_of ls ≡ Plain ↔ OpensPlain ls → (ts : List Token) → tokens l ≡ ts → kind_by ts (kind_of ls) ≡ Plain ↔ OpensPlain (l ∷ ls)
  kind_step r [] q = (λ e. more (r.0 e), λ h. less (opens_cons h))
    where
      more : OpensPlain ls → OpensPlain (l ∷ ls)
      more h = record {
        before = l ∷ h.before;
        line = h.line;
        later = h.later;
        behind = h.behind;
        are_lines = ap (λ ms. l ∷ ms) h.are_lines;
        nothing_before = ((tokens_iff l []).0 q, h.nothing_before);
        opens = h.opens;
      }

      less : ((tokens l ≡ []) × OpensPlain ls) ⊎ ((us : List Token) × (tokens l ≡ opening ∷ word atoms_word ∷ us)) → kind_of ls ≡ Plain
      less (inl h) = r.1 h.1
      less (inr h) = absurd (no_cons (sym h.1 ∙ q))
  kind_step r (t ∷ ts) q = (λ e. first (plain_opened (opened_of (t ∷ ts)) (t ∷ ts) (opened_from (t ∷ ts)) e), λ h. told (opens_cons h))
    where
      first : (us : List Token) × (t ∷ ts ≡ opening ∷ word atoms_word ∷ us) → OpensPlain (l ∷ ls)
      first (us, e) = record {
        before = [];
        line = l;
        later = ls;
        behind = us;
        are_lines = refl;
        nothing_before = tt;
        opens = (tokens_iff l (opening ∷ word atoms_word ∷ us)).0 (q ∙ e);
      }

      told : ((tokens l ≡ []) × OpensPlain ls) ⊎ ((us : List Token) × (tokens l ≡ opening ∷ word atoms_word ∷ us)) → kind_by (t ∷ ts) (kind_of ls) ≡ Plain
      told (inl h) = absurd (no_cons (sym q ∙ h.0))
      told (inr h) = ap (λ us. kind_by us (kind_of ls)) (sym q ∙ h.1) ∙ atoms_kind h.0 (kind_of ls)

kind_of_lem : (ls : List (List ℕ)) → kind_of ls ≡ Plain ↔ OpensPlain ls
unfolding kind_of
kind_of_lem [] = (λ e. absurd (let z : ◌≡◌ {A = ℕ} 0 1 = cc in omega arith), λ h. absurd (no_append h.before h.line h.later (sym h.are_lines)))
kind_of_lem (l ∷ ls) = kind_step l ls (kind_of_lem ls) (tokens l) refl

pub kind_iff : (text : List ℕ) → (start text).kind ≡ Plain ↔ OpensPlain (lines text)
unfolding start
kind_iff text = kind_of_lem (lines text)
