-- The name store and its test: bytes pass exactly when they are the store of different names that the kind allows.
use Prim.Native.Nat.{ℕ, zero, suc, ◌+◌, ◌*◌, ◌≤◌}
use native.Mathlib.Numerals.{one-add}
use native.Mathlib.Omega.{arith}
use mathlib.Core.Path.{◌≡◌, refl, sym, ap, ap₂, ◌∙◌, subst, subst₂}
use mathlib.Core.Logic.{◌↔◌, ◌≢◌, ◌⊎◌, inl, inr}
use mathlib.Core.List.{List, [], ◌∷◌, ◌++◌, append_assoc, append-nil}
use mathlib.Core.Bool.{Bool, true, false, not, ◌&&◌, ◌||◌, cond}
use lib.Dec.{T, leb, eqb, leb→le, le→leb, eqb→eq, eqb_refl}
use lib.ListN.{length, get_or, take, drop, length-append, length-drop, take-append-drop}
use lib.Seq.{length-take-le, take-append_seam, drop-append_seam}
use Rattle.kinds.specs.Limits.{name_limit}
use Rattle.kinds.specs.Sizes.{longest_name, longest_entry}
use Rattle.kinds.specs.declared.limits.Kind.{Kind}
use Rattle.kinds.specs.declared.limits.Kind.TheVariants.{Plain, Preference}
use Rattle.rules.specs.Lists.{All, Distinct, some}
use Rattle.rules.proofs.Booleans.{bool_ext, T_and, T-and-l, T-and-r, T-or, T-or-out, T_of, T-not-in, T-not-out}
use Rattle.rules.proofs.Lists.{all_app, all_app_l, all_app_r, all_imp}
use Rattle.names.specs.declared.forms.NameClass.{NameClass}
use Rattle.names.specs.declared.forms.NameClass.TheVariants.{Common, Generated, TooLong, Wrong}
use Rattle.names.specs.Numerals.{is_digit}
use Rattle.names.specs.Names.{is_common_name, is_class_number, by_length, dotted, generated, name_class, takes, allowed}
use Rattle.name_store.specs.NameStore.{name_bytes, encode_names, NamesForm, NamesOf, first_name, decode_names, same_bytes, are_names_from, are_names}

-- the test of two names is equality

pub same_equal : (x y : List ℕ) → T (same_bytes x y) → x ≡ y
unfolding same_bytes
same_equal [] [] h = refl
same_equal [] (b ∷ y) h = absurd h
same_equal (a ∷ x) [] h = absurd h
same_equal (a ∷ x) (b ∷ y) h =
    ap₂ ◌∷◌ (eqb→eq a b (T-and-l (eqb a b) (same_bytes x y) h)) (same_equal x y (T-and-r (eqb a b) (same_bytes x y) h))

pub same_self : (x : List ℕ) → T (same_bytes x x)
unfolding same_bytes
same_self [] = tt
same_self (a ∷ x) = T_and (eqb a a) (same_bytes x x) (eqb_refl a) (same_self x)

pub same_law : (x y : List ℕ) → T (same_bytes x y) ↔ (x ≡ y)
same_law x y = (same_equal x y, λ e. subst (λ z. T (same_bytes x z)) e (same_self x))

pub same_sym : (x y : List ℕ) → same_bytes x y ≡ same_bytes y x
same_sym x y = bool_ext (same_bytes x y) (same_bytes y x) (λ h. (same_law y x).1 (sym (same_equal x y h))) (λ h. (same_law x y).1 (sym (same_equal y x h)))

-- no allowed name is longer than the longest

module _ (kind : Kind) where
  picked : {P : Type 0} (b : Bool) (c d : NameClass) → (T b → T (takes kind c) → P) → (T (takes kind d) → P) → T (takes kind (cond b c d)) → P
  picked true c d f g h = f tt h
  picked false c d f g h = g h

  no_long : T (takes kind TooLong) → ⊥
  no_long = go kind
    where
      go : (k : Kind) → T (takes k TooLong) → ⊥
      go Plain h = h
      go Preference h = h

  no_wrong : T (takes kind Wrong) → ⊥
  no_wrong = go kind
    where
      go : (k : Kind) → T (takes k Wrong) → ⊥
      go Plain h = h
      go Preference h = h

  sized_short : (bs : List ℕ) (c : NameClass) → T (takes kind (by_length bs c)) → length bs ≤ name_limit
  sized_short bs c h = picked (leb (length bs) name_limit) c TooLong (λ t k. leb→le (length bs) name_limit t) (λ k. absurd (no_long k)) h

  number_short : (bs : List ℕ) → T (is_class_number bs) → length bs ≤ 2
  unfolding is_class_number
  number_short bs h = go (T-or-out (eqb (length bs) 1 && is_digit (get_or bs 0 0)) (eqb (length bs) 2 && high) h)
    where
      high : Bool
      high = eqb (get_or bs 0 0) 49 && (leb 48 (get_or bs 1 0) && leb (get_or bs 1 0) 54)

      go : T (eqb (length bs) 1 && is_digit (get_or bs 0 0)) ⊎ T (eqb (length bs) 2 && high) → length bs ≤ 2
      go (inl t) = omega (arith, eqb→eq (length bs) 1 (T-and-l (eqb (length bs) 1) (is_digit (get_or bs 0 0)) t))
      go (inr t) = omega (arith, eqb→eq (length bs) 2 (T-and-l (eqb (length bs) 2) high t))

  dotted_short : (c : ℕ) (bs : List ℕ) → T (takes kind (dotted c bs)) → length bs ≤ name_limit
  dotted_short c bs h =
      picked ((eqb c 78 || (eqb c 83 || eqb c 68)) && is_common_name bs) (by_length bs Generated) (cond (eqb c 69 && is_class_number bs) Generated Wrong)
      (λ t k. sized_short bs Generated k)
      (picked (eqb c 69 && is_class_number bs) Generated Wrong
      (λ t k. omega (arith, number_short bs (T-and-r (eqb c 69) (is_class_number bs) t)))
      (λ k. absurd (no_wrong k)))
      h

  class_short : (bs : List ℕ) → T (takes kind (name_class bs)) → length bs ≤ longest_name
  unfolding name_class
  class_short bs h =
      picked (is_common_name bs) (by_length bs Common) (generated bs)
      (λ t k. omega (arith, sized_short bs Common k))
      (picked (eqb (length bs) 1 && eqb (get_or bs 0 0) 85) Generated (cond (leb 2 (length bs) && eqb (get_or bs 1 0) 46) (dotted (get_or bs 0 0) (drop 2 bs)) Wrong)
      (λ t k. omega (arith, eqb→eq (length bs) 1 (T-and-l (eqb (length bs) 1) (eqb (get_or bs 0 0) 85) t)))
      (picked (leb 2 (length bs) && eqb (get_or bs 1 0) 46) (dotted (get_or bs 0 0) (drop 2 bs)) Wrong
      (λ t k. omega (arith, dotted_short (get_or bs 0 0) (drop 2 bs) k, length-drop 2 bs))
      (λ k. absurd (no_wrong k))))
      h

  pub allowed_short : (bs : List ℕ) → T (allowed kind bs) → length bs ≤ longest_name
  unfolding allowed
  allowed_short bs h = class_short bs h

-- decoding undoes encoding

rest_encoded : (x bs : List ℕ) → drop (1 + length x) (length x ∷ (x ++ bs)) ≡ bs
rest_encoded x bs = rw (one-add (length x)) (drop-append_seam x bs)

pub decode_front : (names : List (List ℕ)) (bs : List ℕ) → decode_names (length names) (encode_names names ++ bs) ≡ names
unfolding decode_names encode_names
decode_front [] bs = refl
decode_front (x ∷ names) bs =
    let e : encode_names (x ∷ names) ++ bs ≡ length x ∷ (x ++ (encode_names names ++ bs)) = append_assoc (name_bytes x) (encode_names names) bs in
    ap (decode_names (suc (length names))) e
    ∙ ap₂ ◌∷◌ (take-append_seam x (encode_names names ++ bs)) (ap (decode_names (length names)) (rest_encoded x (encode_names names ++ bs)) ∙ decode_front names bs)

pub decode_names_lem : {kind : Kind} {n : ℕ} {names : List (List ℕ)} → NamesForm kind n names → decode_names n (encode_names names) ≡ names
decode_names_lem {kind} {n} {names} f = subst (λ m. decode_names m (encode_names names) ≡ names) f.count (ap (decode_names (length names)) (sym (append-nil (encode_names names))) ∙ decode_front names [])

pub same_names : {bs : List ℕ} {kind : Kind} {n : ℕ} {a b : List (List ℕ)} → NamesOf bs kind n a → NamesOf bs kind n b → a ≡ b
same_names {bs} {kind} {n} {a} {b} f g = sym (decode_names_lem f.form) ∙ ap (decode_names n) (f.bytes ∙ sym g.bytes) ∙ decode_names_lem g.form

-- the test

-- each name differs from those seen before
abbrev pub Fresh : List (List ℕ) → List (List ℕ) → Type 0
Fresh seen names = All (λ x. All (λ y. x ≢ y) seen) names

pub record NamesAfter (kind : Kind) (seen : List (List ℕ)) (n : ℕ) (bs : List ℕ) (names : List (List ℕ)) : Type 0 where
  pub of_bytes : NamesOf bs kind n names
  pub fresh : Fresh seen names

pub not_seen : (x : List ℕ) (seen : List (List ℕ)) → T (not (some (same_bytes x) seen)) ↔ All (λ y. x ≢ y) seen
not_seen x [] = (λ h. tt, λ h. tt)
not_seen x (y ∷ seen) = (λ h. (λ e. fails h (inl ((same_law x y).1 e)), (not_seen x seen).0 (T-not-in (some (same_bytes x) seen) (λ t. fails h (inr t)))), λ h. T-not-in (same_bytes x y || some (same_bytes x) seen) (λ t. differs h (not_seen x seen) (T-or-out (same_bytes x y) (some (same_bytes x) seen) t)))
  where
    fails : T (not (same_bytes x y || some (same_bytes x) seen)) → T (same_bytes x y) ⊎ T (some (same_bytes x) seen) → ⊥
    fails h t = T-not-out (same_bytes x y || some (same_bytes x) seen) h (T-or (same_bytes x y) (some (same_bytes x) seen) t)

    differs : (x ≢ y) × All (λ z. x ≢ z) seen → T (not (some (same_bytes x) seen)) ↔ All (λ z. x ≢ z) seen → T (same_bytes x y) ⊎ T (some (same_bytes x) seen) → ⊥
    differs h r (inl t) = h.0 ((same_law x y).0 t)
    differs h r (inr t) = T-not-out (some (same_bytes x) seen) (r.1 h.1) t

module _ (kind : Kind) where
  after : (seen : List (List ℕ)) (n b : ℕ) (bs : List ℕ)
      → T (leb (1 + b) (suc (length bs)))
      → T (allowed kind (take b bs))
      → All (λ y. take b bs ≢ y) seen
      → {names : List (List ℕ)} → NamesAfter kind (seen ++ (take b bs ∷ [])) n (drop (1 + b) (b ∷ bs)) names
      → NamesAfter kind seen (suc n) (b ∷ bs) (take b bs ∷ names)
  unfolding encode_names
  after seen n b bs fits ok new {names} r =
      let x = take b bs in
      let short : b ≤ length bs = omega (arith, leb→le (1 + b) (suc (length bs)) fits) in
      let rest : drop (1 + b) (b ∷ bs) ≡ drop b bs = rw (one-add b) in
      record {
        of_bytes = record {
          form = record {
            count = ap suc r.of_bytes.form.count;
            all_allowed = (ok, r.of_bytes.form.all_allowed);
            different = (all_imp (λ y. All (λ z. y ≢ z) (seen ++ (x ∷ []))) (λ y. x ≢ y) (λ y k e. (all_app_r (λ z. y ≢ z) seen (x ∷ []) k).0 (sym e)) names r.fresh, r.of_bytes.form.different);
          };
          bytes = ap₂ ◌∷◌ (length-take-le b bs short) (ap (λ l. x ++ l) (r.of_bytes.bytes ∙ rest) ∙ take-append-drop b bs);
        };
        fresh = (new, all_imp (λ y. All (λ z. y ≢ z) (seen ++ (x ∷ []))) (λ y. All (λ z. y ≢ z) seen) (λ y k. all_app_l (λ z. y ≢ z) seen (x ∷ []) k) names r.fresh);
      }

  pub sound : (seen : List (List ℕ)) (n : ℕ) (bs : List ℕ) → T (are_names_from kind seen n bs) → NamesAfter kind seen n bs (decode_names n bs)
  unfolding are_names_from decode_names encode_names
  sound seen zero [] h = record { of_bytes = record { form = record { count = refl; all_allowed = tt; different = tt }; bytes = refl }; fresh = tt }
  sound seen zero (b ∷ bs) h = absurd h
  sound seen (suc n) [] h = absurd h
  sound seen (suc n) (b ∷ bs) h =
      let x = take b bs in
      let rest = drop (1 + b) (b ∷ bs) in
      let fits = leb 1 (suc (length bs)) && leb (1 + b) (suc (length bs)) in
      let tail = are_names_from kind (seen ++ (x ∷ [])) n rest in
      let fresh = not (some (same_bytes x) seen) in
      let h₁ = T-and-r fits (allowed kind x && (fresh && tail)) h in
      let h₂ = T-and-r (allowed kind x) (fresh && tail) h₁ in
      let r = sound (seen ++ (x ∷ [])) n rest (T-and-r fresh tail h₂) in
      after seen n b bs (T-and-r (leb 1 (suc (length bs))) (leb (1 + b) (suc (length bs))) (T-and-l fits (allowed kind x && (fresh && tail)) h)) (T-and-l (allowed kind x) (fresh && tail) h₁) ((not_seen x seen).0 (T-and-l fresh tail h₂)) r

  -- one name more at the front of the bytes
  pub names_cons : (seen : List (List ℕ)) (n : ℕ) (bs x rest : List ℕ) → first_name bs ≡ x → drop (1 + get_or bs 0 0) bs ≡ rest
      → are_names_from kind seen (suc n) bs ≡ (leb 1 (length bs) && leb (1 + get_or bs 0 0) (length bs)) && (allowed kind x && (not (some (same_bytes x) seen) && are_names_from kind (seen ++ (x ∷ [])) n rest))
  unfolding are_names_from
  names_cons seen n bs x rest e f = ap₂ (λ (y l : List ℕ). (leb 1 (length bs) && leb (1 + get_or bs 0 0) (length bs)) && (allowed kind y && (not (some (same_bytes y) seen) && are_names_from kind (seen ++ (y ∷ [])) n l))) e f

  pub complete : (seen : List (List ℕ)) (names : List (List ℕ)) → All (λ x. T (allowed kind x)) names → Distinct names → Fresh seen names → T (are_names_from kind seen (length names) (encode_names names))
  unfolding are_names_from decode_names encode_names
  complete seen [] a d f = tt
  complete seen (x ∷ names) a d f =
      let bs = length x ∷ (x ++ encode_names names) in
      let long : length bs ≡ suc (length x + length (encode_names names)) = ap suc (length-append x (encode_names names)) in
      let fits : T (leb 1 (length bs) && leb (1 + length x) (length bs)) = T_and (leb 1 (length bs)) (leb (1 + length x) (length bs)) (le→leb 1 (length bs) (omega (arith, long))) (le→leb (1 + length x) (length bs) (omega (arith, long))) in
      let new : T (not (some (same_bytes x) seen)) = (not_seen x seen).1 f.0 in
      let tail = complete (seen ++ (x ∷ [])) names a.1 d.1 (both d.0 f.1) in
      let rest = are_names_from kind (seen ++ (x ∷ [])) (length names) (encode_names names) in
      T_of (sym (names_cons seen (length names) bs x (encode_names names) (take-append_seam x (encode_names names)) (rest_encoded x (encode_names names))))
      (T_and (leb 1 (length bs) && leb (1 + length x) (length bs)) (allowed kind x && (not (some (same_bytes x) seen) && rest)) fits
      (T_and (allowed kind x) (not (some (same_bytes x) seen) && rest) a.0 (T_and (not (some (same_bytes x) seen)) rest new tail)))
    where
      both : All (λ y. x ≢ y) names → Fresh seen names → Fresh (seen ++ (x ∷ [])) names
      both d f = go names d f
        where
          go : (l : List (List ℕ)) → All (λ y. x ≢ y) l → Fresh seen l → Fresh (seen ++ (x ∷ [])) l
          go [] d f = tt
          go (y ∷ l) d f = (all_app (λ z. y ≢ z) seen (x ∷ []) f.0 (λ e. d.0 (sym e), tt), go l d.1 f.1)

-- the test is the definition

pub decoded_names : (kind : Kind) (n : ℕ) (bs : List ℕ) → T (are_names kind n bs) → NamesOf bs kind n (decode_names n bs)
unfolding are_names
decoded_names kind n bs h = (sound kind [] n bs h).of_bytes

pub names_law : (kind : Kind) (n : ℕ) (bs : List ℕ) → T (are_names kind n bs) ↔ ((names : List (List ℕ)) × NamesOf bs kind n names)
unfolding are_names
names_law kind n bs = (λ h. (decode_names n bs, decoded_names kind n bs h), λ p. back p.0 p.1)
  where
    none : (names : List (List ℕ)) → Fresh [] names
    none [] = tt
    none (x ∷ names) = (tt, none names)

    back : (names : List (List ℕ)) → NamesOf bs kind n names → T (are_names kind n bs)
    back names r = subst₂ (λ (m : ℕ) (l : List ℕ). T (are_names_from kind [] m l)) r.form.count r.bytes (complete kind [] names r.form.all_allowed r.form.different (none names))

-- a store of short names is short
pub encoded_length : (names : List (List ℕ)) → All (λ x. length x ≤ longest_name) names → length (encode_names names) ≤ longest_entry * length names
unfolding encode_names
encoded_length [] h = omega arith
encoded_length (x ∷ names) h = omega (arith, length-append x (encode_names names), encoded_length names h.1, h.0)
