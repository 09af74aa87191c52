-- The check of a name store, name by name: the names before `at` are entered, and the test of the rest decides.
use Prim.Native.Nat.{ℕ, suc, ◌+◌, ◌-◌, ◌*◌, ◌≤◌, ◌<◌, zero-le}
use native.Mathlib.Numerals.{add-one}
use native.Mathlib.Omega.{arith}
use mathlib.Core.Path.{◌≡◌, refl, sym, ap, ap₂, ◌∙◌, subst, subst₂, subst₃}
use mathlib.Core.List.{List, [], ◌∷◌, ◌++◌}
use mathlib.Core.Bool.{Bool, true, false, ◌&&◌, cond, not}
use lib.Dec.{T, leb, eqb, leb→le}
use lib.ListN.{length, get_or, take, drop, set, replicate, length-append, length-drop, length-set, take-append-drop}
use lib.Seq.{length-take-le, drop-cons, drop-drop}
use Rattle.kinds.specs.Sizes.{longest_entry}
use Rattle.kinds.specs.declared.limits.Kind.{Kind}
use Rattle.rules.proofs.Booleans.{T-and-r}
use Rattle.rules.proofs.Lists.{none_left}
use Rattle.names.specs.Names.{allowed}
use Rattle.name_store.specs.NameStore.{name_bytes, encode_names, first_name, decode_names, are_names_from, are_names, among}
use Rattle.name_store.specs.NameIndex.{name_end, buckets, name_hash, Indexed}
use Rattle.std.specs.Prelude.{Option, Some, None}
use Rattle.name_store.proofs.NameStores.{allowed_short, names_cons, not_seen}
use Rattle.name_store.proofs.NamePlaces.{length_decode, first_byte}
use Rattle.name_store.proofs.NameEntries.{index_empty, placed_names_lem, encode_last, entered}

-- the test of `name_end`
abbrev fits : List ℕ → Bool
fits bs = leb 1 (length bs) && leb (1 + get_or bs 0 0) (length bs)

ended : (b : Bool) (t : ℕ) → cond b (Some t) None ≡ None → b ≡ false
ended true t e = absurd (let z : ◌≡◌ {A = ℕ} 0 1 = cc in omega arith)
ended false t e = refl

goes_on : (b : Bool) (t : ℕ) {to : ℕ} → cond b (Some t) None ≡ Some to → (b ≡ true) × (to ≡ t)
goes_on true t e = (refl, cc)
goes_on false t e = absurd (let z : ◌≡◌ {A = ℕ} 0 1 = cc in omega arith)

pub record Checking (kind : Kind) (bytes : List ℕ) (atoms : ℕ) (starts₀ firsts₀ links₀ starts firsts links : List ℕ) (at atom : ℕ) : Type 0 where
  pub same_starts : length starts ≡ length starts₀
  pub same_firsts : length firsts ≡ length firsts₀
  pub same_links : length links ≡ length links₀
  pub counted : atom ≤ atoms
  pub few : atoms ≤ 1100
  pub starts_room : atoms ≤ length starts
  pub links_room : atoms ≤ length links
  pub index : Indexed (decode_names atom bytes) bytes starts firsts links
  pub here : at ≡ length (encode_names (decode_names atom bytes))
  pub small : at ≤ longest_entry * atom
  pub left : are_names_from kind (decode_names atom bytes) (atoms - atom) (drop at bytes) ≡ are_names kind atoms bytes

pub check_begins : (kind : Kind) (bytes : List ℕ) (atoms : ℕ) (starts firsts links : List ℕ) → atoms ≤ 1100 → atoms ≤ length starts → firsts ≡ replicate buckets 0 → atoms ≤ length links
    → Checking kind bytes atoms starts firsts links starts firsts links 0 0
unfolding decode_names encode_names are_names
check_begins kind bytes atoms starts firsts links few s e n = record {
  same_starts = refl;
  same_firsts = refl;
  same_links = refl;
  counted = zero-le;
  few = few;
  starts_room = s;
  links_room = n;
  index = index_empty bytes starts firsts links e;
  here = refl;
  small = zero-le;
  left = let q : atoms - 0 ≡ atoms = omega arith in ap (λ m. are_names_from kind [] m bytes) q;
}

module _ {kind : Kind} {bytes : List ℕ} {atoms : ℕ} {starts₀ firsts₀ links₀ starts firsts links : List ℕ} {at atom : ℕ} (k : Checking kind bytes atoms starts₀ firsts₀ links₀ starts firsts links at atom) where
  inside : at ≤ length bytes
  inside = omega (arith, k.here, length-append (encode_names (decode_names atom bytes)) (drop (length (encode_names (decode_names atom bytes))) bytes), ap length k.index.placed.stored)

  pub check_passed : atoms ≤ atom → (eqb at (length bytes) ≡ are_names kind atoms bytes) × (eqb at (length bytes) ≡ true → Indexed (decode_names atoms bytes) bytes starts firsts links)
  unfolding are_names_from
  check_passed l =
      let q : atom ≡ atoms = omega (arith, k.counted) in
      let z : atoms - atom ≡ 0 = omega arith in
      (none_left bytes at inside ∙ sym (ap (λ n. are_names_from kind (decode_names atom bytes) n (drop at bytes)) z) ∙ k.left, λ e. subst (λ n. Indexed (decode_names n bytes) bytes starts firsts links) q k.index)

  pub check_room : atom < atoms → (atom < length starts) × (atom < length links) × (atom + 1 < 65536) × (at < 65536)
  check_room lt = omega (arith, k)

  module _ (lt : atom < atoms) {r : Option ℕ} (is : r ≡ name_end bytes at) where
    abbrev names : List (List ℕ)
    names = decode_names atom bytes

    one_more : atoms - atom ≡ suc (atoms - (atom + 1))
    one_more = omega arith

    pub check_short : r ≡ None → false ≡ are_names kind atoms bytes
    unfolding name_end
    check_short e =
        let none : fits (drop at bytes) ≡ false = ended (fits (drop at bytes)) (at + 1 + get_or bytes at 0) (sym is ∙ e) in
        sym (rw none at (names_cons kind names (atoms - (atom + 1)) (drop at bytes) (first_name (drop at bytes)) (drop (1 + get_or (drop at bytes) 0 0) (drop at bytes)) refl refl))
        ∙ sym (ap (λ n. are_names_from kind names n (drop at bytes)) one_more) ∙ k.left

    module _ {to : ℕ} (ends : r ≡ Some to) where
      fit : (fits (drop at bytes) ≡ true) × (to ≡ at + 1 + get_or bytes at 0)
      unfolding name_end
      fit = goes_on (fits (drop at bytes)) (at + 1 + get_or bytes at 0) (sym is ∙ ends)

      pub check_part : (at + 1 ≤ to) × (to ≤ length bytes) × (at < length bytes)
      check_part =
          let f = leb→le (1 + get_or (drop at bytes) 0 0) (length (drop at bytes)) (T-and-r (leb 1 (length (drop at bytes))) (leb (1 + get_or (drop at bytes) 0 0) (length (drop at bytes))) (subst T (sym fit.0) tt)) in
          let e = fit.1 in
          let d = length-drop at bytes in
          let b = first_byte bytes at in
          (omega arith, omega arith, omega arith)

      abbrev x : List ℕ
      x = take (to - (at + 1)) (drop (at + 1) bytes)

      first_is : first_name (drop at bytes) ≡ x
      first_is =
          let q : get_or (drop at bytes) 0 0 ≡ to - (at + 1) = omega (arith, fit.1, first_byte bytes at) in
          ap₂ take q (drop-drop 1 at bytes)

      rest_is : drop (1 + get_or (drop at bytes) 0 0) (drop at bytes) ≡ drop to bytes
      rest_is =
          let q : at + (1 + get_or (drop at bytes) 0 0) ≡ to = omega (arith, fit.1, first_byte bytes at) in
          drop-drop (1 + get_or (drop at bytes) 0 0) at bytes ∙ ap (λ n. drop n bytes) q

      step : are_names kind atoms bytes ≡ allowed kind x && (not (among names x) && are_names_from kind (names ++ (x ∷ [])) (atoms - (atom + 1)) (drop to bytes))
      step =
          sym k.left ∙ ap (λ n. are_names_from kind names n (drop at bytes)) one_more
          ∙ (rw fit.0 at (names_cons kind names (atoms - (atom + 1)) (drop at bytes) x (drop to bytes) first_is rest_is))

      module _ {s : Bool} (is-allowed : s ≡ allowed kind x) where
        pub check_wrong : s ≡ false → false ≡ are_names kind atoms bytes
        check_wrong e = sym (rw (sym is-allowed ∙ e) at step)

        module _ (good : s ≡ true) {t : Bool} (is-new : t ≡ not (among names x)) where
          pub check_twice : t ≡ false → false ≡ are_names kind atoms bytes
          check_twice e = sym (rw (sym is-allowed ∙ good, sym is-new ∙ e) at step)

          module _ (new : t ≡ true) {starts' firsts' links' : List ℕ}
              (es : starts' ≡ cond t (set starts atom at) starts)
              (eh : firsts' ≡ cond t (set firsts (name_hash x) (atom + 1)) firsts)
              (en : links' ≡ cond t (set links atom (get_or firsts (name_hash x) 0)) links) where
            long : length x ≡ to - (at + 1)
            long = length-take-le (to - (at + 1)) (drop (at + 1) bytes) (omega (arith, check_part, length-drop (at + 1) bytes))

            follows : drop (length (encode_names names)) bytes ≡ name_bytes x ++ drop to bytes
            follows =
                let q : at + 1 + (to - (at + 1)) ≡ to = omega (arith, check_part) in
                let b : get_or bytes at 0 ≡ length x = omega (arith, long, fit.1) in
                ap (λ n. drop n bytes) (sym k.here) ∙ drop-cons bytes at 0 check_part.2
                ∙ ap₂ ◌∷◌ b (ap (λ n. drop n bytes) (sym (add-one at)) ∙ sym (take-append-drop (to - (at + 1)) (drop (at + 1) bytes))
                ∙ ap (λ l. x ++ l) (drop-drop (to - (at + 1)) (at + 1) bytes ∙ ap (λ n. drop n bytes) q))

            index_more : Indexed (names ++ (x ∷ [])) bytes (set starts (length names) (length (encode_names names))) (set firsts (name_hash x) (length names + 1)) (set links (length names) (get_or firsts (name_hash x) 0))
            index_more =
                let n = length_decode atom bytes in
                entered k.index x (drop to bytes) follows ((not_seen x names).0 (subst T (sym new ∙ is-new) tt)) (omega (arith, k.starts_room)) (omega (arith, k.links_room))

            grown : decode_names (atom + 1) bytes ≡ names ++ (x ∷ [])
            grown =
                let n : length (names ++ (x ∷ [])) ≡ atom + 1 = length-append names (x ∷ []) ∙ ap (λ m. m + 1) (length_decode atom bytes) in
                ap (λ m. decode_names m bytes) (sym n) ∙ placed_names_lem index_more.placed

            index_set : Indexed (decode_names (atom + 1) bytes) bytes (set starts atom at) (set firsts (name_hash x) (atom + 1)) (set links atom (get_or firsts (name_hash x) 0))
            index_set =
                subst (λ l. Indexed l bytes (set starts atom at) (set firsts (name_hash x) (atom + 1)) (set links atom (get_or firsts (name_hash x) 0))) (sym grown)
                (subst₂ (λ (n p : ℕ). Indexed (names ++ (x ∷ [])) bytes (set starts n p) (set firsts (name_hash x) (n + 1)) (set links n (get_or firsts (name_hash x) 0))) (length_decode atom bytes) (sym k.here) index_more)

            es' : starts' ≡ set starts atom at
            es' = es ∙ ap (λ b. cond b (set starts atom at) starts) new

            eh' : firsts' ≡ set firsts (name_hash x) (atom + 1)
            eh' = eh ∙ ap (λ b. cond b (set firsts (name_hash x) (atom + 1)) firsts) new

            en' : links' ≡ set links atom (get_or firsts (name_hash x) 0)
            en' = en ∙ ap (λ b. cond b (set links atom (get_or firsts (name_hash x) 0)) links) new

            pub check_again : Checking kind bytes atoms starts₀ firsts₀ links₀ starts' firsts' links' to (atom + 1)
            check_again =
                let s = ap length es' ∙ length-set starts atom at in
                let n = ap length en' ∙ length-set links atom (get_or firsts (name_hash x) 0) in
                let size : length (encode_names (decode_names (atom + 1) bytes)) ≡ at + suc (length x) =
                ap (λ l. length (encode_names l)) grown ∙ ap length (encode_last names x) ∙ length-append (encode_names names) (name_bytes x) ∙ ap (λ m. m + suc (length x)) (sym k.here) in
                record {
                  same_starts = s ∙ k.same_starts;
                  same_firsts = ap length eh' ∙ length-set firsts (name_hash x) (atom + 1) ∙ k.same_firsts;
                  same_links = n ∙ k.same_links;
                  counted = omega arith;
                  few = k.few;
                  starts_room = omega (arith, k.starts_room);
                  links_room = omega (arith, k.links_room);
                  index = subst₃ (λ (a b c : List ℕ). Indexed (decode_names (atom + 1) bytes) bytes a b c) (sym es') (sym eh') (sym en') index_set;
                  here = omega (arith, long, check_part);
                  small = omega (arith, long, check_part, k.small, allowed_short kind x (subst T (sym good ∙ is-allowed) tt));
                  left = ap (λ l. are_names_from kind l (atoms - (atom + 1)) (drop to bytes)) grown ∙ sym (rw (sym is-allowed ∙ good, sym is-new ∙ new) at step);
                }

pub never : {P : Type 0} → ◌≡◌ {A = Bool} false true → P
never e = absurd (let z : ◌≡◌ {A = ℕ} 0 1 = cc in omega arith)
