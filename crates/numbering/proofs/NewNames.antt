-- A name written behind those of the scratch and entered into their index.
use Prim.Native.Nat.{ℕ, ◌+◌, ◌<◌}
use native.Mathlib.Omega.{arith}
use mathlib.Core.Path.{◌≡◌, refl, sym, ap, ap₂, ◌∙◌, subst}
use mathlib.Core.Logic.{◌≢◌}
use mathlib.Core.Bool.{Bool, true, false, not, cond}
use mathlib.Core.List.{List, [], ◌∷◌, ◌++◌}
use lib.Dec.{T}
use lib.ListN.{length, get_or, drop, set, length-drop}
use lib.Seq.{sets, drop-append_seam}
use Rattle.rules.specs.Lists.{All}
use Rattle.name_store.specs.NameStore.{name_bytes, encode_names, decode_names, among}
use Rattle.name_store.specs.NameIndex.{name_hash, Indexed}
use Rattle.name_store.proofs.NameStores.{decode_front, not_seen}
use Rattle.name_store.proofs.NameEntries.{entered}
use Rattle.output.specs.Emitted.{Emitted, InRange}
use Rattle.numbering.specs.Entries.{EntryRoom, EntrySays, EntryIs}
use Rattle.output.proofs.Emitting.{sets_seam}

-- the names of an index are those of its bytes
pub decoded : {names : List (List ℕ)} {bytes starts firsts links : List ℕ} → Indexed names bytes starts firsts links → decode_names (length names) bytes ≡ names
decoded {names} {bytes} ix = ap (decode_names (length names)) (sym ix.placed.stored) ∙ decode_front names (drop (length (encode_names names)) bytes)

module _ {names : List (List ℕ)} {bytes starts firsts links : List ℕ} (ix : Indexed names bytes starts firsts links) {x : List ℕ} {atom at : ℕ} (room : EntryRoom names x bytes starts links atom at) where
  pub name_range : (length x < 256) × InRange at (name_bytes x)
  name_range = (omega (arith, room.short), record { below = omega (arith, room.short, room.inside, room.bytes_small) })

  module _ {bytes' : List ℕ} {e : ℕ} (w : Emitted bytes at (name_bytes x) bytes' e) where
    abbrev old : List ℕ
    old = encode_names names

    abbrev rest : List ℕ
    rest = drop (length (name_bytes x)) (drop (length old) bytes)

    split : bytes' ≡ old ++ (name_bytes x ++ rest)
    split =
        w.bytes
        ∙ ap₂ (λ (b : List ℕ) (k : ℕ). sets b k (name_bytes x)) (sym ix.placed.stored) room.place
        ∙ sets_seam old (drop (length old) bytes) (name_bytes x) (omega (arith, room.short, room.inside, room.place, length-drop (length old) bytes))

    follows : drop (length old) bytes' ≡ name_bytes x ++ rest
    follows = ap (drop (length old)) split ∙ drop-append_seam old (name_bytes x ++ rest)

    pub still_indexed : Indexed names bytes' starts firsts links
    still_indexed =
        record {
          placed = record { stored = ap (λ l. old ++ l) follows ∙ sym split; room = ix.placed.room; start = ix.placed.start };
          different = ix.different;
          firsts_room = ix.firsts_room;
          links_room = ix.links_room;
          first = ix.first;
          link = ix.link;
        }

    pub same_names : decode_names atom bytes' ≡ names
    same_names = ap (λ k. decode_names k bytes') room.count ∙ decoded still_indexed

    pub still_decoded : Indexed (decode_names atom bytes') bytes' starts firsts links
    still_decoded = subst (λ ns. Indexed ns bytes' starts firsts links) (sym same_names) still_indexed

    fresh : among names x ≡ false → All (λ y. x ≢ y) names
    fresh n = (not_seen x names).0 (subst (λ b. T (not b)) (sym n) tt)

    pub entry : {r : Bool} {starts' firsts' links' : List ℕ} → r ≡ not (among (decode_names atom bytes') x)
        → starts' ≡ cond r (set starts atom at) starts
        → firsts' ≡ cond r (set firsts (name_hash x) (atom + 1)) firsts
        → links' ≡ cond r (set links atom (get_or firsts (name_hash x) 0)) links
        → EntryIs names x bytes' starts' firsts' links' r
    entry {r} {starts'} {firsts'} {links'} a b c d = record { says = go (among names x) refl r (a ∙ ap (λ ns. not (among ns x)) same_names) b c d }
      where
        go : (t : Bool) → among names x ≡ t → (r : Bool) → r ≡ not t
            → starts' ≡ cond r (set starts atom at) starts
            → firsts' ≡ cond r (set firsts (name_hash x) (atom + 1)) firsts
            → links' ≡ cond r (set links atom (get_or firsts (name_hash x) 0)) links
            → EntrySays names x bytes' starts' firsts' links' r
        go true n true e b c d = absurd (let z : ◌≡◌ {A = ℕ} 0 1 = cc in omega arith)
        go true n false e b c d = n
        go false n false e b c d = absurd (let z : ◌≡◌ {A = ℕ} 0 1 = cc in omega arith)
        go false n true e b c d =
            let more = entered still_indexed x rest follows (fresh n) (omega (arith, room.count, room.starts_room)) (omega (arith, room.count, room.links_room)) in
            let s : set starts (length names) (length old) ≡ starts' = ap₂ (set starts) (sym room.count) (sym room.place) ∙ sym b in
            let h : set firsts (name_hash x) (length names + 1) ≡ firsts' = ap (λ k. set firsts (name_hash x) (k + 1)) (sym room.count) ∙ sym c in
            let l : set links (length names) (get_or firsts (name_hash x) 0) ≡ links' = ap (λ k. set links k (get_or firsts (name_hash x) 0)) (sym room.count) ∙ sym d in
            (n, subst (λ l. Indexed (names ++ (x ∷ [])) bytes' starts' firsts' l) l (subst (λ h. Indexed (names ++ (x ∷ [])) bytes' starts' h (set links (length names) (get_or firsts (name_hash x) 0))) h (subst (λ s. Indexed (names ++ (x ∷ [])) bytes' s (set firsts (name_hash x) (length names + 1)) (set links (length names) (get_or firsts (name_hash x) 0))) s more)))
