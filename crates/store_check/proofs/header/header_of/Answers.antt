use mathlib.Core.Path.{refl, ap, ap₂, sym, ◌∙◌}
use native.Mathlib.Omega.{arith}
use Prim.Native.Nat.{ℕ, ◌+◌}
use lib.ListN.{get_or}
use Rattle.kinds.specs.declared.limits.Kind.{Kind}
use Rattle.stores.specs.RuleStore.{decode, word_count}
use Rattle.stores.proofs.StoredRules.{has_header, atoms_word_lem, room_for_words, header_of}
use Rattle.store_check.proofs.header.header_of.Goals as goal

pub bounds-words-1 : goal.bounds-words-1
bounds-words-1 c = omega (arith, has_header c.args.words.now (decode c.args.words.now) c.requires.0)

pub overflow_cast-atoms : goal.overflow_cast-atoms
overflow_cast-atoms c = omega (arith, c.type_inv.words 1)

pub bounds-words-3 : goal.bounds-words-3
bounds-words-3 c = omega (arith, has_header c.args.words.now (decode c.args.words.now) c.requires.0)

pub overflow_cast-rules : goal.overflow_cast-rules
overflow_cast-rules c = omega (arith, c.type_inv.words 3)

pub overflow_add-start : goal.overflow_add-start
overflow_add-start c =
    let w = c.word_count-start.ensures ∙ ap₂ word_count (sym c.requires.1) (atoms_word_lem c.args.words.now (decode c.args.words.now) c.requires.0) in
    omega (arith, w, room_for_words c.args.words.now (decode c.args.words.now) c.requires.0)

pub returns : goal.returns
returns c = header_of c.args.words.now (decode c.args.words.now) c.requires.0 refl refl (ap (λ (x : ℕ). 4 + x) (c.word_count-start.ensures ∙ ap (λ (k : Kind). word_count k (get_or c.args.words.now 1 0)) (sym c.requires.1)))
