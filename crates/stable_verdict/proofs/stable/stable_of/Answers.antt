use mathlib.Core.List.{List}
use mathlib.Core.Path.{◌≡◌}
use Prim.Native.Nat.{ℕ, ◌≤◌}
use lib.ListN.{get_or}
use Rattle.kinds.specs.Limits.{walk_atoms}
use Rattle.kinds.specs.declared.limits.Kind.TheVariants.{Plain}
use Rattle.stores.specs.RuleStore.{StoreOf, decode}
use mathlib.Core.Path.{refl}
use native.Mathlib.Omega.{arith}
use Rattle.stores.proofs.StoredRules.{has_header}
use Rattle.masks.proofs.CheckedStore.{PlainHeader, plain_few, plain_stored, plain_rules}
use Rattle.masks.proofs.FilledMasks.{taken_fits}
use Rattle.stable_verdict.proofs.KeptRules.{reduct_ready, kept_care_length, kept_want_length, kept_same, kept_fit, kept_small, marks_length, marks_fit, broken_ready, walk_ready}
use Rattle.stable_verdict.proofs.stable.stable_of.Goals as goal

header : (ws : List ℕ) (n r : ℕ) → StoreOf ws (decode ws) → (decode ws).atoms ≤ walk_atoms → (decode ws).kind ≡ Plain → n ≡ get_or ws 1 0 → r ≡ get_or ws 3 0 → PlainHeader ws n r
header ws n r s f k a q = record { store = s; few = f; is_plain = k; atoms_read = a; rules_read = q }

pub bounds-words-1 : goal.bounds-words-1
bounds-words-1 c = omega (arith, has_header _ _ c.requires.store_of)

pub bounds-words-3 : goal.bounds-words-3
bounds-words-3 c = omega (arith, has_header _ _ c.requires.store_of)

pub slice_bounds-fill_reduct-count : goal.slice_bounds-fill_reduct-count
slice_bounds-fill_reduct-count c = has_header _ _ c.requires.store_of

pub slice_bounds-fill_reduct-start : goal.slice_bounds-fill_reduct-start
slice_bounds-fill_reduct-start c = has_header _ _ c.requires.store_of

pub fill_reduct-kept-requires : goal.fill_reduct-kept-requires
fill_reduct-kept-requires c =
    record {
      n_le_walk_atoms = plain_few _ _ _ (header _ _ _ c.requires.store_of c.requires.words_bound c.requires.words_value refl refl);
      stored_rules = plain_stored _ _ _ (header _ _ _ c.requires.store_of c.requires.words_bound c.requires.words_value refl refl);
      rules_bound = plain_rules _ _ _ (header _ _ _ c.requires.store_of c.requires.words_bound c.requires.words_value refl refl);
      marks_value = refl;
      rules_in_bounds = (plain_rules _ _ _ (header _ _ _ c.requires.store_of c.requires.words_bound c.requires.words_value refl refl), plain_rules _ _ _ (header _ _ _ c.requires.store_of c.requires.words_bound c.requires.words_value refl refl));
    }

pub turned-place-requires : goal.turned-place-requires
turned-place-requires c = plain_few _ _ _ (header _ _ _ c.requires.store_of c.requires.words_bound c.requires.words_value refl refl)

pub slice_bounds-care-end : goal.slice_bounds-care-end
slice_bounds-care-end c = taken_fits _ _ (kept_care_length (reduct_ready _ _ _ _ _ _ (header _ _ _ c.requires.store_of c.requires.words_bound c.requires.words_value refl refl) (c.fill_reduct-kept.ensures.marks_after, (c.fill_reduct-kept.ensures.care_after, (c.fill_reduct-kept.ensures.want_after, c.fill_reduct-kept.ensures.value)))))

pub slice_bounds-first_broken-end : goal.slice_bounds-first_broken-end
slice_bounds-first_broken-end c = kept_care_length (reduct_ready _ _ _ _ _ _ (header _ _ _ c.requires.store_of c.requires.words_bound c.requires.words_value refl refl) (c.fill_reduct-kept.ensures.marks_after, (c.fill_reduct-kept.ensures.care_after, (c.fill_reduct-kept.ensures.want_after, c.fill_reduct-kept.ensures.value))))

pub slice_bounds-want-end : goal.slice_bounds-want-end
slice_bounds-want-end c = taken_fits _ _ (kept_want_length (reduct_ready _ _ _ _ _ _ (header _ _ _ c.requires.store_of c.requires.words_bound c.requires.words_value refl refl) (c.fill_reduct-kept.ensures.marks_after, (c.fill_reduct-kept.ensures.care_after, (c.fill_reduct-kept.ensures.want_after, c.fill_reduct-kept.ensures.value)))))

pub slice_bounds-first_broken-end-2 : goal.slice_bounds-first_broken-end-2
slice_bounds-first_broken-end-2 c = kept_want_length (reduct_ready _ _ _ _ _ _ (header _ _ _ c.requires.store_of c.requires.words_bound c.requires.words_value refl refl) (c.fill_reduct-kept.ensures.marks_after, (c.fill_reduct-kept.ensures.care_after, (c.fill_reduct-kept.ensures.want_after, c.fill_reduct-kept.ensures.value))))

pub first_broken-broken-requires : goal.first_broken-broken-requires
first_broken-broken-requires c = kept_same (reduct_ready _ _ _ _ _ _ (header _ _ _ c.requires.store_of c.requires.words_bound c.requires.words_value refl refl) (c.fill_reduct-kept.ensures.marks_after, (c.fill_reduct-kept.ensures.care_after, (c.fill_reduct-kept.ensures.want_after, c.fill_reduct-kept.ensures.value))))

pub slice_bounds-marks-end : goal.slice_bounds-marks-end
slice_bounds-marks-end c = marks_fit (reduct_ready _ _ _ _ _ _ (header _ _ _ c.requires.store_of c.requires.words_bound c.requires.words_value refl refl) (c.fill_reduct-kept.ensures.marks_after, (c.fill_reduct-kept.ensures.care_after, (c.fill_reduct-kept.ensures.want_after, c.fill_reduct-kept.ensures.value))))

pub slice_bounds-marked_at-end : goal.slice_bounds-marked_at-end
slice_bounds-marked_at-end c = marks_length (reduct_ready _ _ _ _ _ _ (header _ _ _ c.requires.store_of c.requires.words_bound c.requires.words_value refl refl) (c.fill_reduct-kept.ensures.marks_after, (c.fill_reduct-kept.ensures.care_after, (c.fill_reduct-kept.ensures.want_after, c.fill_reduct-kept.ensures.value))))

pub returns-then-broken-kept : goal.returns-then-broken-kept
returns-then-broken-kept c = broken_ready (reduct_ready _ _ _ _ _ _ (header _ _ _ c.requires.store_of c.requires.words_bound c.requires.words_value refl refl) (c.fill_reduct-kept.ensures.marks_after, (c.fill_reduct-kept.ensures.care_after, (c.fill_reduct-kept.ensures.want_after, c.fill_reduct-kept.ensures.value)))) _ c.turned-place.ensures _ c.first_broken-broken.ensures _ _ c.if-broken-kept.true c.marked_at.ensures

pub slice_bounds-care-end-2 : goal.slice_bounds-care-end-2
slice_bounds-care-end-2 c = taken_fits _ _ (kept_care_length (reduct_ready _ _ _ _ _ _ (header _ _ _ c.requires.store_of c.requires.words_bound c.requires.words_value refl refl) (c.fill_reduct-kept.ensures.marks_after, (c.fill_reduct-kept.ensures.care_after, (c.fill_reduct-kept.ensures.want_after, c.fill_reduct-kept.ensures.value)))))

pub slice_bounds-search_sorted-end : goal.slice_bounds-search_sorted-end
slice_bounds-search_sorted-end c = kept_care_length (reduct_ready _ _ _ _ _ _ (header _ _ _ c.requires.store_of c.requires.words_bound c.requires.words_value refl refl) (c.fill_reduct-kept.ensures.marks_after, (c.fill_reduct-kept.ensures.care_after, (c.fill_reduct-kept.ensures.want_after, c.fill_reduct-kept.ensures.value))))

pub slice_bounds-want-end-2 : goal.slice_bounds-want-end-2
slice_bounds-want-end-2 c = taken_fits _ _ (kept_want_length (reduct_ready _ _ _ _ _ _ (header _ _ _ c.requires.store_of c.requires.words_bound c.requires.words_value refl refl) (c.fill_reduct-kept.ensures.marks_after, (c.fill_reduct-kept.ensures.care_after, (c.fill_reduct-kept.ensures.want_after, c.fill_reduct-kept.ensures.value)))))

pub slice_bounds-search_sorted-end-2 : goal.slice_bounds-search_sorted-end-2
slice_bounds-search_sorted-end-2 c = kept_want_length (reduct_ready _ _ _ _ _ _ (header _ _ _ c.requires.store_of c.requires.words_bound c.requires.words_value refl refl) (c.fill_reduct-kept.ensures.marks_after, (c.fill_reduct-kept.ensures.care_after, (c.fill_reduct-kept.ensures.want_after, c.fill_reduct-kept.ensures.value))))

pub search_sorted-verdict-requires : goal.search_sorted-verdict-requires
search_sorted-verdict-requires c =
    record {
      want_len = kept_same (reduct_ready _ _ _ _ _ _ (header _ _ _ c.requires.store_of c.requires.words_bound c.requires.words_value refl refl) (c.fill_reduct-kept.ensures.marks_after, (c.fill_reduct-kept.ensures.care_after, (c.fill_reduct-kept.ensures.want_after, c.fill_reduct-kept.ensures.value))));
      care_len_bound = kept_fit (reduct_ready _ _ _ _ _ _ (header _ _ _ c.requires.store_of c.requires.words_bound c.requires.words_value refl refl) (c.fill_reduct-kept.ensures.marks_after, (c.fill_reduct-kept.ensures.care_after, (c.fill_reduct-kept.ensures.want_after, c.fill_reduct-kept.ensures.value))));
      all = kept_small (reduct_ready _ _ _ _ _ _ (header _ _ _ c.requires.store_of c.requires.words_bound c.requires.words_value refl refl) (c.fill_reduct-kept.ensures.marks_after, (c.fill_reduct-kept.ensures.care_after, (c.fill_reduct-kept.ensures.want_after, c.fill_reduct-kept.ensures.value))));
      atoms_le_walk_atoms = plain_few _ _ _ (header _ _ _ c.requires.store_of c.requires.words_bound c.requires.words_value refl refl);
      budget_le_budget_limit = c.requires.budget_le_budget_limit;
    }

pub verdict_at-requires : goal.verdict_at-requires
verdict_at-requires c = plain_few _ _ _ (header _ _ _ c.requires.store_of c.requires.words_bound c.requires.words_value refl refl)

pub returns : goal.returns
returns c = walk_ready (reduct_ready _ _ _ _ _ _ (header _ _ _ c.requires.store_of c.requires.words_bound c.requires.words_value refl refl) (c.fill_reduct-kept.ensures.marks_after, (c.fill_reduct-kept.ensures.care_after, (c.fill_reduct-kept.ensures.want_after, c.fill_reduct-kept.ensures.value)))) _ c.turned-place.ensures _ c.first_broken-broken.ensures _ _ _ c.requires.set_bound c.if-broken-kept.false c.search_sorted-verdict.ensures c.verdict_at.ensures
