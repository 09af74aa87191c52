use Rattle.std.proofs.Common.{◌≡◌, ℕ, ◌+◌, ◌-◌, ◌≤◌, List, ◌++◌, rules, length, take, drop, sym, ap, ◌∙◌, subst, le_refl, drop_at, length-take-le}
use Rattle.std.proofs.Math.Seq.{take-add}
use Rattle.std.proofs.lemmas.List.{take-append-le}
use Rattle.std.proofs.lemmas.Slice.{take-put_mid_below}
use Rattle.std.proofs.KnownBytes.{Consumes-trans}
use Rattle.std.specs.Io.KnownBytes.{Consumes}
use borrow.Rule.Slice.PartMut.{put_mid, post_of}
use Rattle.programs.proofs.reading.read_full.Goals as goal

-- what was read stands behind what stood there
longer : (size room count : ℕ) (old new : List ℕ) → size ≤ length old → count ≤ length new → take (size + count) (put_mid size room old new) ≡ take size old ++ take count new
longer size room count old new within fits =
    let text = put_mid size room old new in
    let rest = post_of size room old in
    take-add size count text ∙ ap (λ l. l ++ take count (drop size text)) (take-put_mid_below _ _ _ _ _ (le_refl _) within)
    ∙ ap (λ l. take size old ++ take count l) (drop_at (take size old) (new ++ rest) size (length-take-le size old within))
    ∙ ap (λ l. take size old ++ l) (take-append-le count new rest fits)

pub loop-size-preserved : goal.loop-size-preserved
loop-size-preserved g c =
    let room = length c.loop-size.text - c.loop-size.size in
    let before = c.loop-size.invariant in
    let all = longer c.loop-size.size room c.in_ok-count.count c.loop-size.text c.read.new.buf before.0 c.in_ok-count.ensures.bound.0 in
    (search rules, subst (Consumes _ _) (sym all) (Consumes-trans _ _ _ _ _ before.1 c.in_ok-count.ensures.bytes.0))
