-- `rows::add_few` meets its contract.
use mathlib.Core.Path.{◌≡◌, refl, ap, subst, ◌∙◌}
use mathlib.Core.List.{List}
use Prim.Native.Nat.{ℕ, ◌^◌}
use lib.ListN.{length, get_or}
use Rattle.counting.specs.Tally.{word_at, word_with}
use Rattle.counting.specs.Rows.{Parted}
use Rattle.counting.specs.Chunk.{row_part}
use Rattle.counting.proofs.Halves.{two_bins, four_bins}
use native.Mathlib.Omega.{arith}
use Rattle.counting.proofs.rows.add_few.Goals.{Start}
use Rattle.counting.proofs.rows.add_few.Goals as goal

power : (s : Start) (k : ℕ) → length s.args.bits.now ≡ k → length s.args.bins.now ≡ 2 ^ k
power s k e = s.requires.in_bounds.2 ∙ ap (λ (j : ℕ). 2 ^ j) e

pub returns-then-bits-eq1 : goal.returns-then-bits-eq1
returns-then-bits-eq1 c =
    let a = c.args in
    let one : length a.bits.now ≡ 1 = c.if-bits-eq1.true in
    let bins' = c.add_two.new.bins in
    two_bins a.words.now a.chunk.now.stride a.chunk.now.start a.chunk.now.lanes a.bits.now 0 _ one refl (word_at a.acc.now) a.bins.now bins' refl (power (goal.at.returns-then-bits-eq1 c).Start 1 one)
    (subst (λ (row : List ℕ). Parted (word_at a.acc.now) row a.chunk.now.lanes 0 a.bins.now bins') c.row_part-low.ensures.value c.add_two.ensures)

pub returns : goal.returns
returns c =
    let more = c.if-bits-eq1.false in
    let a = c.args in
    let bins' = c.add_four.new.bins in
    let k : length a.bits.now ≡ 2 = omega (arith, c.requires.in_bounds) in
    let high = c.row_part-high in
    let low = c.row_part-low in
    let both : (flip at : ℕ) → Parted (word_with (word_at a.acc.now) high.result.now flip) low.result.now a.chunk.now.lanes at a.bins.now bins'
    → Parted (word_with (word_at a.acc.now) (row_part a.chunk.now a.words.now (get_or a.bits.now 1 0)) flip) (row_part a.chunk.now a.words.now (get_or a.bits.now 0 0)) a.chunk.now.lanes at a.bins.now bins' =
    λ flip at p. subst (λ (row : List ℕ). Parted (word_with (word_at a.acc.now) row flip) (row_part a.chunk.now a.words.now (get_or a.bits.now 0 0)) a.chunk.now.lanes at a.bins.now bins') high.ensures.value
    (subst (λ (row : List ℕ). Parted (word_with (word_at a.acc.now) high.result.now flip) row a.chunk.now.lanes at a.bins.now bins') low.ensures.value p) in
    four_bins a.words.now a.chunk.now.stride a.chunk.now.start a.chunk.now.lanes a.bits.now _ _ k refl refl (omega (arith, c.requires.rows_in 1 (omega arith), c.requires.lanes_in)) (word_at a.acc.now) a.bins.now bins' (power (goal.at.returns c).Start 2 k)
    (both 18446744073709551615 0 c.add_four.ensures.parted) (both 0 2 c.add_four.ensures.parted_2)
