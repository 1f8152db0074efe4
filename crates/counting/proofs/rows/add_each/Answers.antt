-- `rows::add_each` meets its contract: the counts passed have grown.
use Prim.Native.Nat.{ℕ, ◌+◌, ◌*◌, ◌/◌}
use mathlib.Core.Path.{refl, ap}
use mathlib.Core.List.{List, [], ◌∷◌}
use native.Mathlib.Nat.{le_refl}
use lib.Dec.{lit<}
use lib.ListN.{get_or, length-set}
use Rattle.counting.specs.Sample.{onward, sum_to}
use Rattle.counting.specs.Chunk.{row_part}
use Rattle.counting.specs.Tally.{lane_of, word_at, word_with}
use Rattle.counting.specs.Words.{stored_bit}
use Rattle.counting.specs.Rows.{marked_in}
use Rattle.counting.proofs.Marks.{with_row, marked_one, stored_more}
use native.Mathlib.Omega.{arith}
use Rattle.counting.proofs.rows.add_each.Goals as goal

pub loop-j-preserved : goal.loop-j-preserved
loop-j-preserved c =
    let at = c.loop-j in
    let a = c.args in
    let b = a.next + at.j in
    let base = b * a.chunk.stride + a.chunk.start in
    let m = (a.chunk.lanes + 63) / 64 in
    let bit = onward (64 * a.chunk.start) (stored_bit a.chunk.stride a.words.now) in
    let lane = lane_of (word_at a.acc.now) in
    let lane' = lane_of (word_with (word_at a.acc.now) (row_part a.chunk a.words.now b) 0) in
    let counted = ap (λ (row : List ℕ). sum_to (lane_of (word_with (word_at a.acc.now) row 0)) a.chunk.lanes) c.row_part-row.ensures.value in (
      simp length-set at.invariant.0,
      stored_more (λ u. get_or a.counts.now u 0 + marked_in lane bit ((a.next + u) ∷ []) a.chunk.lanes 1) a.counts.now at.j at.counts _ (omega arith)
          (omega (
            arith,
            at.invariant.1.1 at.j (le_refl at.j),
            c.count_with.ensures.0,
            counted,
            marked_one lane lane' bit b a.chunk.lanes 1
                (λ e h. with_row a.words.now a.chunk.stride a.chunk.start b base m refl (word_at a.acc.now) 0 1 e (omega arith) (lit< tt) refl),
          ))
          at.invariant.1,
    )
