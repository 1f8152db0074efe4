-- `rows::extend_with` meets its contract: the blocks of the chunk are counted too.
use Prim.Native.Nat.{ℕ, ◌+◌, ◌-◌, ◌*◌, ◌^◌}
use mathlib.Core.Path.{ap, ◌∙◌}
use mathlib.Core.List.{[], ◌∷◌, ◌++◌}
use lib.ListN.{length, get_or}
use Rattle.counting.specs.Sample.{onward}
use Rattle.counting.specs.Tally.{lane_of, word_at}
use Rattle.counting.specs.Words.{stored_bit}
use Rattle.counting.proofs.Marks.{stored_lt, marked_all}
use Rattle.counting.proofs.Stretches.{marked_from}
use native.Mathlib.Omega.{arith}
use Rattle.counting.proofs.rows.extend_with.Goals as goal

pub returns : goal.returns
returns c =
    let added = c.add_each in
    let left = c.and_rows in
    let marks = c.unmark in
    let a = c.args in
    let x = a.chunk in
    let bit = stored_bit x.stride a.words.now in
    let base = 64 * x.start in
    let lane = lane_of (word_at marks.new.acc) in
    λ j h.
    let all = a.bits.now ++ ((a.next + j) ∷ []) in
    added.ensures j (omega (arith, added.auto.counts))
    ∙ ap (λ (y : ℕ). get_or a.counts.now j 0 + y)
    (marked_all lane left.new.acc (onward base bit) (λ e. stored_lt x.stride a.words.now (base + e)) a.bits.now (a.next + j) x.lanes left.ensures
    ∙ marked_from lane bit base x.skip x.lanes all (2 ^ length all - 1) (omega (arith, c.requires.chunk_in)) (λ e l. marks.ensures e (omega (arith, c.requires.mark_room.0, marks.auto.acc))))
