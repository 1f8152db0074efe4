-- `rows::and_rows` meets its contract: the marks of the blocks that have the bits passed set.
use Prim.Native.Nat.{ℕ, ◌+◌, ◌*◌, ◌/◌, ◌<◌}
use mathlib.Core.List.{List}
use mathlib.Core.Path.{◌≡◌, refl, subst, ap₂, ◌∙◌}
use lib.Bits.{bit_and}
use lib.ListN.{get_or, take}
use lib.Seq.{take_all}
use Rattle.counting.specs.Sample.{onward}
use Rattle.counting.specs.Tally.{lane_of, word_at}
use Rattle.counting.specs.Words.{stored_bit}
use Rattle.counting.specs.Rows.{Marks}
use Rattle.counting.specs.Chunk.{row_part}
use Rattle.counting.proofs.Marks.{stored_lt, and_lane, marks_none, marks_two}
use native.Mathlib.Omega.{arith}
use borrow.Author.Rules.{rules}
use Rattle.counting.proofs.rows.and_rows.Goals.{After-with_next-j, After-and_two}
use Rattle.counting.proofs.rows.and_rows.Goals as goal

-- a turn ANDs both
more : (d : After-and_two)
    → Marks (lane_of (word_at d.args.acc.now)) d.and_two.new.acc (onward (64 * d.args.chunk.start) (stored_bit d.args.chunk.stride d.args.words.now)) (take (d.loop-i.i + 2) d.args.bits.now) d.args.chunk.lanes
more d =
    let at = d.loop-i in
    let a = d.args in
    let acc' = d.and_two.new.acc in
    let j = d.with_next-j.result in
    let m = (a.chunk.lanes + 63) / 64 in
    let b = get_or a.bits.now at.i 0 in
    let b' = get_or a.bits.now j 0 in
    let half : ℕ → ℕ = λ (t : ℕ). bit_and (get_or at.acc t 0) (get_or (row_part a.chunk a.words.now b) t 0) in
    let step : (t : ℕ) → t < m → get_or acc' t 0 ≡ bit_and (half t) (get_or (row_part a.chunk a.words.now b') t 0) =
    λ t h. d.and_two.ensures t (omega (arith, d.row_part-row.ensures.len))
    ∙ ap₂ (λ (row : List ℕ) (other : List ℕ). bit_and (bit_and (get_or at.acc t 0) (get_or row t 0)) (get_or other t 0)) d.row_part-row.ensures.value d.row_part-other.ensures.value in
    marks_two (lane_of (word_at a.acc.now)) at.acc acc' (onward (64 * a.chunk.start) (stored_bit a.chunk.stride a.words.now)) (λ e. stored_lt a.chunk.stride a.words.now (64 * a.chunk.start + e)) a.bits.now a.chunk.lanes
    at.i j d.loop-i-test.true d.with_next-j.ensures
    (λ e h.
    omega (
      arith,
      and_lane a.words.now a.chunk.stride a.chunk.start b (b * a.chunk.stride + a.chunk.start) m refl (word_at at.acc) half e (omega arith) refl,
      and_lane a.words.now a.chunk.stride a.chunk.start b' (b' * a.chunk.stride + a.chunk.start) m refl half (word_at acc') e (omega arith) (step (e / 64) (omega arith)),
    ))
    at.invariant.1

pub loop-i-init : goal.loop-i-init
loop-i-init c =
    let a = c.args in
    (search rules, marks_none a.acc.now (onward (64 * a.chunk.start) (stored_bit a.chunk.stride a.words.now)) a.chunk.lanes)

pub loop-i-preserved : goal.loop-i-preserved
loop-i-preserved c = (c.and_two.auto.acc ∙ c.loop-i.invariant.0, more (goal.at.loop-i-preserved c).After-and_two)

pub returns-2 : goal.returns-2
returns-2 c =
    let a = c.args in
    let e : take (c.loop-i.i + 2) a.bits.now ≡ a.bits.now = take_all (c.loop-i.i + 2) a.bits.now (omega arith) in
    subst (λ bits. Marks (lane_of (word_at a.acc.now)) c.and_two.new.acc (onward (64 * a.chunk.start) (stored_bit a.chunk.stride a.words.now)) bits a.chunk.lanes) e (more (goal.at.returns-2 c).After-and_two)
