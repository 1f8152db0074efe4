-- `rows::multi_eval` meets its contract: the blocks of the chunks passed are counted.
use Prim.Native.Nat.{ℕ, ◌+◌, ◌-◌, ◌*◌, ◌^◌, ◌<◌}
use mathlib.Core.Path.{◌≡◌, refl, sym, ap, ap₂, ◌∙◌}
use mathlib.Core.List.{List, [], ◌∷◌, ◌++◌}
use lib.ListN.{length, get_or, get_or-replicate}
use Rattle.counting.specs.Sample.{count_in, all_set}
use Rattle.counting.specs.Chunk.{chunk_bit, chunk_blocks}
use Rattle.counting.specs.Stretch.{stretch_bit}
use Rattle.counting.specs.declared.chunk.Chunk.{Chunk}
use Rattle.counting.proofs.Counts.{count_le}
use Rattle.counting.proofs.Stretches.{span_before, chunk_in, chunk_more, chunk_room, span_none, span_all}
use native.Mathlib.Omega.{arith}
use Rattle.counting.proofs.rows.multi_eval.Invariants.{Extended}
use Rattle.counting.proofs.rows.multi_eval.Goals.{At-loop-start, In-loop-start, After-extend}
use Rattle.counting.proofs.rows.multi_eval.Goals as goal

-- there are as many counts as at the start
size : (d : At-loop-start) → length d.loop-start.counts ≡ length d.args.counts.now
size d = d.loop-start.invariant.1 ∙ d.fill.ensures.len

-- a turn begins before the end
below : (d : In-loop-start) → 64 * d.loop-start.start < d.args.stretch.end
below d = omega (arith, d.loop-start-test.true, d.div_ceil-start-end.ensures)

-- and counts a chunk more
more : (d : After-extend) → Extended (stretch_bit d.args.stretch d.args.words.now) (span_before d.args.stretch (d.loop-start.start + 512)) d.args.bits.now d.args.next d.extend.new.counts
more d j h =
    let a = d.args in
    let at = d.loop-start in
    let all = a.bits.now ++ ((a.next + j) ∷ []) in
    let inside : j < length at.counts = omega (arith, d.extend.auto.counts) in
    d.extend.ensures j inside
    ∙ ap₂ (λ (y : ℕ) (q : Chunk). y + all_set (chunk_bit q a.words.now) (chunk_blocks q) all) (at.invariant.2 j inside) d.chunk_at.ensures
    ∙ sym (chunk_more a.stretch d.requires.within at.start at.invariant.0 (omega (arith, d.loop-start-test.true, d.div_ceil-start-end.ensures)) a.words.now all _)

pub loop-start-init : goal.loop-start-init
unfolding count_in
loop-start-init c =
    let cleared = c.fill in
    let a = c.args in
    let none = span_none a.stretch in
    (omega arith, refl, rw none (λ j h. ap (λ (l : List ℕ). get_or l j 0) (cleared.ensures.after (λ y e. e)) ∙ get_or-replicate (length a.counts.now) j 0 0 (omega (arith, cleared.ensures.len))))

pub chunk_at-requires : goal.chunk_at-requires
chunk_at-requires c = (c.requires.within, omega (arith, below (goal.at.chunk_at-requires c).In-loop-start))

pub extend-requires : goal.extend-requires
extend-requires c =
    let a = c.args in
    let x = a.stretch in
    let at = c.loop-start in
    let is = c.chunk_at.ensures in
    let before = below (goal.at.extend-requires c).In-loop-start in
    let e : length at.counts ≡ length a.counts.now = size (goal.at.extend-requires c).At-loop-start in
    rw is (record {
      rows_in = c.requires.rows_in;
      chunk_in = chunk_in x c.requires.within at.start at.invariant.0 before;
      counts_bound = rw e c.requires.counts_bound;
      count_room = chunk_room x c.requires.within at.start at.invariant.0 before at.counts
          (λ j h. let all = a.bits.now ++ ((a.next + j) ∷ []) in omega (arith, at.invariant.2 j h, count_le (stretch_bit x a.words.now) (span_before x at.start) all (2 ^ length all - 1)));
    })

pub loop-start-preserved : goal.loop-start-preserved
loop-start-preserved c = (omega arith, c.extend.auto.counts ∙ c.loop-start.invariant.1, more (goal.at.loop-start-preserved c).After-extend)

pub shape_of-counts : goal.shape_of-counts
shape_of-counts c = size (goal.at.shape_of-counts c).At-loop-start

pub returns : goal.returns
returns c =
    let a = c.args in
    let x = a.stretch in
    λ j h.
    c.loop-start.invariant.2 j (omega (arith, size (goal.at.returns c).At-loop-start))
    ∙ ap (λ (m : ℕ). all_set (stretch_bit x a.words.now) m (a.bits.now ++ ((a.next + j) ∷ []))) (span_all x c.loop-start.start (omega (arith, c.loop-start-test.false, c.div_ceil-start-end.ensures)))

pub returns-2 : goal.returns-2
returns-2 c =
    let a = c.args in
    let x = a.stretch in
    λ j h.
    more (goal.at.returns-2 c).After-extend j (omega (arith, c.extend.auto.counts, size (goal.at.returns-2 c).At-loop-start))
    ∙ ap (λ (m : ℕ). all_set (stretch_bit x a.words.now) m (a.bits.now ++ ((a.next + j) ∷ []))) (span_all x (c.loop-start.start + 512) (omega (arith, c.div_ceil-start-end.ensures)))
