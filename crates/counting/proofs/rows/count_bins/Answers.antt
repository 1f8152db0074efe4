-- `rows::count_bins` meets its contract: the blocks of the chunks passed are counted.
use Prim.Native.Nat.{ℕ, ◌+◌, ◌-◌, ◌*◌, ◌/◌, ◌%◌, ◌<◌}
use mathlib.Core.Path.{◌≡◌, refl, sym, ap, ap₂, ◌∙◌}
use mathlib.Core.List.{List}
use lib.ListN.{length, get_or, get_or-replicate, length-set}
use Rattle.counting.specs.Sample.{onward, count_in}
use Rattle.counting.specs.Chunk.{chunk_at}
use Rattle.counting.specs.Stretch.{stretch_bit}
use Rattle.counting.specs.Tally.{lane_of, word_at}
use Rattle.counting.specs.Words.{stored_bit}
use Rattle.counting.specs.Rows.{marked_in}
use Rattle.counting.specs.declared.chunk.Chunk.{Chunk}
use Rattle.counting.proofs.Counts.{count_le, counts_are}
use Rattle.counting.proofs.Stretches.{span_before, marked_again, marked_from, chunk_in, chunk_more, chunk_room, span_none, span_all}
use native.Mathlib.Omega.{arith}
use Rattle.counting.proofs.rows.count_bins.Goals.{At-loop-start, In-loop-start, After-add_bins}
use Rattle.counting.proofs.rows.count_bins.Goals as goal

-- there are as many bins as at the start
size : (d : At-loop-start) → length d.loop-start.bins ≡ length d.args.bins.now
size d = d.loop-start.invariant.2 ∙ d.fill.ensures.len

-- and as many marks
marks_size : (d : At-loop-start) → length d.loop-start.acc ≡ length d.args.acc.now
marks_size d = d.loop-start.invariant.3 ∙ d.unmark.auto.acc

-- a turn begins before the end
below : (d : In-loop-start) → 64 * d.loop-start.start < d.args.stretch.end
below d = omega (arith, d.loop-start-test.true, d.div_ceil-start-end.ensures)

-- and counts a chunk more
more : (d : After-add_bins) → (v : ℕ) → v < length d.add_bins.new.bins
    → get_or d.add_bins.new.bins v 0 ≡ count_in (stretch_bit d.args.stretch d.args.words.now) (span_before d.args.stretch (d.loop-start.start + 512)) d.args.bits.now v
more d v h =
    let call = d.add_bins in
    let at = d.loop-start in
    let a = d.args in
    let x = a.stretch in
    let k = chunk_at x at.start in
    let lane = lane_of (word_at at.acc) in
    let bit = stored_bit x.stride a.words.now in
    let before : 64 * at.start < x.end = omega (arith, d.loop-start-test.true, d.div_ceil-start-end.ensures) in
    let inside = chunk_in x d.requires.within at.start at.invariant.0 before in
    let here : v < length at.bins = omega (arith, call.auto.bins) in
    call.ensures v here
    ∙ ap₂ (λ (y : ℕ) (q : Chunk). y + marked_in lane (onward (64 * q.start) (stored_bit q.stride a.words.now)) a.bits.now q.lanes v) (at.invariant.5 v here) d.chunk_at.ensures
    ∙ ap (λ (y : ℕ). count_in (stretch_bit x a.words.now) (span_before x at.start) a.bits.now v + y)
    (marked_from lane bit (64 * at.start) k.skip k.lanes a.bits.now v inside.1 (λ e l. at.invariant.4 e (omega (arith, at.invariant.3, d.unmark.auto.acc, d.requires.mark_room.0.0, at.invariant.1))))
    ∙ sym (chunk_more x d.requires.within at.start at.invariant.0 before a.words.now a.bits.now v)

pub unmark-requires : goal.unmark-requires
unmark-requires c =
    record { skip_bound = (omega arith, c.requires.mark_room.0.1); marked_from = c.requires.mark_room.1 }

pub loop-start-init : goal.loop-start-init
unfolding count_in
loop-start-init c =
    let cut = c.unmark in
    let cleared = c.fill in
    let a = c.args in
    let x = a.stretch in
    let none = span_none x in
    let skip : x.first - 64 * (x.first / 64) ≡ x.first % 64 = omega arith in (
      omega arith,
      omega arith,
      refl,
      refl,
      rw skip cut.ensures,
      rw none (λ v h. ap (λ (l : List ℕ). get_or l v 0) (cleared.ensures.after (λ y e. e)) ∙ get_or-replicate (length a.bins.now) v 0 0 (omega (arith, cleared.ensures.len))),
    )

pub chunk_at-requires : goal.chunk_at-requires
chunk_at-requires c = (c.requires.within, omega (arith, below (goal.at.chunk_at-requires c).In-loop-start))

pub add_bins-requires : goal.add_bins-requires
add_bins-requires c =
    let a = c.args in
    let x = a.stretch in
    let at = c.loop-start in
    let is = c.chunk_at.ensures in
    let before = below (goal.at.add_bins-requires c).In-loop-start in
    rw is (record {
      in_bounds = (c.requires.in_bounds.0, c.requires.in_bounds.1, size (goal.at.add_bins-requires c).At-loop-start ∙ c.requires.in_bounds.2);
      rows_in = c.requires.rows_in;
      lanes_in = ((chunk_in x c.requires.within at.start at.invariant.0 before).0, omega (arith, marks_size (goal.at.add_bins-requires c).At-loop-start, c.requires.mark_room.0.0, at.invariant.1));
      count_room = chunk_room x c.requires.within at.start at.invariant.0 before at.bins
          (λ v h. omega (arith, at.invariant.5 v h, count_le (stretch_bit x a.words.now) (span_before x at.start) a.bits.now v));
    })

pub bounds-acc-0 : goal.bounds-acc-0
bounds-acc-0 c =
    omega (arith, marks_size (goal.at.bounds-acc-0 c).At-loop-start, c.requires.mark_room.0.1)

pub loop-start-preserved : goal.loop-start-preserved
loop-start-preserved c =
    let at = c.loop-start in
    let x = c.args.stretch in
    let none : x.first - 64 * (at.start + 512) ≡ 0 = omega (arith, at.invariant.0) in (
      omega (arith, at.invariant.0),
      omega (arith, at.invariant.1),
      c.add_bins.auto.bins ∙ at.invariant.2,
      simp length-set at.invariant.3,
      rw none (λ e h. marked_again at.acc (x.first - 64 * at.start) e (omega (arith, marks_size (goal.at.loop-start-preserved c).At-loop-start, c.requires.mark_room.0.1)) (omega (arith, at.invariant.0)) (at.invariant.4 e (simp length-set at h))),
      more (goal.at.loop-start-preserved c).After-add_bins,
    )

pub shape_of-acc : goal.shape_of-acc
shape_of-acc c = marks_size (goal.at.shape_of-acc c).At-loop-start

pub shape_of-bins : goal.shape_of-bins
shape_of-bins c = size (goal.at.shape_of-bins c).At-loop-start

pub returns : goal.returns
returns c =
    let at = c.loop-start in
    let a = c.args in
    let x = a.stretch in
    let all = span_all x at.start (omega (arith, c.loop-start-test.false, c.div_ceil-start-end.ensures)) in
    counts_are (stretch_bit x a.words.now) (x.end - x.first) a.bits.now at.bins (size (goal.at.returns c).At-loop-start ∙ c.requires.in_bounds.2)
    (λ v h. at.invariant.5 v h ∙ ap (λ (m : ℕ). count_in (stretch_bit x a.words.now) m a.bits.now v) all)

pub returns-2 : goal.returns-2
returns-2 c =
    let at = c.loop-start in
    let a = c.args in
    let x = a.stretch in
    let all = span_all x (at.start + 512) (omega (arith, c.div_ceil-start-end.ensures)) in
    counts_are (stretch_bit x a.words.now) (x.end - x.first) a.bits.now c.add_bins.new.bins (c.add_bins.auto.bins ∙ size (goal.at.returns-2 c).At-loop-start ∙ c.requires.in_bounds.2)
    (λ v h. more (goal.at.returns-2 c).After-add_bins v h ∙ ap (λ (m : ℕ). count_in (stretch_bit x a.words.now) m a.bits.now v) all)
