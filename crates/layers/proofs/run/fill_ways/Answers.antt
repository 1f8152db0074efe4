-- `run::fill_ways` meets its contract. The loop's invariant: the ways above the first i bits stand.
use Prim.Native.Nat.{◌+◌, ◌-◌, ◌≤◌, min}
use mathlib.Core.Path.{◌≡◌, refl, ◌∙◌}
use native.Mathlib.Omega.{arith}
use lib.ListN.{length, get_or}
use Rattle.layers.specs.Store.{widest}
use Rattle.layers.proofs.Running.{ways_none, ways_more, ways_all, ways_fit, bit_room}
use Rattle.layers.proofs.run.fill_ways.Goals.{In-loop-i}
use Rattle.layers.proofs.run.fill_ways.Goals as goal

-- the bit of a turn, and how many bits are above it
room : (d : In-loop-i) → let a = d.args in get_or a.bits.now d.loop-i.i 0 + length a.bits.now ≤ a.block_size + d.loop-i.i
room d = bit_room d.args.block_size d.args.bits.now d.requires.subset d.loop-i.i d.loop-i-test.true

pub loop-i-init : goal.loop-i-init
loop-i-init c =
    (refl, ways_none c.args.block_size (length c.args.bits.now) c.args.bits.now c.args.run.now c.requires.tops)

pub overflow_sub-above : goal.overflow_sub-above
overflow_sub-above c = omega (arith, room c, c.loop-i-test.true)

pub overflow_sub-above-in-loop-i : goal.overflow_sub-above-in-loop-i
overflow_sub-above-in-loop-i c = omega (arith, room (goal.at.overflow_sub-above-in-loop-i c).In-loop-i, c.loop-i-test.true)

pub fill_row-requires : goal.fill_row-requires
fill_row-requires c =
    let a = c.args in
    let here : c.min.result ≡ min (length a.bits.now - c.loop-i.i) (widest (length a.bits.now)) = omega (arith, c.min.ensures, c.widest-most.ensures) in record {
      m_bound = (
        omega (arith, c.requires.in_bounds),
        omega (arith, here, room (goal.at.fill_row-requires c).In-loop-i, c.loop-i-test.true),
        omega (arith, here, c.loop-i-test.true, c.requires.in_bounds, c.loop-i.invariant.1.tops.room),
      );
      by_index = λ r h. ways_fit a.block_size a.bits.now c.requires.subset c.requires.bits_bound c.loop-i.i r c.loop-i-test.true (omega (arith, here));
    }

pub loop-i-preserved : goal.loop-i-preserved
loop-i-preserved c =
    let a = c.args in
    let k = length a.bits.now in
    let row = c.fill_row in (
      row.auto.run ∙ c.loop-i.invariant.0,
      ways_more a.block_size k a.bits.now c.loop-i.i c.min.result c.loop-i.run row.new.run refl c.requires.in_bounds.1 c.loop-i-test.true (omega (arith, c.min.ensures, c.widest-most.ensures))
          (record { size = row.auto.run; filled = row.ensures.by_index_2; spared = row.ensures.by_index_3 }) c.loop-i.invariant.1,
    )

pub returns : goal.returns
returns c =
    let a = c.args in
    ways_all a.block_size (length a.bits.now) c.loop-i.i a.bits.now c.loop-i.run (omega (arith, c.loop-i-test.false)) c.loop-i.invariant.1
