-- `store::fill_size` meets its contract. The loop's invariant: the counts of the subsets before the present run are stored.
use Prim.Native.Nat.{◌+◌, ◌-◌, ◌≤◌, ◌<◌}
use mathlib.Core.Path.{◌≡◌, sym, subst, ◌∙◌}
use mathlib.Core.Bool.{true}
use native.Mathlib.Omega.{arith}
use lib.ListN.{length, get_or, take, length-set}
use lib.Seq.{length-take-le}
use borrow.Rule.Slice.PartMut.{mid_of, put_mid}
use Rattle.counting.specs.Stretch.{span, stretch_bit}
use Rattle.subsets.specs.Subsets.{Subset, Next, Last}
use Rattle.subsets.specs.Choose.{choose}
use Rattle.subsets.specs.Rank.{rank_of}
use Rattle.subsets.proofs.Carrying.{snoc}
use Rattle.layers.specs.Store.{size_to}
use Rattle.layers.proofs.Sizing.{size_step}
use Rattle.layers.proofs.Filling.{Written, last_set, next_apart, last_below, begins, run_last, in_store, part_size, run_written, next_run, all_written, run_falls, holds_width, rows_leading}
use borrow.Author.Rules.{rules}
use Rattle.layers.proofs.store.fill_size.Goals.{After-multi_eval, After-successor, At-loop-stretch, Start}
use Rattle.layers.proofs.store.fill_size.Goals as goal

-- ---- the places: the entry, the loop's head, the counts written, the step made

-- the width's counts have room
room : (s : Start) → let a = s.args in a.start + choose a.stretch.block_size a.d ≤ length a.store.now
room s =
    let a = s.args in
    omega (arith, size_step a.stretch.block_size a.d s.requires.le_d.0, s.requires.start_value, s.requires.d_in_bounds)

-- the last bit is in the block
inside : (l : At-loop-stretch) → get_or l.loop-stretch.bits (l.args.d - 1) 0 < l.args.stretch.block_size
inside l =
    let a = l.args in
    last_below a.stretch.block_size a.d (take (a.d - 1) l.loop-stretch.bits) (get_or l.loop-stretch.bits (a.d - 1) 0) l.requires.le_d.0 l.loop-stretch.invariant.1.current

-- the run's place is in the store
place : (l : At-loop-stretch) → let a = l.args in l.loop-stretch.at + (a.stretch.block_size - get_or l.loop-stretch.bits (a.d - 1) 0) ≤ length l.loop-stretch.store
place l = in_store l.requires.le_d.0 (room (goal.at.slice_bounds-bits-end l).Start) l.loop-stretch.invariant.1 (inside l)

-- the bits are in their array
array : (l : At-loop-stretch) → l.args.d ≤ length l.loop-stretch.bits
array l = omega (arith, l.loop-stretch.invariant.0, l.requires.le_d)

-- what the store holds once the run's counts are in it
done : (c : After-multi_eval)
    → let a = c.args in
    let B = a.stretch.block_size in
    let p = take (a.d - 1) c.loop-stretch.bits in
    let x = get_or c.loop-stretch.bits (a.d - 1) 0 in
    Written (stretch_bit a.stretch a.words.now) (span a.stretch) B a.d a.start a.store.now (rank_of B (snoc p x) + (B - x))
    (put_mid c.loop-stretch.at (c.loop-stretch.at + (B - x) - c.loop-stretch.at) c.loop-stretch.store c.multi_eval.new.counts)
done c =
    run_written c.requires.le_d.0 (let room' : let a = c.args in a.start + choose a.stretch.block_size a.d ≤ length a.store.now = let a = c.args in
    omega (arith, size_step a.stretch.block_size a.d c.requires.le_d.0, c.requires.start_value, c.requires.d_in_bounds) in room') c.loop-stretch.invariant.1 (let inside' : get_or c.loop-stretch.bits (c.args.d - 1) 0 < c.args.stretch.block_size = let a = c.args in
    last_below a.stretch.block_size a.d (take (a.d - 1) c.loop-stretch.bits) (get_or c.loop-stretch.bits (a.d - 1) 0) c.requires.le_d.0 c.loop-stretch.invariant.1.current in inside') c.multi_eval.new.counts c.multi_eval.auto.counts c.multi_eval.ensures

new_size : (c : After-successor) → length c.successor.new.bits ≡ 20
new_size c =
    let a = c.args in
    c.successor.auto.bits ∙ length-set c.loop-stretch.bits (a.d - 1) (a.stretch.block_size - 1) ∙ c.loop-stretch.invariant.0

-- the step from the run's last subset
stepped : (c : After-successor)
    → let a = c.args in
    let B = a.stretch.block_size in
    c.successor.result ≡ true → Next B a.d (snoc (take (a.d - 1) c.loop-stretch.bits) (B - 1)) (snoc (take (a.d - 1) c.successor.new.bits) (get_or c.successor.new.bits (a.d - 1) 0))
stepped c e =
    let a = c.args in
    next_apart a.stretch.block_size a.d (a.stretch.block_size - 1) c.loop-stretch.bits c.successor.new.bits c.requires.le_d.0 (let array' : c.args.d ≤ length c.loop-stretch.bits = omega (arith, c.loop-stretch.invariant.0, c.requires.le_d) in array') (omega (arith, c.requires.le_d, new_size c)) (c.successor.ensures.next e)

pub loop-stretch-init : goal.loop-stretch-init
loop-stretch-init c =
    let a = c.args in
    let all : length c.first-bits.result ≡ 20 = search rules in (
      all,
      begins (stretch_bit a.stretch a.words.now) (span a.stretch) a.stretch.block_size a.d a.start a.store.now c.first-bits.result c.requires.le_d.0 c.requires.le_d.2 c.first-bits.ensures (omega (arith, all, c.requires.le_d)),
    )

pub overflow_cast-last : goal.overflow_cast-last
overflow_cast-last c = omega (
  arith,
  (let inside' : get_or c.loop-stretch.bits (c.args.d - 1) 0 < c.args.stretch.block_size = let a = c.args in
      last_below a.stretch.block_size a.d (take (a.d - 1) c.loop-stretch.bits) (get_or c.loop-stretch.bits (a.d - 1) 0) c.requires.le_d.0 c.loop-stretch.invariant.1.current in inside'),
  c.requires.le_d,
)

pub overflow_sub-end : goal.overflow_sub-end
overflow_sub-end c = omega (
  arith,
  (let inside' : get_or c.loop-stretch.bits (c.args.d - 1) 0 < c.args.stretch.block_size = let a = c.args in
      last_below a.stretch.block_size a.d (take (a.d - 1) c.loop-stretch.bits) (get_or c.loop-stretch.bits (a.d - 1) 0) c.requires.le_d.0 c.loop-stretch.invariant.1.current in inside'),
)

pub overflow_add-end : goal.overflow_add-end
overflow_add-end c = omega (
  arith,
  (let place' : let a = c.args in c.loop-stretch.at + (a.stretch.block_size - get_or c.loop-stretch.bits (a.d - 1) 0) ≤ length c.loop-stretch.store = in_store c.requires.le_d.0 (let room' : let a = c.args in a.start + choose a.stretch.block_size a.d ≤ length a.store.now = let a = c.args in
      omega (arith, size_step a.stretch.block_size a.d c.requires.le_d.0, c.requires.start_value, c.requires.d_in_bounds) in room') c.loop-stretch.invariant.1 (let inside' : get_or c.loop-stretch.bits (c.args.d - 1) 0 < c.args.stretch.block_size = let a = c.args in
      last_below a.stretch.block_size a.d (take (a.d - 1) c.loop-stretch.bits) (get_or c.loop-stretch.bits (a.d - 1) 0) c.requires.le_d.0 c.loop-stretch.invariant.1.current in inside') in place'),
  c.loop-stretch.invariant.1.written.size,
  c.well_formed,
)

pub slice_bounds-bits-end : goal.slice_bounds-bits-end
slice_bounds-bits-end c = omega (arith, c.requires.le_d, c.loop-stretch.invariant.0)

pub offset_bounds-store-at : goal.offset_bounds-store-at
offset_bounds-store-at c = omega (arith, place (goal.at.offset_bounds-store-at c).At-loop-stretch, c.loop-stretch.invariant.1.written.size, c.well_formed)

pub slice_bounds-multi_eval-end : goal.slice_bounds-multi_eval-end
slice_bounds-multi_eval-end c = omega (arith, place (goal.at.slice_bounds-multi_eval-end c).At-loop-stretch)

pub multi_eval-requires : goal.multi_eval-requires
multi_eval-requires c =
    let a = c.args in
    let B = a.stretch.block_size in
    let p = take (a.d - 1) c.loop-stretch.bits in
    let x = get_or c.loop-stretch.bits (a.d - 1) 0 in
    let size : length p ≡ a.d - 1 = length-take-le (a.d - 1) c.loop-stretch.bits (omega (arith, array (goal.at.multi_eval-requires c).At-loop-stretch)) in
    let all : x + length (mid_of c.loop-stretch.at (c.loop-stretch.at + (B - x) - c.loop-stretch.at) c.loop-stretch.store) ≡ B = omega (arith, inside (goal.at.multi_eval-requires c).At-loop-stretch, part_size c.requires.le_d.0 (room (goal.at.multi_eval-requires c).Start) c.loop-stretch.invariant.1 (inside (goal.at.multi_eval-requires c).At-loop-stretch)) in record {
      bits_len_bound = omega (arith, size, c.requires.le_d);
      rows_in = rows_leading B a.d a.stretch.stride a.words.now p x c.loop-stretch.invariant.1.current c.requires.stretch_in.0;
      within = c.requires.stretch_in.1;
      counts_bound = (omega (arith, all, c.requires.le_d), rw all c.requires.stretch_in.0);
    }

pub successor-requires : goal.successor-requires
successor-requires c =
    let a = c.args in
    let B = a.stretch.block_size in
    (c.requires.le_d.3, subst (Subset B a.d) (sym (last_set a.d (B - 1) c.loop-stretch.bits c.requires.le_d.0 (array (goal.at.successor-requires c).At-loop-stretch))) (run_last c.requires.le_d.0 (room (goal.at.successor-requires c).Start) c.loop-stretch.invariant.1 (inside (goal.at.successor-requires c).At-loop-stretch)).0)

pub returns-then-not-successor : goal.returns-then-not-successor
returns-then-not-successor c =
    let a = c.args in
    let B = a.stretch.block_size in
    let none = subst (Last B a.d) (last_set a.d (B - 1) c.loop-stretch.bits c.requires.le_d.0 (array (goal.at.returns-then-not-successor c).At-loop-stretch)) (c.successor.ensures.last c.if-not-successor.true) in
    let w = all_written c.requires.le_d.0 (room (goal.at.returns-then-not-successor c).Start) c.loop-stretch.invariant.1 (inside (goal.at.returns-then-not-successor c).At-loop-stretch) _ (done (goal.at.returns-then-not-successor c).After-multi_eval) none in
    let size : a.start + choose B a.d ≡ size_to B a.d = omega (arith, size_step B a.d c.requires.le_d.0, c.requires.start_value) in record {
      value = w.0 ∙ size;
      holds_to_2 = holds_width (stretch_bit a.stretch a.words.now) (span a.stretch) B a.d a.start a.store.now _ c.requires.le_d.0 c.requires.start_value (room (goal.at.returns-then-not-successor c).Start) c.requires.holds_to w.1;
      store_unchanged = rw (← size) w.1.rest;
    }

pub loop-stretch-smaller : goal.loop-stretch-smaller
loop-stretch-smaller c =
    let q = take (c.args.d - 1) c.successor.new.bits in
    let y = get_or c.successor.new.bits (c.args.d - 1) 0 in
    run_falls c.requires.le_d.0 (room (goal.at.loop-stretch-smaller c).Start) c.loop-stretch.invariant.1 (inside (goal.at.loop-stretch-smaller c).At-loop-stretch) q y (stepped (goal.at.loop-stretch-smaller c).After-successor c.if-not-successor.false)

pub loop-stretch-preserved : goal.loop-stretch-preserved
loop-stretch-preserved c = (
  new_size (goal.at.loop-stretch-preserved c).After-successor,
  next_run c.requires.le_d.0 (room (goal.at.loop-stretch-preserved c).Start) c.loop-stretch.invariant.1 (inside (goal.at.loop-stretch-preserved c).At-loop-stretch) _ (done (goal.at.loop-stretch-preserved c).After-multi_eval) _ _ (stepped (goal.at.loop-stretch-preserved c).After-successor c.if-not-successor.false),
)
