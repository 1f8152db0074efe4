-- `store::fill_store` meets its contract. The loop's invariant: the counts of the subsets of up to d bits stand, and the places of their last ones.
use Prim.Native.Nat.{ℕ, ◌+◌, ◌-◌, ◌≤◌}
use mathlib.Core.Path.{◌≡◌, refl, sym, subst, ◌∙◌}
use native.Mathlib.Omega.{arith}
use lib.ListN.{length-set}
use Rattle.counting.specs.Stretch.{span, stretch_bit}
use Rattle.layers.specs.Store.{size_to, store_size, widest, HoldsTo}
use Rattle.layers.proofs.Sizing.{size_none, size_grows, size_some}
use Rattle.layers.proofs.Filling.{holds_none, tops_next}
use Rattle.layers.proofs.Parting.{past_larger}
use Rattle.layers.proofs.store.fill_store.Goals.{At-loop-d, In-loop-d}
use Rattle.layers.proofs.store.fill_store.Goals as goal

-- ---- the places: the entry, the loop's head, a width filled

-- the widths are no more than the bits of a block, and at most 19
few : (l : At-loop-d) → (l.widest-most.result ≤ 19) × (l.widest-most.result ≤ l.args.stretch.block_size)
few l = (omega (arith, l.widest-most.ensures, l.requires.le_k), omega (arith, l.widest-most.ensures, l.requires.le_k))

-- the width's end is within the store
within : (c : In-loop-d) → let a = c.args in size_to a.stretch.block_size c.loop-d.d ≤ store_size a.stretch.block_size a.k
within c =
    let a = c.args in
    size_grows a.stretch.block_size c.loop-d.d (widest a.k) (omega (arith, c.widest-most.ensures, c.loop-d-test.true))

-- and is not its beginning
some : (c : In-loop-d) → 1 ≤ size_to c.args.stretch.block_size c.loop-d.d
some c =
    size_some c.args.stretch.block_size c.loop-d.d (omega arith) (omega (arith, c.widest-most.ensures, c.requires.le_k, c.loop-d-test.true))

pub loop-d-init : goal.loop-d-init
loop-d-init c =
    let a = c.args in
    let B = a.stretch.block_size in (
      sym (size_none B),
      refl,
      holds_none (stretch_bit a.stretch a.words.now) (span a.stretch) B a.store.now,
      refl,
      refl,
      λ d pos h. absurd (omega arith),
    )

pub fill_size-at-requires : goal.fill_size-at-requires
fill_size-at-requires c =
    record {
      le_d = (omega arith, omega (arith, (few (goal.at.fill_size-at-requires c).At-loop-d).0, c.loop-d-test.true), omega (arith, (few (goal.at.fill_size-at-requires c).At-loop-d).1, c.loop-d-test.true), c.requires.le_k.3);
      stretch_in = c.requires.stretch_in;
      start_value = c.loop-d.invariant.0;
      d_in_bounds = omega (arith, within (goal.at.fill_size-at-requires c).In-loop-d, c.loop-d.invariant.1, c.requires.roomy.room);
      holds_to = c.loop-d.invariant.2;
    }

pub overflow_sub-run : goal.overflow_sub-run
overflow_sub-run c = omega (arith, c.fill_size-at.ensures.value, some (goal.at.overflow_sub-run c).In-loop-d)

pub overflow_cast-run : goal.overflow_cast-run
overflow_cast-run c =
    omega (arith, c.fill_size-at.ensures.value, some (goal.at.overflow_cast-run c).In-loop-d, within (goal.at.overflow_cast-run c).In-loop-d, c.requires.roomy.few)

pub offset_bounds-run-d : goal.offset_bounds-run-d
offset_bounds-run-d c = omega (arith, (few (goal.at.offset_bounds-run-d c).At-loop-d).0, c.loop-d-test.true)

pub bounds-run-d : goal.bounds-run-d
bounds-run-d c =
    omega (arith, (few (goal.at.bounds-run-d c).At-loop-d).0, c.loop-d-test.true, c.loop-d.invariant.4, c.requires.block_size_in_bounds)

pub loop-d-preserved : goal.loop-d-preserved
loop-d-preserved c =
    let a = c.args in
    let B = a.stretch.block_size in
    let d = c.loop-d.d in
    let g = c.fill_size-at in
    let back : d + 1 - 1 ≡ d = omega arith in
    let before : d - 1 + 1 ≡ d = omega arith in
    rw back (
      g.ensures.value,
      g.auto.store ∙ c.loop-d.invariant.1,
      g.ensures.holds_to_2,
      past_larger (size_to B d) (store_size B a.k) g.new.store c.loop-d.store (within (goal.at.loop-d-preserved c).In-loop-d) g.ensures.store_unchanged ∙ c.loop-d.invariant.3,
      length-set c.loop-d.run d (g.result - 1) ∙ c.loop-d.invariant.4,
      rw before at (tops_next B (d - 1) (g.result - 1) c.loop-d.run (omega (arith, bounds-run-d c)) (rw before (omega (arith, g.ensures.value, some (goal.at.loop-d-preserved c).In-loop-d))) c.loop-d.invariant.5),
    )

pub shape_of-run : goal.shape_of-run
shape_of-run c = c.loop-d.invariant.4

pub shape_of-store : goal.shape_of-store
shape_of-store c = c.loop-d.invariant.1

pub returns : goal.returns
returns c =
    let a = c.args in
    let B = a.stretch.block_size in
    let store = c.loop-d.store in
    let all : c.loop-d.d - 1 ≡ widest a.k = omega (arith, c.widest-most.ensures, c.loop-d-test.false) in record {
      holds = record {
        roomy = record { few = c.requires.roomy.few; room = omega (arith, c.requires.roomy.room, c.loop-d.invariant.1) };
        entries = subst (λ (d : ℕ). HoldsTo (stretch_bit a.stretch a.words.now) (span a.stretch) B d store) all c.loop-d.invariant.2;
      };
      store_unchanged = c.loop-d.invariant.3;
      tops = record {
        room = omega (arith, c.requires.block_size_in_bounds, c.loop-d.invariant.4);
        top = λ d pos h. c.loop-d.invariant.5 d pos (omega (arith, all));
      };
    }
