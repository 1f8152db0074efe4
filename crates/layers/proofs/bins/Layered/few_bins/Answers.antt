-- `Layered::few_bins` meets its contract: the count of the run is the candidate's own, and those of single bits stand in the store.
use Prim.Native.Nat.{ℕ, ◌+◌, ◌-◌, ◌^◌, ◌≤◌, ◌<◌}
use mathlib.Core.List.{[], ◌∷◌}
use mathlib.Core.Path.{◌≡◌}
use native.Mathlib.Omega.{arith}
use lib.ListN.{length, get_or}
use Rattle.counting.specs.Sample.{all_set}
use Rattle.counting.specs.Stretch.{span, stretch_bit}
use Rattle.counting.proofs.Stretches.{stretch_lt}
use Rattle.subsets.proofs.Listing.{bits_below}
use Rattle.layers.specs.Run.{last_bit}
use Rattle.layers.proofs.Leading.{own_count, as_many}
use Rattle.layers.proofs.Pairing.{single_fits, single_split, pair_fits, pair_split}
use Rattle.layers.proofs.Running.{single_at, store_room}
use Rattle.layers.proofs.bins.Layered.few_bins.Goals.{After-span-n, Start}
use Rattle.layers.proofs.bins.Layered.few_bins.Goals as goal

-- the last bit is in the block, and its count in the run's numbers
inside : (s : Start) → last_bit s.args.bits.now < s.args.self.now.stretch.block_size
inside s =
    let b = s.args.bits.now in
    bits_below s.args.self.now.stretch.block_size s.args.self.now.k b s.requires.subset (length b - 1) (omega (arith, s.requires.subset.size, s.args.self.now.width))

own : (s : Start) → let a = s.args in get_or a.run.now (441 + last_bit a.bits.now) 0 ≡ all_set (stretch_bit a.self.now.stretch a.self.now.words.now) (span a.self.now.stretch) a.bits.now
own s =
    let a = s.args in
    own_count _ _ a.self.now.stretch.block_size a.bits.now a.run.now (omega (arith, s.requires.subset.size, a.self.now.width)) (as_many a.self.now.stretch.block_size a.self.now.k a.bits.now s.requires.subset) s.requires.run

-- the number of blocks
all_are : (d : After-span-n) → d.span-n.result ≡ span d.args.self.now.stretch
all_are d = d.span-n.ensures

-- a bit is in the block
among : (s : Start) (i : ℕ) → i < length s.args.bits.now → get_or s.args.bits.now i 0 < s.args.self.now.stretch.block_size
among s i h = bits_below s.args.self.now.stretch.block_size s.args.self.now.k s.args.bits.now s.requires.subset i h

-- its count in the store
single : (s : Start) (b : ℕ) → b < s.args.self.now.stretch.block_size → let a = s.args in get_or a.self.now.store.now b 0 ≡ all_set (stretch_bit a.self.now.stretch a.self.now.words.now) (span a.self.now.stretch) (b ∷ [])
single s b h = let a = s.args in single_at _ _ a.self.now.stretch.block_size a.self.now.k a.self.now.store.now s.args.self.now.holds b h

-- the store has an entry for each bit
kept : (s : Start) → s.args.self.now.stretch.block_size ≤ length s.args.self.now.store.now
kept s =
    let a = s.args in
    omega (arith, store_room a.self.now.stretch.block_size a.self.now.k, s.args.self.now.holds.roomy.room)

pub single_bins-requires : goal.single_bins-requires
single_bins-requires c =
    let a = c.args in
    let one : length a.bits.now ≡ 1 = c.if-bits-eq1.true in
    let two : 2 ^ length a.bits.now ≤ length a.bins.now = c.requires.bits_in_bounds in
    let enough : 2 ≤ length a.bins.now = rw one at two in
    (enough, rw (all_are (goal.at.single_bins-requires c).After-span-n) (single_fits (stretch_bit a.self.now.stretch a.self.now.words.now) (stretch_lt a.self.now.stretch a.self.now.words.now) (span a.self.now.stretch) a.bits.now one _ (own (goal.at.single_bins-requires c).Start)))

pub returns-then-bits-eq1 : goal.returns-then-bits-eq1
returns-then-bits-eq1 c =
    let a = c.args in
    let one : length a.bits.now ≡ 1 = c.if-bits-eq1.true in
    let two : 2 ^ length a.bits.now ≤ length a.bins.now = c.requires.bits_in_bounds in
    let enough : 2 ≤ length a.bins.now = rw one at two in
    single_split (stretch_bit a.self.now.stretch a.self.now.words.now) (stretch_lt a.self.now.stretch a.self.now.words.now) (span a.self.now.stretch) a.bits.now one a.bins.now _ _ (own (goal.at.returns-then-bits-eq1 c).Start)
    c.single_bins.auto.bins enough (rw (all_are (goal.at.returns-then-bits-eq1 c).After-span-n) at c.single_bins.ensures)

pub bounds-self-before : goal.bounds-self-before
bounds-self-before c =
    omega (arith, among (goal.at.bounds-self-before c).Start 0 (omega (arith, c.requires.subset.size, c.args.self.now.width)), kept (goal.at.bounds-self-before c).Start)

pub bounds-self-last : goal.bounds-self-last
bounds-self-last c =
    omega (arith, inside (goal.at.bounds-self-last c).Start, kept (goal.at.bounds-self-last c).Start)

pub pair_bins-requires : goal.pair_bins-requires
pair_bins-requires c =
    let a = c.args in
    let two : length a.bits.now ≡ 2 = omega (arith, c.if-bits-eq1.false, c.requires.few, c.requires.subset.size, a.self.now.width) in
    let four : 2 ^ length a.bits.now ≤ length a.bins.now = c.requires.bits_in_bounds in
    let enough : 4 ≤ length a.bins.now = rw two at four in
    let p = pair_fits (stretch_bit a.self.now.stretch a.self.now.words.now) (stretch_lt a.self.now.stretch a.self.now.words.now) (span a.self.now.stretch) a.bits.now two _ _ _
    (single (goal.at.pair_bins-requires c).Start (get_or a.bits.now 0 0) (among (goal.at.pair_bins-requires c).Start 0 (omega arith))) (single (goal.at.pair_bins-requires c).Start (last_bit a.bits.now) (inside (goal.at.pair_bins-requires c).Start)) (own (goal.at.pair_bins-requires c).Start) in
    (enough, p.0, p.1, rw (all_are (goal.at.pair_bins-requires c).After-span-n) p.2)

pub returns : goal.returns
returns c =
    let a = c.args in
    let two : length a.bits.now ≡ 2 = omega (arith, c.if-bits-eq1.false, c.requires.few, c.requires.subset.size, a.self.now.width) in
    let four : 2 ^ length a.bits.now ≤ length a.bins.now = c.requires.bits_in_bounds in
    let enough : 4 ≤ length a.bins.now = rw two at four in
    pair_split (stretch_bit a.self.now.stretch a.self.now.words.now) (stretch_lt a.self.now.stretch a.self.now.words.now) (span a.self.now.stretch) a.bits.now two _ _ _
    (single (goal.at.returns c).Start (get_or a.bits.now 0 0) (among (goal.at.returns c).Start 0 (omega arith))) (single (goal.at.returns c).Start (last_bit a.bits.now) (inside (goal.at.returns c).Start)) (own (goal.at.returns c).Start)
    a.bins.now _ c.pair_bins.auto.bins enough (rw (all_are (goal.at.returns c).After-span-n) at c.pair_bins.ensures)
