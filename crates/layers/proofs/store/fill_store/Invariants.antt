-- `store::fill_store` meets its contract. The loop's invariant: the counts of the subsets of up to d bits stand, and the places of their last ones.
use Prim.Native.Nat.{◌-◌}
use mathlib.Core.Path.{◌≡◌}
use lib.ListN.{length, drop}
use Rattle.counting.specs.Stretch.{span, stretch_bit}
use Rattle.layers.specs.Store.{size_to, store_size, HoldsTo}
use Rattle.layers.proofs.Filling.{TopsTo}
use Rattle.layers.proofs.store.fill_store.Given as goal

abbrev pub invariant-loop-d : goal.invariant-loop-d
invariant-loop-d l =
    let B = l.stretch.block_size in
    (l.at ≡ size_to B (l.d - 1)) × (length l.store ≡ length l.initial.store) × HoldsTo (stretch_bit l.stretch l.words) (span l.stretch) B (l.d - 1) l.store
    × (drop (store_size B l.k) l.store ≡ drop (store_size B l.k) l.initial.store) × (length l.run ≡ length l.initial.run) × TopsTo B (l.d - 1) l.run
