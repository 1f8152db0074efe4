-- `store::fill_size` meets its contract. The loop's invariant: the counts of the subsets before the present run are stored.
use Prim.Native.Nat.{◌-◌}
use mathlib.Core.Path.{◌≡◌}
use lib.ListN.{length, get_or, take}
use Rattle.counting.specs.Stretch.{span, stretch_bit}
use Rattle.subsets.specs.Choose.{choose}
use Rattle.subsets.specs.Rank.{rank_of}
use Rattle.subsets.proofs.Carrying.{snoc}
use Rattle.layers.proofs.Filling.{Filled}
use Rattle.layers.proofs.store.fill_size.Given as goal

abbrev pub invariant-loop-stretch : goal.invariant-loop-stretch
invariant-loop-stretch l =
    (length l.bits ≡ 20)
    × Filled (stretch_bit l.stretch l.words) (span l.stretch) l.stretch.block_size l.d l.start l.initial.store (take (l.d - 1) l.bits) (get_or l.bits (l.d - 1) 0) l.at l.store

abbrev pub decreases-loop-stretch : goal.decreases-loop-stretch
decreases-loop-stretch l =
    choose l.stretch.block_size l.d - rank_of l.stretch.block_size (snoc (take (l.d - 1) l.bits) (get_or l.bits (l.d - 1) 0))
