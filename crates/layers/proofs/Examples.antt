-- The worked examples hold.
use mathlib.Core.Path.{refl}
use Rattle.counting.specs.Block.{bin_of}
use Rattle.counting.specs.Sample.{count_in}
use Rattle.layers.specs.Store.{store_to, size_to}
use Rattle.layers.specs.Settle.{chosen}
use Rattle.layers.specs.Examples.{two_blocks, StoreOfEight, StoreOfTwo}

pub store_of_eight : StoreOfEight
unfolding size_to
store_of_eight = refl

pub store_of_two : StoreOfTwo
unfolding store_to size_to count_in bin_of two_blocks chosen
store_of_two = (refl, refl, refl, refl, refl)
