-- The worked examples, computed.
use mathlib.Core.Path.{refl}
use Rattle.subsets.specs.Examples.{RanksOfEight}

pub ranks_of_eight : RanksOfEight
ranks_of_eight = (refl, refl, refl)
