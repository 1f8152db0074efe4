-- `settle::first_places` meets its contract: two places by one loop, or none.
use mathlib.Core.Path.{refl}
use mathlib.Core.Logic.{inl, inr}
use native.Mathlib.Omega.{arith}
use Rattle.layers.proofs.settle.first_places.Goals as goal

pub returns-then-j-lt2 : goal.returns-then-j-lt2
returns-then-j-lt2 c = inl (refl, refl)

pub reduce_fours-requires : goal.reduce_fours-requires
reduce_fours-requires c =
    c.requires (omega (arith, c.if-j-lt2.false))

pub returns : goal.returns
returns c =
    inr (refl, omega (arith, c.if-j-lt2.false), c.reduce_fours.ensures)
