-- Refusals by their numbers: none is 0, and no two share one.
use mathlib.Core.Path.{◌≡◌, refl, sym, ap, ◌∙◌}
use Prim.Native.Nat.{ℕ}
use native.Mathlib.Omega.{arith}
use mathlib.Core.Bool.{cond}
use lib.Dec.{eqb}
use Rattle.counting.specs.Refusal.{number_of}
use Rattle.counting.specs.declared.refusal.Refusal.{Refusal}
use Rattle.counting.specs.declared.refusal.Refusal.TheVariants.{BlockSize, Width, WidthAboveBlock, Sampler, Full, Buffer, FewBlocks, BitsNotRising, BitOutsideBlock, OrderLength, TooMany, NoPermutation, Division, Input, Text, Room, Stretch, Blocks, Level, Board, Lengths, Numbers, Counts, BitOrder}

-- no refusal has the number of none
pub some_number : (r : Refusal) → number_of r ≡ 0 → ⊥
some_number BlockSize e = absurd (omega (arith, e))
some_number Width e = absurd (omega (arith, e))
some_number WidthAboveBlock e = absurd (omega (arith, e))
some_number Sampler e = absurd (omega (arith, e))
some_number Full e = absurd (omega (arith, e))
some_number Buffer e = absurd (omega (arith, e))
some_number FewBlocks e = absurd (omega (arith, e))
some_number BitsNotRising e = absurd (omega (arith, e))
some_number BitOutsideBlock e = absurd (omega (arith, e))
some_number OrderLength e = absurd (omega (arith, e))
some_number TooMany e = absurd (omega (arith, e))
some_number NoPermutation e = absurd (omega (arith, e))
some_number Division e = absurd (omega (arith, e))
some_number Input e = absurd (omega (arith, e))
some_number Text e = absurd (omega (arith, e))
some_number Room e = absurd (omega (arith, e))
some_number Stretch e = absurd (omega (arith, e))
some_number Blocks e = absurd (omega (arith, e))
some_number Level e = absurd (omega (arith, e))
some_number Board e = absurd (omega (arith, e))
some_number Lengths e = absurd (omega (arith, e))
some_number Numbers e = absurd (omega (arith, e))
some_number Counts e = absurd (omega (arith, e))
some_number BitOrder e = absurd (omega (arith, e))

-- the refusal of each number; of a number that none has, the last
abbrev reason_of : ℕ → Refusal
reason_of n =
    cond (eqb n 1) BlockSize (
    cond (eqb n 2) Width (
    cond (eqb n 3) WidthAboveBlock (
    cond (eqb n 4) Sampler (
    cond (eqb n 5) Full (
    cond (eqb n 7) Buffer (
    cond (eqb n 8) FewBlocks (
    cond (eqb n 9) BitsNotRising (
    cond (eqb n 10) BitOutsideBlock (
    cond (eqb n 11) OrderLength (
    cond (eqb n 12) TooMany (
    cond (eqb n 13) NoPermutation (
    cond (eqb n 14) Division (
    cond (eqb n 15) Input (
    cond (eqb n 16) Text (
    cond (eqb n 17) Room (
    cond (eqb n 18) Stretch (
    cond (eqb n 19) Blocks (
    cond (eqb n 20) Level (
    cond (eqb n 21) Board (
    cond (eqb n 24) Lengths (
    cond (eqb n 25) Numbers (
    cond (eqb n 26) Counts (
    BitOrder)))))))))))))))))))))))

reason_named : (r : Refusal) → reason_of (number_of r) ≡ r
reason_named BlockSize = refl
reason_named Width = refl
reason_named WidthAboveBlock = refl
reason_named Sampler = refl
reason_named Full = refl
reason_named Buffer = refl
reason_named FewBlocks = refl
reason_named BitsNotRising = refl
reason_named BitOutsideBlock = refl
reason_named OrderLength = refl
reason_named TooMany = refl
reason_named NoPermutation = refl
reason_named Division = refl
reason_named Input = refl
reason_named Text = refl
reason_named Room = refl
reason_named Stretch = refl
reason_named Blocks = refl
reason_named Level = refl
reason_named Board = refl
reason_named Lengths = refl
reason_named Numbers = refl
reason_named Counts = refl
reason_named BitOrder = refl

-- the number tells the refusal
pub same_number : (r s : Refusal) → number_of r ≡ number_of s → r ≡ s
same_number r s e = sym (reason_named r) ∙ ap reason_of e ∙ reason_named s
