-- Refusals by their numbers.
use Rattle.std.specs.Prelude.{ℕ, Result, Ok, Err}
use Rattle.counting.specs.declared.refusal.Refusal.{Refusal}
use Rattle.counting.specs.declared.refusal.Refusal.TheVariants.{BlockSize, Width, WidthAboveBlock, Sampler, Full, Buffer, FewBlocks, BitsNotRising, BitOutsideBlock, OrderLength, TooMany, NoPermutation, Division, Input, Text, Room, Stretch, Blocks, Level, Board, Lengths, Numbers, Counts, BitOrder}

-- the number of each refusal
abbrev pub number_of : Refusal → ℕ
number_of BlockSize = 1
number_of Width = 2
number_of WidthAboveBlock = 3
number_of Sampler = 4
number_of Full = 5
number_of Buffer = 7
number_of FewBlocks = 8
number_of BitsNotRising = 9
number_of BitOutsideBlock = 10
number_of OrderLength = 11
number_of TooMany = 12
number_of NoPermutation = 13
number_of Division = 14
number_of Input = 15
number_of Text = 16
number_of Room = 17
number_of Stretch = 18
number_of Blocks = 19
number_of Level = 20
number_of Board = 21
number_of Lengths = 24
number_of Numbers = 25
number_of Counts = 26
number_of BitOrder = 27

-- the number of the refusal that was answered, 0 where there is none
abbrev pub refusal_of : {A : Type 0} → Result A Refusal → ℕ
refusal_of (Ok x) = 0
refusal_of (Err r) = number_of r
