-- The numbers of an array that stands first in a text.
use Rattle.std.specs.Prelude.{List, [], ℕ}
use Rattle.std.proofs.Math.Option.{none, some}
use Rattle.exchange.specs.Reader.{Read, read_array}

-- the numbers that were read
abbrev pub first_of : Read (List ℕ) → List ℕ
first_of none = []
first_of (some p) = p.0

-- the numbers of the array that stands first; none where none does
unfoldable pub numbers_in : List ℕ → List ℕ
numbers_in s = first_of (read_array s)
