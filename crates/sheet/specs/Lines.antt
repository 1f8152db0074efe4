-- The lines of a sheet, and a buffer that they are printed into.
use Rattle.std.specs.Prelude.{◌≡◌, cond, List, ◌++◌, ℕ, leb, length, drop}
use Rattle.sheet.specs.Columns.{line}

-- counts in 8 columns each, bits in 8, bit patterns in 20
unfoldable pub three_lines : List ℕ → List ℕ → List ℕ → List ℕ
three_lines counts bits patterns = line 8 counts ++ line 8 bits ++ line 20 patterns

-- What printing the bytes s into a buffer answers and leaves: their number, and the bytes with what is past them as lent; 0, and all as lent, where the
-- buffer is shorter than they are. (No sheet is empty, so 0 says just that.)
pub record Printed (s out : List ℕ) (answer : ℕ) (out' : List ℕ) : Type 0 where
  pub answered : answer ≡ cond (leb (length s) (length out)) (length s) 0
  pub written : out' ≡ cond (leb (length s) (length out)) (s ++ drop (length s) out) out
