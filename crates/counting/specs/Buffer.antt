-- Entries written over those of a lent buffer.
use Rattle.std.specs.Prelude.{List, ◌++◌, ℕ, ◌+◌, length, take, drop}

-- the entries s written over those of a buffer from place `at` on
unfoldable pub put : List ℕ → ℕ → List ℕ → List ℕ
put out at s = take at out ++ s ++ drop (at + length s) out
