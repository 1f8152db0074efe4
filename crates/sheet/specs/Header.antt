-- The header of an input: B and k right-justified in 6 columns each, and a newline; the raw bytes follow.
use Rattle.std.specs.Prelude.{◌≡◌, ℕ, zero, suc, ◌+◌, ◌-◌, ◌*◌, ◌<◌, Bool, true, false, cond, List, leb, eqb, length, get_or, take, drop}
use Rattle.sheet.specs.Columns.{symbol_at, columns}

-- a digit's value; every other character counts 0
unfoldable pub digit_of : ℕ → ℕ
digit_of c = cond (leb 48 c) (cond (leb c 57) (c - 48) 0) 0

-- the number that the first i characters from place `at` on make
unfoldable pub read_to : List ℕ → ℕ → ℕ → ℕ
read_to s at zero = 0
read_to s at (suc i) = 10 * read_to s at i + digit_of (get_or s (at + i) 0)

-- whether the first i characters from place `at` on are those of n in w columns
unfoldable pub match_to : List ℕ → ℕ → ℕ → ℕ → ℕ → Bool
match_to s at w n zero = true
match_to s at w n (suc i) = cond (eqb (get_or s (at + i) 0) (symbol_at n (w - 1 - i))) (match_to s at w n i) false

-- the number in the 6 columns from place `at` on
abbrev pub field_at : List ℕ → ℕ → ℕ
field_at s at = read_to s at 6

-- whether the 6 columns are just those in which that number is written
abbrev pub is_field : List ℕ → ℕ → Bool
is_field s at = match_to s at 6 (field_at s at) 6

-- B, k and the raw bytes of an input
abbrev pub block_size_of : List ℕ → ℕ
block_size_of s = field_at s 0

abbrev pub width_of : List ℕ → ℕ
width_of s = field_at s 6

abbrev pub raw_of : List ℕ → List ℕ
raw_of s = drop 13 s

-- whether an input begins with a header
unfoldable pub well_formed : List ℕ → Bool
well_formed s = cond (leb 13 (length s)) (cond (is_field s 0) (cond (is_field s 6) (eqb (get_or s 12 0) 10) false) false) false

-- 15: no header, B above 64, k above 8, or over 8,192 raw bytes
unfoldable pub input_refusal : List ℕ → ℕ
input_refusal s =
    cond (well_formed s) (cond (leb (block_size_of s) 64) (cond (leb (width_of s) 8) (cond (leb (length (raw_of s)) 8192) 0 15) 15) 15) 15

-- What a field is to be: 6 columns are one just where some number below 1,000,000 stands there right-justified, and that number is then read.
pub record Fields (s : List ℕ) (at : ℕ) : Type 0 where
  pub written : is_field s at ≡ true → take 6 (drop at s) ≡ columns 6 (field_at s at)
  pub read : (n : ℕ) → n < 1000000 → take 6 (drop at s) ≡ columns 6 n → (is_field s at ≡ true) × (field_at s at ≡ n)

-- Theorem: so for all bytes and every place.
abbrev pub FieldsAre : Type 0
FieldsAre = (s : List ℕ) (at : ℕ) → Fields s at
