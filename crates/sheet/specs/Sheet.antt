-- The sheet: the bytes printed for an input.
use Rattle.std.specs.Prelude.{true, List, [], ◌∷◌, ℕ, zero, suc, ◌≤◌, length}
use Rattle.judging.specs.Split.{first_part, second_part}
use Rattle.sheet.specs.Columns.{line}
use Rattle.sheet.specs.Header.{block_size_of, width_of, raw_of}
use Rattle.sheet.specs.Refusal.{sheet_refusal}
use Rattle.sheet.specs.Judgement.{lines_of}

-- the bytes to search, and those to judge the finding on
abbrev pub training_of : List ℕ → List ℕ
training_of s = first_part (raw_of s) (block_size_of s) true

abbrev pub testing_of : List ℕ → List ℕ
testing_of s = second_part (raw_of s) (block_size_of s) true

-- a refusal alone in 8 columns, else the three lines
abbrev pub sheet_with : ℕ → List ℕ → List ℕ
sheet_with zero s = lines_of (block_size_of s) (width_of s) (training_of s) (testing_of s)
sheet_with (suc r) s = line 8 (suc r ∷ [])

-- the sheet of an input
unfoldable pub sheet_of : List ℕ → List ℕ
sheet_of s = sheet_with (sheet_refusal s) s

-- Theorem: no sheet is empty, and 155 bytes hold every one.
abbrev pub SheetsFit : Type 0
SheetsFit = (s : List ℕ) → (1 ≤ length (sheet_of s)) × (length (sheet_of s) ≤ 155)
