-- Worked examples of a sheet, from the bytes of an input to the bytes printed.
use Rattle.std.specs.Prelude.{◌≡◌, List, [], ◌∷◌, ◌++◌, ℕ, replicate}
use Rattle.sheet.specs.Sheet.{sheet_of}

-- n spaces and a character
abbrev pub spaced : ℕ → ℕ → List ℕ
spaced n c = replicate n 32 ++ (c ∷ [])

-- header 8 and 2, and the eight bytes 00 00 FF FF 00 80 FF FF
abbrev pub eight_bytes : List ℕ
eight_bytes = spaced 5 56 ++ spaced 5 50 ++ (10 ∷ 0 ∷ 0 ∷ 0xff ∷ 0xff ∷ 0 ∷ 0x80 ∷ 0xff ∷ 0xff ∷ [])

-- its lines: 8 2 4 4 2 3, bits 0 1, and the patterns of 2 and 1
abbrev pub eight_bytes_sheet : List ℕ
eight_bytes_sheet =
    spaced 7 56 ++ spaced 7 50 ++ spaced 7 52 ++ spaced 7 52 ++ spaced 7 50 ++ spaced 7 51 ++ (10 ∷ [])
    ++ spaced 7 48 ++ spaced 7 49 ++ (10 ∷ [])
    ++ (32 ∷ 52 ∷ 54 ∷ 49 ∷ 49 ∷ 54 ∷ 56 ∷ 54 ∷ 48 ∷ 49 ∷ 56 ∷ 52 ∷ 50 ∷ 55 ∷ 51 ∷ 56 ∷ 55 ∷ 57 ∷ 48 ∷ 52 ∷ [])
    ++ (32 ∷ 52 ∷ 54 ∷ 48 ∷ 55 ∷ 49 ∷ 56 ∷ 50 ∷ 52 ∷ 49 ∷ 56 ∷ 56 ∷ 48 ∷ 48 ∷ 48 ∷ 49 ∷ 55 ∷ 52 ∷ 48 ∷ 56 ∷ 10 ∷ [])

-- Theorem: the examples.
pub record SheetExamples : Type 0 where
  pub eight : sheet_of eight_bytes ≡ eight_bytes_sheet
  -- 5 columns for B: 15
  pub narrow : sheet_of (spaced 4 56 ++ spaced 5 50 ++ (10 ∷ 1 ∷ 2 ∷ 3 ∷ [])) ≡ spaced 6 49 ++ (53 ∷ 10 ∷ [])
  -- k is 0, and there is one block only: 8 comes first
  pub one : sheet_of (spaced 5 56 ++ spaced 5 48 ++ (10 ∷ 1 ∷ [])) ≡ spaced 7 56 ++ (10 ∷ [])
  pub none : sheet_of (spaced 5 56 ++ spaced 5 48 ++ (10 ∷ 1 ∷ 2 ∷ [])) ≡ spaced 7 50 ++ (10 ∷ [])
