-- What the program refuses.
use Rattle.std.specs.Prelude.{cond, List, ℕ}
use Rattle.subsets.specs.Bits.{valid_width}
use Rattle.searching.specs.Refusal.{or_else}
use Rattle.judging.specs.Split.{split_refusal}
use Rattle.sheet.specs.Header.{block_size_of, width_of, raw_of, input_refusal}

-- 15, then the split's 1 and 8, then 2; 3 cannot arise, since k is at most 8 and B at least that
unfoldable pub sheet_refusal : List ℕ → ℕ
sheet_refusal s = or_else (input_refusal s) (or_else (split_refusal (raw_of s) (block_size_of s)) (cond (valid_width (width_of s)) 0 2))
