-- What a check refuses, the first that applies, and the scratch after it.
use Rattle.std.specs.Prelude.{ℕ, zero, suc, ◌^◌, cond, List, ◌++◌, eqb, leb, ltb, length, replicate, take, drop}
use Rattle.counting.specs.Block.{valid_size}
use Rattle.subsets.specs.Bits.{valid_width, bits_refusal}
use Rattle.searching.specs.Refusal.{or_else}
use Rattle.searching.specs.declared.finding.Finding.{Finding}
use Rattle.judging.specs.Permutation.{each_once}

-- the bits that a finding has chosen; what is past its width is not read
abbrev pub chosen : Finding → List ℕ
chosen f = take f.width f.bits

-- 1: the block size is outside its limits; 2: the width is 0 or above 20
unfoldable pub limit_refusal : Finding → ℕ
limit_refusal f = cond (valid_size f.block_size) (cond (valid_width f.width) 0 2) 1

-- 11: an order of `order` entries has not one for each of the 2 ^ k bins
unfoldable pub length_refusal : ℕ → ℕ → ℕ
length_refusal k order = cond (eqb order (2 ^ k)) 0 11

-- 1, 2, then 9 and 10 of the bits, then 11
unfoldable pub shape_refusal : Finding → ℕ → ℕ
shape_refusal f order = or_else (limit_refusal f) (or_else (bits_refusal f.block_size (chosen f)) (length_refusal f.width order))

-- 7: a scratch of `scratch` entries has fewer than 2 ^ k
unfoldable pub scratch_refusal : ℕ → ℕ → ℕ
scratch_refusal k scratch = cond (leb (2 ^ k) scratch) 0 7

-- 14: the division is 0, or m or more
unfoldable pub division_refusal : ℕ → ℕ → ℕ
division_refusal division m = cond (leb 1 division) (cond (ltb division m) 0 14) 14

-- 13: the order is no permutation of the 2 ^ k bins; then 14
unfoldable pub order_refusal : ℕ → ℕ → List ℕ → ℕ
order_refusal k division order = cond (each_once (2 ^ k) order) (division_refusal division (2 ^ k)) 13

-- those before the scratch is used: 1, 2, 9, 10, 11, 7
unfoldable pub early_check_refusal : Finding → ℕ → ℕ → ℕ
early_check_refusal f order scratch = or_else (shape_refusal f order) (scratch_refusal f.width scratch)

-- the check: 1, 2, 9, 10, 11, 7, 13, 14
unfoldable pub check_refusal : Finding → List ℕ → ℕ → ℕ
check_refusal f order scratch = or_else (early_check_refusal f (length order) scratch) (order_refusal f.width f.division order)

-- zeros in the first 2 ^ k entries, and the others as lent
abbrev pub cleared : ℕ → List ℕ → List ℕ
cleared k scratch = replicate (2 ^ k) 0 ++ drop (2 ^ k) scratch

-- the scratch of a call with the early refusal r: cleared where there is none, else as lent
abbrev pub cleared_after : ℕ → ℕ → List ℕ → List ℕ
cleared_after zero k scratch = cleared k scratch
cleared_after (suc r) k scratch = scratch

-- the scratch after a check, refused with 13 or 14 or not at all, or else as lent
unfoldable pub checked_scratch : Finding → ℕ → List ℕ → List ℕ
checked_scratch f order scratch = cleared_after (early_check_refusal f order (length scratch)) f.width scratch
