-- The plan of a sweep (`configurations`): the block sizes to search, and the width for each.
use Rattle.std.specs.Prelude.{◌≡◌, true, cond, ◌&&◌, ℕ, zero, suc, ◌-◌, ◌*◌, ◌^◌, ◌≤◌, ◌<◌, max, leb, ltb, eqb, length, get_or, replicate, Result, Ok, Err}
use mathlib.Core.List.{List, [], ◌∷◌, ◌++◌, map, Memᴰ}
use Rattle.counting.specs.Block.{valid_size}
use Rattle.counting.specs.Refusal.{number_of}
use Rattle.counting.specs.declared.refusal.Refusal.{Refusal}
use Rattle.judging.specs.declared.plan.Plan as planned
use Rattle.judging.specs.declared.plan.Planned.{Planned}

-- the width for a block size and a number of bytes
unfoldable pub width_for : ℕ → ℕ → ℕ
width_for size bytes =
    cond (leb bytes 10000000 && ltb size 128) 4 (cond (ltb bytes 2000000000 && ltb size 256) 3 2)

-- a size before others, but 8, which the plan has from the start
abbrev pub besides_eight : ℕ → List ℕ → List ℕ
besides_eight size rest = cond (eqb size 8) rest (size ∷ rest)

-- `size`, 2 × size, 4 × size and on, n at most, up to `top`, a second 8 skipped
unfoldable pub sizes_from : ℕ → ℕ → ℕ → List ℕ
sizes_from zero top size = []
sizes_from (suc n) top size = cond (leb size top) (besides_eight size (sizes_from n top (2 * size))) []

-- where the sizes after the first 8 begin: at B, or at 16 where B is 8
abbrev pub after_eight : ℕ → ℕ
after_eight B = cond (eqb B 8) 16 B

-- the block sizes planned: 8, then from B on up to the greater of B and 512
unfoldable pub sizes_of : ℕ → List ℕ
sizes_of B = 8 ∷ sizes_from 7 (max B 512) B

-- their widths: 8 for the first, whose block has no more bits
unfoldable pub widths_of : ℕ → ℕ → List ℕ
widths_of B bytes = 8 ∷ map (λ size. width_for size bytes) (sizes_from 7 (max B 512) B)

-- seven entries: those of the list, then zeros
abbrev pub padded_to_seven : List ℕ → List ℕ
padded_to_seven l = l ++ replicate (7 - length l) 0

-- a plan as numbers and lists: a refusal, 0 where there is none, the number of pairs, and the block size and the width of each, 0 past the planned ones
pub record Plan : Type 0 where
  pub refusal : ℕ
  pub pairs : ℕ
  pub blocks : List ℕ
  pub widths : List ℕ

-- the block sizes of pairs, and their widths

abbrev pub sizes_in : List Planned → List ℕ
sizes_in pairs = map (λ (p : Planned). p.block_size) pairs

abbrev pub widths_in : List Planned → List ℕ
widths_in pairs = map (λ (p : Planned). p.width) pairs

-- an answer of `configurations` as such: every field 0 beside a refusal
abbrev pub as_plan : Result planned.Plan Refusal → Plan
as_plan (Ok p) = record { refusal = 0; pairs = p.pairs; blocks = sizes_in p.sizes; widths = widths_in p.sizes }
as_plan (Err r) = record { refusal = number_of r; pairs = 0; blocks = replicate 7 0; widths = replicate 7 0 }

-- the plan; 1, and every field 0, where B is outside its limits
unfoldable pub plan_of : ℕ → ℕ → Plan
plan_of B bytes =
    cond (valid_size B)
    (record {
      refusal = 0;
      pairs = length (sizes_of B);
      blocks = padded_to_seven (sizes_of B);
      widths = padded_to_seven (widths_of B bytes);
    })
    (record { refusal = 1; pairs = 0; blocks = replicate 7 0; widths = replicate 7 0 })

-- what a plan has that is not refused
pub record Plans (B bytes : ℕ) : Type 0 where
  -- seven entries hold it
  pub most : (plan_of B bytes).pairs ≤ 7
  -- the block sizes rise, so none is planned twice
  pub rising : (i j : ℕ) → i < j → j < (plan_of B bytes).pairs → get_or (plan_of B bytes).blocks i 0 < get_or (plan_of B bytes).blocks j 0
  -- B and its doubles are planned up to the greater of B and 512
  pub complete : (i : ℕ) → B * 2 ^ i ≤ max B 512 → Memᴰ (B * 2 ^ i) (sizes_of B)

-- Theorem: so for every valid block size and every number of bytes.
unfoldable pub Sweeps : Type 0
Sweeps = (B bytes : ℕ) → valid_size B ≡ true → Plans B bytes

-- Theorem: the plans for 128 and for 24 at 1,000 bytes.
pub record PlansAtThousand : Type 0 where
  pub for_128 : plan_of 128 1000 ≡ record {
    refusal = 0;
    pairs = 4;
    blocks = 8 ∷ 128 ∷ 256 ∷ 512 ∷ 0 ∷ 0 ∷ 0 ∷ [];
    widths = 8 ∷ 3 ∷ 2 ∷ 2 ∷ 0 ∷ 0 ∷ 0 ∷ [];
  }
  pub for_24 : plan_of 24 1000 ≡ record {
    refusal = 0;
    pairs = 6;
    blocks = 8 ∷ 24 ∷ 48 ∷ 96 ∷ 192 ∷ 384 ∷ 0 ∷ [];
    widths = 8 ∷ 4 ∷ 4 ∷ 4 ∷ 3 ∷ 2 ∷ 0 ∷ [];
  }
