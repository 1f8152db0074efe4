-- What a sweep refuses: the first that applies, found before the first search.
use Rattle.std.specs.Prelude.{true, cond, ℕ, zero, suc, ◌+◌, ◌*◌, ◌/◌, ◌^◌, leb, ltb, get_or}
use Rattle.counting.specs.Recording.{block_bytes, capacity_bytes}
use Rattle.searching.specs.Refusal.{or_else, buffer_refusal}
use Rattle.judging.specs.Check.{scratch_refusal}
use Rattle.judging.specs.Split.{first_blocks}
use Rattle.judging.specs.Plan.{Plan}
use Rattle.sweeping.specs.Pair.{tested_blocks}
use Rattle.sweeping.specs.declared.refusal.Room.{Room}

-- 20: the level is 0 or at least 2 ^ 40
unfoldable pub level_refusal : ℕ → ℕ
level_refusal a = cond (leb 1 a) (cond (ltb a (2 ^ 40)) 0 20) 20

-- 5: the training half of m blocks does not fit the words
unfoldable pub training_refusal : ℕ → ℕ → ℕ → ℕ
training_refusal B m words = cond (leb (first_blocks m true * block_bytes B) (capacity_bytes B words)) 0 5

-- 7: the bin, order or scratch buffer has fewer than 2 ^ k entries, or the bracket's scratch fewer than the blocks evaluated and one
unfoldable pub room_refusal : ℕ → ℕ → Room → ℕ
room_refusal m k room =
    or_else (buffer_refusal k room.bins room.order)
    (or_else (scratch_refusal k room.scratch) (cond (leb (suc (tested_blocks m)) room.entries) 0 7))

-- a pair in so many bytes: 5, 7; none where it is skipped
unfoldable pub pair_refusal : ℕ → ℕ → ℕ → Room → ℕ
pair_refusal bytes B k room =
    let m = bytes / block_bytes B in
    cond (leb 2 m) (or_else (training_refusal B m room.words) (room_refusal m k room)) 0

-- the first i pairs of a plan, in its order
unfoldable pub pairs_refusal : Plan → ℕ → Room → ℕ → ℕ
pairs_refusal plan bytes room zero = 0
pairs_refusal plan bytes room (suc i) =
    or_else (pairs_refusal plan bytes room i) (pair_refusal bytes (get_or plan.blocks i 0) (get_or plan.widths i 0) room)

-- how many of the first i pairs have two blocks or more
unfoldable pub unskipped : Plan → ℕ → ℕ → ℕ
unskipped plan bytes zero = 0
unskipped plan bytes (suc i) = unskipped plan bytes i + cond (leb 2 (bytes / block_bytes (get_or plan.blocks i 0))) 1 0

-- 8: every pair is skipped
unfoldable pub skipped_refusal : Plan → ℕ → ℕ
skipped_refusal plan bytes = cond (leb 1 (unskipped plan bytes plan.pairs)) 0 8

-- the sweep: 20, the plan's 1, then 5 and 7 pair by pair, 8
unfoldable pub sweep_refusal : ℕ → Plan → ℕ → Room → ℕ
sweep_refusal a plan bytes room =
    or_else (level_refusal a) (or_else plan.refusal (or_else (pairs_refusal plan bytes room plan.pairs) (skipped_refusal plan bytes)))
