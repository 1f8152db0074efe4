-- The split of a recording into whole blocks to search and whole blocks to judge on (`whole_blocks`).
use Rattle.std.specs.Prelude.{◌≡◌, Bool, true, cond, List, [], ◌∷◌, ◌++◌, ℕ, ◌-◌, ◌*◌, ◌/◌, leb, eqb, take, drop}
use Rattle.counting.specs.Block.{valid_size}
use Rattle.counting.specs.Recording.{block_bytes, blocks_in}

-- 1: B is outside its limits; 8: there are fewer than two whole blocks
unfoldable pub split_refusal : List ℕ → ℕ → ℕ
split_refusal raw B = cond (valid_size B) (cond (leb 2 (blocks_in B raw)) 0 8) 1

-- of m blocks the first part has half, rounded down, where there is training, else all
unfoldable pub first_blocks : ℕ → Bool → ℕ
first_blocks m training = cond training (m / 2) m

-- the first part: none where the split is refused
unfoldable pub first_part : List ℕ → ℕ → Bool → List ℕ
first_part raw B training =
    cond (eqb (split_refusal raw B) 0) (take (first_blocks (blocks_in B raw) training * block_bytes B) raw) []

-- the second part: the rest of the whole blocks
unfoldable pub second_part : List ℕ → ℕ → Bool → List ℕ
second_part raw B training =
    cond (eqb (split_refusal raw B) 0) (rest_of (blocks_in B raw) (first_blocks (blocks_in B raw) training)) []
  where
    rest_of : ℕ → ℕ → List ℕ
    rest_of m first = take ((m - first) * block_bytes B) (drop (first * block_bytes B) raw)

-- Theorem: the parts, put together, are the whole blocks of the raw bytes, with training or without.
unfoldable pub Parts : Type 0
Parts =
    (raw : List ℕ) (B : ℕ) (training : Bool) → split_refusal raw B ≡ 0 →
    first_part raw B training ++ second_part raw B training ≡ take (blocks_in B raw * block_bytes B) raw

-- Theorem: blocks of two bytes. Three bytes are refused; of seven the last is left out, one block is for training and two are for testing.
pub record BlocksOfSixteen : Type 0 where
  pub refused : (a b c : ℕ) → split_refusal (a ∷ b ∷ c ∷ []) 16 ≡ 8
  pub accepted : (a b c d e f g : ℕ) → split_refusal (a ∷ b ∷ c ∷ d ∷ e ∷ f ∷ g ∷ []) 16 ≡ 0
  pub training : (a b c d e f g : ℕ) → first_part (a ∷ b ∷ c ∷ d ∷ e ∷ f ∷ g ∷ []) 16 true ≡ a ∷ b ∷ []
  pub testing : (a b c d e f g : ℕ) → second_part (a ∷ b ∷ c ∷ d ∷ e ∷ f ∷ g ∷ []) 16 true ≡ c ∷ d ∷ e ∷ f ∷ []
