-- The tests of a width and of a list of bits.
use Rattle.std.specs.Prelude.{ℕ, Bool, true, false, cond, List, [], ◌∷◌, leb, ltb}

-- k, the width: 1 to 20
unfoldable pub valid_width : ℕ → Bool
valid_width k = cond (leb 1 k) (leb k 20) false

-- each bit is less than the one after it
unfoldable pub increasing : List ℕ → Bool
increasing [] = true
increasing (a ∷ []) = true
increasing (a ∷ b ∷ s) = cond (ltb a b) (increasing (b ∷ s)) false

-- each bit is below B
unfoldable pub within : ℕ → List ℕ → Bool
within B [] = true
within B (a ∷ s) = cond (ltb a B) (within B s) false

-- 9: the bits are not strictly increasing; 10: one is B or more; 0: neither
unfoldable pub bits_refusal : ℕ → List ℕ → ℕ
bits_refusal B s = cond (increasing s) (cond (within B s) 0 10) 9
