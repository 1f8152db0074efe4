-- Worked examples.
use Rattle.std.specs.Prelude.{◌≡◌, ℕ, cond, [], ◌∷◌, eqb}
use Rattle.layers.specs.Store.{store_of, store_size, offset}
use Rattle.layers.specs.Settle.{chosen}

-- Theorem: B 8, k 8: the store has 254 entries.
abbrev pub StoreOfEight : Type 0
StoreOfEight = store_size 8 8 ≡ 254

-- two blocks of three bits: 011 and 111, bit 0 first
unfoldable pub two_blocks : ℕ → ℕ → ℕ
two_blocks e b = cond (eqb e 0) (cond (eqb b 0) 0 1) 1

-- Theorem: their store for 3 bits has the bits 0, 1, 2, then the pairs 01, 02, 12; for 1 bit it has the single bits. 5 = 101 chooses the first and the third of three bits.
abbrev pub StoreOfTwo : Type 0
StoreOfTwo =
    (store_of two_blocks 2 3 3 ≡ 1 ∷ 2 ∷ 2 ∷ 1 ∷ 1 ∷ 2 ∷ []) × (store_size 3 3 ≡ 6) × (offset 3 2 ≡ 3)
    × (store_of two_blocks 2 3 1 ≡ 1 ∷ 2 ∷ 2 ∷ []) × (chosen (3 ∷ 5 ∷ 6 ∷ []) 5 ≡ 3 ∷ 6 ∷ [])
