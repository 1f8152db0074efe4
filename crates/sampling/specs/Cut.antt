-- Bytes cut into whole blocks and a rest.
use Rattle.std.specs.Prelude.{ℕ, ◌*◌, List, [], ◌∷◌, ◌++◌, take, drop}
use Rattle.counting.specs.Recording.{block_bytes, blocks_in}

-- the bytes of the whole blocks, in their order
unfoldable pub whole : ℕ → List ℕ → List ℕ
whole B bytes = take (blocks_in B bytes * block_bytes B) bytes

-- the bytes past them, fewer than a block's
unfoldable pub rest : ℕ → List ℕ → List ℕ
rest B bytes = drop (blocks_in B bytes * block_bytes B) bytes

-- pieces put together
unfoldable pub joined : List (List ℕ) → List ℕ
joined [] = []
joined (p ∷ ps) = p ++ joined ps
