-- Worked examples: blocks of 16 bits on 16 words, which hold 64 blocks.
use Rattle.std.specs.Prelude.{◌≡◌, ℕ, List, [], ◌∷◌, replicate}
use Rattle.sampling.specs.Boards.{Feed, boards_of, recording, refusals_of}

abbrev pub feed : ℕ → List ℕ → Feed
feed board piece = record { board = board; piece = piece }

-- two boards that take turns: the block that is completed first stands first, and a byte of board 1 is left; a carry-over of three bytes, of which board 0 goes
-- on with the third; no board 4; 129 bytes of one board are 64 blocks and a byte, after which a board may have an unfinished byte and no second one, and the
-- earlier rule takes no 129 bytes
abbrev pub BoardExamples : Type 0
BoardExamples =
    (recording 16 16 [] (feed 0 (1 ∷ []) ∷ feed 1 (2 ∷ []) ∷ feed 1 (4 ∷ 5 ∷ []) ∷ feed 0 (3 ∷ []) ∷ []) ≡ 2 ∷ 4 ∷ 1 ∷ 3 ∷ [])
    × ((boards_of 16 16 [] (feed 0 (1 ∷ []) ∷ feed 1 (2 ∷ []) ∷ feed 1 (4 ∷ 5 ∷ []) ∷ feed 0 (3 ∷ []) ∷ [])).tail 1 ≡ 5 ∷ [])
    × (recording 16 16 ((1 ∷ 2 ∷ 3 ∷ []) ∷ []) (feed 1 (9 ∷ []) ∷ feed 0 (4 ∷ []) ∷ []) ≡ 1 ∷ 2 ∷ 3 ∷ 4 ∷ [])
    × (refusals_of 16 16 [] (feed 4 (1 ∷ []) ∷ feed 2 (replicate 129 7) ∷ feed 2 (1 ∷ []) ∷ feed 3 (1 ∷ []) ∷ feed 3 (1 ∷ []) ∷ []) ≡ 21 ∷ 0 ∷ 5 ∷ 0 ∷ 5 ∷ [])
    × (refusals_of 16 16 (replicate 129 7 ∷ replicate 128 7 ∷ []) (feed 0 (1 ∷ []) ∷ feed 0 (1 ∷ []) ∷ []) ≡ 5 ∷ 0 ∷ 0 ∷ 5 ∷ [])
