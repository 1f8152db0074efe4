-- Worked examples of the pieces and of what a replay refuses.
use Rattle.std.specs.Prelude.{◌≡◌, [], ◌∷◌, replicate}
use Rattle.sampling.specs.Boards.{on_board, refusals_of}
use Rattle.replay.specs.Pieces.{cut, refused_in}
use Rattle.replay.specs.Replay.{replay_refusal}

pub record Examples : Type 0 where
  -- an empty piece is a piece
  pub pieces : cut (1 ∷ 2 ∷ 3 ∷ []) (2 ∷ 0 ∷ 1 ∷ []) ≡ on_board 0 ((1 ∷ 2 ∷ []) ∷ [] ∷ (3 ∷ []) ∷ [])
  -- eight words hold 64 bytes at block size 8: then a byte is refused, and an empty piece is not
  pub full : refused_in (refusals_of 8 8 [] (on_board 0 (replicate 64 0 ∷ (0 ∷ []) ∷ [] ∷ []))) ≡ 1
  -- lengths that leave a byte, or go past the last, come before every other refusal
  pub leaves : replay_refusal 7 3 (2 ∷ []) 0 0 0 ≡ 24
  pub past : replay_refusal 7 3 (2 ∷ 2 ∷ []) 0 0 0 ≡ 24
  -- so do lengths whose sum is 3 only where sums wrap at 2^64
  pub wraps : replay_refusal 8 3 (18446744073709551615 ∷ 4 ∷ []) 1 2 2 ≡ 24
  -- the others in turn
  pub block : replay_refusal 7 3 (3 ∷ []) 0 0 0 ≡ 1
  pub width : replay_refusal 8 3 (3 ∷ []) 0 0 0 ≡ 2
  pub wide : replay_refusal 8 3 (3 ∷ []) 9 0 0 ≡ 3
  pub short : replay_refusal 8 3 (3 ∷ []) 8 256 255 ≡ 7
  pub none : replay_refusal 8 3 (3 ∷ []) 8 256 256 ≡ 0
