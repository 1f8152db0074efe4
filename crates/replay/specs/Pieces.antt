-- The recording of one board in the pieces in which the recorder cut it, and the feeding of them.
use Rattle.std.specs.Prelude.{◌≡◌, ℕ, zero, suc, ◌+◌, List, [], ◌∷◌, take, drop}
use Rattle.sampling.specs.Boards.{Feed}
use Rattle.sampling.specs.Recorded.{State, fed_all, answers_from}
use Rattle.sampling.specs.declared.sampler.Sampler.{Sampler}
use Rattle.replay.specs.declared.pieces.Taken.{Taken}

-- the pieces, as feeds of board 0: as many bytes as the first length says, then the rest by the other lengths
unfoldable pub cut : List ℕ → List ℕ → List Feed
cut bytes [] = []
cut bytes (n ∷ ns) = record { board = 0; piece = take n bytes } ∷ cut (drop n bytes) ns

-- 1 for a refusal, 0 where there is none
abbrev pub refused_one : ℕ → ℕ
refused_one zero = 0
refused_one (suc r) = 1

-- how many of the answers are refusals
unfoldable pub refused_in : List ℕ → ℕ
refused_in [] = 0
refused_in (r ∷ rs) = refused_one r + refused_in rs

-- a sampler with its words
abbrev pub state_of : Sampler → List ℕ → State
state_of s ws = record { sampler = s; words = ws }

-- What the feeding of the pieces leaves, from the sampler s and the words ws on: the state after all feeds, with the number of those that were refused.
pub record FedPieces (s : Sampler) (ws : List ℕ) (pieces : List Feed) (r : Taken) (ws' : List ℕ) : Type 0 where
  pub state : state_of r.sampler ws' ≡ fed_all (state_of s ws) pieces
  pub refused : r.refused ≡ refused_in (answers_from (state_of s ws) pieces)
