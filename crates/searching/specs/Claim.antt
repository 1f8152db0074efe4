-- The claim over a whole list of feeds from a fresh sampler, or from one that was carried over, refused and empty ones among them, with the searches after it.
use Rattle.std.specs.Prelude.{◌≡◌, ◌⊎◌, ℕ, ◌-◌, ◌^◌, ◌≤◌, ◌<◌, Bool, true, List, [], ◌∷◌, ◌++◌, T, length, take}
use Rattle.std.specs.Float.Ieee.{lt}
use Rattle.counting.specs.Block.{valid_size}
use Rattle.counting.specs.Recording.{blocks_in, recorded_bit}
use Rattle.counting.specs.Sample.{onward, counts_of}
use Rattle.sampling.specs.Boards.{Feed, recording, refusals_of}
use Rattle.sampling.specs.Carrying.{Carried, carried_of, carried_words}
use Rattle.sampling.specs.Earlier.{earlier_recording, earlier_started, earlier_after, earlier_answers}
use Rattle.sampling.specs.Feeding.{Fed, fed_of, fed_words}
use Rattle.sampling.specs.Recorded.{Bytes}
use Rattle.sampling.specs.Sampler.{Started, started_of, started_words}
use Rattle.sampling.specs.declared.sampler.Sampler.{Sampler}
use Rattle.ranking.specs.Order.{order_of}
use Rattle.ranking.specs.Ranking.{score_of}
use Rattle.layers.specs.Store.{store_suffices}
use Rattle.subsets.specs.Subsets.{Subset, lex_lt, padded}
use Rattle.searching.specs.Finding.{Searched, z_of}
use Rattle.searching.specs.Search.{store_after, BottomupSearch}
use Rattle.searching.specs.declared.finding.Finding.{Finding}

-- An acquisition: how a recording of blocks of B bits, in a bit order, came into the words ws. It begins with a start that is not refused; or, under the earlier
-- rule, with a start and the pieces `old`, and a carry-over. Feeds follow, each given the sampler last returned and the words as they are then. It has what each
-- feed answered, the sampler last returned and the words. Only the promises of `start`, `carry_over` and `feed` are used, and what the earlier rule promised.
pub data Acquisition (B : ℕ) (low : Bool) (ws : List ℕ) : List (List ℕ) → List Feed → List ℕ → Sampler → List ℕ → Type 0 where
  fresh : (r : Started) (ws' : List ℕ) → r ≡ started_of B low (length ws) → ws' ≡ started_words B ws → r.refusal ≡ 0 → Acquisition B low ws [] [] [] r.sampler ws'
  carried : (old : List (List ℕ)) → valid_size B ≡ true → Bytes (earlier_recording B (length ws) old) → (r : Carried) (ws' : List ℕ)
      → r ≡ carried_of (earlier_after B low ws old).sampler (earlier_after B low ws old).words
      → ws' ≡ carried_words (earlier_after B low ws old).sampler (earlier_after B low ws old).words
      → Acquisition B low ws old [] (earlier_answers (earlier_started B low ws) old) r.sampler ws'
  next : {old : List (List ℕ)} {feeds : List Feed} {answers : List ℕ} {s : Sampler} {ws' : List ℕ} → Acquisition B low ws old feeds answers s ws'
      → (f : Feed) (r : Fed) (ws'' : List ℕ) → r ≡ fed_of s (length ws') f.board f.piece → ws'' ≡ fed_words s.head s.unfinished ws' f.board f.piece
      → Acquisition B low ws old (feeds ++ (f ∷ [])) (answers ++ (r.refusal ∷ [])) r.sampler ws''

-- The finding f, with the counts and the order left in the buffers, is the best of width k in the sample of n blocks of B bits, in
-- the bit order.
pub record Best (low : Bool) (bit : ℕ → ℕ → ℕ) (n B k : ℕ) (f : Finding) (bins order : List ℕ) : Type 0 where
  pub block : f.block_size ≡ B
  pub width : f.width ≡ k
  pub bit_order : f.low_first ≡ low
  -- the chosen bits, with zeros past them
  pub chosen : Subset B k (take k f.bits)
  pub zeros : f.bits ≡ padded (take k f.bits)
  -- the counts are those made block by block over the sample
  pub counted : take (2 ^ k) bins ≡ counts_of bit n (take k f.bits)
  -- division, z and order are the rule's for these counts
  pub division : f.division ≡ (score_of n k (take (2 ^ k) bins)).division
  pub z : f.z ≡ (score_of n k (take (2 ^ k) bins)).z
  pub ordered : take (2 ^ k) order ≡ order_of (take (2 ^ k) bins)
  -- every other k-subset, scored in the same way, has a smaller z, or an equal z and lexicographically larger bits
  pub beats : (t : List ℕ) → Subset B k t
      → (t ≡ take k f.bits) ⊎ (T (lt (z_of bit n t) f.z) ⊎ ((z_of bit n t ≡ f.z) × T (lex_lt (take k f.bits) t)))

-- .. in the blocks from `first` to before `end` of the recording in this bit order whose blocks are `held`, one behind the other.
abbrev pub BestIn : ℕ → Bool → List ℕ → ℕ → ℕ → ℕ → Finding → List ℕ → List ℕ → Type 0
BestIn B low held first end k = Best low (onward first (recorded_bit B low held)) (end - first) B k

-- .. in all its blocks.
abbrev pub BestOf : ℕ → Bool → List ℕ → ℕ → Finding → List ℕ → List ℕ → Type 0
BestOf B low held k = Best low (recorded_bit B low held) (blocks_in B held) B k

-- width and buffers suffice for a search
abbrev pub SearchRoom : ℕ → ℕ → List ℕ → List ℕ → Type 0
SearchRoom B k bins order = (1 ≤ k) × (k ≤ 20) × (k ≤ B) × (2 ^ k ≤ length bins) × (2 ^ k ≤ length order)

-- the store then holds, where it suffices, the all-set counts of the recording's blocks from `first` to before `end`, and past them what was there; else it is as lent
abbrev pub StoredIn : ℕ → Bool → List ℕ → ℕ → ℕ → ℕ → List ℕ → List ℕ → Type 0
StoredIn B low held first end k store store' =
    store' ≡ store_after 0 (store_suffices B k (length store)) (onward first (recorded_bit B low held)) (end - first) B k store

-- What holds of a search after an acquisition, whatever store it is lent: it is refused with 18 where the recording has not the blocks of the
-- stretch, it succeeds where it has and there is room, and where it succeeds it has found the best of these blocks, and left the store as above.
pub record SearchClaim (B : ℕ) (low : Bool) (held : List ℕ) (first end k : ℕ) (store bins order : List ℕ) (r : Searched) (store' bins' order' : List ℕ) : Type 0 where
  pub outside : (end < first) ⊎ (blocks_in B held < end) → r.refusal ≡ 18
  pub succeeds : first ≤ end → end ≤ blocks_in B held → SearchRoom B k bins order → r.refusal ≡ 0
  pub best : r.refusal ≡ 0 → BestIn B low held first end k r.finding bins' order'
  pub stored : r.refusal ≡ 0 → StoredIn B low held first end k store store'

-- Two searches found the same, and left the same counts and order.
pub record Same (k : ℕ) (r : Searched) (bins order : List ℕ) (r' : Searched) (bins' order' : List ℕ) : Type 0 where
  pub findings : r.finding ≡ r'.finding
  pub counts : take (2 ^ k) bins ≡ take (2 ^ k) bins'
  pub orders : take (2 ^ k) order ≡ take (2 ^ k) order'

-- What holds after an acquisition: a feed was refused just where the plain recording refuses it, each search of a stretch finds the best of its blocks, and
-- two that succeed, with whatever stores and buffers, find the same.
pub record Claim (B : ℕ) (low : Bool) (ws : List ℕ) (old : List (List ℕ)) (feeds : List Feed) (answers : List ℕ) (s : Sampler) (ws' : List ℕ) : Type 0 where
  pub fed : answers ≡ refusals_of B (length ws) old feeds
  pub search :
      (first end k : ℕ) (store bins order : List ℕ) (r : Searched) (store' bins' order' : List ℕ)
      → BottomupSearch s.head ws' first end k store bins order r store' bins' order'
      → SearchClaim B low (recording B (length ws) old feeds) first end k store bins order r store' bins' order'
  pub same :
      (first end k : ℕ) (store bins order : List ℕ) (r : Searched) (store' bins' order' : List ℕ)
      → BottomupSearch s.head ws' first end k store bins order r store' bins' order'
      → (store₂ bins₂ order₂ : List ℕ) (r₂ : Searched) (store₂' bins₂' order₂' : List ℕ)
      → BottomupSearch s.head ws' first end k store₂ bins₂ order₂ r₂ store₂' bins₂' order₂'
      → r.refusal ≡ 0 → r₂.refusal ≡ 0 → Same k r bins' order' r₂ bins₂' order₂'

-- Theorem: that holds after every acquisition.
abbrev pub Claims : Type 0
Claims =
    (B : ℕ) (low : Bool) (ws : List ℕ) (old : List (List ℕ)) (feeds : List Feed) (answers : List ℕ) (s : Sampler) (ws' : List ℕ)
    → Acquisition B low ws old feeds answers s ws' → Claim B low ws old feeds answers s ws'
