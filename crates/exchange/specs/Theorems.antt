-- What the two calls promise together.
use Rattle.std.specs.Prelude.{◌≡◌, Bool, List, ℕ, ◌^◌, ◌≤◌, length, take}
use Rattle.std.proofs.Math.Option.{some}
use Rattle.sampling.specs.Boards.{Feed}
use Rattle.sampling.specs.declared.sampler.Sampler.{Sampler}
use Rattle.subsets.specs.Subsets.{padded}
use Rattle.ranking.specs.Ranking.{zero_score}
use Rattle.searching.specs.Claim.{Acquisition}
use Rattle.searching.specs.Search.{BottomupSearch}
use Rattle.searching.specs.Finding.{Searched}
use Rattle.searching.specs.declared.finding.Finding.{Finding}
use Rattle.judging.specs.Check.{chosen, check_refusal}
use Rattle.exchange.specs.Grammar.{Exchanged, Text}
use Rattle.exchange.specs.Reader.{read_text}
use Rattle.exchange.specs.Exchange.{begun, Written, Writes, Reading, Reads}
use Rattle.exchange.specs.Length.{longest_text}

-- Theorem: what is read of a text is what the grammar says of it, and the grammar says one thing at most.
pub record ReaderAgrees : Type 0 where
  pub sound : (s : List ℕ) (e : Exchanged) → read_text s ≡ some e → Text s e
  pub complete : (s : List ℕ) (e : Exchanged) → Text s e → read_text s ≡ some e
  pub one : (s : List ℕ) (e e' : Exchanged) → Text s e → Text s e' → e ≡ e'

-- f without its score, and with zeros in the bit entries past its width
abbrev pub bare : Finding → Finding
bare f = record { block_size = f.block_size; width = f.width; bits = padded (chosen f); division = f.division; z = zero_score; low_first = f.low_first }

-- Theorem: what was written is read back, where the reader's buffers have room.
abbrev pub RoundTrip : Type 0
RoundTrip =
    (f : Finding) (order scratch out : List ℕ) (w : Written) (scratch' out' : List ℕ)
    → length f.bits ≡ 20 → Writes f order scratch out w scratch' out' → w.refusal ≡ 0
    → (order₂ scratch₂ : List ℕ) (r : Reading) (order₂' scratch₂' : List ℕ) → Reads (take w.length out') order₂ scratch₂ r order₂' scratch₂'
    → length order ≤ length order₂ → 2 ^ f.width ≤ length scratch₂
    → (r ≡ record { refusal = 0; finding = bare f }) × (order₂' ≡ begun order order₂)

-- Theorem: what the check accepts is written, where the longest text of its width has room.
abbrev pub AcceptedWritten : Type 0
AcceptedWritten =
    (f : Finding) (order scratch out : List ℕ) (w : Written) (scratch' out' : List ℕ)
    → length f.bits ≡ 20 → Writes f order scratch out w scratch' out'
    → check_refusal f order (length scratch) ≡ 0 → longest_text f.width ≤ length out → w.refusal ≡ 0

-- f without its score
abbrev pub scoreless : Finding → Finding
scoreless f = record { block_size = f.block_size; width = f.width; bits = f.bits; division = f.division; z = zero_score; low_first = f.low_first }

-- A finding of width k and its order are accepted, so written, and read back the same but for the score, wherever the buffers have room.
pub record Passes (k : ℕ) (f : Finding) (order : List ℕ) : Type 0 where
  pub accepted : (scratch : ℕ) → 2 ^ k ≤ scratch → check_refusal f order scratch ≡ 0
  pub written :
      (scratch out : List ℕ) (w : Written) (scratch' out' : List ℕ) → Writes f order scratch out w scratch' out'
      → 2 ^ k ≤ length scratch → longest_text k ≤ length out → w.refusal ≡ 0
  pub back :
      (scratch out : List ℕ) (w : Written) (scratch' out' : List ℕ) → Writes f order scratch out w scratch' out' → w.refusal ≡ 0
      → (order₂ scratch₂ : List ℕ) (r : Reading) (order₂' scratch₂' : List ℕ) → Reads (take w.length out') order₂ scratch₂ r order₂' scratch₂'
      → 2 ^ k ≤ length order₂ → 2 ^ k ≤ length scratch₂
      → (r ≡ record { refusal = 0; finding = scoreless f }) × (take (2 ^ k) order₂' ≡ order)

-- Theorem: that holds of what a search leaves after an acquisition, where the search is not refused.
abbrev pub SearchesExchange : Type 0
SearchesExchange =
    (B : ℕ) (low : Bool) (ws : List ℕ) (old : List (List ℕ)) (feeds : List Feed) (answers : List ℕ) (s : Sampler) (ws' : List ℕ) → Acquisition B low ws old feeds answers s ws'
    → (first end k : ℕ) (store bins order : List ℕ) (r : Searched) (store' bins' order' : List ℕ)
    → BottomupSearch s.head ws' first end k store bins order r store' bins' order' → r.refusal ≡ 0 → Passes k r.finding (take (2 ^ k) order')
