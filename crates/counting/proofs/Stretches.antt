-- A stretch, chunk by chunk: what the marked lanes of a chunk count, and the blocks of the chunks passed.
use mathlib.Core.Path.{◌≡◌, sym, ap, ◌∙◌}
use mathlib.Core.Bool.{Bool, cond}
use mathlib.Core.List.{List}
use Prim.Native.Nat.{ℕ, ◌+◌, ◌-◌, ◌*◌, ◌/◌, ◌%◌, ◌^◌, ◌≤◌, ◌<◌, min}
use native.Mathlib.Omega.{arith}
use native.Mathlib.Decide.{dec_lt}
use lib.ListN.{length, get_or, set, replicate, get_or-replicate}
use lib.Pow.{shl_exact, shr_lt, ones_lt}
use lib.Seq.{get_or-set_same, get_or-set_other}
use borrow.Author.Tests.{le-leb, lt-leb}
use Rattle.counting.specs.Block.{bit_at, bin_of}
use Rattle.counting.specs.Sample.{onward, same, count_in, sum_to}
use Rattle.counting.specs.Chunk.{chunk_at, chunk_bit, chunk_blocks, ChunkIn}
use Rattle.counting.specs.Stretch.{span, stretch_bit, Within}
use Rattle.counting.specs.Rows.{from, CountRoom, marked_in}
use Rattle.counting.specs.Tally.{lane_of, word_at}
use Rattle.counting.specs.Words.{stored_bit}
use Rattle.counting.specs.declared.stretch.Stretch.{Stretch}
use Rattle.counting.proofs.Counts.{same_le, sum_ext, sum_more, sum_zero, count_sum, count_more}
use Rattle.counting.proofs.Lanes.{cleared_below, cleared_above, bit_ones}
use Rattle.counting.proofs.Marks.{stored_lt}

-- every bit of a stretch is 0 or 1
pub stretch_lt : (x : Stretch) (words : List ℕ) (e b : ℕ) → stretch_bit x words e b < 2
unfolding stretch_bit
stretch_lt x words e b = stored_lt x.stride words (x.first + e) b

-- ---- lanes that are marked from one on

pub from_below : (skip e : ℕ) → e < skip → from skip e ≡ 0
from_below skip e h = ap (λ (t : Bool). cond t 1 0) (lt-leb skip e h)

pub from_above : (skip e : ℕ) → skip ≤ e → from skip e ≡ 1
from_above skip e h = ap (λ (t : Bool). cond t 1 0) (le-leb skip e h)

-- a word put in the place of the first
first_lane : (acc : List ℕ) (w e : ℕ) → 0 < length acc → e < 64 → lane_of (word_at (set acc 0 w)) e ≡ bit_at w e
unfolding lane_of
first_lane acc w e room h =
    let q : e / 64 ≡ 0 = omega arith in
    let r : e % 64 ≡ e = omega arith in
    rw (q, r) (ap (λ (y : ℕ). bit_at y e) (get_or-set_same acc 0 w 0 room))

other_lane : (acc : List ℕ) (w e : ℕ) → 64 ≤ e → lane_of (word_at (set acc 0 w)) e ≡ lane_of (word_at acc) e
unfolding lane_of
other_lane acc w e h = ap (λ (y : ℕ). bit_at y (e % 64)) (get_or-set_other acc 0 (e / 64) w 0 (omega arith))

-- the lanes of a list of ones
pub marked_ones : (n e : ℕ) → e / 64 < n → lane_of (word_at (replicate n (2 ^ 64 - 1))) e ≡ from 0 e
unfolding lane_of
marked_ones n e h =
    ap (λ (w : ℕ). bit_at w (e % 64)) (get_or-replicate n (e / 64) (2 ^ 64 - 1) 0 h) ∙ bit_ones 64 (e % 64) (omega arith) ∙ sym (from_above 0 e (omega arith))

-- all marked but for the first `skip`, where the first word has them cleared
pub marked_cut : (acc : List ℕ) (skip w e : ℕ) → 0 < length acc → skip < 64 → w ≡ (2 ^ 64 - 1) / 2 ^ skip * 2 ^ skip % 2 ^ 64
    → lane_of (word_at acc) e ≡ from 0 e → lane_of (word_at (set acc 0 w)) e ≡ from skip e
marked_cut acc skip w e room small is one = by_word (dec_lt e 64)
  where
    ones : ℕ
    ones = 2 ^ 64 - 1

    cut : w ≡ ones / 2 ^ skip * 2 ^ skip
    cut = is ∙ shl_exact (64 - skip) skip 64 (shr_lt (64 - skip) skip (let e : ones < 2 ^ (64 - skip + skip) = let f : 64 - skip + skip ≡ 64 = omega arith in rw f (ones_lt 64) in e)) (omega arith)

    by_skip : e < 64 → Dec (e < skip) → bit_at (ones / 2 ^ skip * 2 ^ skip) e ≡ from skip e
    by_skip h (yes below) = cleared_below ones skip e below ∙ sym (from_below skip e below)
    by_skip h (no above) =
        let le : skip ≤ e = omega arith in
        cleared_above ones skip e le ∙ bit_ones 64 e h ∙ sym (from_above skip e le)

    by_word : Dec (e < 64) → lane_of (word_at (set acc 0 w)) e ≡ from skip e
    by_word (yes h) = first_lane acc w e room h ∙ ap (λ (y : ℕ). bit_at y e) cut ∙ by_skip h (dec_lt e skip)
    by_word (no h) = other_lane acc w e (omega arith) ∙ one ∙ from_above 0 e (omega arith) ∙ sym (from_above skip e (omega arith))

-- and all marked again
pub marked_again : (acc : List ℕ) (skip e : ℕ) → 0 < length acc → skip < 64 → lane_of (word_at acc) e ≡ from skip e
    → lane_of (word_at (set acc 0 (2 ^ 64 - 1))) e ≡ from 0 e
marked_again acc skip e room small was = by_word (dec_lt e 64)
  where
    by_word : Dec (e < 64) → lane_of (word_at (set acc 0 (2 ^ 64 - 1))) e ≡ from 0 e
    by_word (yes h) = first_lane acc (2 ^ 64 - 1) e room h ∙ bit_ones 64 e h ∙ sym (from_above 0 e (omega arith))
    by_word (no h) = other_lane acc (2 ^ 64 - 1) e (omega arith) ∙ was ∙ from_above skip e (omega arith) ∙ sym (from_above 0 e (omega arith))

-- they count the blocks from it on
pub marked_from : (lane : ℕ → ℕ) (bit : ℕ → ℕ → ℕ) (base skip n : ℕ) (bits : List ℕ) (v : ℕ) → skip ≤ n → ((e : ℕ) → e < n → lane e ≡ from skip e)
    → marked_in lane (onward base bit) bits n v ≡ count_in (onward (base + skip) bit) (n - skip) bits v
unfolding marked_in
marked_from lane bit base skip n bits v le marks =
    let f : ℕ → ℕ = λ (e : ℕ). min (lane e) (same (bin_of (bit (base + e)) bits) v) in
    let whole : skip + (n - skip) ≡ n = omega arith in
    let none : sum_to f skip ≡ 0 =
    sum_ext f (λ e. 0) skip (λ e h. omega (arith, marks e (omega arith), from_below skip e h)) ∙ sum_zero skip in
    let rest : sum_to (λ e. f (skip + e)) (n - skip) ≡ count_in (onward (base + skip) bit) (n - skip) bits v =
    sum_ext (λ e. f (skip + e)) (λ e. same (bin_of (bit (base + skip + e)) bits) v) (n - skip) (λ e h.
    let far : base + (skip + e) ≡ base + skip + e = omega arith in
    ap (λ (k : ℕ). min (lane (skip + e)) (same (bin_of (bit k) bits) v)) far
    ∙ omega (arith, marks (skip + e) (omega arith), from_above skip (skip + e) (omega arith), same_le (bin_of (bit (base + skip + e)) bits) v))
    ∙ sym (count_sum (onward (base + skip) bit) (n - skip) bits v) in
    ap (sum_to f) (sym whole) ∙ sum_more f skip (n - skip) ∙ omega (arith, none, rest)

-- ---- the chunk from word m on

-- the blocks of the stretch before word m
abbrev pub span_before : Stretch → ℕ → ℕ
span_before x m = min x.end (64 * m) - x.first

-- blocks from a to before b: those before block w, and of the 32,768 lanes from w on those from a on
span_begun : (a b w : ℕ) → w < b → a + (min b w - a) ≡ w + (a - w)
span_begun a b w h = let e : min b w ≡ w = omega arith in rw e (omega arith)

span_over : (a w l : ℕ) → a - w ≤ l → w + l - a ≡ w - a + (l - (a - w))
span_over a w l h = omega arith

span_more : (a b w : ℕ) → a ≤ b → a < w + 64 → w < b → min b (w + 32768) - a ≡ min b w - a + (min (b - w) 32768 - (a - w))
span_more a b w le near h =
    let e : min b w ≡ w = omega arith in
    let f : min b (w + 32768) ≡ w + min (b - w) 32768 = omega arith in
    let g : a - w ≤ min (b - w) 32768 = omega arith in
    rw (e, f) (span_over a w (min (b - w) 32768) g)

module _ (x : Stretch) (within : Within x) (m : ℕ) (begun : x.first < 64 * m + 64) (before : 64 * m < x.end) where
  pub chunk_in : ChunkIn (chunk_at x m)
  chunk_in = ((omega arith, omega arith, omega arith), omega arith, omega arith)

  -- its blocks come behind those of the chunks before it
  pub chunk_more : (words bits : List ℕ) (v : ℕ)
      → count_in (stretch_bit x words) (span_before x (m + 512)) bits v
      ≡ count_in (stretch_bit x words) (span_before x m) bits v + count_in (chunk_bit (chunk_at x m) words) (chunk_blocks (chunk_at x m)) bits v
  unfolding stretch_bit
  chunk_more words bits v =
      let bit = stored_bit x.stride words in
      let c = chunk_at x m in
      let done = span_before x m in
      let far : 64 * (m + 512) ≡ 64 * m + 32768 = omega arith in
      let sum : span_before x (m + 512) ≡ done + chunk_blocks c = ap (λ (k : ℕ). min x.end k - x.first) far ∙ span_more x.first x.end (64 * m) within.0 begun before in
      ap (λ (k : ℕ). count_in (onward x.first bit) k bits v) sum ∙ count_more (onward x.first bit) done (chunk_blocks c) bits v
      ∙ ap (λ (k : ℕ). count_in (onward x.first bit) done bits v + k)
      (sum_ext (λ e. same (bin_of (bit (x.first + (done + e))) bits) v) (λ e. same (bin_of (chunk_bit c words e) bits) v) (chunk_blocks c) (λ e h.
      let far : x.first + (done + e) ≡ 64 * m + c.skip + e = omega (arith, span_begun x.first x.end (64 * m) before) in
      ap (λ (k : ℕ). same (bin_of (bit k) bits) v) far)
      ∙ sym (count_sum (chunk_bit c words) (chunk_blocks c) bits v))

  -- and fit the counts of those
  pub chunk_room : (counts : List ℕ) → ((v : ℕ) → v < length counts → get_or counts v 0 ≤ span_before x m) → CountRoom (chunk_at x m).lanes counts
  chunk_room counts few v h = omega (arith, few v h)

-- none before the first word, and all before a word behind the last
pub span_none : (x : Stretch) → span_before x (x.first / 64) ≡ 0
span_none x = omega arith

pub span_all : (x : Stretch) (m : ℕ) → x.end ≤ 64 * m → span_before x m ≡ span x
span_all x m h = omega arith
