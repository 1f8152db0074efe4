-- The set lanes of words, counted word by word.
use mathlib.Core.Path.{◌≡◌, refl, sym, ap, ◌∙◌}
use Prim.Native.Nat.{ℕ, zero, suc, ◌+◌, ◌*◌, ◌/◌, ◌%◌, ◌^◌, ◌≤◌, ◌<◌}
use native.Mathlib.Omega.{arith}
use native.Mathlib.Nat.{mod-eq_of_lt, le_refl}
use mathlib.Core.List.{List}
use lib.Bits.{bit_and, bit_xor, and_lt, xor_lt}
use lib.Count.{ones}
use lib.ListN.{get_or}
use Rattle.counting.specs.Block.{bit_at}
use Rattle.counting.specs.Sample.{sum_to}
use Rattle.counting.specs.Tally.{lane_of, word_with}
use Rattle.counting.proofs.Counts.{sum_ext, sum_more, ones_lanes}

-- a word with a row's, as the code has it
pub anded_word : (word : ℕ → ℕ) (row : List ℕ) (flip t x y : ℕ) → x ≡ word t → y ≡ bit_and x (bit_xor (get_or row t 0) flip) → y ≡ word_with word row flip t
unfolding word_with
anded_word word row flip t x y ex ey = ey ∙ ap (λ (w : ℕ). bit_and w (bit_xor (get_or row t 0) flip)) ex

-- it is one of 64 bits where both are
pub with_small : (word : ℕ → ℕ) (row : List ℕ) (flip : ℕ) → ((t : ℕ) → word t < 2 ^ 64) → ((t : ℕ) → get_or row t 0 < 2 ^ 64) → flip < 2 ^ 64
    → (t : ℕ) → word_with word row flip t < 2 ^ 64
unfolding word_with
with_small word row flip words rows small t =
    and_lt 64 (word t) (bit_xor (get_or row t 0) flip) (words t) (xor_lt 64 (get_or row t 0) flip (rows t) small)

-- lane l of word m
lane_in : (word : ℕ → ℕ) (m l : ℕ) → l < 64 → lane_of word (64 * m + l) ≡ bit_at (word m) l
unfolding lane_of
lane_in word m l h =
    let q : (64 * m + l) / 64 ≡ m = omega arith in
    let r : (64 * m + l) % 64 ≡ l = omega arith in
    rw (q, r)

-- the first r lanes of word m
lanes_more : (word : ℕ → ℕ) (m r : ℕ) → r ≤ 64 → sum_to (lane_of word) (64 * m + r) ≡ sum_to (lane_of word) (64 * m) + ones (word m % 2 ^ r)
lanes_more word m r h =
    sum_more (lane_of word) (64 * m) r
    ∙ ap (λ (x : ℕ). sum_to (lane_of word) (64 * m) + x) (sum_ext (λ i. lane_of word (64 * m + i)) (bit_at (word m)) r at_lane ∙ sym (ones_lanes (word m) r))
  where
    at_lane : (l : ℕ) → l < r → lane_of word (64 * m + l) ≡ bit_at (word m) l
    at_lane l p = lane_in word m l (omega arith)

-- whole words
lanes_words : (word : ℕ → ℕ) → ((t : ℕ) → word t < 2 ^ 64) → (m : ℕ) → sum_to (lane_of word) (64 * m) ≡ sum_to (λ t. ones (word t)) m
unfolding sum_to
lanes_words word small zero = refl
lanes_words word small (suc m) =
    let e : 64 * suc m ≡ 64 * m + 64 = omega arith in
    ap (sum_to (lane_of word)) e
    ∙ omega (arith, lanes_more word m 64 (le_refl 64), ap ones (mod-eq_of_lt (small m)), lanes_words word small m)

-- n lanes: whole words, and the n % 64 first lanes of one more
pub lanes_part : (word : ℕ → ℕ) → ((t : ℕ) → word t < 2 ^ 64) → (n : ℕ)
    → sum_to (lane_of word) n ≡ sum_to (λ t. ones (word t)) (n / 64) + ones (word (n / 64) % 2 ^ (n % 64))
lanes_part word small n =
    let e : n ≡ 64 * (n / 64) + n % 64 = omega arith in
    ap (sum_to (lane_of word)) e
    ∙ omega (arith, lanes_more word (n / 64) (n % 64) (omega arith), lanes_words word small (n / 64))

pub lanes_whole : (word : ℕ → ℕ) → ((t : ℕ) → word t < 2 ^ 64) → (n : ℕ) → n % 64 ≤ 0 → sum_to (lane_of word) n ≡ sum_to (λ t. ones (word t)) (n / 64)
lanes_whole word small n h =
    let e : n ≡ 64 * (n / 64) = omega arith in
    ap (sum_to (lane_of word)) e ∙ lanes_words word small (n / 64)
