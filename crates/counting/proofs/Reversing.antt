-- With the low bit first, what is recorded of bytes is what is recorded of the reversed bytes with the high bit first (theorem `reversal`).
use mathlib.Core.Path.{◌≡◌, refl, sym, ap, ◌∙◌}
use mathlib.Core.Bool.{true, false}
use mathlib.Core.List.{List, [], ◌∷◌, ◌++◌}
use Prim.Native.Nat.{ℕ, zero, suc, ◌+◌, ◌-◌, ◌*◌, ◌/◌, ◌%◌, ◌^◌, ◌<◌}
use native.Mathlib.Omega.{arith}
use lib.ListN.{length, get_or, take, drop, get_or-map}
use lib.Pow.{shr-shr}
use Rattle.counting.specs.Block.{bit_at, place_in, block_bit, bin_of}
use Rattle.counting.specs.Recording.{block_bytes, recorded_bit}
use Rattle.counting.specs.Reversed.{reversed, reversed_bytes, Reversal}
use Rattle.counting.proofs.Lanes.{bit_lt}
use Rattle.counting.proofs.Counts.{bin_lt}

-- ---- one byte

-- bit i of a bin is that of the i-th bit chosen
pub bin_bit : (f : ℕ → ℕ) → ((b : ℕ) → f b < 2) → (bs : List ℕ) (i : ℕ) → i < length bs → bit_at (bin_of f bs) i ≡ f (get_or bs i 0)
unfolding bin_of
bin_bit f small [] i h = absurd (omega arith)
bin_bit f small (b ∷ bs) zero h = omega (arith, small b)
bin_bit f small (b ∷ bs) (suc i) h =
    let half : (f b + 2 * bin_of f bs) / 2 ≡ bin_of f bs = omega (arith, small b) in
    let up : suc i ≡ 1 + i = omega arith in
    ap (bit_at (f b + 2 * bin_of f bs)) up
    ∙ ap (λ (n : ℕ). n % 2) (sym (shr-shr (f b + 2 * bin_of f bs) 1 i) ∙ ap (λ (n : ℕ). n / 2 ^ i) half)
    ∙ bin_bit f small bs i (omega arith)

reversed_bit : (x i : ℕ) → i < 8 → bit_at (reversed x) i ≡ bit_at x (7 - i)
unfolding reversed
reversed_bit x i h = bin_bit (bit_at x) (bit_lt x) (7 ∷ 6 ∷ 5 ∷ 4 ∷ 3 ∷ 2 ∷ 1 ∷ 0 ∷ []) i h ∙ ap (bit_at x) (seven_down i h)
  where
    seven_down : (i : ℕ) → i < 8 → get_or (7 ∷ 6 ∷ 5 ∷ 4 ∷ 3 ∷ 2 ∷ 1 ∷ 0 ∷ []) i 0 ≡ 7 - i
    seven_down zero h = refl
    seven_down (suc zero) h = refl
    seven_down (suc (suc zero)) h = refl
    seven_down (suc (suc (suc zero))) h = refl
    seven_down (suc (suc (suc (suc zero)))) h = refl
    seven_down (suc (suc (suc (suc (suc zero))))) h = refl
    seven_down (suc (suc (suc (suc (suc (suc zero)))))) h = refl
    seven_down (suc (suc (suc (suc (suc (suc (suc zero))))))) h = refl
    seven_down (suc (suc (suc (suc (suc (suc (suc (suc i)))))))) h = absurd (omega arith)

reversed_small : (x : ℕ) → reversed x < 256
unfolding reversed
reversed_small x = bin_lt (bit_at x) (bit_lt x) (7 ∷ 6 ∷ 5 ∷ 4 ∷ 3 ∷ 2 ∷ 1 ∷ 0 ∷ [])

pub reversed_zero : reversed 0 ≡ 0
unfolding reversed bin_of
reversed_zero = refl

-- the r-th bit of a byte with the low bit first is that of the reversed byte with the high bit first
pub turned : (x r : ℕ) → r < 8 → bit_at x (place_in true r) ≡ bit_at (reversed x) (place_in false r)
unfolding place_in
turned x r h =
    let back : 7 - (7 - r) ≡ r = omega arith in
    let low : 7 - r < 8 = omega arith in
    sym (reversed_bit x (7 - r) low ∙ ap (bit_at x) back)

-- a byte of the reversed bytes; none is the reversed none
pub byte_at : (bytes : List ℕ) (i : ℕ) → get_or (reversed_bytes bytes) i 0 ≡ reversed (get_or bytes i 0)
byte_at bytes i = ap (λ (d : ℕ). get_or (reversed_bytes bytes) i d) (sym reversed_zero) ∙ get_or-map reversed bytes i 0

-- ---- the plain recording

pub take_reversed : (n : ℕ) (bytes : List ℕ) → take n (reversed_bytes bytes) ≡ reversed_bytes (take n bytes)
take_reversed zero bytes = refl
take_reversed (suc n) [] = refl
take_reversed (suc n) (x ∷ bytes) = ap (λ (l : List ℕ). reversed x ∷ l) (take_reversed n bytes)

pub drop_reversed : (n : ℕ) (bytes : List ℕ) → drop n (reversed_bytes bytes) ≡ reversed_bytes (drop n bytes)
drop_reversed zero bytes = refl
drop_reversed (suc n) [] = refl
drop_reversed (suc n) (x ∷ bytes) = drop_reversed n bytes

pub append_reversed : (a b : List ℕ) → reversed_bytes (a ++ b) ≡ reversed_bytes a ++ reversed_bytes b
append_reversed [] b = refl
append_reversed (x ∷ a) b = ap (λ (l : List ℕ). reversed x ∷ l) (append_reversed a b)

recorded_reversed : (B : ℕ) (held : List ℕ) (e b : ℕ) → recorded_bit B true held e b ≡ recorded_bit B false (reversed_bytes held) e b
unfolding recorded_bit block_bit
recorded_reversed B held e b =
    let block = take (block_bytes B) (drop (e * block_bytes B) held) in
    let same : take (block_bytes B) (drop (e * block_bytes B) (reversed_bytes held)) ≡ reversed_bytes block =
    ap (take (block_bytes B)) (drop_reversed (e * block_bytes B) held) ∙ take_reversed (block_bytes B) (drop (e * block_bytes B) held) in
    let byte : get_or (take (block_bytes B) (drop (e * block_bytes B) (reversed_bytes held))) (b / 8) 0 ≡ reversed (get_or block (b / 8) 0) =
    ap (λ (l : List ℕ). get_or l (b / 8) 0) same ∙ byte_at block (b / 8) in
    let turn : b % 8 < 8 = omega arith in
    turned (get_or block (b / 8) 0) (b % 8) turn ∙ ap (λ (x : ℕ). bit_at x (place_in false (b % 8))) (sym byte)

pub reversal : Reversal
reversal = record {
  bits = reversed_bit;
  byte = reversed_small;
  recorded = recorded_reversed;
}
