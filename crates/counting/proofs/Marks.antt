-- Marks of blocks, a lane for each: a row, flipped or not, is ANDed in, and marks that are in a bin are counted.
use mathlib.Core.Path.{◌≡◌, refl, sym, ap, ap₂, ◌∙◌}
use mathlib.Core.List.{List, [], ◌∷◌, ◌++◌}
use Prim.Native.Nat.{ℕ, zero, suc, ◌+◌, ◌-◌, ◌*◌, ◌/◌, ◌%◌, ◌^◌, ◌≤◌, ◌<◌, min}
use native.Mathlib.Omega.{arith}
use native.Mathlib.Decide.{dec_lt}
use native.Mathlib.Nat.{one-mul, add_assoc, add-zero, pow-suc}
use native.Mathlib.Numerals.{add-one}
use lib.Bits.{bit_and, bit_xor, differ}
use lib.Dec.{lit<}
use lib.ListN.{length, get_or, take, drop, set, length-append}
use lib.Pow.{pow_pos, shl_exact}
use lib.Seq.{take-suc, take_all, get_or-take, get_or-drop, get_or-set_same, get_or-set_other}
use borrow.Author.Count.{below_more}
use Rattle.counting.specs.Block.{bit_at, bin_of}
use Rattle.counting.specs.Sample.{same, sum_to}
use Rattle.counting.specs.Tally.{lane_of, word_at, word_with}
use Rattle.counting.specs.Words.{stored_bit}
use Rattle.counting.specs.Rows.{Marks, Paired, marked_in}
use Rattle.counting.proofs.Lanes.{bit_lt, bit_zero, bit_of_and, bit_of_xor, bit_ones}
use Rattle.counting.proofs.Counts.{same_step, bin_lt, bin_snoc, sum_ext}

-- `1 << m`, as the code has it, at a width of w bits
pub shifted_one : (w m : ℕ) → m < w → 1 * 2 ^ m % 2 ^ w ≡ 2 ^ m
shifted_one w m h = shl_exact 1 m w (lit< tt) (omega arith) ∙ one-mul (2 ^ m)

-- every stored bit is 0 or 1
pub stored_lt : (S : ℕ) (words : List ℕ) (e b : ℕ) → stored_bit S words e b < 2
unfolding stored_bit
stored_lt S words e b = bit_lt (get_or words (b * S + e / 64) 0) (e % 64)

-- ---- the bits of a flipped row

flip_bit : (y l : ℕ) → y < 2 → l < 64 → bit_at ((1 - y) * (2 ^ 64 - 1)) l ≡ 1 - y
flip_bit zero l hy hl = bit_ones 64 l hl
flip_bit (suc zero) l hy hl = bit_zero l
flip_bit (suc (suc y)) l hy hl = absurd (omega arith)

differ_same : (x y : ℕ) → x < 2 → y < 2 → differ x (1 - y) ≡ same x y
differ_same zero zero hx hy = refl
differ_same zero (suc zero) hx hy = refl
differ_same zero (suc (suc y)) hx hy = absurd (omega arith)
differ_same (suc zero) zero hx hy = refl
differ_same (suc zero) (suc zero) hx hy = refl
differ_same (suc zero) (suc (suc y)) hx hy = absurd (omega arith)
differ_same (suc (suc x)) y hx hy = absurd (omega arith)

-- a row's bit, flipped where y is 0, says whether it is y
flipped : (w y l : ℕ) → y < 2 → l < 64 → bit_at (bit_xor w ((1 - y) * (2 ^ 64 - 1))) l ≡ same (bit_at w l) y
flipped w y l hy h =
    bit_of_xor w ((1 - y) * (2 ^ 64 - 1)) l ∙ ap (differ (bit_at w l)) (flip_bit y l hy h)
    ∙ differ_same (bit_at w l) y (bit_lt w l) hy

same_one : (x : ℕ) → x < 2 → same x 1 ≡ x
same_one zero h = refl
same_one (suc zero) h = refl
same_one (suc (suc x)) h = absurd (omega arith)

-- ---- the lanes of a row

-- m words from place `at` on
abbrev pub part_at : List ℕ → ℕ → ℕ → List ℕ
part_at words at m = take m (drop at words)

module _ (words : List ℕ) (S start b at m : ℕ) (here : at ≡ b * S + start) where
  -- as far as the chunk goes the row's lanes are the stored bits
  row_lane : (e : ℕ) → e / 64 < m → lane_of (word_at (part_at words at m)) e ≡ stored_bit S words (64 * start + e) b
  unfolding stored_bit lane_of
  row_lane e h =
      let q : (64 * start + e) / 64 ≡ start + e / 64 = omega arith in
      let r : (64 * start + e) % 64 ≡ e % 64 = omega arith in
      rw (q, r)
      (ap (λ (x : ℕ). bit_at x (e % 64))
      (get_or-take m (drop at words) (e / 64) 0 h ∙ get_or-drop at words (e / 64) 0
      ∙ ap (λ (k : ℕ). get_or words (k + e / 64) 0) here ∙ ap (λ (k : ℕ). get_or words k 0) (add_assoc (b * S) start (e / 64))))

  -- the row ANDed in, flipped where y is 0
  pub with_row : (word : ℕ → ℕ) (flip y e : ℕ) → e / 64 < m → y < 2 → flip ≡ (1 - y) * (2 ^ 64 - 1)
      → lane_of (word_with word (part_at words at m) flip) e ≡ min (lane_of word e) (same (stored_bit S words (64 * start + e) b) y)
  unfolding lane_of word_with
  with_row word flip y e h hy ef =
      let l = e % 64 in
      let x = word (e / 64) in
      let w = get_or (part_at words at m) (e / 64) 0 in
      let hl : l < 64 = omega arith in
      ap (λ (f : ℕ). bit_at (bit_and x (bit_xor w f)) l) ef ∙ bit_of_and x (bit_xor w ((1 - y) * (2 ^ 64 - 1))) l
      ∙ ap (min (bit_at x l)) (flipped w y l hy hl ∙ ap (λ (z : ℕ). same z y) (row_lane e h))

  -- and as it is
  pub and_lane : (word word' : ℕ → ℕ) (e : ℕ) → e / 64 < m
      → word' (e / 64) ≡ bit_and (word (e / 64)) (get_or (part_at words at m) (e / 64) 0)
      → lane_of word' e ≡ min (lane_of word e) (same (stored_bit S words (64 * start + e) b) 1)
  unfolding lane_of
  and_lane word word' e h step =
      let l = e % 64 in
      let x = word (e / 64) in
      let w = get_or (part_at words at m) (e / 64) 0 in
      ap (λ (z : ℕ). bit_at z l) step ∙ bit_of_and x w l
      ∙ ap (min (bit_at x l)) (row_lane e h ∙ sym (same_one (stored_bit S words (64 * start + e) b) (stored_lt S words (64 * start + e) b)))

-- ---- blocks that have all bits set

-- one bit more
all_more : (f : ℕ → ℕ) → ((b : ℕ) → f b < 2) → (bs : List ℕ) (b : ℕ)
    → min (same (bin_of f bs) (2 ^ length bs - 1)) (same (f b) 1) ≡ same (bin_of f (bs ++ (b ∷ []))) (2 ^ length (bs ++ (b ∷ [])) - 1)
all_more f low bs b =
    let k = length bs in
    let below : 2 ^ k - 1 < 2 ^ k = omega (arith, pow_pos k) in
    let top : 2 ^ length (bs ++ (b ∷ [])) - 1 ≡ 1 * 2 ^ k + (2 ^ k - 1) =
    ap (λ (j : ℕ). 2 ^ j - 1) (length-append bs (b ∷ []) ∙ add-one k) ∙ rw pow-suc (omega (arith, pow_pos k)) in
    sym (same_step k (f b) 1 (bin_of f bs) (2 ^ k - 1) (bin_lt f low bs) below)
    ∙ sym (ap₂ same (bin_snoc f bs b) top)

-- no bit yet: as it was
pub marks_none : (acc : List ℕ) (bit : ℕ → ℕ → ℕ) (n : ℕ) → Marks (lane_of (word_at acc)) acc bit [] n
unfolding lane_of bin_of
marks_none acc bit n e h = omega (arith, bit_lt (get_or acc (e / 64) 0) (e % 64))

-- two bits more, or the last twice, whose rows were ANDed in
module _ (lane : ℕ → ℕ) (acc acc' : List ℕ) (bit : ℕ → ℕ → ℕ) (low : (e b : ℕ) → bit e b < 2) (bits : List ℕ) (n : ℕ) where
  -- whether block e has the first i bits set
  abbrev all_of : ℕ → ℕ → ℕ
  all_of i e = same (bin_of (bit e) (take i bits)) (2 ^ length (take i bits) - 1)

  one_more : (i e : ℕ) → i < length bits → min (all_of i e) (same (bit e (get_or bits i 0)) 1) ≡ all_of (i + 1) e
  one_more i e h =
      all_more (bit e) (low e) (take i bits) (get_or bits i 0)
      ∙ ap (λ (l : List ℕ). same (bin_of (bit e) l) (2 ^ length l - 1)) (sym (ap (λ (j : ℕ). take j bits) (add-one i) ∙ take-suc bits i 0 h))

  -- marks of which those with bit i were left, and then those with bit j
  pub marks_two : (i j : ℕ) → i < length bits → Paired i (length bits) j
      → ((e : ℕ) → e < n → lane_of (word_at acc') e ≡ min (min (lane_of (word_at acc) e) (same (bit e (get_or bits i 0)) 1)) (same (bit e (get_or bits j 0)) 1))
      → Marks lane acc bit (take i bits) n → Marks lane acc' bit (take (i + 2) bits) n
  marks_two i j hi (next, last) step old e h = by_side (dec_lt (i + 1) (length bits))
    where
      by_side : Dec (i + 1 < length bits) → lane_of (word_at acc') e ≡ min (lane e) (all_of (i + 2) e)
      by_side (yes below) =
          let two : i + 1 + 1 ≡ i + 2 = omega arith in
          let second : min (all_of (i + 1) e) (same (bit e (get_or bits j 0)) 1) ≡ all_of (i + 2) e =
          ap (λ (b : ℕ). min (all_of (i + 1) e) (same (bit e (get_or bits b 0)) 1)) (next below) ∙ one_more (i + 1) e below ∙ ap (λ (b : ℕ). all_of b e) two in
          omega (arith, step e h, old e h, one_more i e hi, second)
      by_side (no above) =
          let ends : length bits ≤ i + 1 = omega arith in
          let whole : take (i + 1) bits ≡ take (i + 2) bits = take_all (i + 1) bits ends ∙ sym (take_all (i + 2) bits (omega arith)) in
          let again : all_of (i + 1) e ≡ all_of (i + 2) e = ap (λ (l : List ℕ). same (bin_of (bit e) l) (2 ^ length l - 1)) whole in
          let twice : same (bit e (get_or bits j 0)) 1 ≡ same (bit e (get_or bits i 0)) 1 = ap (λ (b : ℕ). same (bit e (get_or bits b 0)) 1) (last ends) in
          omega (arith, step e h, old e h, one_more i e hi, again, twice)

-- ---- marked blocks in a bin

-- marks that are left count in the bin of one bit what they were counts in the bin of all
pub marked_all : (lane : ℕ → ℕ) (acc : List ℕ) (bit : ℕ → ℕ → ℕ) → ((e b : ℕ) → bit e b < 2) → (bits : List ℕ) (b n : ℕ) → Marks lane acc bit bits n
    → marked_in (lane_of (word_at acc)) bit (b ∷ []) n 1 ≡ marked_in lane bit (bits ++ (b ∷ [])) n (2 ^ length (bits ++ (b ∷ [])) - 1)
unfolding marked_in bin_of
marked_all lane acc bit low bits b n marked =
    let all = bits ++ (b ∷ []) in
    sum_ext (λ e. min (lane_of (word_at acc) e) (same (bit e b + 0) 1)) (λ e. min (lane e) (same (bin_of (bit e) all) (2 ^ length all - 1))) n
    (λ e h. omega (arith, marked e h, all_more (bit e) (low e) bits b, ap (λ (y : ℕ). same y 1) (add-zero (bit e b))))

-- the bins of one bit
pub marked_one : (lane lane' : ℕ → ℕ) (bit : ℕ → ℕ → ℕ) (b n y : ℕ) → ((e : ℕ) → e < n → lane' e ≡ min (lane e) (same (bit e b) y))
    → sum_to lane' n ≡ marked_in lane bit (b ∷ []) n y
unfolding marked_in bin_of
marked_one lane lane' bit b n y step =
    sum_ext lane' (λ e. min (lane e) (same (bit e b + 0) y)) n (λ e h. step e h ∙ ap (λ (x : ℕ). min (lane e) (same x y)) (sym (add-zero (bit e b))))

-- the last bit is y where the marks that are left say so
pub marked_last : (lane lane' : ℕ → ℕ) (bit : ℕ → ℕ → ℕ) → ((e b : ℕ) → bit e b < 2) → (init : List ℕ) (b n y v : ℕ) → v < 2 ^ length init
    → ((e : ℕ) → e < n → lane' e ≡ min (lane e) (same (bit e b) y))
    → marked_in lane' bit init n v ≡ marked_in lane bit (init ++ (b ∷ [])) n (y * 2 ^ length init + v)
unfolding marked_in
marked_last lane lane' bit low init b n y v hv step =
    sum_ext (λ e. min (lane' e) (same (bin_of (bit e) init) v)) (λ e. min (lane e) (same (bin_of (bit e) (init ++ (b ∷ []))) (y * 2 ^ length init + v))) n by_bit
  where
    by_bit : (e : ℕ) → e < n → min (lane' e) (same (bin_of (bit e) init) v) ≡ min (lane e) (same (bin_of (bit e) (init ++ (b ∷ []))) (y * 2 ^ length init + v))
    by_bit e h =
        let k = length init in
        let whole : same (bin_of (bit e) (init ++ (b ∷ []))) (y * 2 ^ k + v) ≡ min (same (bin_of (bit e) init) v) (same (bit e b) y) =
        ap (λ (x : ℕ). same x (y * 2 ^ k + v)) (bin_snoc (bit e) init b) ∙ same_step k (bit e b) y (bin_of (bit e) init) v (bin_lt (bit e) (low e) init) hv in
        omega (arith, step e h, whole)

-- ---- a loop that stores f t at each index t of a list in turn

abbrev pub Stored : (ℕ → ℕ) → List ℕ → ℕ → List ℕ → Type 0
Stored f d₀ t d = ((u : ℕ) → u < t → get_or d u 0 ≡ f u) × ((u : ℕ) → t ≤ u → get_or d u 0 ≡ get_or d₀ u 0)

pub stored_none : (f : ℕ → ℕ) (d : List ℕ) → Stored f d 0 d
stored_none f d = (λ u h. absurd (omega arith), λ u h. refl)

pub stored_more : (f : ℕ → ℕ) (d₀ : List ℕ) (t : ℕ) (d : List ℕ) (x : ℕ) → t < length d → x ≡ f t → Stored f d₀ t d → Stored f d₀ (t + 1) (set d t x)
stored_more f d₀ t d x h e (done, rest) = (
  below_more (λ u. get_or (set d t x) u 0 ≡ f u) t
      (λ u l. get_or-set_other d t u x 0 (omega arith) ∙ done u l)
      (get_or-set_same d t x 0 h ∙ e),
  λ u l. get_or-set_other d t u x 0 (omega arith) ∙ rest u (omega arith),
)
