-- The theorem: entries, scaled by 2^(k t), against the exact row.
use mathlib.Core.Path.{◌≡◌, refl, sym, ap, ap₂, ◌∙◌}
use mathlib.Core.List.{[], ◌∷◌}
use Prim.Native.Nat.{ℕ, zero, suc, ◌+◌, ◌-◌, ◌*◌, ◌^◌, ◌≤◌, ◌<◌}
use native.Mathlib.Omega.{arith}
use native.Mathlib.Nat.{zero-mul, mul-zero, mul-suc, pow-zero, add-mul, mul-add, mul_assoc, mul_comm, mul_right_comm, mul-le-mul_right, le_of_mul-le-mul_right, le_of_eq, zero-add, sub-zero}
use lib.Pow.{pow-add, pow_pos}
use Rattle.counting.specs.Sample.{sum_to}
use Rattle.counting.proofs.Counts.{sum_ext, sum_more}
use Rattle.chance.specs.Chance.{sum_from, binomial_term, binomial_sum, before, ChancesAddUp}
use Rattle.chance.specs.Entries.{entry, entries_after}
use Rattle.chance.specs.Bracket.{low_of, roundings, high_of, Brackets}
use Rattle.chance.proofs.Rows.{next_below, next_above, next_at, entries_step}
use Rattle.chance.proofs.Summing.{sum_scaled, sum_split, sum_next, sum_above}
use Rattle.chance.proofs.Binomial.{term_past, terms_by_block}

-- ---- one entry of one block

next_low : (x y z q d D P E F : ℕ) → z * D ≤ x * q + y * d → x * P ≤ E → y * P ≤ F → z * (P * D) ≤ E * q + F * d
next_low x y z q d D P E F h hx hy =
    let a : z * (P * D) ≡ z * D * P = ap (λ (w : ℕ). z * w) (mul_comm P D) ∙ sym (mul_assoc z D P) in
    omega (
      arith,
      a,
      mul-le-mul_right P h,
      add-mul (x * q) (y * d) P,
      mul_right_comm x q P,
      mul_right_comm y d P,
      mul-le-mul_right q hx,
      mul-le-mul_right d hy,
    )

-- what is missing of E, the exact value
next_high : (x y z q d D P E F : ℕ) → x * q + y * d ≤ z * D + D → x * P ≤ E → y * P ≤ F
    → E * q + F * d - z * (P * D) ≤ (E - x * P) * q + (F - y * P) * d + P * D
next_high x y z q d D P E F h hx hy =
    let a : z * (P * D) ≡ z * D * P = ap (λ (w : ℕ). z * w) (mul_comm P D) ∙ sym (mul_assoc z D P) in
    let e : x * P + (E - x * P) ≡ E = omega arith in
    let f : y * P + (F - y * P) ≡ F = omega arith in
    let eq : E * q ≡ x * P * q + (E - x * P) * q = ap (λ (w : ℕ). w * q) (sym e) ∙ add-mul (x * P) (E - x * P) q in
    let fd : F * d ≡ y * P * d + (F - y * P) * d = ap (λ (w : ℕ). w * d) (sym f) ∙ add-mul (y * P) (F - y * P) d in
    omega (
      arith,
      a,
      eq,
      fd,
      mul-le-mul_right P h,
      add-mul (x * q) (y * d) P,
      add-mul (z * D) D P,
      mul_comm P D,
      mul_right_comm x q P,
      mul_right_comm y d P,
    )

-- ---- the rows

-- 2^k to the t-th
abbrev scale : ℕ → ℕ → ℕ
scale k t = 2 ^ (k * t)

scale_zero : (k : ℕ) → scale k 0 ≡ 1
scale_zero k = ap (λ (x : ℕ). 2 ^ x) (mul-zero k)

scale_suc : (k t : ℕ) → scale k (suc t) ≡ scale k t * 2 ^ k
scale_suc k t = ap (λ (x : ℕ). 2 ^ x) (mul-suc k t) ∙ pow-add 2 (k * t) k

-- the entry as it is held
abbrev held : ℕ → ℕ → ℕ → ℕ → ℕ
held k d t j = entry (entries_after t k d) j

-- the exact entry, times 2^(k t)
abbrev exact : ℕ → ℕ → ℕ → ℕ → ℕ
exact k d t j = 2 ^ 40 * binomial_term t k d j

-- what is missing
abbrev gap : ℕ → ℕ → ℕ → ℕ → ℕ
gap k d t j = exact k d t j - held k d t j * scale k t

before_scaled : (a : ℕ) (f : ℕ → ℕ) (j : ℕ) → before (λ i. a * f i) j ≡ a * before f j
before_scaled a f zero = sym (mul-zero a)
before_scaled a f (suc j) = refl

spread : (a p r q d : ℕ) → a * (p * q + r * d) ≡ a * p * q + a * r * d
spread a p r q d = mul-add a (p * q) (r * d) ∙ ap₂ ◌+◌ (sym (mul_assoc a p q)) (sym (mul_assoc a r d))

exact_step : (k d t j : ℕ) → exact k d (suc t) j ≡ exact k d t j * (2 ^ k - d) + before (exact k d t) j * d
exact_step k d t j =
    ap (λ (x : ℕ). 2 ^ 40 * x) (terms_by_block t k d j) ∙ spread (2 ^ 40) (binomial_term t k d j) (before (binomial_term t k d) j) (2 ^ k - d) d
    ∙ ap (λ (x : ℕ). exact k d t j * (2 ^ k - d) + x * d) (sym (before_scaled (2 ^ 40) (binomial_term t k d) j))

-- ---- no entry is above the exact one

first_exact : (k d : ℕ) → exact k d 0 0 ≡ 2 ^ 40
first_exact k d = ap₂ (λ (x y : ℕ). 2 ^ 40 * (1 * x * y)) (pow-zero d) (pow-zero (2 ^ k - d))

first_low : (k d j : ℕ) → entry (2 ^ 40 ∷ []) j * scale k 0 ≤ exact k d 0 j
first_low k d zero = rw (scale_zero k, first_exact k d) (omega arith)
first_low k d (suc j) = omega (arith, zero-mul (scale k 0))

before_low : (f g : ℕ → ℕ) (P j : ℕ) → ((i : ℕ) → f i * P ≤ g i) → before f j * P ≤ before g j
before_low f g P zero h = le_of_eq (zero-mul P)
before_low f g P (suc j) h = h j

entry_low : (k d t j : ℕ) → held k d t j * scale k t ≤ exact k d t j
unfolding entries_after
entry_low k d zero j = first_low k d j
entry_low k d (suc t) j =
    rw (scale_suc k t, exact_step k d t j)
    (next_low (held k d t j) (before (held k d t) j) (held k d (suc t) j) (2 ^ k - d) d (2 ^ k) (scale k t) (exact k d t j) (before (exact k d t) j)
    (rw next_at (next_below k d (held k d t j) (before (held k d t) j)))
    (entry_low k d t j)
    (before_low (held k d t) (exact k d t) (scale k t) j (entry_low k d t)))

-- ---- what is missing over all entries

before_gap : (f g : ℕ → ℕ) (P j : ℕ) → before g j - before f j * P ≡ before (λ i. g i - f i * P) j
before_gap f g P zero = omega (arith, zero-mul P)
before_gap f g P (suc j) = refl

gap_step : (k d t j : ℕ) → gap k d (suc t) j ≤ gap k d t j * (2 ^ k - d) + before (gap k d t) j * d + scale k (suc t)
gap_step k d t j =
    rw (← before_gap (held k d t) (exact k d t) (scale k t) j, scale_suc k t, exact_step k d t j)
    (next_high (held k d t j) (before (held k d t) j) (held k d (suc t) j) (2 ^ k - d) d (2 ^ k) (scale k t) (exact k d t j) (before (exact k d t) j)
    (rw entries_step (next_above k d (held k d t j) (before (held k d t) j)))
    (entry_low k d t j)
    (before_low (held k d t) (exact k d t) (scale k t) j (entry_low k d t)))

gap_past : (k d t : ℕ) → gap k d t (suc t) ≡ 0
gap_past k d t = omega (arith, term_past t k d (suc t) (let h : t < suc t = omega arith in h))

gap_first : (k d : ℕ) → gap k d 0 0 ≡ 0
unfolding entries_after
gap_first k d = rw (scale_zero k, first_exact k d)

rounded_more : (t : ℕ) → roundings (suc t) ≡ roundings t + suc (suc t)
unfolding roundings
rounded_more t = let e : suc t * (suc t + 3) ≡ t * (t + 3) + 2 * t + 4 = omega (arith, add-mul t 1 (suc t + 3), mul-add t (t + 3) 1) in omega arith

grown : (G G' z q d D b b' P P' s : ℕ) → G' ≤ G * (q + d) + z * q + s * P' → z ≡ 0 → q + d ≡ D → P' ≡ P * D → G ≤ b * P → b' ≡ b + s → G' ≤ b' * P'
grown G G' z q d D b b' P P' s h hz hD hP hG hb =
    let a : G * (q + d) ≤ b * P * D = rw hD (mul-le-mul_right D hG) in
    let c : b * P * D ≡ b * P' = mul_assoc b P D ∙ ap (λ (x : ℕ). b * x) (sym hP) in
    let e : b' * P' ≡ b * P' + s * P' = ap (λ (x : ℕ). x * P') hb ∙ add-mul b s P' in
    let f : z * q ≡ 0 = ap (λ (x : ℕ). x * q) hz ∙ zero-mul q in
    omega arith

gaps_first : (k d : ℕ) → sum_to (gap k d 0) 1 ≤ roundings 0 * scale k 0
unfolding sum_to roundings
gaps_first k d = omega (arith, gap_first k d)

gaps : (k d t : ℕ) → d < 2 ^ k → sum_to (gap k d t) (suc t) ≤ roundings t * scale k t
gaps k d zero h = gaps_first k d
gaps k d (suc t) h =
    grown (sum_to (gap k d t) (suc t)) (sum_to (gap k d (suc t)) (suc (suc t))) (gap k d t (suc t)) (2 ^ k - d) d (2 ^ k) (roundings t) (roundings (suc t)) (scale k t) (scale k (suc t)) (suc (suc t))
    (let f = gap k d t in
    let K = scale k (suc t) in
    omega (arith, sum_next f (2 ^ k - d) d (suc t), sum_above (λ j. f j * (2 ^ k - d) + before f j * d) (gap k d (suc t)) K (suc (suc t)) (gap_step k d t)))
    (gap_past k d t)
    (omega arith)
    (scale_suc k t)
    (gaps k d t h)
    (rounded_more t)

-- ---- all terms

all_terms : (n k d : ℕ) → d < 2 ^ k → sum_to (binomial_term n k d) (suc n) ≡ scale k n
unfolding sum_to
all_terms zero k d h = rw (scale_zero k, pow-zero d, pow-zero (2 ^ k - d)) refl
all_terms (suc t) k d h =
    let f = binomial_term t k d in
    let q = 2 ^ k - d in
    let e : q + d ≡ 2 ^ k = omega arith in
    sum_ext (binomial_term (suc t) k d) (λ j. f j * q + before f j * d) (suc (suc t)) (λ j b. terms_by_block t k d j)
    ∙ sum_next f q d (suc t)
    ∙ ap₂ (λ (x y : ℕ). sum_to f (suc t) * x + y * q) e (term_past t k d (suc t) (let b : t < suc t = omega arith in b))
    ∙ ap (λ (x : ℕ). x * 2 ^ k + 0 * q) (all_terms t k d h)
    ∙ omega (arith, scale_suc k t, zero-mul q)

pub chances_add_up : ChancesAddUp
unfolding binomial_sum sum_from
chances_add_up n k d h =
    ap (sum_to (λ i. binomial_term n k d (0 + i))) (sub-zero (suc n))
    ∙ sum_ext (λ i. binomial_term n k d (0 + i)) (binomial_term n k d) (suc n) (λ i b. ap (binomial_term n k d) (zero-add i)) ∙ all_terms n k d h

-- ---- the sums from c on

pub brackets : Brackets
unfolding low_of high_of binomial_sum sum_from
brackets n c k d small h =
    let m = suc n - c in
    let all : c + m ≡ suc n = omega arith in
    let L = sum_to (λ i. held k d n (c + i)) m in
    let X = sum_to (λ i. binomial_term n k d (c + i)) m in
    let G = sum_to (λ i. gap k d n (c + i)) m in
    let P = scale k n in
    let whole : 2 ^ 40 * X ≡ L * P + G =
    sym (sum_scaled (2 ^ 40) (λ i. binomial_term n k d (c + i)) m)
    ∙ sum_split (λ i. exact k d n (c + i)) (λ i. held k d n (c + i)) (λ i. gap k d n (c + i)) P m (λ i. omega (arith, entry_low k d n (c + i))) in
    let rest : sum_to (gap k d n) (suc n) ≡ sum_to (gap k d n) c + G = ap (sum_to (gap k d n)) (sym all) ∙ sum_more (gap k d n) c m in
    let low : L * P ≤ 2 ^ 40 * X = omega arith in
    let part : sum_to (binomial_term n k d) (suc n) ≡ sum_to (binomial_term n k d) c + X = ap (sum_to (binomial_term n k d)) (sym all) ∙ sum_more (binomial_term n k d) c m in
    let most : L * P ≤ 2 ^ 40 * P = omega (arith, all_terms n k d small) in
    ((low, omega (arith, gaps k d n small, add-mul L (roundings n) P)), le_of_mul-le-mul_right most (pow_pos (k * n)))
