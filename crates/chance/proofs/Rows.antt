-- The entries by steps: how many there are, each from two of the row before, what is missing, and that none is above 2^40.
use mathlib.Core.Path.{◌≡◌, refl, sym, ap, ap₂, ◌∙◌}
use mathlib.Core.List.{List, [], ◌∷◌}
use Prim.Native.Nat.{ℕ, zero, suc, ◌+◌, ◌-◌, ◌*◌, ◌/◌, ◌^◌, ◌≤◌, ◌<◌}
use native.Mathlib.Omega.{arith}
use native.Mathlib.Decide.{dec_lt}
use native.Mathlib.Nat.{zero-mul, mul-add, div-eq_of_lt, div-le_of_le-mul, div-add-mod, mod-lt, mul_comm, mul-le-mul_right}
use lib.ListN.{length, get_or-eq_default}
use lib.Pow.{pow_pos}
use Rattle.counting.specs.Sample.{list_of}
use Rattle.counting.proofs.Counts.{length_list, get_d_list}
use Rattle.chance.specs.Chance.{before}
use Rattle.chance.specs.Entries.{entry, next_entry, next_row, entries_after}

-- ---- what a block makes of two entries

pub next_none : (k d : ℕ) → next_entry k d 0 0 ≡ 0
unfolding next_entry
next_none k d = rw (zero-mul (2 ^ k - d), zero-mul d) (div-eq_of_lt (pow_pos k))

pub next_below : (k d x y : ℕ) → next_entry k d x y * 2 ^ k ≤ x * (2 ^ k - d) + y * d
unfolding next_entry
next_below k d x y =
    let s = x * (2 ^ k - d) + y * d in
    omega (arith, div-add-mod s (2 ^ k), mul_comm (2 ^ k) (s / 2 ^ k))

pub next_above : (k d x y : ℕ) → x * (2 ^ k - d) + y * d ≤ next_entry k d x y * 2 ^ k + 2 ^ k
unfolding next_entry
next_above k d x y =
    let s = x * (2 ^ k - d) + y * d in
    omega (arith, div-add-mod s (2 ^ k), mul_comm (2 ^ k) (s / 2 ^ k), mod-lt s (pow_pos k))

-- the sum that is divided, where neither entry is above m
pub weighed_le : (k d x y m : ℕ) → d < 2 ^ k → x ≤ m → y ≤ m → x * (2 ^ k - d) + y * d ≤ m * 2 ^ k
weighed_le k d x y m h hx hy =
    let e : 2 ^ k - d + d ≡ 2 ^ k = omega arith in
    let f : m * 2 ^ k ≡ m * (2 ^ k - d) + m * d = ap (λ (z : ℕ). m * z) (sym e) ∙ mul-add m (2 ^ k - d) d in
    omega (arith, mul-le-mul_right (2 ^ k - d) hx, mul-le-mul_right d hy)

pub next_le : (k d x y m : ℕ) → d < 2 ^ k → x ≤ m → y ≤ m → next_entry k d x y ≤ m
unfolding next_entry
next_le k d x y m h hx hy = div-le_of_le-mul (2 ^ k) (let w : x * (2 ^ k - d) + y * d ≤ 2 ^ k * m = omega (arith, weighed_le k d x y m h hx hy, mul_comm m (2 ^ k)) in w)

-- ---- a row and the next

pub next_length : (k d : ℕ) (row : List ℕ) → length (next_row k d row) ≡ suc (length row)
unfolding next_row
next_length k d row = length_list (suc (length row)) (λ j. next_entry k d (entry row j) (before (entry row) j))

past : (k d : ℕ) (row : List ℕ) (j : ℕ) → suc (length row) ≤ j → 0 ≡ next_entry k d (entry row j) (before (entry row) j)
past k d row zero h = absurd (omega arith)
past k d row (suc i) h =
    let a : entry row (suc i) ≡ 0 = get_or-eq_default row 0 (omega arith) in
    let b : entry row i ≡ 0 = get_or-eq_default row 0 (omega arith) in
    sym (ap₂ (next_entry k d) a b ∙ next_none k d)

pub next_at : (k d : ℕ) (row : List ℕ) (j : ℕ) → entry (next_row k d row) j ≡ next_entry k d (entry row j) (before (entry row) j)
unfolding next_row
next_at k d row j = go (dec_lt j (suc (length row)))
  where
    f : ℕ → ℕ
    f i = next_entry k d (entry row i) (before (entry row) i)

    go : Dec (j < suc (length row)) → entry (list_of (suc (length row)) f) j ≡ f j
    go (yes l) = get_d_list (suc (length row)) f j l
    go (no l) =
        let h : suc (length row) ≤ j = omega arith in
        get_or-eq_default (list_of (suc (length row)) f) 0 (rw length_list h) ∙ past k d row j h

-- ---- the entries after n blocks

pub entries_length : (n k d : ℕ) → length (entries_after n k d) ≡ suc n
unfolding entries_after
entries_length zero k d = refl
entries_length (suc n) k d = next_length k d (entries_after n k d) ∙ ap suc (entries_length n k d)

pub entries_next : (n k d : ℕ) → entries_after (suc n) k d ≡ next_row k d (entries_after n k d)
unfolding entries_after
entries_next n k d = refl

pub entries_step : (n k d j : ℕ)
    → entry (entries_after (suc n) k d) j ≡ next_entry k d (entry (entries_after n k d) j) (before (entry (entries_after n k d)) j)
unfolding entries_after
entries_step n k d j = next_at k d (entries_after n k d) j

-- what holds of 0 and of every value holds of the one before
pub before_le : (f : ℕ → ℕ) (m j : ℕ) → ((i : ℕ) → f i ≤ m) → before f j ≤ m
before_le f m zero h = omega arith
before_le f m (suc j) h = h j

first_le : (j : ℕ) → entry (2 ^ 40 ∷ []) j ≤ 2 ^ 40
first_le zero = omega arith
first_le (suc j) = omega arith

pub entries_le : (n k d : ℕ) → d < 2 ^ k → (j : ℕ) → entry (entries_after n k d) j ≤ 2 ^ 40
unfolding entries_after
entries_le zero k d h j = first_le j
entries_le (suc n) k d h j =
    rw next_at
    (next_le k d (entry (entries_after n k d) j) (before (entry (entries_after n k d)) j) (2 ^ 40) h (entries_le n k d h j)
    (before_le (entry (entries_after n k d)) (2 ^ 40) j (entries_le n k d h)))
