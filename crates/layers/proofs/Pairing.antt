-- The bins of one bit and of two, from the number of blocks, the counts of single bits and the count of both.
use mathlib.Core.Path.{◌≡◌, refl, sym, ap, ◌∙◌}
use Prim.Native.Nat.{ℕ, zero, suc, ◌+◌, ◌-◌, ◌^◌, ◌≤◌, ◌<◌}
use native.Mathlib.Omega.{arith}
use mathlib.Core.List.{List, [], ◌∷◌, ◌++◌}
use lib.ListN.{length, get_or, set, take, drop}
use Rattle.counting.specs.Sample.{count_in, all_set, counts_of, Bits}
use Rattle.layers.specs.Settle.{chosen}
use Rattle.layers.specs.Run.{last_bit, Single, Pair}
use Rattle.layers.proofs.Leading.{none_counted}
use Rattle.layers.proofs.Settling.{begins, splits, settled, joined}
use Rattle.layers.proofs.Splitting.{counts_first}

-- ---- entries written one after the other

pub two_set : (n count : ℕ) (b : List ℕ) → 2 ≤ length b → Single n count b (set (set b 0 (n - count)) 1 count)
two_set n count [] h = absurd (omega arith)
two_set n count (p ∷ []) h = absurd (omega arith)
two_set n count (p ∷ q ∷ b) h = record { clear = refl; set = refl; rest = rest }
  where
    rest : (w : ℕ) → 2 ≤ w → get_or ((n - count) ∷ count ∷ b) w 0 ≡ get_or (p ∷ q ∷ b) w 0
    rest zero h = absurd (omega arith)
    rest (suc zero) h = absurd (omega arith)
    rest (suc (suc w)) h = refl

pub four_set : (n first second count : ℕ) (b : List ℕ) → 4 ≤ length b
    → Pair n first second count b (set (set (set (set b 0 (n - first - (second - count))) 1 (first - count)) 2 (second - count)) 3 count)
four_set n first second count [] h = absurd (omega arith)
four_set n first second count (p ∷ []) h = absurd (omega arith)
four_set n first second count (p ∷ q ∷ []) h = absurd (omega arith)
four_set n first second count (p ∷ q ∷ r ∷ []) h = absurd (omega arith)
four_set n first second count (p ∷ q ∷ r ∷ t ∷ b) h = record { neither = refl; one = refl; other = refl; both = refl; rest = rest }
  where
    rest : (w : ℕ) → 4 ≤ w → get_or ((n - first - (second - count)) ∷ (first - count) ∷ (second - count) ∷ count ∷ b) w 0 ≡ get_or (p ∷ q ∷ r ∷ t ∷ b) w 0
    rest zero h = absurd (omega arith)
    rest (suc zero) h = absurd (omega arith)
    rest (suc (suc zero)) h = absurd (omega arith)
    rest (suc (suc (suc zero))) h = absurd (omega arith)
    rest (suc (suc (suc (suc w)))) h = refl

-- ---- one bit

module _ (bit : ℕ → ℕ → ℕ) (two : Bits bit) (n : ℕ) (bits : List ℕ) (size : length bits ≡ 1) where
  all_are : n ≡ count_in bit n bits 0 + count_in bit n bits 1
  all_are = none_counted bit n ∙ joined bit two n bits 0 0 size (omega arith)

  set_are : all_set bit n bits ≡ count_in bit n bits 1
  set_are = ap (λ (m : ℕ). count_in bit n bits (2 ^ m - 1)) size

  pub single_fits : (count : ℕ) → count ≡ all_set bit n bits → count ≤ n
  single_fits count own = omega (arith, all_are, set_are)

  pub single_split : (b b' : List ℕ) (count : ℕ) → count ≡ all_set bit n bits → length b' ≡ length b → 2 ≤ length b → Single n count b b'
      → b' ≡ counts_of bit n bits ++ drop (2 ^ length bits) b
  single_split b b' count own e room p = counts_first bit n bits b' b e (rw size (omega arith)) (λ v h. entry v (rw size at h)) (λ w h. p.rest w (rw size at h))
    where
      entry : (v : ℕ) → v < 2 → get_or b' v 0 ≡ count_in bit n bits v
      entry zero h = p.clear ∙ omega (arith, all_are, set_are)
      entry (suc zero) h = p.set ∙ own ∙ set_are
      entry (suc (suc v)) h = absurd (omega arith)

-- ---- two bits

-- what the second bit alone chooses, and both
second_chosen : (bits : List ℕ) → length bits ≡ 2 → chosen bits 2 ≡ last_bit bits ∷ []
unfolding chosen
second_chosen [] h = absurd (omega arith)
second_chosen (a ∷ []) h = absurd (omega arith)
second_chosen (a ∷ b ∷ []) h = refl
second_chosen (a ∷ b ∷ c ∷ s) h = absurd (omega arith)

both_chosen : (bits : List ℕ) → length bits ≡ 2 → chosen bits 3 ≡ bits
unfolding chosen
both_chosen [] h = absurd (omega arith)
both_chosen (a ∷ []) h = absurd (omega arith)
both_chosen (a ∷ b ∷ []) h = refl
both_chosen (a ∷ b ∷ c ∷ s) h = absurd (omega arith)

-- the first alone
first_taken : (bits : List ℕ) → length bits ≡ 2 → take 1 bits ≡ get_or bits 0 0 ∷ []
first_taken [] h = absurd (omega arith)
first_taken (a ∷ s) h = refl

module _ (bit : ℕ → ℕ → ℕ) (two : Bits bit) (n : ℕ) (bits : List ℕ) (size : length bits ≡ 2) where
  below : (v : ℕ) → v < 4 → v < 2 ^ length bits
  below v h = rw size h

  both_are : all_set bit n bits ≡ count_in bit n bits 3
  both_are = ap (λ (m : ℕ). count_in bit n bits (2 ^ m - 1)) size

  second_are : all_set bit n (last_bit bits ∷ []) ≡ count_in bit n bits 2 + count_in bit n bits 3
  second_are =
      let inside : 0 < length bits = omega arith in
      ap (all_set bit n) (sym (second_chosen bits size)) ∙ begins bit two n bits 2 (below 2 (omega arith)) ∙ splits bit two n bits 0 1 0 inside (omega arith)
      ∙ omega (
        arith,
        settled bit two n bits 1 0 size (omega arith),
        begins bit two n bits 3 (below 3 (omega arith)),
        ap (all_set bit n) (both_chosen bits size),
        both_are,
      )

  lower : (v : ℕ) → v < 2 → count_in bit n (get_or bits 0 0 ∷ []) v ≡ count_in bit n bits v + count_in bit n bits (2 + v)
  lower v h = ap (λ (s : List ℕ). count_in bit n s v) (sym (first_taken bits size)) ∙ joined bit two n bits 1 v size h

  first_are : all_set bit n (get_or bits 0 0 ∷ []) ≡ count_in bit n bits 1 + count_in bit n bits 3
  first_are = lower 1 (omega arith)

  all_blocks : n ≡ count_in bit n bits 0 + count_in bit n bits 1 + count_in bit n bits 2 + count_in bit n bits 3
  all_blocks = all_are bit two n (get_or bits 0 0 ∷ []) refl ∙ omega (arith, lower 0 (omega arith), lower 1 (omega arith))

  module _ (first second count : ℕ) (a : first ≡ all_set bit n (get_or bits 0 0 ∷ [])) (b : second ≡ all_set bit n (last_bit bits ∷ [])) (own : count ≡ all_set bit n bits) where
    pub pair_fits : (count ≤ first) × (count ≤ second) × (first + second ≤ n + count)
    pair_fits = (
      omega (arith, both_are, first_are),
      omega (arith, both_are, second_are),
      omega (arith, both_are, first_are, second_are, all_blocks),
    )

    pub pair_split : (bins bins' : List ℕ) → length bins' ≡ length bins → 4 ≤ length bins → Pair n first second count bins bins'
        → bins' ≡ counts_of bit n bits ++ drop (2 ^ length bits) bins
    pair_split bins bins' e room p = counts_first bit n bits bins' bins e (rw size (omega arith)) (λ v h. entry v (rw size at h)) (λ w h. p.rest w (rw size at h))
      where
        entry : (v : ℕ) → v < 4 → get_or bins' v 0 ≡ count_in bit n bits v
        entry zero h = p.neither ∙ omega (arith, both_are, first_are, second_are, all_blocks)
        entry (suc zero) h = p.one ∙ omega (arith, both_are, first_are)
        entry (suc (suc zero)) h = p.other ∙ omega (arith, both_are, second_are)
        entry (suc (suc (suc zero))) h = p.both ∙ own ∙ both_are
        entry (suc (suc (suc (suc v)))) h = absurd (omega arith)
