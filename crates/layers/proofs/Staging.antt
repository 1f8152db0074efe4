-- The upper half with the places below i settled: entry v is `meeting` at i of 2^j + v. A turn at place i leads from i to i + 1.
use mathlib.Core.Path.{◌≡◌, refl, sym, ap, subst, ◌∙◌}
use Prim.Native.Nat.{ℕ, suc, ◌+◌, ◌-◌, ◌*◌, ◌/◌, ◌%◌, ◌^◌, ◌≤◌, ◌<◌}
use native.Mathlib.Omega.{arith}
use native.Mathlib.Decide.{dec_lt}
use native.Mathlib.Nat.{pow-suc, mod-lt, div-add-mod', mul-div_cancel, mul-le-mul_right, lt_of_mul-lt-mul_right, add-mul}
use native.Mathlib.Numerals.{add-one}
use mathlib.Core.List.{List}
use lib.ListN.{length, get_or}
use lib.Pow.{pow_pos, pow-add}
use Rattle.counting.specs.Sample.{count_in}
use Rattle.layers.specs.Settle.{Covered, Settles, Paired, Stepped, FallsInFours, Fours}
use Rattle.layers.proofs.Settling.{meeting, begins, settled, splits, stays}
use Rattle.layers.proofs.InFours.{between, between_size, first_stepped, falls_in_fours, second_stepped}

-- of every sample of which the first entries are the covering counts
pub record Stage (j : ℕ) (b₀ : List ℕ) (i : ℕ) (b : List ℕ) : Type 0 where
  pub size : length b ≡ length b₀
  pub held : (bit : ℕ → ℕ → ℕ) (n : ℕ) (bits : List ℕ) → Covered bit n j bits b₀ → (v : ℕ) → v < 2 ^ j → get_or b v 0 ≡ meeting bit n bits i (2 ^ j + v)

pub stage_none : (j : ℕ) (b : List ℕ) → Stage j b 0 b
stage_none j b = record {
  size = refl;
  held = λ bit n bits c v h.
      let e : length bits ≡ suc j = c.width in
      let l : 2 ^ j + v < 2 ^ length bits = rw e (omega (arith, pow-suc 2 j, h)) in
      c.at_least v h ∙ begins bit c.two n bits (2 ^ j + v) l;
}

-- the last place is set throughout
pub stage_all : (j : ℕ) (b₀ b : List ℕ) → Stage j b₀ j b → (bit : ℕ → ℕ → ℕ) (n : ℕ) (bits : List ℕ) → Covered bit n j bits b₀
    → (v : ℕ) → v < 2 ^ j → get_or b v 0 ≡ count_in bit n bits (2 ^ j + v)
stage_all j b₀ b s bit n bits c v h = s.held bit n bits c v h ∙ settled bit c.two n bits j v c.width h

-- ---- a turn

module _ (j : ℕ) (b₀ : List ℕ) (some : Settles j b₀) (i : ℕ) (inside : i < j) (b : List ℕ) (s : Stage j b₀ i b) where
  width : length b ≡ 2 ^ j
  width = s.size ∙ some.covered.size

  power : 2 ^ j ≡ 2 ^ (j - 1 - i) * (2 * 2 ^ i)
  power =
      let e : j ≡ j - 1 - i + suc i = omega arith in
      ap (λ (x : ℕ). 2 ^ x) e ∙ pow-add 2 (j - 1 - i) (suc i) ∙ ap (λ (x : ℕ). 2 ^ (j - 1 - i) * x) (pow-suc 2 i ∙ omega arith)

  runs_are : length b / (2 * 2 ^ i) ≡ 2 ^ (j - 1 - i)
  runs_are = rw (width, power) (mul-div_cancel (2 ^ (j - 1 - i)) (omega (arith, pow_pos i)))

  -- a place in the upper half
  among : (hi lo : ℕ) → lo < 2 ^ i → hi < length b / (2 * 2 ^ i) → hi * (2 * 2 ^ i) + 2 ^ i + lo < 2 ^ j
  among hi lo l h =
      let low : suc hi ≤ 2 ^ (j - 1 - i) = rw runs_are at h in
      omega (arith, mul-le-mul_right (2 * 2 ^ i) low, power)

  -- and the number that it stands for
  stands : (hi lo : ℕ) → 2 ^ j + (hi * (2 * 2 ^ i) + lo) ≡ (2 ^ (j - 1 - i) + hi) * (2 * 2 ^ i) + lo
  stands hi lo = omega (arith, power, add-mul (2 ^ (j - 1 - i)) hi (2 * 2 ^ i))

  module _ (bit : ℕ → ℕ → ℕ) (n : ℕ) (bits : List ℕ) (c : Covered bit n j bits b₀) (hi lo : ℕ) (l : lo < 2 ^ i) (h : hi < length b / (2 * 2 ^ i)) where
    in_bits : i < length bits
    in_bits = omega (arith, c.width)

    -- the entry with place i set, and the one without
    one : get_or b (hi * (2 * 2 ^ i) + 2 ^ i + lo) 0 ≡ meeting bit n bits i ((2 ^ (j - 1 - i) + hi) * (2 * 2 ^ i) + 2 ^ i + lo)
    one =
        let p : 2 ^ j + (hi * (2 * 2 ^ i) + 2 ^ i + lo) ≡ (2 ^ (j - 1 - i) + hi) * (2 * 2 ^ i) + 2 ^ i + lo = omega (arith, stands hi (2 ^ i + lo)) in
        s.held bit n bits c (hi * (2 * 2 ^ i) + 2 ^ i + lo) (among hi lo l h) ∙ ap (meeting bit n bits i) p

    none : get_or b (hi * (2 * 2 ^ i) + lo) 0 ≡ meeting bit n bits i ((2 ^ (j - 1 - i) + hi) * (2 * 2 ^ i) + lo)
    none = s.held bit n bits c (hi * (2 * 2 ^ i) + lo) (omega (arith, among hi lo l h)) ∙ ap (meeting bit n bits i) (stands hi lo)

    parted : meeting bit n bits i ((2 ^ (j - 1 - i) + hi) * (2 * 2 ^ i) + lo)
        ≡ meeting bit n bits (suc i) ((2 ^ (j - 1 - i) + hi) * (2 * 2 ^ i) + lo) + meeting bit n bits i ((2 ^ (j - 1 - i) + hi) * (2 * 2 ^ i) + 2 ^ i + lo)
    parted = splits bit c.two n bits i (2 ^ (j - 1 - i) + hi) lo in_bits l

    kept : meeting bit n bits i ((2 ^ (j - 1 - i) + hi) * (2 * 2 ^ i) + 2 ^ i + lo) ≡ meeting bit n bits (suc i) ((2 ^ (j - 1 - i) + hi) * (2 * 2 ^ i) + 2 ^ i + lo)
    kept = stays bit c.two n bits i (2 ^ (j - 1 - i) + hi) lo in_bits l

  pub paired : Paired (2 ^ i) b
  paired = record {
    some = pow_pos i;
    whole = width ∙ power ∙ ap (λ (x : ℕ). x * (2 * 2 ^ i)) (sym runs_are);
    falls = λ hi lo l h.
        let c = some.covered in
        omega (
          arith,
          one some.bit some.n some.bits c hi lo l h,
          none some.bit some.n some.bits c hi lo l h,
          parted some.bit some.n some.bits c hi lo l h,
        );
  }

  pub stage_more : (b' : List ℕ) → length b' ≡ length b → Stepped (2 ^ i) (length b / (2 * 2 ^ i)) b b' → Stage j b₀ (i + 1) b'
  stage_more b' e t = record { size = e ∙ s.size; held = λ bit n bits c v h. rw (add-one i) (next bit n bits c v h) }
    where
      next : (bit : ℕ → ℕ → ℕ) (n : ℕ) (bits : List ℕ) → Covered bit n j bits b₀ → (v : ℕ) → v < 2 ^ j → get_or b' v 0 ≡ meeting bit n bits (suc i) (2 ^ j + v)
      next bit n bits c v h = go (dec_lt (v % (2 * 2 ^ i)) (2 ^ i))
        where
          hi : ℕ
          hi = v / (2 * 2 ^ i)

          parts : v / (2 * 2 ^ i) * (2 * 2 ^ i) + v % (2 * 2 ^ i) ≡ v
          parts = div-add-mod' v (2 * 2 ^ i)

          low : v % (2 * 2 ^ i) < 2 * 2 ^ i
          low = mod-lt v (omega (arith, pow_pos i))

          high : v / (2 * 2 ^ i) < length b / (2 * 2 ^ i)
          high = rw runs_are (lt_of_mul-lt-mul_right (2 * 2 ^ i) (let l : v / (2 * 2 ^ i) * (2 * 2 ^ i) < 2 ^ (j - 1 - i) * (2 * 2 ^ i) = omega (arith, parts, power) in l))

          go : Dec (v % (2 * 2 ^ i) < 2 ^ i) → get_or b' v 0 ≡ meeting bit n bits (suc i) (2 ^ j + v)
          go (yes l) =
              let lo : ℕ = v % (2 * 2 ^ i) in
              let w : hi * (2 * 2 ^ i) + lo ≡ v = parts in
              let there : get_or b' (hi * (2 * 2 ^ i) + lo) 0 ≡ meeting bit n bits (suc i) ((2 ^ (j - 1 - i) + hi) * (2 * 2 ^ i) + lo) =
              omega (arith, t.first hi lo l high, none bit n bits c hi lo l high, one bit n bits c hi lo l high, parted bit n bits c hi lo l high) in
              subst (λ (x : ℕ). get_or b' x 0 ≡ meeting bit n bits (suc i) (2 ^ j + x)) w (there ∙ ap (meeting bit n bits (suc i)) (sym (stands hi lo)))
          go (no g) =
              let lo : ℕ = v % (2 * 2 ^ i) - 2 ^ i in
              let l : lo < 2 ^ i = omega (arith, low) in
              let w : hi * (2 * 2 ^ i) + 2 ^ i + lo ≡ v = omega (arith, parts) in
              let p : (2 ^ (j - 1 - i) + hi) * (2 * 2 ^ i) + 2 ^ i + lo ≡ 2 ^ j + (hi * (2 * 2 ^ i) + 2 ^ i + lo) = omega (arith, stands hi (2 ^ i + lo)) in
              let there : get_or b' (hi * (2 * 2 ^ i) + 2 ^ i + lo) 0 ≡ meeting bit n bits (suc i) ((2 ^ (j - 1 - i) + hi) * (2 * 2 ^ i) + 2 ^ i + lo) =
              t.second hi lo l high ∙ one bit n bits c hi lo l high ∙ kept bit n bits c hi lo l high in
              subst (λ (x : ℕ). get_or b' x 0 ≡ meeting bit n bits (suc i) (2 ^ j + x)) w (there ∙ ap (meeting bit n bits (suc i)) p)

-- ---- the first two turns at once

module _ (j : ℕ) (b₀ : List ℕ) (some : Settles j b₀) (two : 2 ≤ j) where
  first_paired : Paired 1 b₀
  first_paired = paired j b₀ some 0 (omega arith) b₀ (stage_none j b₀)

  stage_one : Stage j b₀ 1 (between b₀)
  stage_one = stage_more j b₀ some 0 (omega arith) b₀ (stage_none j b₀) (between b₀) (between_size b₀) (first_stepped b₀)

  pub starts_in_fours : FallsInFours b₀
  starts_in_fours = falls_in_fours b₀ first_paired (paired j b₀ some 1 (omega arith) (between b₀) stage_one)

  pub stage_two : (b : List ℕ) → length b ≡ length b₀ → Fours (length b₀) b₀ b → Stage j b₀ 2 b
  stage_two b e f =
      stage_more j b₀ some 1 (omega arith) (between b₀) stage_one b (e ∙ sym (between_size b₀)) (second_stepped b₀ b f)
