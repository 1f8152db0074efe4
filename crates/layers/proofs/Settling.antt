-- The counts on the way from `at least these bits` to `just these bits`, one place after the other.
use mathlib.Core.Path.{◌≡◌, refl, sym, ap, ap₂, ◌∙◌}
use mathlib.Core.Bool.{Bool, true, false, cond}
use mathlib.Core.List.{List, [], ◌∷◌}
use Prim.Native.Nat.{ℕ, zero, suc, ◌+◌, ◌-◌, ◌*◌, ◌/◌, ◌%◌, ◌^◌, ◌≤◌, ◌<◌, min}
use native.Mathlib.Omega.{arith}
use native.Mathlib.Nat.{pow-suc}
use lib.Dec.{eqb, lit<}
use lib.ListN.{length, take}
use lib.Pow.{pow_pos}
use Rattle.counting.specs.Block.{bin_of}
use Rattle.counting.specs.Sample.{same, count_in, all_set, Bits}
use Rattle.counting.proofs.Counts.{same_step, same_le}
use Rattle.layers.specs.Settle.{chosen}

-- 1 where the block agrees with v below place j and has at least the bits of v from there on, else 0
unfoldable pub meets : (ℕ → ℕ) → List ℕ → ℕ → ℕ → ℕ
meets f [] j v = same 0 v
meets f (b ∷ bs) zero v = cond (eqb (v % 2) 0) (meets f bs zero (v / 2)) (min (f b) (meets f bs zero (v / 2)))
meets f (b ∷ bs) (suc j) v = min (same (f b) (v % 2)) (meets f bs j (v / 2))

-- how many of the n blocks are so
unfoldable pub meeting : (ℕ → ℕ → ℕ) → ℕ → List ℕ → ℕ → ℕ → ℕ
meeting bit zero bits j v = 0
meeting bit (suc n) bits j v = meeting bit n bits j v + meets (bit n) bits j v

-- ---- one block, one place

meets_le : (f : ℕ → ℕ) (bits : List ℕ) (j v : ℕ) → meets f bits j v ≤ 1
unfolding meets
meets_le f [] j v = same_le 0 v
meets_le f (b ∷ bs) zero v = go (eqb (v % 2) 0) (meets_le f bs zero (v / 2))
  where
    go : (t : Bool) → meets f bs zero (v / 2) ≤ 1 → cond t (meets f bs zero (v / 2)) (min (f b) (meets f bs zero (v / 2))) ≤ 1
    go true h = h
    go false h = omega arith
meets_le f (b ∷ bs) (suc j) v = omega (arith, same_le (f b) (v % 2))

is_one : (x : ℕ) → x < 2 → same x 1 ≡ x
is_one zero h = refl
is_one (suc zero) h = refl
is_one (suc (suc x)) h = absurd (omega arith)

is_zero : (x : ℕ) → x < 2 → same x 0 + x ≡ 1
is_zero zero h = refl
is_zero (suc zero) h = refl
is_zero (suc (suc x)) h = absurd (omega arith)

even_meets : (f : ℕ → ℕ) (b : ℕ) (bs : List ℕ) (v : ℕ) → v % 2 ≡ 0 → meets f (b ∷ bs) zero v ≡ meets f bs zero (v / 2)
unfolding meets
even_meets f b bs v e = rw e refl

odd_meets : (f : ℕ → ℕ) (b : ℕ) (bs : List ℕ) (v : ℕ) → v % 2 ≡ 1 → meets f (b ∷ bs) zero v ≡ min (f b) (meets f bs zero (v / 2))
unfolding meets
odd_meets f b bs v e = rw e refl

next_meets : (f : ℕ → ℕ) (b : ℕ) (bs : List ℕ) (j v : ℕ) → meets f (b ∷ bs) (suc j) v ≡ min (same (f b) (v % 2)) (meets f bs j (v / 2))
unfolding meets
next_meets f b bs j v = refl

-- as a number in parts: below place j, at it, and above
shift : (hi j : ℕ) → hi * (2 * 2 ^ suc j) ≡ hi * (2 * 2 ^ j) * 2
shift hi j = rw pow-suc (omega arith)

-- what is undecided at place j is decided either way
block_splits : (f : ℕ → ℕ) → ((b : ℕ) → f b < 2) → (bits : List ℕ) (j hi lo : ℕ) → j < length bits → lo < 2 ^ j
    → meets f bits j (hi * (2 * 2 ^ j) + lo) ≡ meets f bits (suc j) (hi * (2 * 2 ^ j) + lo) + meets f bits j (hi * (2 * 2 ^ j) + 2 ^ j + lo)
block_splits f two [] j hi lo h l = absurd (omega arith)
block_splits f two (b ∷ bs) zero hi lo h l =
    let v : ℕ = hi * (2 * 2 ^ 0) + lo in
    let w : ℕ = hi * (2 * 2 ^ 0) + 2 ^ 0 + lo in
    let v2 : v % 2 ≡ 0 = omega arith in
    let w2 : w % 2 ≡ 1 = omega arith in
    let vh : v / 2 ≡ hi = omega arith in
    let wh : w / 2 ≡ hi = omega arith in
    even_meets f b bs v v2 ∙ omega (
      arith,
      next_meets f b bs 0 v,
      odd_meets f b bs w w2,
      ap (same (f b)) v2,
      ap (meets f bs 0) vh,
      ap (meets f bs 0) wh,
      is_zero (f b) (two b),
      two b,
      meets_le f bs 0 hi,
    )
block_splits f two (b ∷ bs) (suc j) hi lo h l =
    let v : ℕ = hi * (2 * 2 ^ suc j) + lo in
    let w : ℕ = hi * (2 * 2 ^ suc j) + 2 ^ suc j + lo in
    let power : 2 ^ suc j ≡ 2 ^ j * 2 = pow-suc 2 j in
    let small : lo / 2 < 2 ^ j = omega arith in
    let v2 : v % 2 ≡ lo % 2 = omega (arith, shift hi j) in
    let w2 : w % 2 ≡ lo % 2 = omega (arith, shift hi j) in
    let vh : v / 2 ≡ hi * (2 * 2 ^ j) + lo / 2 = omega (arith, shift hi j) in
    let wh : w / 2 ≡ hi * (2 * 2 ^ j) + 2 ^ j + lo / 2 = omega (arith, shift hi j) in
    omega (
      arith,
      next_meets f b bs j v,
      next_meets f b bs (suc j) v,
      next_meets f b bs j w,
      ap (same (f b)) v2,
      ap (same (f b)) w2,
      ap (meets f bs j) vh,
      ap (meets f bs (suc j)) vh,
      ap (meets f bs j) wh,
      same_le (f b) (lo % 2),
      meets_le f bs j (hi * (2 * 2 ^ j) + lo / 2),
      block_splits f two bs j hi (lo / 2) (omega arith) small,
    )

-- what has the bit at place j has decided there
block_stays : (f : ℕ → ℕ) → ((b : ℕ) → f b < 2) → (bits : List ℕ) (j hi lo : ℕ) → j < length bits → lo < 2 ^ j
    → meets f bits j (hi * (2 * 2 ^ j) + 2 ^ j + lo) ≡ meets f bits (suc j) (hi * (2 * 2 ^ j) + 2 ^ j + lo)
block_stays f two [] j hi lo h l = absurd (omega arith)
block_stays f two (b ∷ bs) zero hi lo h l =
    let w : ℕ = hi * (2 * 2 ^ 0) + 2 ^ 0 + lo in
    let w2 : w % 2 ≡ 1 = omega arith in
    odd_meets f b bs w w2 ∙ omega (arith, next_meets f b bs 0 w, ap (same (f b)) w2, is_one (f b) (two b))
block_stays f two (b ∷ bs) (suc j) hi lo h l =
    let w : ℕ = hi * (2 * 2 ^ suc j) + 2 ^ suc j + lo in
    let power : 2 ^ suc j ≡ 2 ^ j * 2 = pow-suc 2 j in
    let small : lo / 2 < 2 ^ j = omega arith in
    let wh : w / 2 ≡ hi * (2 * 2 ^ j) + 2 ^ j + lo / 2 = omega (arith, shift hi j) in
    omega (
      arith,
      next_meets f b bs j w,
      next_meets f b bs (suc j) w,
      ap (meets f bs j) wh,
      ap (meets f bs (suc j)) wh,
      block_stays f two bs j hi (lo / 2) (omega arith) small,
    )

-- ---- one block, before the first place and after the last

block_begins : (f : ℕ → ℕ) → ((b : ℕ) → f b < 2) → (bits : List ℕ) (v : ℕ) → v < 2 ^ length bits
    → same (bin_of f (chosen bits v)) (2 ^ length (chosen bits v) - 1) ≡ meets f bits 0 v
unfolding meets chosen bin_of
block_begins f two [] v h = let e : v ≡ 0 = omega arith in rw e refl
block_begins f two (b ∷ bs) v h = go (v % 2) refl (block_begins f two bs (v / 2) (omega (arith, pow-suc 2 (length bs), h)))
  where
    rest : List ℕ
    rest = chosen bs (v / 2)

    one : 2 ^ suc (length rest) - 1 ≡ (2 ^ length rest - 1) * 2 + 1
    one = omega (arith, pow-suc 2 (length rest), pow_pos (length rest))

    go : (d : ℕ) → v % 2 ≡ d → same (bin_of f rest) (2 ^ length rest - 1) ≡ meets f bs 0 (v / 2)
        → same (bin_of f (cond (eqb (v % 2) 0) rest (b ∷ rest))) (2 ^ length (cond (eqb (v % 2) 0) rest (b ∷ rest)) - 1)
        ≡ cond (eqb (v % 2) 0) (meets f bs zero (v / 2)) (min (f b) (meets f bs zero (v / 2)))
    go zero e was = rw e was
    go (suc zero) e was =
        let x : f b + 2 * bin_of f rest ≡ bin_of f rest * 2 + f b = omega arith in
        rw (e, x, one) (same_step 1 (bin_of f rest) (2 ^ length rest - 1) (f b) 1 (two b) (lit< tt) ∙ ap₂ min (is_one (f b) (two b)) was)
    go (suc (suc d)) e was = absurd (omega arith)

block_ends : (f : ℕ → ℕ) → ((b : ℕ) → f b < 2) → (bits : List ℕ) (v : ℕ) → meets f bits (length bits) v ≡ same (bin_of f bits) v
unfolding meets bin_of
block_ends f two [] v = refl
block_ends f two (b ∷ bs) v =
    let x : f b + 2 * bin_of f bs ≡ bin_of f bs * 2 + f b = omega arith in
    let y : v / 2 * 2 + v % 2 ≡ v = omega arith in
    let small : v % 2 < 2 = omega arith in
    let s : same (bin_of f bs * 2 + f b) (v / 2 * 2 + v % 2) ≡ min (same (f b) (v % 2)) (same (bin_of f bs) (v / 2)) =
    same_step 1 (bin_of f bs) (v / 2) (f b) (v % 2) (two b) small in
    ap (min (same (f b) (v % 2))) (block_ends f two bs (v / 2)) ∙ sym s ∙ ap₂ same (sym x) y

-- before the last place: a number below 2^j asks nothing there
block_leads : (f : ℕ → ℕ) → ((b : ℕ) → f b < 2) → (bits : List ℕ) (j v : ℕ) → length bits ≡ suc j → v < 2 ^ j → meets f bits j v ≡ same (bin_of f (take j bits)) v
unfolding meets bin_of
block_leads f two [] j v e h = absurd (omega arith)
block_leads f two (b ∷ []) zero v e h = let z : v ≡ 0 = omega arith in rw z refl
block_leads f two (b ∷ c ∷ bs) zero v e h = absurd (omega arith)
block_leads f two (b ∷ bs) (suc j) v e h =
    let rest : List ℕ = take j bs in
    let x : f b + 2 * bin_of f rest ≡ bin_of f rest * 2 + f b = omega arith in
    let y : v / 2 * 2 + v % 2 ≡ v = omega arith in
    let small : v % 2 < 2 = omega arith in
    let s : same (bin_of f rest * 2 + f b) (v / 2 * 2 + v % 2) ≡ min (same (f b) (v % 2)) (same (bin_of f rest) (v / 2)) =
    same_step 1 (bin_of f rest) (v / 2) (f b) (v % 2) (two b) small in
    ap (min (same (f b) (v % 2))) (block_leads f two bs j (v / 2) (omega arith) (omega (arith, pow-suc 2 j, h))) ∙ sym s ∙ ap₂ same (sym x) y

-- ---- the blocks

module _ (bit : ℕ → ℕ → ℕ) (two : Bits bit) where
  pub begins : (n : ℕ) (bits : List ℕ) (v : ℕ) → v < 2 ^ length bits → all_set bit n (chosen bits v) ≡ meeting bit n bits 0 v
  unfolding meeting count_in
  begins zero bits v h = refl
  begins (suc n) bits v h = ap₂ ◌+◌ (begins n bits v h) (block_begins (bit n) (two n) bits v h)

  pub ends : (n : ℕ) (bits : List ℕ) (v : ℕ) → meeting bit n bits (length bits) v ≡ count_in bit n bits v
  unfolding meeting count_in
  ends zero bits v = refl
  ends (suc n) bits v = ap₂ ◌+◌ (ends n bits v) (block_ends (bit n) (two n) bits v)

  pub splits : (n : ℕ) (bits : List ℕ) (j hi lo : ℕ) → j < length bits → lo < 2 ^ j
      → meeting bit n bits j (hi * (2 * 2 ^ j) + lo) ≡ meeting bit n bits (suc j) (hi * (2 * 2 ^ j) + lo) + meeting bit n bits j (hi * (2 * 2 ^ j) + 2 ^ j + lo)
  unfolding meeting
  splits zero bits j hi lo h l = refl
  splits (suc n) bits j hi lo h l = omega (arith, splits n bits j hi lo h l, block_splits (bit n) (two n) bits j hi lo h l)

  pub stays : (n : ℕ) (bits : List ℕ) (j hi lo : ℕ) → j < length bits → lo < 2 ^ j
      → meeting bit n bits j (hi * (2 * 2 ^ j) + 2 ^ j + lo) ≡ meeting bit n bits (suc j) (hi * (2 * 2 ^ j) + 2 ^ j + lo)
  unfolding meeting
  stays zero bits j hi lo h l = refl
  stays (suc n) bits j hi lo h l = ap₂ ◌+◌ (stays n bits j hi lo h l) (block_stays (bit n) (two n) bits j hi lo h l)

  leads : (n : ℕ) (bits : List ℕ) (j v : ℕ) → length bits ≡ suc j → v < 2 ^ j → meeting bit n bits j v ≡ count_in bit n (take j bits) v
  unfolding meeting count_in
  leads zero bits j v e h = refl
  leads (suc n) bits j v e h = ap₂ ◌+◌ (leads n bits j v e h) (block_leads (bit n) (two n) bits j v e h)

  -- with the last place set there is nothing left to decide
  pub settled : (n : ℕ) (bits : List ℕ) (j v : ℕ) → length bits ≡ suc j → v < 2 ^ j → meeting bit n bits j (2 ^ j + v) ≡ count_in bit n bits (2 ^ j + v)
  settled n bits j v e h =
      let inside : j < length bits = omega arith in
      let p : 0 * (2 * 2 ^ j) + 2 ^ j + v ≡ 2 ^ j + v = omega arith in
      ap (meeting bit n bits j) (sym p)
      ∙ stays n bits j 0 v inside h
      ∙ ap₂ (meeting bit n bits) (sym e) p
      ∙ ends n bits (2 ^ j + v)

  -- a bin of the bits before the last is two bins of all: the last bit not set, and set
  pub joined : (n : ℕ) (bits : List ℕ) (j v : ℕ) → length bits ≡ suc j → v < 2 ^ j
      → count_in bit n (take j bits) v ≡ count_in bit n bits v + count_in bit n bits (2 ^ j + v)
  joined n bits j v e h =
      let inside : j < length bits = omega arith in
      let p : 0 * (2 * 2 ^ j) + 2 ^ j + v ≡ 2 ^ j + v = omega arith in
      let q : 0 * (2 * 2 ^ j) + v ≡ v = omega arith in
      sym (leads n bits j v e h)
      ∙ omega (
        arith,
        splits n bits j 0 v inside h,
        ap (meeting bit n bits j) q,
        ap₂ (meeting bit n bits) (sym e) q ∙ ends n bits v,
        ap (meeting bit n bits j) p ∙ settled n bits j v e h,
      )
