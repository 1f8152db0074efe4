-- Sums over the whole blocks of bytes, as the blocks' number and each count are, add up (`over_append`); and sums over boards of which one changed (`sum_changed`).
use mathlib.Core.Path.{◌≡◌, refl, sym, ap, ap₂, ◌∙◌}
use mathlib.Core.Bool.{Bool}
use mathlib.Core.List.{List, ◌++◌}
use Prim.Native.Nat.{ℕ, zero, suc, ◌+◌, ◌*◌, ◌≤◌, ◌<◌}
use native.Mathlib.Omega.{arith}
use native.Mathlib.Decide.{ℕ_discrete}
use native.Mathlib.Nat.{add-mul, suc-mul, mul-le-mul_right, div-mul-le_self}
use lib.ListN.{length, take, drop, length-append, length-drop}
use lib.Seq.{take-append-le, drop-append-le, drop-append-add}
use Rattle.counting.specs.Block.{block_bit, bin_of}
use Rattle.counting.specs.Recording.{block_bytes, blocks_in, recorded_bit}
use Rattle.counting.specs.Sample.{same, count_in, sum_to}
use Rattle.counting.proofs.Counts.{sum_ext, sum_more, count_sum}
use Rattle.sampling.specs.Cut.{whole, rest}
use Rattle.sampling.proofs.Cutting.{length_whole, whole_rest, blocks_whole, blocks_behind, whole_append}

-- block e of the bytes
abbrev pub block_at : ℕ → List ℕ → ℕ → List ℕ
block_at B x e = take (block_bytes B) (drop (e * block_bytes B) x)

-- a number of each block, summed over the whole blocks
unfoldable pub over : ℕ → (List ℕ → ℕ) → List ℕ → ℕ
over B g x = sum_to (λ e. g (block_at B x e)) (blocks_in B x)

-- nothing but whole blocks
abbrev pub Full : ℕ → List ℕ → Type 0
Full B x = length x ≡ blocks_in B x * block_bytes B

module _ (B : ℕ) (pos : 0 < block_bytes B) where
  abbrev size : ℕ
  size = block_bytes B

  pub whole_full : (x : List ℕ) → Full B (whole B x)
  whole_full x = length_whole B x ∙ ap (λ (k : ℕ). k * size) (sym (blocks_whole B pos x))

  pub append_full : (x y : List ℕ) → Full B x → Full B y → Full B (x ++ y)
  append_full x y p q =
      length-append x y ∙ ap₂ ◌+◌ p q ∙ sym (add-mul (blocks_in B x) (blocks_in B y) size)
      ∙ ap (λ (k : ℕ). k * size) (sym (blocks_behind B pos x y p))

  -- ---- block by block: what is put behind bytes leaves their blocks as they are, and behind whole blocks its blocks are the next

  at_first : (x y : List ℕ) (e : ℕ) → e < blocks_in B x → block_at B (x ++ y) e ≡ block_at B x e
  at_first x y e h =
      let reach : suc e * size ≤ length x = omega (arith, mul-le-mul_right size h, div-mul-le_self (length x) size) in
      let before : e * size ≤ length x = omega (arith, suc-mul e size) in
      let inside : size ≤ length (drop (e * size) x) = rw length-drop (omega (arith, suc-mul e size)) in
      ap (take size) (drop-append-le (e * size) x y before) ∙ take-append-le size (drop (e * size) x) y inside

  at_behind : (x y : List ℕ) → Full B x → (e : ℕ) → block_at B (x ++ y) (blocks_in B x + e) ≡ block_at B y e
  at_behind x y full e =
      let far : (blocks_in B x + e) * size ≡ length x + e * size = omega (arith, add-mul (blocks_in B x) e size) in
      ap (λ (k : ℕ). take size (drop k (x ++ y))) far ∙ ap (take size) (drop-append-add x y (e * size))

  pub at_whole : (x : List ℕ) (e : ℕ) → e < blocks_in B x → block_at B (whole B x) e ≡ block_at B x e
  at_whole x e h =
      sym (at_first (whole B x) (rest B x) e (rw (blocks_whole B pos) h)) ∙ ap (λ (l : List ℕ). block_at B l e) (whole_rest B x)

  -- ---- sums over blocks

  module _ (g : List ℕ → ℕ) where
    abbrev f : List ℕ → ℕ → ℕ
    f z e = g (block_at B z e)

    pub over_behind : (x y : List ℕ) → Full B x → over B g (x ++ y) ≡ over B g x + over B g y
    unfolding over
    over_behind x y full =
        let n = blocks_in B x in
        ap (sum_to (f (x ++ y))) (blocks_behind B pos x y full) ∙ sum_more (f (x ++ y)) n (blocks_in B y)
        ∙ ap₂ ◌+◌ (sum_ext (f (x ++ y)) (f x) n (λ e h. ap g (at_first x y e h)))
        (sum_ext (λ e. f (x ++ y) (n + e)) (f y) (blocks_in B y) (λ e h. ap g (at_behind x y full e)))

    pub over_whole : (x : List ℕ) → over B g (whole B x) ≡ over B g x
    unfolding over
    over_whole x =
        ap (sum_to (f (whole B x))) (blocks_whole B pos x) ∙ sum_ext (f (whole B x)) (f x) (blocks_in B x) (λ e h. ap g (at_whole x e h))

    pub over_append : (x y : List ℕ) → over B g (x ++ y) ≡ over B g x + over B g (rest B x ++ y)
    over_append x y =
        sym (over_whole (x ++ y)) ∙ ap (over B g) (whole_append B pos x y)
        ∙ over_behind (whole B x) (whole B (rest B x ++ y)) (whole_full x) ∙ ap₂ ◌+◌ (over_whole x) (over_whole (rest B x ++ y))

sum_ones : (m : ℕ) → sum_to (λ l. 1) m ≡ m
unfolding sum_to
sum_ones zero = refl
sum_ones (suc m) = omega (arith, sum_ones m)

-- the blocks' number, and how many are in bin v of a subset
pub over_number : (B : ℕ) (x : List ℕ) → over B (λ block. 1) x ≡ blocks_in B x
unfolding over
over_number B x = sum_ones (blocks_in B x)

pub over_count : (B : ℕ) (low : Bool) (bits : List ℕ) (v : ℕ) (x : List ℕ)
    → over B (λ block. same (bin_of (block_bit low block) bits) v) x ≡ count_in (recorded_bit B low x) (blocks_in B x) bits v
unfolding over recorded_bit
over_count B low bits v x = sym (count_sum (recorded_bit B low x) (blocks_in B x) bits v)

-- ---- sums over boards

-- one term has d more
pub sum_changed : (f g : ℕ → ℕ) (m b d : ℕ) → b < m → ((c : ℕ) → (c ≡ b → ⊥) → g c ≡ f c) → g b ≡ f b + d → sum_to g m ≡ sum_to f m + d
unfolding sum_to
sum_changed f g zero b d h other this = absurd (omega arith)
sum_changed f g (suc m) b d h other this = by_last (ℕ_discrete m b) (λ below. sum_changed f g m b d below other this)
  where
    by_last : Dec (m ≡ b) → (b < m → sum_to g m ≡ sum_to f m + d) → sum_to g m + g m ≡ sum_to f m + f m + d
    by_last (yes e) before =
        let last : g m ≡ f m + d = rw (← e) at this in
        omega (arith, sum_ext g f m (λ l p. other l (λ q. omega arith)))
    by_last (no ne) before = omega (arith, before (omega arith), other m ne)
