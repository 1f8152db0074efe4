-- `compute_index`'s refusals: what the test of a width shows, and the answer where a test fails and where all pass.
use mathlib.Core.Path.{◌≡◌, refl, sym, ap, ◌∙◌}
use Prim.Native.Nat.{ℕ, ◌^◌, ◌≤◌, ◌<◌}
use mathlib.Core.Bool.{true, false}
use mathlib.Core.List.{List}
use lib.Dec.{leb}
use borrow.Author.Tests.{leb-true, le-leb, lt-leb, eq-eqb, ne_eqb}
use Rattle.counting.specs.Block.{valid_size}
use Rattle.counting.proofs.Accepted.{both}
use Rattle.subsets.specs.Choose.{choose, choose_up_to}
use Rattle.subsets.specs.Bits.{valid_width, bits_refusal}
use Rattle.subsets.specs.Rank.{rank_of, rank_refusal, Ranked, ranked_of}
use Rattle.subsets.proofs.Choosing.{told_above, told_within}

pub width_bounds : (k : ℕ) → valid_width k ≡ true → (1 ≤ k) × (k ≤ 20)
unfolding valid_width
width_bounds k e = let w = both (leb 1 k) (leb k 20) e in (leb-true 1 k w.0, leb-true k 20 w.1)

pub valid_width_is : (k : ℕ) → 1 ≤ k → k ≤ 20 → valid_width k ≡ true
unfolding valid_width
valid_width_is k low high = rw (le-leb 1 k low, le-leb k 20 high) refl

-- an answer, as the code builds it
abbrev answer : ℕ → ℕ → Ranked
answer refusal rank = record { refusal = refusal; rank = rank }

module _ (B k : ℕ) (s : List ℕ) where
  pub bad_size : valid_size B ≡ false → answer 1 0 ≡ ranked_of B k s
  unfolding ranked_of rank_refusal
  bad_size b = simp b

  pub bad_width : valid_size B ≡ true → valid_width k ≡ false → answer 2 0 ≡ ranked_of B k s
  unfolding ranked_of rank_refusal
  bad_width b w = simp (b, w)

  pub too_wide : valid_size B ≡ true → valid_width k ≡ true → B < k → answer 3 0 ≡ ranked_of B k s
  unfolding ranked_of rank_refusal
  too_wide b w h = simp (b, w, lt-leb k B h)

  module _ (b : valid_size B ≡ true) (w : valid_width k ≡ true) (h : k ≤ B) where
    pub bad_bits : (r : ℕ) → r ≡ bits_refusal B s → (r ≡ 0 → ⊥) → answer r 0 ≡ ranked_of B k s
    unfolding ranked_of rank_refusal
    bad_bits r e n =
        ap (λ (x : ℕ). answer x 0) e ∙ simp (b, w, le-leb k B h, ne_eqb (bits_refusal B s) 0 (λ z. n (e ∙ z)))

    pub too_many : (r c : ℕ) → r ≡ bits_refusal B s → r ≡ 0 → c ≡ choose_up_to B k → 2 ^ 32 < c → answer 12 0 ≡ ranked_of B k s
    unfolding ranked_of rank_refusal
    too_many r c e z f l =
        simp (b, w, le-leb k B h, eq-eqb (bits_refusal B s) 0 (sym e ∙ z), lt-leb (choose B k) (2 ^ 32) (told_above B k c f l))

    pub taken : (r c rank : ℕ) → r ≡ bits_refusal B s → r ≡ 0 → c ≡ choose_up_to B k → c ≤ 2 ^ 32 → rank ≡ rank_of B s → answer 0 rank ≡ ranked_of B k s
    unfolding ranked_of rank_refusal
    taken r c rank e z f l q =
        ap (answer 0) q ∙ simp (b, w, le-leb k B h, eq-eqb (bits_refusal B s) 0 (sym e ∙ z), le-leb (choose B k) (2 ^ 32) (told_within B k c f l))
