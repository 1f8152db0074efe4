-- What `rank_of`'s loop needs: what the bits not yet visited take away, and that none of it is above 2^32.
use mathlib.Core.Path.{◌≡◌, sym, ap, ◌∙◌}
use Prim.Native.Nat.{ℕ, suc, ◌+◌, ◌-◌, ◌^◌, ◌≤◌, ◌<◌}
use native.Mathlib.Numerals.{add-one}
use native.Mathlib.Omega.{arith}
use mathlib.Core.List.{List}
use lib.ListN.{length, drop, get_or, length-drop}
use lib.Seq.{drop-cons}
use Rattle.subsets.specs.Subsets.{Subset}
use Rattle.subsets.specs.Choose.{choose, choose_up_to}
use Rattle.subsets.specs.Rank.{rank_of, ways_above}
use Rattle.subsets.proofs.Choosing.{told}
use Rattle.subsets.proofs.Ranking.{ranks}

-- with j bits visited, what is left: the subsets before s and, of those after it, the ones that agree with it in these j bits; so it never falls below the rank
pub record Placing (B : ℕ) (s : List ℕ) (number j : ℕ) : Type 0 where
  pub few : number < 2 ^ 32
  pub left : number ≡ rank_of B s + ways_above B (drop j s)

module _ (B : ℕ) (s : List ℕ) where
  -- c is the number of all subsets
  module _ (few : choose B (length s) ≤ 2 ^ 32) (subset : Subset B (length s) s) (c : ℕ) (e : c ≡ choose_up_to B (length s)) where
    all_told : c ≡ rank_of B s + 1 + ways_above B s
    all_told = told B (length s) c e few ∙ sym ((ranks B (length s)).whole s subset)

    pub one_fits : 1 ≤ c
    one_fits = omega (arith, all_told)

    pub placed : Placing B s (c - 1) 0
    placed = record {
      few = omega (arith, told B (length s) c e few, all_told);
      left = omega (arith, all_told);
    }

  -- c is the number of ways above bit j
  module _ (number j : ℕ) (p : Placing B s number j) (h : j < length s) (c : ℕ) (e : c ≡ choose_up_to (B - 1 - get_or s j 0) (length s - j)) where
    visited : number ≡ rank_of B s + (choose (B - 1 - get_or s j 0) (length s - j) + ways_above B (drop (suc j) s))
    visited =
        let more : suc (length (drop (suc j) s)) ≡ length s - j = omega (arith, length-drop (suc j) s) in
        p.left
        ∙ ap (λ (l : List ℕ). rank_of B s + ways_above B l) (drop-cons s j 0 h)
        ∙ ap (λ (r : ℕ). rank_of B s + (choose (B - 1 - get_or s j 0) r + ways_above B (drop (suc j) s))) more

    exactly : c ≡ choose (B - 1 - get_or s j 0) (length s - j)
    exactly = told (B - 1 - get_or s j 0) (length s - j) c e (omega (arith, visited, p.few))

    pub fits : c ≤ number
    fits = omega (arith, visited, exactly)

    pub stepped : Placing B s (number - c) (j + 1)
    stepped = rw (add-one j) (record {
      few = omega (arith, p.few);
      left = omega (arith, visited, exactly);
    })
