-- The store of one sample is that of another that agrees with it: every subset that is kept has its bits in the block.
use mathlib.Core.Path.{◌≡◌, refl, ap₂}
use mathlib.Core.List.{List, [], ◌∷◌, ◌++◌, map, Memᴰ}
use Prim.Native.Nat.{ℕ, zero, suc, ◌-◌, ◌^◌}
use lib.ListN.{length}
use Rattle.counting.specs.Sample.{all_set, AgreeBelow}
use Rattle.counting.proofs.Counts.{count_agree}
use Rattle.layers.specs.Store.{store_to}
use Rattle.subsets.specs.Subsets.{Subset, subsets}
use Rattle.subsets.proofs.Listing.{listed, bits_below}

-- what is made of each entry alike
map_agree : (f g : List ℕ → ℕ) (xs : List (List ℕ)) → ((x : List ℕ) → Memᴰ x xs → f x ≡ g x) → map f xs ≡ map g xs
map_agree f g [] h = refl
map_agree f g (x ∷ xs) h = ap₂ (λ (a : ℕ) (l : List ℕ). a ∷ l) (h x (Memᴰ.head refl)) (map_agree f g xs (λ y p. h y (Memᴰ.tail p)))

module _ (n B : ℕ) (bit bit' : ℕ → ℕ → ℕ) (agree : AgreeBelow n B bit bit') where
  all_set_agree : (d : ℕ) (s : List ℕ) → Subset B d s → all_set bit n s ≡ all_set bit' n s
  all_set_agree d s X = count_agree n B bit bit' agree s (bits_below B d s X) (2 ^ length s - 1)

  pub store_agree : (m : ℕ) → store_to bit n B m ≡ store_to bit' n B m
  unfolding store_to
  store_agree zero = refl
  store_agree (suc m) =
      ap₂ (λ (l r : List ℕ). l ++ r) (store_agree m)
      (map_agree (all_set bit n) (all_set bit' n) (subsets B (suc m)) (λ s p. all_set_agree (suc m) s ((listed B (suc m)).sound s p)))
