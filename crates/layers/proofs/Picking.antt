-- The bits that a number chooses: how many they are, that they are a subset, and the lowest of them.
use mathlib.Core.Path.{◌≡◌, refl, sym, ap, ◌∙◌}
use Prim.Native.Nat.{ℕ, zero, suc, ◌+◌, ◌-◌, ◌*◌, ◌/◌, ◌%◌, ◌^◌, ◌≤◌, ◌<◌}
use native.Mathlib.Omega.{arith}
use native.Mathlib.Nat.{pow-suc}
use mathlib.Core.Logic.{◌⊎◌, inl, inr}
use mathlib.Core.List.{List, [], ◌∷◌}
use lib.Count.{ones, ones_step, count_trailing_zeros, under}
use lib.ListN.{length, get_or}
use lib.Pow.{pow_pos}
use Rattle.subsets.specs.Subsets.{Rising, Subset}
use Rattle.subsets.proofs.Listing.{rising_from}
use Rattle.layers.specs.Settle.{chosen}

-- ---- one bit of the number

even_chosen : (b : ℕ) (bs : List ℕ) (u : ℕ) → u % 2 ≡ 0 → chosen (b ∷ bs) u ≡ chosen bs (u / 2)
unfolding chosen
even_chosen b bs u e = rw e refl

pub odd_chosen : (b : ℕ) (bs : List ℕ) (u : ℕ) → u % 2 ≡ 1 → chosen (b ∷ bs) u ≡ b ∷ chosen bs (u / 2)
unfolding chosen
odd_chosen b bs u e = rw e refl

-- none are chosen by 0
pub none_chosen : (bits : List ℕ) → chosen bits 0 ≡ []
unfolding chosen
none_chosen [] = refl
none_chosen (b ∷ bs) = none_chosen bs

-- ---- how many

half_below : (m u : ℕ) → u < 2 ^ suc m → u / 2 < 2 ^ m
half_below m u h = omega (arith, pow-suc 2 m)

-- half of the numbers choose the last
pub doubled : (m : ℕ) → 1 ≤ m → 2 ^ (m - 1) * 2 ≡ 2 ^ m
doubled zero h = absurd (omega arith)
doubled (suc m) h = let e : suc m - 1 ≡ m = omega arith in ap (λ (x : ℕ). 2 ^ x * 2) e ∙ sym (pow-suc 2 m)

pub length_chosen : (bits : List ℕ) (u : ℕ) → u < 2 ^ length bits → length (chosen bits u) ≡ ones u
unfolding chosen ones
length_chosen [] u h = let e : u ≡ 0 = omega arith in rw e refl
length_chosen (b ∷ bs) u h = go (u % 2) refl (length_chosen bs (u / 2) (half_below (length bs) u h))
  where
    go : (d : ℕ) → u % 2 ≡ d → length (chosen bs (u / 2)) ≡ ones (u / 2) → length (chosen (b ∷ bs) u) ≡ ones u
    go zero e was = ap length (even_chosen b bs u e) ∙ omega (arith, ones_step u)
    go (suc zero) e was = ap length (odd_chosen b bs u e) ∙ omega (arith, ones_step u)
    go (suc (suc d)) e was = absurd (omega arith)

pub chosen_le : (bits : List ℕ) (u : ℕ) → length (chosen bits u) ≤ length bits
unfolding chosen
chosen_le [] u = omega arith
chosen_le (b ∷ bs) u = go (u % 2) refl (chosen_le bs (u / 2))
  where
    go : (d : ℕ) → u % 2 ≡ d → length (chosen bs (u / 2)) ≤ length bs → length (chosen (b ∷ bs) u) ≤ suc (length bs)
    go zero e was = omega (arith, ap length (even_chosen b bs u e))
    go (suc zero) e was = omega (arith, ap length (odd_chosen b bs u e))
    go (suc (suc d)) e was = absurd (omega arith)

-- only the last number chooses all
pub chosen_lt : (bits : List ℕ) (u : ℕ) → u < 2 ^ length bits - 1 → length (chosen bits u) < length bits
chosen_lt [] u h = absurd (omega arith)
chosen_lt (b ∷ bs) u h = go (u % 2) refl (chosen_lt bs (u / 2))
  where
    go : (d : ℕ) → u % 2 ≡ d → (u / 2 < 2 ^ length bs - 1 → length (chosen bs (u / 2)) < length bs) → length (chosen (b ∷ bs) u) < suc (length bs)
    go zero e was = omega (arith, ap length (even_chosen b bs u e), chosen_le bs (u / 2))
    go (suc zero) e was = omega (arith, ap length (odd_chosen b bs u e), was (omega (arith, pow-suc 2 (length bs), h)))
    go (suc (suc d)) e was = absurd (omega arith)

-- and it does
pub all_chosen : (bits : List ℕ) → chosen bits (2 ^ length bits - 1) ≡ bits
unfolding chosen
all_chosen [] = refl
all_chosen (b ∷ bs) =
    let odd : (2 ^ suc (length bs) - 1) % 2 ≡ 1 = omega (arith, pow-suc 2 (length bs), pow_pos (length bs)) in
    let half : (2 ^ suc (length bs) - 1) / 2 ≡ 2 ^ length bs - 1 = omega (arith, pow-suc 2 (length bs), pow_pos (length bs)) in
    odd_chosen b bs (2 ^ suc (length bs) - 1) odd ∙ ap (λ (l : List ℕ). b ∷ l) (ap (chosen bs) half ∙ all_chosen bs)

-- ---- they are a subset

rising_chosen : (lo hi : ℕ) (bits : List ℕ) (u : ℕ) → Rising lo hi bits → Rising lo hi (chosen bits u)
unfolding chosen
rising_chosen lo hi [] u r = tt
rising_chosen lo hi (b ∷ bs) u r = go (u % 2) refl (rising_chosen (suc b) hi bs (u / 2) r.2)
  where
    go : (d : ℕ) → u % 2 ≡ d → Rising (suc b) hi (chosen bs (u / 2)) → Rising lo hi (chosen (b ∷ bs) u)
    go zero e was = rw (even_chosen b bs u e) (rising_from lo (suc b) hi (chosen bs (u / 2)) (omega (arith, r.0)) was)
    go (suc zero) e was = rw (odd_chosen b bs u e) (r.0, r.1, was)
    go (suc (suc d)) e was = absurd (omega arith)

pub subset_chosen : (B : ℕ) (bits : List ℕ) (u : ℕ) → Subset B (length bits) bits → Subset B (length (chosen bits u)) (chosen bits u)
subset_chosen B bits u s = record { size = refl; rising = rising_chosen 0 B bits u s.rising }

-- ---- the lowest

pub record Lowest (bits : List ℕ) (u i : ℕ) : Type 0 where
  pub inside : i < length bits
  pub has : 2 ^ i ≤ u
  pub few : i + length (chosen bits u) ≤ length bits
  pub parts : chosen bits u ≡ get_or bits i 0 ∷ chosen bits (u - 2 ^ i)

pub lowest : (w : ℕ) (bits : List ℕ) (u : ℕ) → length bits ≤ w → 0 < u → u < 2 ^ length bits → Lowest bits u (count_trailing_zeros w u)
unfolding count_trailing_zeros
lowest zero [] u l pos h = absurd (omega arith)
lowest zero (b ∷ bs) u l pos h = absurd (omega arith)
lowest (suc w) [] u l pos h = absurd (omega arith)
lowest (suc w) (b ∷ bs) u l pos h = go (u % 2) refl (lowest w bs (u / 2) (omega arith))
  where
    go : (d : ℕ) → u % 2 ≡ d → (0 < u / 2 → u / 2 < 2 ^ length bs → Lowest bs (u / 2) (count_trailing_zeros w (u / 2)))
        → Lowest (b ∷ bs) u (under (u % 2) (count_trailing_zeros w (u / 2)))
    go zero e was =
        let z : Lowest bs (u / 2) (count_trailing_zeros w (u / 2)) = was (omega arith) (half_below (length bs) u h) in
        let power : 2 ^ suc (count_trailing_zeros w (u / 2)) ≡ 2 ^ count_trailing_zeros w (u / 2) * 2 = pow-suc 2 (count_trailing_zeros w (u / 2)) in
        let r2 : (u - 2 ^ suc (count_trailing_zeros w (u / 2))) % 2 ≡ 0 = omega (arith, z.has) in
        let rh : (u - 2 ^ suc (count_trailing_zeros w (u / 2))) / 2 ≡ u / 2 - 2 ^ count_trailing_zeros w (u / 2) = omega (arith, z.has) in
        rw e (record {
          inside = omega (arith, z.inside);
          has = omega (arith, z.has);
          few = omega (arith, z.few, ap length (even_chosen b bs u e));
          parts = even_chosen b bs u e ∙ z.parts
              ∙ ap (λ (x : List ℕ). get_or bs (count_trailing_zeros w (u / 2)) 0 ∷ x)
              (ap (chosen bs) (sym rh) ∙ sym (even_chosen b bs (u - 2 ^ suc (count_trailing_zeros w (u / 2))) r2));
        })
    go (suc zero) e was =
        let r2 : (u - 2 ^ 0) % 2 ≡ 0 = omega arith in
        let rh : (u - 2 ^ 0) / 2 ≡ u / 2 = omega arith in
        rw e (record {
          inside = omega arith;
          has = omega arith;
          few = omega (arith, chosen_le (b ∷ bs) u);
          parts = odd_chosen b bs u e ∙ ap (λ (x : List ℕ). b ∷ x) (ap (chosen bs) (sym rh) ∙ sym (even_chosen b bs (u - 2 ^ 0) r2));
        })
    go (suc (suc d)) e was = absurd (omega arith)

-- without it, a number that has a one at its highest place m is 0 or has it still
pub highest_stays : (w m u : ℕ) → m < w → 2 ^ m ≤ u → u < 2 ^ suc m → (u - 2 ^ count_trailing_zeros w u ≡ 0) ⊎ (2 ^ m ≤ u - 2 ^ count_trailing_zeros w u)
unfolding count_trailing_zeros
highest_stays zero m u l from to = absurd (omega arith)
highest_stays (suc w) zero u l from to = let e : u ≡ 1 = omega arith in rw e (inl refl)
highest_stays (suc w) (suc m) u l from to = go (u % 2) refl (highest_stays w m (u / 2) (omega arith) (omega (arith, pow-suc 2 m)) (half_below (suc m) u to))
  where
    z : ℕ
    z = count_trailing_zeros w (u / 2)

    go : (d : ℕ) → u % 2 ≡ d → (u / 2 - 2 ^ z ≡ 0) ⊎ (2 ^ m ≤ u / 2 - 2 ^ z)
        → (u - 2 ^ under (u % 2) z ≡ 0) ⊎ (2 ^ suc m ≤ u - 2 ^ under (u % 2) z)
    go zero e (inl q) = rw e (inl (omega (arith, pow-suc 2 z)))
    go zero e (inr q) = rw e (inr (omega (arith, pow-suc 2 z, pow-suc 2 m)))
    go (suc zero) e was = rw e (inr (omega (arith, pow-suc 2 m)))
    go (suc (suc d)) e was = absurd (omega arith)

-- ---- a multiple of 4 and the three numbers after it

half_even : (q h : ℕ) → h ≡ q * 2 → h % 2 ≡ 0
half_even q h e = omega arith

half_odd : (q h : ℕ) → h ≡ q * 2 + 1 → h % 2 ≡ 1
half_odd q h e = omega arith

times_four : (q u : ℕ) → u ≡ q * 4 → u % 4 ≡ 0
times_four q u e = omega arith

pub power_four : (m : ℕ) → 2 ≤ m → 2 ^ m % 4 ≡ 0
power_four zero h = absurd (omega arith)
power_four (suc zero) h = absurd (omega arith)
power_four (suc (suc m)) h = omega (arith, pow-suc 2 (suc m), pow-suc 2 m)

-- without its lowest one it is a multiple of 4 still
four_lowest : (w u : ℕ) → u % 4 ≡ 0 → count_trailing_zeros (suc (suc w)) u ≡ suc (suc (count_trailing_zeros w (u / 2 / 2)))
unfolding count_trailing_zeros
four_lowest w u e =
    let a : u % 2 ≡ 0 = omega arith in
    let b : u / 2 % 2 ≡ 0 = half_even (u / 4) (u / 2) (omega arith) in
    rw a (rw b refl)

pub four_stays : (w u : ℕ) → u % 4 ≡ 0 → (u - 2 ^ count_trailing_zeros (suc (suc w)) u) % 4 ≡ 0
four_stays w u e =
    let z : ℕ = count_trailing_zeros w (u / 2 / 2) in
    let power : 2 ^ count_trailing_zeros (suc (suc w)) u ≡ 2 ^ suc (suc z) = ap (λ (x : ℕ). 2 ^ x) (four_lowest w u e) in
    times_four (u / 4 - 2 ^ z) (u - 2 ^ count_trailing_zeros (suc (suc w)) u) (omega (arith, pow-suc 2 (suc z), pow-suc 2 z))

-- where the lowest one is
pub odd_lowest : (w u : ℕ) → u % 2 ≡ 1 → count_trailing_zeros (suc w) u ≡ 0
unfolding count_trailing_zeros
odd_lowest w u e = rw e refl

pub even_lowest : (w u : ℕ) → u % 4 ≡ 2 → count_trailing_zeros (suc (suc w)) u ≡ 1
unfolding count_trailing_zeros
even_lowest w u e =
    let a : u % 2 ≡ 0 = omega arith in
    let b : u / 2 % 2 ≡ 1 = half_odd (u / 4) (u / 2) (omega arith) in
    rw a (rw b refl)

-- how many ones there are
pub ones_odd : (u : ℕ) → u % 2 ≡ 0 → ones (u + 1) ≡ ones u + 1
ones_odd u e =
    let half : (u + 1) / 2 ≡ u / 2 = omega arith in
    omega (arith, ones_step (u + 1), ones_step u, ap ones half)

pub ones_even : (u : ℕ) → u % 4 ≡ 0 → ones (u + 2) ≡ ones u + 1
ones_even u e =
    let half : (u + 2) / 2 ≡ u / 2 + 1 = omega arith in
    omega (arith, ones_step (u + 2), ones_step u, ap ones half, ones_odd (u / 2) (half_even (u / 4) (u / 2) (omega arith)))

pub ones_both : (u : ℕ) → u % 4 ≡ 0 → ones (u + 3) ≡ ones u + 2
ones_both u e =
    let next : u + 3 ≡ u + 2 + 1 = omega arith in
    omega (arith, ap ones next, ones_odd (u + 2) (omega arith), ones_even u e)
