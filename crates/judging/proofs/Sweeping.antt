-- What every plan has: at most seven pairs, rising block sizes, and all doubles of the block size. And two plans, computed.
use mathlib.Core.Path.{◌≡◌, refl, ap}
use mathlib.Core.Bool.{Bool, true, false}
use mathlib.Core.List.{List, [], ◌∷◌, Memᴰ}
use Prim.Native.Nat.{ℕ, zero, suc, ◌-◌, ◌*◌, ◌^◌, ◌≤◌, ◌<◌, max}
use native.Mathlib.Nat.{pow-succ', mul-le-mul_left}
use native.Mathlib.Omega.{arith}
use lib.Dec.{leb, eqb}
use lib.ListN.{length, get_or, replicate, get_or-append}
use lib.Pow.{pow_pos, pow_mono}
use borrow.Author.Tests.{leb-true, leb-false, eqb-true, eqb-false}
use Rattle.counting.specs.Block.{valid_size}
use Rattle.counting.proofs.Accepted.{Valid, valid_facts}
use Rattle.subsets.specs.Subsets.{Rising}
use Rattle.subsets.proofs.Listing.{rising_from}
use Rattle.judging.specs.Plan.{width_for, sizes_from, sizes_of, widths_of, after_eight, plan_of, Sweeps, PlansAtThousand}
use Rattle.judging.proofs.Planning.{past, one_more, eight, from_first, after_big}

-- ---- how many, and in which order

no_size : (top size : ℕ) → sizes_from 0 top size ≡ []
unfolding sizes_from
no_size top size = refl

-- n sizes at most, rising from `size` on up to the top
record Rise (n top size : ℕ) : Type 0 where
  pub few : length (sizes_from n top size) ≤ n
  pub up : Rising size (suc top) (sizes_from n top size)

rise_one : (n top size : ℕ) → 8 < size → size ≤ top → Rise n top (2 * size) → Rise (suc n) top size
rise_one n top size big low rest =
    let more : suc size ≤ 2 * size = omega arith in
    let e = one_more n top size big low in
    record {
      few = rw e (omega (arith, rest.few));
      up = rw e (omega arith, omega arith, rising_from (suc size) (2 * size) (suc top) (sizes_from n top (2 * size)) more rest.up);
    }

rise_none : (n top size : ℕ) → top < size → Rise n top size
rise_none n top size over = let e = past n top size over in record { few = rw e (omega arith); up = rw e tt }

sizes_rise : (n top size : ℕ) → 8 < size → Rise n top size
sizes_rise zero top size big = record { few = rw (no_size top size) (omega arith); up = rw (no_size top size) tt }
sizes_rise (suc n) top size big =
    let big' : 8 < 2 * size = omega arith in
    by_test (sizes_rise n top (2 * size) big') (leb size top) refl
  where
    by_test : Rise n top (2 * size) → (t : Bool) → leb size top ≡ t → Rise (suc n) top size
    by_test rest true e = rise_one n top size big (leb-true _ _ e) rest
    by_test rest false e = rise_none (suc n) top size (leb-false _ _ e)

-- a later entry of a rising list is greater
later_greater : (lo hi i j : ℕ) (s : List ℕ) → Rising lo hi s → i < j → j < length s → (lo ≤ get_or s i 0) × (get_or s i 0 < get_or s j 0)
later_greater lo hi i j [] r h g = absurd (omega arith)
later_greater lo hi i zero (a ∷ s) r h g = absurd (omega arith)
later_greater lo hi zero (suc zero) (a ∷ []) r h g = absurd (omega arith)
later_greater lo hi zero (suc zero) (a ∷ b ∷ s) r h g = (r.0, r.2.0)
later_greater lo hi zero (suc (suc j)) (a ∷ s) r h g =
    let first = later_greater (suc a) hi 0 (suc j) s r.2 (omega arith) (omega arith) in
    (r.0, omega arith)
later_greater lo hi (suc i) (suc j) (a ∷ s) r h g =
    let rest = later_greater (suc a) hi i j s r.2 (omega arith) (omega arith) in
    (omega (arith, r.0), rest.1)

-- ---- which

-- the i-th double is among n sizes where i is below n
doubles : (i n top size : ℕ) → 8 < size → i < n → size * 2 ^ i ≤ top → Memᴰ (size * 2 ^ i) (sizes_from n top size)
doubles i zero top size big h low = absurd (omega arith)
doubles zero (suc n) top size big h low =
    let reached : size ≤ top = omega arith in
    let e : size * 2 ^ 0 ≡ size = omega arith in
    rw (one_more n top size big reached) (mathlib.Core.List.Memᴰ.head e)
doubles (suc i) (suc n) top size big h low =
    let e : size * 2 ^ suc i ≡ 2 * size * 2 ^ i = omega (arith, ap (λ (p : ℕ). size * p) (pow-succ' 2 i)) in
    let reached : size ≤ top = omega (arith, mul-le-mul_left size (pow_pos (suc i))) in
    let rest : Memᴰ (2 * size * 2 ^ i) (sizes_from n top (2 * size)) = doubles i n top (2 * size) (omega arith) (omega arith) (omega arith) in
    rw (e, one_more n top size big reached) (mathlib.Core.List.Memᴰ.tail rest)

eight_doubles : (i : ℕ) → i < 7 → 8 * 2 ^ i ≤ 512 → Memᴰ (8 * 2 ^ i) (8 ∷ sizes_from 7 512 8)
eight_doubles zero near low = mathlib.Core.List.Memᴰ.head refl
eight_doubles (suc i) near low =
    let e : 8 * 2 ^ suc i ≡ 16 * 2 ^ i = omega (arith, pow-succ' 2 i) in
    let room : 8 ≤ 512 = omega arith in
    let rest : Memᴰ (16 * 2 ^ i) (sizes_from 6 512 16) = doubles i 6 512 16 (omega arith) (omega arith) (omega arith) in
    rw (e, eight 6 512 room) (mathlib.Core.List.Memᴰ.tail rest)

-- B and its doubles, past a second 8 too
all_doubles : (B i : ℕ) → Valid B → B * 2 ^ i ≤ max B 512 → Memᴰ (B * 2 ^ i) (8 ∷ sizes_from 7 (max B 512) B)
all_doubles B i v low = by_test (eqb B 8) refl (leb 7 i) refl
  where
    small : leb 7 i ≡ true → ⊥
    small e = omega (arith, mul-le-mul_left B (pow_mono (leb-true 7 i e)))

    by_test : (t : Bool) → eqb B 8 ≡ t → (far : Bool) → leb 7 i ≡ far → Memᴰ (B * 2 ^ i) (8 ∷ sizes_from 7 (max B 512) B)
    by_test t e true far = absurd (small far)
    by_test true e false far = rw (eqb-true B 8 e) (eight_doubles i (leb-false 7 i far) (rw (eqb-true B 8 e) at low))
    by_test false e false far =
        let near : i < 7 = leb-false 7 i far in
        let big : 8 < B = omega (arith, eqb-false B 8 e) in
        mathlib.Core.List.Memᴰ.tail (doubles i 7 (max B 512) B big near low)

-- ---- the plan

sizes_of_is : (B : ℕ) → Valid B → (length (sizes_of B) ≤ 7) × Rising 8 (suc (max B 512)) (sizes_of B)
unfolding sizes_of
sizes_of_is B v =
    let r = sizes_rise 6 (max B 512) (after_eight B) (after_big B v) in
    let above : 9 ≤ after_eight B = after_big B v in
    rw (from_first B v)
    (omega (arith, r.few), (omega arith, omega arith, rising_from 9 (after_eight B) (suc (max B 512)) (sizes_from 6 (max B 512) (after_eight B)) above r.up))

pub pairs_are : (B bytes : ℕ) → valid_size B ≡ true → (plan_of B bytes).pairs ≡ length (sizes_of B)
unfolding plan_of
pairs_are B bytes valid = simp valid

pub block_at : (B bytes : ℕ) → valid_size B ≡ true → (i : ℕ) → i < length (sizes_of B) → get_or (plan_of B bytes).blocks i 0 ≡ get_or (sizes_of B) i 0
unfolding plan_of
block_at B bytes valid i h = simp valid (get_or-append (sizes_of B) (replicate (7 - length (sizes_of B)) 0) 0 i h)

rising_blocks : (B bytes : ℕ) → valid_size B ≡ true → (i j : ℕ) → i < j → j < (plan_of B bytes).pairs → get_or (plan_of B bytes).blocks i 0 < get_or (plan_of B bytes).blocks j 0
rising_blocks B bytes valid i j h g =
    let within : j < length (sizes_of B) = omega (arith, pairs_are B bytes valid) in
    let before : i < length (sizes_of B) = omega arith in
    rw (block_at B bytes valid i before, block_at B bytes valid j within)
    (later_greater 8 (suc (max B 512)) i j (sizes_of B) (sizes_of_is B (valid_facts B valid)).1 h within).1

pub sweeps : Sweeps
unfolding Sweeps sizes_of
sweeps B bytes valid = record {
  most = rw (pairs_are B bytes valid) (sizes_of_is B (valid_facts B valid)).0;
  rising = rising_blocks B bytes valid;
  complete = λ i low. all_doubles B i (valid_facts B valid) low;
}

pub plans_at_thousand : PlansAtThousand
unfolding plan_of sizes_of widths_of sizes_from width_for valid_size
plans_at_thousand = record { for_128 = refl; for_24 = refl }
