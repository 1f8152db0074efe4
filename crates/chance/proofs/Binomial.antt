-- The terms of a binomial sum, each from two of one block less by Pascal's rule.
use mathlib.Core.Path.{◌≡◌, sym, ap, ◌∙◌}
use Prim.Native.Nat.{ℕ, zero, suc, ◌+◌, ◌-◌, ◌*◌, ◌^◌, ◌<◌}
use native.Mathlib.Omega.{arith}
use native.Mathlib.Decide.{dec_lt}
use native.Mathlib.Nat.{zero-mul, sub-zero, suc-sub-suc, pow-suc, add-mul, mul_assoc, mul_right_comm}
use Rattle.subsets.specs.Choose.{choose}
use Rattle.subsets.proofs.Choosing.{none_beyond}
use Rattle.chance.specs.Chance.{binomial_term, TermsByBlock}

-- a term of no choice
zeros : (b u w : ℕ) → b ≡ 0 → b * u * w ≡ 0
zeros b u w e = ap (λ (x : ℕ). x * u * w) e ∙ rw (zero-mul, zero-mul)

-- of more positives than blocks there is none
pub term_past : (n k d j : ℕ) → n < j → binomial_term n k d j ≡ 0
term_past n k d j h = zeros (choose n j) (d ^ j) _ (none_beyond n j h)

-- one factor q more
less_one : (b u q t i : ℕ) → (t < suc i → b ≡ 0) → b * u * q ^ (t - i) ≡ b * u * q ^ (t - suc i) * q
less_one b u q t i z = go (dec_lt i t)
  where
    go : Dec (i < t) → b * u * q ^ (t - i) ≡ b * u * q ^ (t - suc i) * q
    go (yes h) =
        let e : t - i ≡ suc (t - suc i) = omega arith in
        ap (λ (x : ℕ). b * u * q ^ x) e ∙ ap (λ (x : ℕ). b * u * x) (pow-suc q (t - suc i)) ∙ sym (mul_assoc (b * u) (q ^ (t - suc i)) q)
    go (no h) =
        let e : b ≡ 0 = z (omega arith) in
        zeros b u (q ^ (t - i)) e ∙ sym (ap (λ (x : ℕ). x * q) (zeros b u (q ^ (t - suc i)) e) ∙ zero-mul q)

-- one factor d more
more_one : (a d i w : ℕ) → a * d ^ suc i * w ≡ a * d ^ i * w * d
more_one a d i w = ap (λ (x : ℕ). a * x * w) (pow-suc d i) ∙ ap (λ (x : ℕ). x * w) (sym (mul_assoc a (d ^ i) d)) ∙ mul_right_comm (a * d ^ i) d w

pub terms_by_block : TermsByBlock
terms_by_block t k d zero =
    let q = 2 ^ k - d in
    let e : 1 * d ^ 0 * q ^ (suc t - 0) ≡ 1 * d ^ 0 * q ^ (t - 0) * q =
    ap (λ (x : ℕ). 1 * d ^ 0 * q ^ x) (sub-zero (suc t)) ∙ ap (λ (x : ℕ). 1 * d ^ 0 * x) (pow-suc q t)
    ∙ sym (mul_assoc (1 * d ^ 0) (q ^ t) q) ∙ ap (λ (x : ℕ). 1 * d ^ 0 * q ^ x * q) (sym (sub-zero t)) in
    omega (arith, e, zero-mul d)
terms_by_block t k d (suc i) =
    let q = 2 ^ k - d in
    let a = choose t i in
    let b = choose t (suc i) in
    let u = d ^ suc i in
    let w = q ^ (t - i) in
    let e : (a + b) * u * q ^ (suc t - suc i) ≡ a * u * w + b * u * w =
    ap (λ (x : ℕ). (a + b) * u * q ^ x) (suc-sub-suc t i) ∙ ap (λ (x : ℕ). x * w) (add-mul a b u) ∙ add-mul (a * u) (b * u) w in
    omega (arith, e, more_one a d i w, less_one b u q t i (none_beyond t (suc i)))
