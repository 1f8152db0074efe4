-- The training bytes fit the program's words.
use mathlib.Core.Path.{◌≡◌, subst}
use mathlib.Core.Bool.{true}
use Prim.Native.Nat.{ℕ, zero, suc, ◌*◌, ◌/◌, ◌≤◌}
use native.Mathlib.Omega.{arith}
use Rattle.counting.specs.Block.{valid_size}
use Rattle.counting.specs.Recording.{capacity_bytes}
use Rattle.counting.proofs.Accepted.{valid_facts}
use Rattle.sheet.specs.Judgement.{TrainingFits}

eighths : (q : ℕ) → 1 ≤ q → q ≤ 8 → 4096 ≤ capacity_bytes (8 * q) 576
eighths zero h g = absurd (omega arith)
eighths (suc zero) h g = omega arith
eighths (suc (suc zero)) h g = omega arith
eighths (suc (suc (suc zero))) h g = omega arith
eighths (suc (suc (suc (suc zero)))) h g = omega arith
eighths (suc (suc (suc (suc (suc zero))))) h g = omega arith
eighths (suc (suc (suc (suc (suc (suc zero)))))) h g = omega arith
eighths (suc (suc (suc (suc (suc (suc (suc zero))))))) h g = omega arith
eighths (suc (suc (suc (suc (suc (suc (suc (suc zero)))))))) h g = omega arith
eighths (suc (suc (suc (suc (suc (suc (suc (suc (suc q))))))))) h g = absurd (omega arith)

room_enough : (B : ℕ) → valid_size B ≡ true → B ≤ 64 → 4096 ≤ capacity_bytes B 576
room_enough B ok h =
    let v = valid_facts B ok in
    let whole : 8 * (B / 8) ≡ B = omega arith in
    let low : 1 ≤ B / 8 = omega arith in
    let high : B / 8 ≤ 8 = omega arith in
    subst (λ (b : ℕ). 4096 ≤ capacity_bytes b 576) whole (eighths (B / 8) low high)

pub training_fits : TrainingFits
training_fits B bytes ok h few = omega (arith, room_enough B ok h)
