-- The first greatest of a row of values. Definitions only.
use Rattle.std.specs.Prelude.{ℕ, zero, suc, Bool, true, false}

-- a place and the value there
pub record Peak (S : Type 0) : Type 0 where
  pub place : ℕ
  pub value : S

-- the best so far, or where the test holds the value at place i
abbrev pub better : {S : Type 0} → Bool → ℕ → S → Peak S → Peak S
better true i new best = record { place = i; value = new }
better false i new best = best

-- the first of value 1, .., value i that is strictly greatest, from place 1 and the value `start`
unfoldable pub peak : {S : Type 0} → (S → S → Bool) → S → (ℕ → S) → ℕ → Peak S
peak less start value zero = record { place = 1; value = start }
peak less start value (suc i) =
    let best = peak less start value i in
    let new = value (suc i) in
    better (less best.value new) (suc i) new best
