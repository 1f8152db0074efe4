-- What a valid block size, and a test that was passed, tell.
use mathlib.Core.Path.{◌≡◌, refl}
use mathlib.Core.Bool.{Bool, true, false, cond}
use Prim.Native.Nat.{ℕ, ◌%◌, ◌≤◌, ◌<◌}
use native.Mathlib.Omega.{arith}
use lib.Dec.{leb, eqb}
use borrow.Author.Tests.{leb-true, eqb-true}
use Rattle.counting.specs.Block.{valid_size}

pub both : (a b : Bool) → cond a b false ≡ true → (a ≡ true) × (b ≡ true)
both true b h = (refl, h)
both false b h = let z : ◌≡◌ {A = ℕ} 0 1 = cc in absurd (omega arith)

-- a test that gives a refusal m was passed
pub passed : (t : Bool) (x m : ℕ) → 0 < m → cond t x m ≡ 0 → (t ≡ true) × (x ≡ 0)
passed true x m pos e = (refl, e)
passed false x m pos e = absurd (omega arith)

pub record Valid (B : ℕ) : Type 0 where
  pub whole : B % 8 ≡ 0
  pub low : 8 ≤ B
  pub high : B ≤ 4096

pub valid_facts : (B : ℕ) → valid_size B ≡ true → Valid B
unfolding valid_size
valid_facts B h =
    let p = both (eqb (B % 8) 0) (cond (leb 8 B) (leb B 4096) false) h in
    let q = both (leb 8 B) (leb B 4096) p.1 in
    record { whole = eqb-true _ _ p.0; low = leb-true _ _ q.0; high = leb-true _ _ q.1 }
