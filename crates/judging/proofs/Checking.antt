-- The refusals of a check: what none of them tells of a finding and its order, and the scratch where there is one and where there is none.
use mathlib.Core.Path.{◌≡◌, refl, ap, ◌∙◌}
use mathlib.Core.Bool.{true, cond}
use mathlib.Core.List.{List}
use Prim.Native.Nat.{ℕ, zero, suc, ◌^◌, ◌≤◌, ◌<◌}
use native.Mathlib.Omega.{arith}
use lib.Dec.{eqb, leb, ltb}
use lib.ListN.{length, length-take}
use borrow.Author.Tests.{leb-true, ltb-true, eqb-true}
use Rattle.std.specs.Prelude.{Result, Err}
use Rattle.std.specs.Result.{IsErrAnd}
use Rattle.std.proofs.lemmas.Result.{err_from_is_err_and}
use Rattle.counting.specs.Block.{valid_size}
use Rattle.counting.specs.declared.refusal.Refusal.{Refusal}
use Rattle.subsets.specs.Bits.{valid_width, bits_refusal}
use Rattle.subsets.specs.Subsets.{Subset}
use Rattle.subsets.proofs.Refusing.{width_bounds}
use Rattle.subsets.proofs.Testing.{accepted}
use Rattle.counting.proofs.Accepted.{passed}
use Rattle.searching.proofs.Refusing.{neither}
use Rattle.searching.specs.declared.finding.Finding.{Finding}
use Rattle.judging.specs.Permutation.{each_once}
use Rattle.judging.specs.Check.{chosen, limit_refusal, length_refusal, shape_refusal, scratch_refusal, division_refusal, order_refusal, cleared_after, cleared}

-- what a `?` hands on
pub handed_on : {A : Type 0} (r : Result A Refusal) (e : Refusal) → IsErrAnd r (λ x. x ≡ e) → r ≡ Err e
handed_on r e h = let p = err_from_is_err_and r h in p.1 ∙ ap Err p.2

pub limit_none : (f : Finding) → valid_size f.block_size ≡ true → valid_width f.width ≡ true → limit_refusal f ≡ 0
unfolding limit_refusal
limit_none f size width = rw (size, width) refl

pub record Limits (f : Finding) : Type 0 where
  pub valid : valid_size f.block_size ≡ true
  pub some : 1 ≤ f.width
  pub width : f.width ≤ 20

pub limits : (f : Finding) → limit_refusal f ≡ 0 → Limits f
unfolding limit_refusal
limits f e =
    let p = passed (valid_size f.block_size) (cond (valid_width f.width) 0 2) 1 (omega arith) e in
    let q = passed (valid_width f.width) 0 2 (omega arith) p.1 in
    let w = width_bounds f.width q.0 in
    record { valid = p.0; some = w.0; width = w.1 }

-- the bits that are chosen from an array of 20
pub chosen_length : (f : Finding) → f.width ≤ 20 → length f.bits ≡ 20 → length (chosen f) ≡ f.width
chosen_length f w e = omega (arith, length-take f.width f.bits)

-- a finding of a block, a width and bits within their limits, with as many entries in its order as bins
pub record Shaped (f : Finding) (order : ℕ) : Type 0 where
  pub limits : Limits f
  pub bits : bits_refusal f.block_size (chosen f) ≡ 0
  pub sized : order ≡ 2 ^ f.width

pub shaped : (f : Finding) (order : ℕ) → shape_refusal f order ≡ 0 → Shaped f order
unfolding shape_refusal length_refusal
shaped f order e =
    let p = neither (limit_refusal f) _ e in
    let q = neither (bits_refusal f.block_size (chosen f)) _ p.1 in
    let r = passed (eqb order (2 ^ f.width)) 0 11 (omega arith) q.1 in
    record { limits = limits f p.0; bits = q.0; sized = eqb-true order (2 ^ f.width) r.0 }

pub subset_of : (f : Finding) (order : ℕ) → Shaped f order → length f.bits ≡ 20 → Subset f.block_size f.width (chosen f)
subset_of f order s e = accepted f.block_size f.width (chosen f) (chosen_length f s.limits.width e) s.bits

pub room : (k scratch : ℕ) → scratch_refusal k scratch ≡ 0 → 2 ^ k ≤ scratch
unfolding scratch_refusal
room k scratch e = leb-true (2 ^ k) scratch (passed (leb (2 ^ k) scratch) 0 7 (omega arith) e).0

pub record Ordered (k division : ℕ) (order : List ℕ) : Type 0 where
  pub once : each_once (2 ^ k) order ≡ true
  pub some : 1 ≤ division
  pub below : division < 2 ^ k

pub ordered : (k division : ℕ) (order : List ℕ) → order_refusal k division order ≡ 0 → Ordered k division order
unfolding order_refusal division_refusal
ordered k division order e =
    let p = passed (each_once (2 ^ k) order) (division_refusal division (2 ^ k)) 13 (omega arith) e in
    let q = passed (leb 1 division) (cond (ltb division (2 ^ k)) 0 14) 14 (omega arith) p.1 in
    let r = passed (ltb division (2 ^ k)) 0 14 (omega arith) q.1 in
    record { once = p.0; some = leb-true 1 division q.0; below = ltb-true division (2 ^ k) r.0 }

-- the scratch where an early refusal was given, and where none was

pub as_lent : (r k : ℕ) (scratch : List ℕ) → (r ≡ 0 → ⊥) → scratch ≡ cleared_after r k scratch
as_lent zero k scratch h = absurd (h refl)
as_lent (suc r) k scratch h = refl

pub is_cleared : (r k : ℕ) (scratch : List ℕ) → r ≡ 0 → cleared k scratch ≡ cleared_after r k scratch
is_cleared r k scratch e = rw e refl
