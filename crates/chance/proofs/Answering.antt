-- The refusals of `bracket`: what none tells, and the answer and the scratch beside each.
use mathlib.Core.Path.{◌≡◌, refl, sym, ap, ap₂, ◌∙◌}
use mathlib.Core.List.{List}
use Prim.Native.Nat.{ℕ, zero, suc, ◌^◌, ◌≤◌, ◌<◌}
use native.Mathlib.Omega.{arith}
use lib.Dec.{leb, ltb}
use lib.ListN.{length}
use borrow.Author.Tests.{leb-true, ltb-true}
use Rattle.std.specs.Prelude.{Result, Ok, Err}
use Rattle.counting.specs.declared.refusal.Refusal.{Refusal}
use Rattle.counting.proofs.Reasons.{some_number}
use Rattle.subsets.specs.Bits.{valid_width}
use Rattle.subsets.proofs.Refusing.{width_bounds}
use Rattle.counting.proofs.Accepted.{passed}
use Rattle.chance.specs.Bracket.{low_of, high_of, bracket_refusal, Bracketed, bracketed_of, answer_of, scratch_of, bracket_of, bracket_scratch, Encloses}
use Rattle.chance.specs.declared.bracket.Ends.{Ends}
use Rattle.chance.proofs.Bracketing.{brackets}
use Rattle.chance.proofs.Filling.{Filling}

-- what a refusal of 0 tells
pub record Accepted (n c k d room : ℕ) : Type 0 where
  pub few : n ≤ 4096
  pub within : c ≤ n
  pub width : k ≤ 20
  pub some : 1 ≤ d
  pub part : d < 2 ^ k
  pub fits : n < room

pub accepted : (n c k d room : ℕ) → bracket_refusal n c k d room ≡ 0 → Accepted n c k d room
unfolding bracket_refusal
accepted n c k d room e =
    let a = passed (leb n 4096) _ 19 (omega arith) e in
    let b = passed (leb c n) _ 19 (omega arith) a.1 in
    let w = passed (valid_width k) _ 2 (omega arith) b.1 in
    let p = passed (leb 1 d) _ 14 (omega arith) w.1 in
    let q = passed (ltb d (2 ^ k)) _ 14 (omega arith) p.1 in
    let r = passed (leb (suc n) room) _ 7 (omega arith) q.1 in
    record {
      few = leb-true n 4096 a.0;
      within = leb-true c n b.0;
      width = (width_bounds k w.0).1;
      some = leb-true 1 d p.0;
      part = ltb-true d (2 ^ k) q.0;
      fits = leb-true (suc n) room r.0;
    }

-- an answer, as the code builds it
abbrev answer : ℕ → ℕ → ℕ → Bracketed
answer refusal low high = record { refusal = refusal; low = low; high = high }

refused_answer : (r n c k d : ℕ) → (r ≡ 0 → ⊥) → answer r 0 0 ≡ answer_of r n c k d
unfolding answer_of
refused_answer zero n c k d h = absurd (h refl)
refused_answer (suc r) n c k d h = refl

refused_scratch : (r n k d : ℕ) (s : List ℕ) → (r ≡ 0 → ⊥) → s ≡ scratch_of r n k d s
unfolding scratch_of
refused_scratch zero n k d s h = absurd (h refl)
refused_scratch (suc r) n k d s h = refl

module _ (n c k d r : ℕ) (s : List ℕ) (is : r ≡ bracket_refusal n c k d (length s)) where
  pub refused : (r ≡ 0 → ⊥) → (answer r 0 0 ≡ bracket_of n c k d (length s)) × (s ≡ bracket_scratch n c k d s)
  unfolding bracket_of bracket_scratch
  refused h =
      (refused_answer r n c k d h ∙ ap (λ (x : ℕ). answer_of x n c k d) is, refused_scratch r n k d s h ∙ ap (λ (x : ℕ). scratch_of x n k d s) is)

  module _ (none : r ≡ 0) where
    pub taken_scratch : (s' : List ℕ) → Filling n k d s s' → s' ≡ bracket_scratch n c k d s
    unfolding bracket_scratch scratch_of
    taken_scratch s' f = f ∙ ap (λ (x : ℕ). scratch_of x n k d s) (sym none ∙ is)

    pub taken_answer : (low high : ℕ) → low ≡ low_of n c k d → high ≡ high_of n c k d → answer 0 low high ≡ bracket_of n c k d (length s)
    unfolding bracket_of answer_of
    taken_answer low high l h = ap₂ (answer 0) l h ∙ ap (λ (x : ℕ). answer_of x n c k d) (sym none ∙ is)

-- ---- the theorem, of an answer

refusal_is : (r n c k d : ℕ) → (answer_of r n c k d).refusal ≡ r
unfolding answer_of
refusal_is zero n c k d = refl
refusal_is (suc r) n c k d = refl

pub taken_is : (n c k d room : ℕ) → bracket_refusal n c k d room ≡ 0 → bracket_of n c k d room ≡ answer 0 (low_of n c k d) (high_of n c k d)
unfolding bracket_of answer_of
taken_is n c k d room e = ap (λ (x : ℕ). answer_of x n c k d) e

-- .. so that it is both ends, with no refusal
pub ends_are : (n c k d room : ℕ) (x : Result Ends Refusal) → bracketed_of x ≡ bracket_of n c k d room → bracket_refusal n c k d room ≡ 0
    → x ≡ Ok (record { low = low_of n c k d; high = high_of n c k d })
ends_are n c k d room (Ok ends) is none =
    ap (λ (b : Bracketed). Ok (record { low = b.low; high = b.high })) (is ∙ taken_is n c k d room none)
ends_are n c k d room (Err r) is none =
    absurd (some_number r (ap (λ (b : Bracketed). b.refusal) (is ∙ taken_is n c k d room none)))

pub encloses : Encloses
unfolding bracket_of
encloses n c k d room r is none =
    let free : bracket_refusal n c k d room ≡ 0 = sym (ap (λ (x : Bracketed). x.refusal) is ∙ refusal_is (bracket_refusal n c k d room) n c k d) ∙ none in
    let a = accepted n c k d room free in
    let both = brackets n c k d a.part a.within in
    let e = is ∙ taken_is n c k d room free in
    let low : r.low ≡ low_of n c k d = ap (λ (x : Bracketed). x.low) e in
    let high : r.high ≡ high_of n c k d = ap (λ (x : Bracketed). x.high) e in
    (rw low both.0.0, rw high both.0.1)
