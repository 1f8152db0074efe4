-- Laws of findings that the check accepts: their numbers fit 32 bits and are within the writer's limits. What a writing promises, refused or not.
use mathlib.Core.Path.{◌≡◌, refl, sym, ap, ◌∙◌}
use mathlib.Core.Bool.{true, cond}
use mathlib.Core.List.{List, [], ◌∷◌}
use Prim.Native.Nat.{ℕ, zero, suc, ◌^◌, ◌≤◌, ◌<◌}
use native.Mathlib.Nat.{pow-le-pow_right}
use native.Mathlib.Omega.{arith}
use lib.Dec.{ltb}
use lib.ListN.{length, get_or}
use borrow.Author.Tests.{ltb-true, le-leb, lt-leb}
use Rattle.counting.proofs.Accepted.{both, passed, valid_facts}
use Rattle.subsets.specs.Bits.{increasing, within, bits_refusal}
use Rattle.searching.specs.declared.finding.Finding.{Finding}
use Rattle.searching.proofs.Refusing.{or_first, neither}
use Rattle.judging.specs.Check.{chosen, shape_refusal, early_check_refusal, check_refusal, checked_scratch}
use Rattle.judging.proofs.Checking.{shaped, ordered}
use Rattle.judging.proofs.Once.{once_permutes}
use Rattle.judging.proofs.Tallying.{bin_below}
use Rattle.counting.specs.Buffer.{put}
use Rattle.exchange.specs.Writer.{Fits, Writable}
use Rattle.exchange.specs.Exchange.{room_refusal, exchanged_of, finding_text, write_refusal, written_with, output_after, Writes, Written}
use Rattle.counting.proofs.Buffers.{put_first}

-- ---- what an accepted finding's numbers are

within_at : (B : ℕ) (s : List ℕ) (i : ℕ) → within B s ≡ true → i < length s → get_or s i 0 < B
unfolding within
within_at B [] i e h = absurd (omega arith)
within_at B (a ∷ s) zero e h = ltb-true a B (both (ltb a B) (within B s) e).0
within_at B (a ∷ s) (suc i) e h = within_at B s i (both (ltb a B) (within B s) e).1 (omega arith)

bits_within : (B : ℕ) (s : List ℕ) → bits_refusal B s ≡ 0 → within B s ≡ true
unfolding bits_refusal
bits_within B s e =
    let p = passed (increasing s) (cond (within B s) 0 10) 9 (omega arith) e in
    (passed (within B s) 0 10 (omega arith) p.1).0

pub accepted : (f : Finding) (order : List ℕ) (scratch : ℕ) → check_refusal f order scratch ≡ 0 → Writable f order
unfolding check_refusal early_check_refusal
accepted f order scratch e =
    let p = neither (early_check_refusal f (length order) scratch) _ e in
    let s = shaped f (length order) (neither (shape_refusal f (length order)) _ p.0).0 in
    let o = ordered f.width f.division order p.1 in
    let size = valid_facts f.block_size s.limits.valid in
    record {
      some = s.limits.some;
      width = s.limits.width;
      block = omega arith;
      bits = λ i h. within_at f.block_size (chosen f) i (bits_within f.block_size (chosen f) s.bits) h;
      sized = s.sized;
      indices = λ i h. bin_below (2 ^ f.width) order i ((once_permutes (2 ^ f.width) order s.sized).0 o.once) h;
      division = o.below;
    }

-- at most 2 ^ 20 bins
pub bins_most : (k : ℕ) → k ≤ 20 → 2 ^ k ≤ 1048576
bins_most k h = let two : 0 < 2 = omega arith in pow-le-pow_right two h

pub accepted_fits : (f : Finding) (order : List ℕ) → Writable f order → Fits (exchanged_of f order)
accepted_fits f order a =
    let bins = bins_most f.width a.width in
    record {
      bits = λ i h. let b = a.bits i h in omega arith;
      indices = λ i h. let b = a.indices i h in omega arith;
      division = omega arith;
      block = omega arith;
    }

-- ---- what a writing promises

refused_with : (r : ℕ) (s : List ℕ) → (r ≡ 0 → ⊥) → record { refusal = r; length = 0 } ≡ written_with r s
refused_with zero s h = absurd (h refl)
refused_with (suc r) s h = refl

as_lent : (r : ℕ) (s out : List ℕ) → (r ≡ 0 → ⊥) → out ≡ output_after r s out
as_lent zero s out h = absurd (h refl)
as_lent (suc r) s out h = refl

pub writes_refused : (f : Finding) (order scratch out : List ℕ) (r : ℕ) (scratch' : List ℕ) → r ≡ write_refusal f order (length scratch) (length out) → (r ≡ 0 → ⊥)
    → scratch' ≡ checked_scratch f (length order) scratch → Writes f order scratch out (record { refusal = r; length = 0 }) scratch' out
writes_refused f order scratch out r scratch' e h c =
    let s = finding_text f order in
    record {
      answered = refused_with r s h ∙ ap (λ (w : ℕ). written_with w s) e;
      output = as_lent r s out h ∙ ap (λ (w : ℕ). output_after w s out) e;
      checked = c;
    }

pub refused_answer : (f : Finding) (order scratch out : List ℕ) (w : Written) (scratch' out' : List ℕ) (r : ℕ) → Writes f order scratch out w scratch' out'
    → r ≡ write_refusal f order (length scratch) (length out) → (r ≡ 0 → ⊥) → (w ≡ record { refusal = r; length = 0 }) × (out' ≡ out)
refused_answer f order scratch out w scratch' out' r W e h =
    let s = finding_text f order in (
      W.answered ∙ ap (λ (q : ℕ). written_with q s) (sym e) ∙ sym (refused_with r s h),
      W.output ∙ ap (λ (q : ℕ). output_after q s out) (sym e) ∙ sym (as_lent r s out h),
    )

pub refused_first : (f : Finding) (order : List ℕ) (scratch out r : ℕ) → r ≡ check_refusal f order scratch → (r ≡ 0 → ⊥) → r ≡ write_refusal f order scratch out
unfolding write_refusal
refused_first f order scratch out r e h = e ∙ or_first (check_refusal f order scratch) _ (λ z. h (e ∙ z))

pub refused_room : (f : Finding) (order : List ℕ) (scratch out : ℕ) → check_refusal f order scratch ≡ 0 → out < length (finding_text f order) → 17 ≡ write_refusal f order scratch out
unfolding write_refusal room_refusal
refused_room f order scratch out e h = rw (e, lt-leb (length (finding_text f order)) out h)

pub refused_not : (f : Finding) (order : List ℕ) (scratch out : ℕ) → check_refusal f order scratch ≡ 0 → length (finding_text f order) ≤ out → 0 ≡ write_refusal f order scratch out
unfolding write_refusal room_refusal
refused_not f order scratch out e h = rw (e, le-leb (length (finding_text f order)) out h)

pub writes_written : (f : Finding) (order scratch out : List ℕ) (n : ℕ) (scratch' out' : List ℕ) → 0 ≡ write_refusal f order (length scratch) (length out)
    → n ≡ length (finding_text f order) → out' ≡ put out 0 (finding_text f order) → scratch' ≡ checked_scratch f (length order) scratch
    → Writes f order scratch out (record { refusal = 0; length = n }) scratch' out'
writes_written f order scratch out n scratch' out' e p q c =
    let s = finding_text f order in
    record {
      answered = ap (λ (m : ℕ). record { refusal = 0; length = m }) p ∙ ap (λ (w : ℕ). written_with w s) e;
      output = q ∙ put_first out s ∙ ap (λ (w : ℕ). output_after w s out) e;
      checked = c;
    }
