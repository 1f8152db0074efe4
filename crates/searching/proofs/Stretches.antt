-- A stretch from 0 to n is the whole of what was recorded (theorems `whole_stretches`, `whole_recordings`), and any stretch is a recording of its blocks
-- alone (`best_alone`).
use mathlib.Core.Path.{◌≡◌, refl, sym, ap, subst, ◌∙◌}
use mathlib.Core.Bool.{Bool}
use mathlib.Core.Logic.{◌⊎◌}
use mathlib.Core.List.{List}
use Prim.Native.Nat.{ℕ, zero, suc, ◌-◌, zero-le}
use lib.Dec.{T}
use lib.Ieee.{Float, lt}
use lib.ListN.{length, take}
use native.Mathlib.Nat.{le_refl, zero-add, sub-zero}
use borrow.Author.Tests.{le-leb}
use Rattle.counting.specs.Recording.{blocks_in, recorded_bit}
use Rattle.counting.specs.Sample.{onward, AgreeBelow}
use Rattle.counting.specs.Stretch.{stretch_bytes, stretch_bit}
use Rattle.counting.proofs.Alone.{stretches_alone}
use Rattle.sampling.specs.Boards.{recording}
use Rattle.sampling.specs.Sampler.{blocks_of, sampler_refusal}
use Rattle.sampling.specs.Stretch.{stretch_refusal}
use Rattle.sampling.specs.declared.sampler.Head.{Head}
use Rattle.sampling.specs.declared.sampler.Sampler.{Sampler}
use Rattle.subsets.specs.Subsets.{lex_lt}
use Rattle.searching.specs.Refusal.{or_else, search_refusal, bottomup_refusal}
use Rattle.searching.specs.Search.{Search}
use Rattle.searching.specs.Claim.{Best}
use Rattle.searching.specs.Stretches.{sample_of, WholeStretches, WholeRecordings, BestAlone}
use Rattle.searching.specs.declared.finding.Finding.{Finding}
use Rattle.searching.proofs.Claiming.{counts_agree, z_agree, recorder}

or_assoc : (a b c : ℕ) → or_else (or_else a b) c ≡ or_else a (or_else b c)
or_assoc zero b c = refl
or_assoc (suc a) b c = refl

-- it is never refused with 18
pub never_outside : (s : Head) → stretch_refusal s 0 (blocks_of s) ≡ 0
unfolding stretch_refusal
never_outside s = simp (le-leb _ _ (zero-le {n = blocks_of s}), le-leb _ _ (le_refl (blocks_of s)))

-- what holds of a sample's blocks from 0 to n holds of its n blocks
pub from_none : (P : (ℕ → ℕ → ℕ) → ℕ → Type 0) (bit : ℕ → ℕ → ℕ) (n : ℕ) → P (onward 0 bit) (n - 0) → P bit n
from_none P bit n = subst (λ (m : ℕ). P (onward 0 bit) (n - 0) → P bit m) (sub-zero n) (subst (λ (f : ℕ → ℕ → ℕ). P (onward 0 bit) (n - 0) → P f (n - 0)) (λ i e. bit (zero-add e i)) (λ p. p))

pub whole_stretches : WholeStretches
unfolding bottomup_refusal search_refusal stretch_bit
whole_stretches s words = record {
  refusal = λ k bins order. rw (never_outside s) (or_assoc (sampler_refusal s words) _ _);
  search = λ ws r k bins order answer bins' order' S.
      from_none (λ bit n. Search r s.low_first bit n s.block_size k bins order answer bins' order') (sample_of s ws) (blocks_of s) S;
}

pub whole_recordings : WholeRecordings
whole_recordings B low ws old feeds answers s ws' acquired =
    let H = recorder acquired in
    let held = recording B (length ws) old feeds in
    let is : blocks_of s.head ≡ blocks_in B held = ap (λ (q : Sampler). blocks_of q.head) H.sampler in
    record {
      blocks = is;
      best = λ k f bins order b.
          let bit = recorded_bit B low held in
          subst (λ (n : ℕ). Best low bit n B k f bins order) is (from_none (λ g n. Best low g n B k f bins order) bit (blocks_of s.head) b);
    }

-- what is best in a sample is best in another that agrees with it
pub best_agrees : (low : Bool) (bit bit' : ℕ → ℕ → ℕ) (n B k : ℕ) (f : Finding) (bins order : List ℕ) → AgreeBelow n B bit bit' → Best low bit n B k f bins order → Best low bit' n B k f bins order
best_agrees low bit bit' n B k f bins order agree b = record {
  block = b.block;
  width = b.width;
  bit_order = b.bit_order;
  chosen = b.chosen;
  zeros = b.zeros;
  counted = b.counted ∙ counts_agree B n k bit bit' agree (take k f.bits) b.chosen;
  division = b.division;
  z = b.z;
  ordered = b.ordered;
  beats = λ t X. subst (λ (z : Float). (t ≡ take k f.bits) ⊎ (T (lt z f.z) ⊎ ((z ≡ f.z) × T (lex_lt (take k f.bits) t)))) (z_agree B n k bit bit' agree t X) (b.beats t X);
}

pub best_alone : BestAlone
best_alone B low held first end k f bins order ok fe has b =
    let A = stretches_alone B low held first end ok fe has in
    let bit = recorded_bit B low (stretch_bytes B held first end) in
    subst (λ (n : ℕ). Best low bit n B k f bins order) (sym A.blocks) (best_agrees low (onward first (recorded_bit B low held)) bit (end - first) B k f bins order A.bits b)
