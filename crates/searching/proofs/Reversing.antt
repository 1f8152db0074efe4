-- What is best with the low bit first is best with the high bit first in the reversed bytes (theorem `best_reversed`), and a search is the same but for the
-- mark (`low_is_high_reversed`): the words are the same, and no refusal and no count goes by the sampler's bit order.
use mathlib.Core.Path.{◌≡◌, refl, sym, ap, subst, ◌∙◌}
use mathlib.Core.Bool.{Bool, true, false}
use mathlib.Core.List.{List}
use Prim.Native.Nat.{ℕ, zero, suc, ◌+◌, ◌-◌}
use lib.ListN.{length}
use Rattle.counting.specs.Recording.{recorded_bit}
use Rattle.counting.specs.Reversed.{reversed_bytes}
use Rattle.counting.specs.Sample.{onward}
use Rattle.counting.specs.Stretch.{stretch_bit, span}
use Rattle.counting.proofs.Reversing.{reversal}
use Rattle.sampling.specs.Boards.{refusals_of}
use Rattle.sampling.specs.Recorded.{State, carried_over, fed_all}
use Rattle.sampling.specs.Reversed.{reversed_pieces, reversed_feeds, high_first, mirrored}
use Rattle.sampling.specs.Sampler.{sampler_refusal}
use Rattle.sampling.specs.Stretch.{stretch_of, stretch_refusal}
use Rattle.sampling.specs.declared.sampler.Head.{Head}
use Rattle.sampling.specs.declared.sampler.Sampler.{Sampler}
use Rattle.sampling.proofs.Reversing.{recordings_reversed, all_reversed}
use Rattle.searching.specs.Claim.{Best}
use Rattle.searching.specs.Refusal.{search_refusal, bottomup_refusal}
use Rattle.searching.specs.Search.{answer_of, StretchSearch, BottomupSearch}
use Rattle.searching.specs.Reversed.{BestReversed, unmarked, SameUnmarked, LowIsHighReversed}
use Rattle.searching.specs.Finding.{Searched}
use Rattle.searching.proofs.Claiming.{stands, claims}

-- what is carried over goes by the number of words alone
start_same : (B : ℕ) (low : Bool) (ws ws' : List ℕ) (old : List (List ℕ)) → length ws ≡ length ws' → carried_over B low ws' old ≡ carried_over B low ws old
unfolding carried_over
start_same B low ws ws' old e = simp e refl

-- ---- what is best

pub best_reversed : BestReversed
best_reversed B held first end k f bins order b =
    let bits : onward first (recorded_bit B true held) ≡ onward first (recorded_bit B false (reversed_bytes held)) =
    λ i e c. reversal.recorded B held (first + e) c i in
    let m = subst (λ (bit : ℕ → ℕ → ℕ). Best true bit (end - first) B k f bins order) bits b in
    record {
      block = m.block;
      width = m.width;
      bit_order = refl;
      chosen = m.chosen;
      zeros = m.zeros;
      counted = m.counted;
      division = m.division;
      z = m.z;
      ordered = m.ordered;
      beats = m.beats;
    }

-- ---- one search

module _ (s : Head) (ws : List ℕ) (first end k : ℕ) where
  unmarked_is : (r : ℕ) → let x = stretch_of s (length ws) first end in
      unmarked (answer_of r s.low_first (stretch_bit x ws) (span x) s.block_size k) ≡ answer_of r false (stretch_bit x ws) (span x) s.block_size k
  unmarked_is zero = refl
  unmarked_is (suc r) = refl

  search_same : (q : ℕ) (bins order : List ℕ) (r : Searched) (bins₁ order₁ : List ℕ) → StretchSearch q s ws first end k bins order r bins₁ order₁
      → (r' : Searched) (bins₁' order₁' : List ℕ) → StretchSearch q (high_first s) ws first end k bins order r' bins₁' order₁'
      → SameUnmarked r bins₁ order₁ r' bins₁' order₁'
  search_same q bins order r bins₁ order₁ S r' bins₁' order₁' S' = record {
    answers = ap unmarked S.answered ∙ unmarked_is q ∙ sym S'.answered;
    counts = S.counted ∙ sym S'.counted;
    orders = S.ordered ∙ sym S'.ordered;
  }

  bottomup_same : (store bins order : List ℕ) (r : Searched) (store₁ bins₁ order₁ : List ℕ)
      → BottomupSearch s ws first end k store bins order r store₁ bins₁ order₁
      → (r' : Searched) (store₁' bins₁' order₁' : List ℕ) → BottomupSearch (high_first s) ws first end k store bins order r' store₁' bins₁' order₁'
      → SameUnmarked r bins₁ order₁ r' bins₁' order₁' × (store₁ ≡ store₁')
  unfolding bottomup_refusal search_refusal sampler_refusal stretch_refusal
  bottomup_same store bins order r store₁ bins₁ order₁ S r' store₁' bins₁' order₁' S' =
      (search_same _ bins order r bins₁ order₁ S.search r' bins₁' order₁' S'.search, S.stored ∙ sym S'.stored)

-- ---- after any feeds

pub low_is_high_reversed : LowIsHighReversed
low_is_high_reversed B old feeds ws answers s ws₁ acquired ws' answers' s' ws₁' acquired' size =
    let L = stands acquired in
    let H = stands acquired' in
    let R = all_reversed B ws L.valid old feeds in
    let begin = start_same B false ws ws' (reversed_pieces old) size in
    let high : record { sampler = s'; words = ws₁' } ≡ fed_all (carried_over B false ws (reversed_pieces old)) (reversed_feeds feeds) =
    H.state ∙ ap (λ (u : State). fed_all u (reversed_feeds feeds)) begin in
    let words : ws₁' ≡ ws₁ = ap (λ (u : State). u.words) high ∙ R.words ∙ sym (ap (λ (u : State). u.words) L.state) in
    let sampler : s' ≡ mirrored s = ap (λ (u : State). u.sampler) high ∙ R.sampler ∙ sym (ap (λ (u : State). mirrored u.sampler) L.state) in
    record {
      fed = (claims B false ws' (reversed_pieces old) (reversed_feeds feeds) answers' s' ws₁' acquired').fed
          ∙ ap (λ (m : ℕ). refusals_of B m (reversed_pieces old) (reversed_feeds feeds)) (sym size)
          ∙ (recordings_reversed B (length ws) old feeds).refusals ∙ sym (claims B true ws old feeds answers s ws₁ acquired).fed;
      words = words;
      sampler = sampler;
      search = λ first end k store bins order r store₁ bins₁ order₁ S r' store₁' bins₁' order₁' S'.
          bottomup_same s.head ws₁ first end k store bins order r store₁ bins₁ order₁ S r' store₁' bins₁' order₁'
          (subst (λ (l : List ℕ). BottomupSearch (high_first s.head) l first end k store bins order r' store₁' bins₁' order₁') words
          (subst (λ (q : Sampler). BottomupSearch q.head ws₁' first end k store bins order r' store₁' bins₁' order₁') sampler S'));
    }
