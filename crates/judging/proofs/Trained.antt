-- The search of the training bytes: the words hold them, and what is best in the recording is the definition's.
use mathlib.Core.Path.{◌≡◌, refl, sym, ap, subst, ◌∙◌}
use mathlib.Core.Bool.{Bool, true}
use mathlib.Core.List.{List, [], ◌∷◌}
use Prim.Native.Nat.{ℕ, ◌+◌, ◌≤◌, zero-le}
use native.Mathlib.Omega.{arith}
use lib.ListN.{length, get_or}
use borrow.Author.Tests.{le-leb}
use Rattle.std.specs.Prelude.{Result, Ok, Err}
use Rattle.std.specs.Result.{IsOk}
use Rattle.counting.specs.Block.{valid_size}
use Rattle.counting.specs.Recording.{capacity_bytes, blocks_in, recorded_bit}
use Rattle.counting.specs.declared.refusal.Refusal.{Refusal}
use Rattle.counting.proofs.Reasons.{some_number}
use Rattle.sampling.specs.Boards.{refusals_from, on_board, carried}
use Rattle.sampling.specs.Earlier.{piece_refusal, held_after, held_from, piece_refusals, earlier_recording}
use Rattle.sampling.specs.Feeding.{as_fed, fed_of, fed_words}
use Rattle.sampling.specs.Sampler.{Started, as_started, started_of, started_words, blocks_of}
use Rattle.sampling.specs.declared.sampler.Sampler.{Sampler}
use Rattle.sampling.proofs.Sole.{all_sole}
use Rattle.searching.specs.Claim.{Acquisition, fresh, next, Best, BestOf}
use Rattle.searching.specs.declared.finding.Finding.{Finding}
use Rattle.searching.proofs.Boards.{sole_claims}
use Rattle.searching.proofs.Claiming.{claims}
use Rattle.searching.proofs.Stretches.{from_none}
use Rattle.searching.proofs.Winning.{best_found}
use Rattle.judging.specs.Training.{chosen_of, trained_of, trained_order, Trainable, Trained, TrainingFound}

-- ---- one piece that fits is taken, by the earlier rule too

all_held : (B words : ℕ) (bytes : List ℕ) → length bytes ≤ capacity_bytes B words → earlier_recording B words (bytes ∷ []) ≡ bytes
unfolding held_from held_after
all_held B words bytes h =
    let fits : 0 + length bytes ≤ capacity_bytes B words = omega arith in
    simp (le-leb _ _ fits)

not_refused : (B words : ℕ) (bytes : List ℕ) → length bytes ≤ capacity_bytes B words → piece_refusals B words [] (bytes ∷ []) ≡ 0 ∷ []
unfolding piece_refusals piece_refusal
not_refused B words bytes h =
    let fits : 0 + length bytes ≤ capacity_bytes B words = omega arith in
    simp (le-leb _ _ fits)

earlier_takes : (B words : ℕ) (bytes : List ℕ) → valid_size B ≡ true → piece_refusals B words [] (bytes ∷ []) ≡ 0 ∷ []
    → refusals_from B words (carried B []) (on_board 0 (bytes ∷ [])) ≡ 0 ∷ []
unfolding held_from
earlier_takes B words bytes ok none = (all_sole B words ok [] (bytes ∷ [])).taken none

-- ---- the best of the recording is the definition's

trained : (B : ℕ) (low : Bool) (held : List ℕ) (k : ℕ) (f : Finding) (bins order : List ℕ) → BestOf B low held k f bins order → Trained B low k held f order
unfolding chosen_of trained_of trained_order
trained B low held k f bins order best =
    let F = best_found low (recorded_bit B low held) (blocks_in B held) B k f bins order best in
    record { found = F.finding; ordered = F.ordered }

-- ---- an acquisition of one feed, and a search after it

pub started_free : (B : ℕ) (low : Bool) (words : ℕ) → valid_size B ≡ true → (started_of B low words).refusal ≡ 0
unfolding started_of
started_free B low words ok = rw ok

pub started_well : (B : ℕ) (low : Bool) (words : ℕ) (r : Result Sampler Refusal) → as_started r ≡ started_of B low words → valid_size B ≡ true → IsOk r
started_well B low words (Ok s) e ok = refl
started_well B low words (Err r) e ok = absurd (some_number r (ap (λ (s : Started). s.refusal) e ∙ started_free B low words ok))

-- a start that is not refused in the words ws, and a feed after it
module _ (B : ℕ) (low : Bool) (ws bytes : List ℕ) (started : Result Sampler Refusal) (ws₁ : List ℕ) (first : Sampler) (fed : Result Sampler Refusal) (ws₂ : List ℕ)
    (start : as_started started ≡ started_of B low (length ws)) (start_words : ws₁ ≡ started_words B ws) (begun : started ≡ Ok first)
    (feed : as_fed first fed ≡ fed_of first (length ws₁) 0 bytes) (feed_words : ws₂ ≡ fed_words first.head first.unfinished ws₁ 0 bytes) where
  pub acquired : Acquisition B low ws [] (on_board 0 (bytes ∷ [])) ((as_fed first fed).refusal ∷ []) (as_fed first fed).sampler ws₂
  acquired =
      next (fresh (as_started (Ok first)) ws₁ (sym (ap as_started begun) ∙ start) start_words refl)
      (record { board = 0; piece = bytes }) (as_fed first fed) ws₂ feed feed_words

  -- where the bytes fit, the feed is not refused
  pub fed_well : (k bins order : ℕ) → Trainable B k (length bytes) (length ws) bins order → IsOk fed
  unfolding piece_refusals held_from
  fed_well k bins order t =
      let none = earlier_takes B (length ws) bytes t.valid (not_refused B (length ws) bytes t.held) in
      taken fed (head_is (claims B low ws [] (on_board 0 (bytes ∷ [])) _ _ ws₂ acquired).fed none)
    where
      taken : (r : Result Sampler Refusal) → (as_fed first r).refusal ≡ 0 → IsOk r
      taken (Ok s) e = refl
      taken (Err r) e = absurd (some_number r e)

      head_is : {l : List ℕ} → (as_fed first fed).refusal ∷ [] ≡ l → l ≡ 0 ∷ [] → (as_fed first fed).refusal ≡ 0
      head_is a b = ap (λ (s : List ℕ). get_or s 0 0) (a ∙ b)

pub training_found : TrainingFound
unfolding held_from
training_found B low k ws bytes answers sampler ws' acquired store bins order t r store' bins' order' search =
    let words = length ws in
    let none : piece_refusals B words [] (bytes ∷ []) ≡ 0 ∷ [] = not_refused B words bytes t.held in
    let alike : refusals_from B words (carried B []) (on_board 0 (bytes ∷ [])) ≡ piece_refusals B words [] (bytes ∷ []) = earlier_takes B words bytes t.valid none ∙ sym none in
    let sole = sole_claims B low ws [] (bytes ∷ []) answers sampler ws' acquired alike in
    let n = blocks_of sampler.head in
    let held : earlier_recording B words (bytes ∷ []) ≡ bytes = all_held B words bytes t.held in
    let claim = sole.search 0 n k store bins order r store' bins' order' search in
    let free : r.refusal ≡ 0 = claim.succeeds zero-le (omega (arith, sole.blocks)) (t.some, t.width, t.chosen, t.room.0, t.room.1) in
    let bit = recorded_bit B low (earlier_recording B words (bytes ∷ [])) in
    let best : BestOf B low (earlier_recording B words (bytes ∷ [])) k r.finding bins' order' =
    subst (λ (m : ℕ). Best low bit m B k r.finding bins' order') sole.blocks
    (from_none (λ g m. Best low g m B k r.finding bins' order') bit n (claim.best free)) in (
      free,
      trained B low bytes k r.finding bins' order' (subst (λ (h : List ℕ). BestOf B low h k r.finding bins' order') held best),
    )
