-- What is found in a recording of boards goes by the boards' bytes alone (theorems `boards_counted`, `same_bytes_found`, `same_pieces_found`), and one board has
-- what the earlier rule claimed (`sole_claims`).
use mathlib.Core.Path.{◌≡◌, refl, sym, ap, subst, ◌∙◌}
use mathlib.Core.Bool.{Bool, true, false}
use mathlib.Core.List.{List, ◌++◌}
use mathlib.Core.Logic.{◌⊎◌}
use Prim.Native.Nat.{ℕ, ◌-◌, ◌≤◌, ◌<◌}
use native.Mathlib.Omega.{arith}
use lib.Ieee.{lt}
use lib.ListN.{length, take, drop}
use Rattle.counting.specs.Recording.{blocks_in, recorded_bit}
use Rattle.counting.specs.Sample.{onward, counts_of, AgreeBelow}
use Rattle.sampling.specs.Boards.{Feed, recording, on_board}
use Rattle.sampling.specs.Earlier.{earlier_recording}
use Rattle.sampling.specs.Kept.{Alike, sole_bytes}
use Rattle.sampling.specs.Sampler.{blocks_of}
use Rattle.sampling.specs.declared.sampler.Sampler.{Sampler}
use Rattle.sampling.proofs.Keeping.{all_kept, bytes_alike, pieces_bytes}
use Rattle.sampling.proofs.Sole.{all_sole}
use Rattle.layers.specs.Store.{widest, store_size, store_suffices}
use Rattle.ranking.specs.Order.{order_of}
use Rattle.ranking.specs.Ranking.{score_of}
use Rattle.subsets.specs.Best.{best_subset}
use Rattle.subsets.specs.Subsets.{padded}
use Rattle.searching.specs.Boards.{BoardsCounted, SameBytesFound, SamePiecesFound, SoleClaims}
use Rattle.searching.specs.Claim.{Acquisition, SearchClaim}
use Rattle.searching.specs.Finding.{Searched, winner_of, finding_of}
use Rattle.searching.specs.Refusal.{bottomup_refusal}
use Rattle.searching.specs.Search.{BottomupSearch, store_after}
use Rattle.searching.proofs.Claiming.{acquired_valid, claims}
use Rattle.searching.proofs.Refusing.{bottomup_free, said_is}
use Rattle.searching.proofs.Stored.{store_agree}
use Rattle.searching.proofs.Stretches.{whole_recordings, best_agrees}
use Rattle.searching.proofs.Winning.{Found, best_found}

-- ---- all blocks

-- a search of all blocks that succeeds has found the winner of the recording
all_found : {B : ℕ} {low : Bool} {ws : List ℕ} {old : List (List ℕ)} {feeds : List Feed} {answers : List ℕ} {s : Sampler} {ws' : List ℕ}
    → Acquisition B low ws old feeds answers s ws' → (k : ℕ) (store bins order : List ℕ) (r : Searched) (store' bins' order' : List ℕ)
    → BottomupSearch s.head ws' 0 (blocks_of s.head) k store bins order r store' bins' order' → r.refusal ≡ 0
    → let held = recording B (length ws) old feeds in Found low (recorded_bit B low held) (blocks_in B held) B k r.finding bins' order'
all_found {B} {low} {ws} {old} {feeds} {answers} {s} {ws'} acquired k store bins order r store' bins' order' S z =
    let held = recording B (length ws) old feeds in
    let best = ((claims B low ws old feeds answers s ws' acquired).search 0 (blocks_of s.head) k store bins order r store' bins' order' S).best z in
    best_found low (recorded_bit B low held) (blocks_in B held) B k r.finding bins' order'
    ((whole_recordings B low ws old feeds answers s ws' acquired).best k r.finding bins' order' best)

pub boards_counted : BoardsCounted
boards_counted B low ws old feeds answers s ws' acquired k store bins order r store' bins' order' S z =
    let F = all_found acquired k store bins order r store' bins' order' S z in
    F.counted ∙ ap (counts_of _ _) (sym F.chosen) ∙ (all_kept B (length ws) (acquired_valid acquired) old feeds).counts low (take k r.finding.bits)

-- ---- recordings that are alike

module _ (B : ℕ) (low : Bool) (held held' : List ℕ) (A : Alike B held held') (k : ℕ) where
  winner_same : winner_of (recorded_bit B low held) (blocks_in B held) B k ≡ winner_of (recorded_bit B low held') (blocks_in B held') B k
  unfolding winner_of
  winner_same = λ i. best_subset lt (λ bits. (score_of (A.number i) (length bits) (A.counts low bits i)).z) B k

  finding_same : finding_of low (recorded_bit B low held) (blocks_in B held) B (winner_of (recorded_bit B low held) (blocks_in B held) B k)
      ≡ finding_of low (recorded_bit B low held') (blocks_in B held') B (winner_of (recorded_bit B low held') (blocks_in B held') B k)
  finding_same =
      λ i. record {
        block_size = B;
        width = length (winner_same i);
        bits = padded (winner_same i);
        division = (score_of (A.number i) (length (winner_same i)) (A.counts low (winner_same i) i)).division;
        z = (score_of (A.number i) (length (winner_same i)) (A.counts low (winner_same i) i)).z;
        low_first = low;
      }

  counts_same : counts_of (recorded_bit B low held) (blocks_in B held) (winner_of (recorded_bit B low held) (blocks_in B held) B k)
      ≡ counts_of (recorded_bit B low held') (blocks_in B held') (winner_of (recorded_bit B low held') (blocks_in B held') B k)
  counts_same = λ i. A.counts low (winner_same i) i

pub same_bytes_found : SameBytesFound
same_bytes_found B low ws old feeds answers s ws' acquired ws₂ old₂ feeds₂ answers₂ s₂ ws₂' acquired₂ same k store bins order r store' bins' order' S store₂ bins₂ order₂ r₂ store₂' bins₂' order₂' S₂ z y =
    let held = recording B (length ws) old feeds in
    let held₂ = recording B (length ws₂) old₂ feeds₂ in
    let A = bytes_alike B (length ws) (length ws₂) (acquired_valid acquired) old old₂ feeds feeds₂ same in
    let F = all_found acquired k store bins order r store' bins' order' S z in
    let G = all_found acquired₂ k store₂ bins₂ order₂ r₂ store₂' bins₂' order₂' S₂ y in
    record {
      findings = F.finding ∙ finding_same B low held held₂ A k ∙ sym G.finding;
      counts = F.counted ∙ counts_same B low held held₂ A k ∙ sym G.counted;
      orders = F.ordered ∙ ap order_of (counts_same B low held held₂ A k) ∙ sym G.ordered;
    }

pub same_pieces_found : SamePiecesFound
same_pieces_found B low ws old feeds answers s ws' acquired ws₂ old₂ feeds₂ answers₂ s₂ ws₂' acquired₂ same =
    same_bytes_found B low ws old feeds answers s ws' acquired ws₂ old₂ feeds₂ answers₂ s₂ ws₂' acquired₂ (pieces_bytes _ _ same)

-- ---- one board

-- a recording with as many blocks and the same bits is claimed of alike
module _ (B : ℕ) (low : Bool) (held bytes : List ℕ) (number : blocks_in B held ≡ blocks_in B bytes) (agree : AgreeBelow (blocks_in B bytes) B (recorded_bit B low held) (recorded_bit B low bytes))
    (first end k : ℕ) where
  agrees : end ≤ blocks_in B bytes → AgreeBelow (end - first) B (onward first (recorded_bit B low held)) (onward first (recorded_bit B low bytes))
  agrees has e b le lb = agree _ b (omega arith) lb

  stored_agrees : end ≤ blocks_in B bytes → (suffices : Bool) (store : List ℕ)
      → store_after 0 suffices (onward first (recorded_bit B low held)) (end - first) B k store ≡ store_after 0 suffices (onward first (recorded_bit B low bytes)) (end - first) B k store
  stored_agrees has true store = ap (λ (l : List ℕ). l ++ drop (store_size B k) store) (store_agree (end - first) B _ _ (agrees has) (widest k))
  stored_agrees has false store = refl

  claim_agrees : (store bins order : List ℕ) (r : Searched) (store' bins' order' : List ℕ) → (r.refusal ≡ 0 → end ≤ blocks_in B bytes)
      → SearchClaim B low held first end k store bins order r store' bins' order' → SearchClaim B low bytes first end k store bins order r store' bins' order'
  claim_agrees store bins order r store' bins' order' within C = record {
    outside = λ o. C.outside (subst (λ (n : ℕ). (end < first) ⊎ (n < end)) (sym number) o);
    succeeds = λ fe has room. C.succeeds fe (omega arith) room;
    best = λ z. best_agrees low _ _ (end - first) B k r.finding bins' order' (agrees (within z)) (C.best z);
    stored = λ z. C.stored z ∙ stored_agrees (within z) (store_suffices B k (length store)) store;
  }

pub sole_claims : SoleClaims
sole_claims B low ws old pieces answers s ws' acquired alike =
    let A = all_sole B (length ws) (acquired_valid acquired) old pieces in
    let bytes = earlier_recording B (length ws) (old ++ pieces) in
    let held = recording B (length ws) old (on_board 0 pieces) in
    let same : sole_bytes B (length ws) old pieces ≡ bytes = A.same alike in
    let number : blocks_in B held ≡ blocks_in B bytes = A.number ∙ ap (blocks_in B) same in
    let agree : AgreeBelow (blocks_in B bytes) B (recorded_bit B low held) (recorded_bit B low bytes) =
    subst (λ (l : List ℕ). AgreeBelow (blocks_in B l) B (recorded_bit B low held) (recorded_bit B low l)) same (A.bits low) in
    let blocks : blocks_of s.head ≡ blocks_in B bytes = (whole_recordings B low ws old (on_board 0 pieces) answers s ws' acquired).blocks ∙ number in
    record {
      blocks = blocks;
      search = λ first end k store bins order r store' bins' order' P.
          let q = bottomup_refusal s.head (length ws') first end k (length bins) (length order) in
          let within : r.refusal ≡ 0 → end ≤ blocks_in B bytes =
          λ z. omega (arith, (bottomup_free s.head (length ws') first end k (length bins) (length order) (sym (said_is q _ _ _ _ k r P.search.answered) ∙ z)).search.ordered.held, blocks) in
          claim_agrees B low held bytes number agree first end k store bins order r store' bins' order' within
          ((claims B low ws old (on_board 0 pieces) answers s ws' acquired).search first end k store bins order r store' bins' order' P);
    }
