-- What a replay promises: its answer, and every lent entry afterwards.
use Rattle.std.specs.Prelude.{◌≡◌, ℕ, zero, suc, Bool, true, false, cond, List, [], Result, Ok, Err, eqb, length}
use Rattle.counting.specs.Block.{valid_size}
use Rattle.counting.specs.Recording.{blocks_in, recorded_bit}
use Rattle.counting.specs.Refusal.{number_of}
use Rattle.counting.specs.declared.refusal.Refusal.{Refusal}
use Rattle.layers.specs.Store.{store_suffices}
use Rattle.searching.specs.Claim.{BestOf}
use Rattle.searching.specs.Finding.{winner_of, finding_of, no_finding}
use Rattle.searching.specs.Refusal.{or_else, width_refusal, buffer_refusal}
use Rattle.searching.specs.Search.{bins_after, order_after, store_after}
use Rattle.searching.specs.declared.finding.Finding.{Finding}
use Rattle.counting.specs.Sample.{total}
use Rattle.sampling.specs.Boards.{Feed, recording, refusals_of}
use Rattle.sampling.specs.Recorded.{started, fed_all}
use Rattle.replay.specs.Pieces.{cut, refused_in}
use Rattle.replay.specs.declared.replay.Replayed.{Replayed as Answer}

-- 24: the lengths do not add up to the recording's; then start's 1, and the search's 2, 3, 7. A fresh sampler is never refused 4, and a feed that is refused
-- 5 is counted.
unfoldable pub replay_refusal : ℕ → ℕ → List ℕ → ℕ → ℕ → ℕ → ℕ
replay_refusal B bytes lengths k bins order =
    cond (eqb (total lengths) bytes) (cond (valid_size B) (or_else (width_refusal B k) (buffer_refusal k bins order)) 1) 24

-- what a replay answers: a refusal, 0 where there is none, how many feeds were refused, whether the store sufficed for a search by layers, whether the findings
-- of the two searches are the same, and the finding
pub record Replayed : Type 0 where
  pub refusal : ℕ
  pub refused : ℕ
  pub layered : Bool
  pub agree : Bool
  pub finding : Finding

-- beside a refusal every field is 0 or false
abbrev pub refused_replay : ℕ → Replayed
refused_replay r = record { refusal = r; refused = 0; layered = false; agree = false; finding = no_finding }

-- the answer as code has it
abbrev pub as_replayed : Result Answer Refusal → Replayed
as_replayed (Ok a) = record { refusal = 0; refused = a.refused; layered = a.layered; agree = a.agree; finding = a.finding }
as_replayed (Err r) = refused_replay (number_of r)

-- the finding of width k in a recording in this bit order whose blocks are `held`
abbrev pub held_finding : ℕ → Bool → List ℕ → ℕ → Finding
held_finding B low held k =
    finding_of low (recorded_bit B low held) (blocks_in B held) B (winner_of (recorded_bit B low held) (blocks_in B held) B k)

-- the answer, with the refusal r and a store of a entries: what the plain recording of the pieces says, and that the findings agree
abbrev pub replayed_of : ℕ → ℕ → Bool → ℕ → List Feed → ℕ → ℕ → Replayed
replayed_of zero B low words pieces k a =
    record {
      refusal = 0;
      refused = refused_in (refusals_of B words [] pieces);
      layered = store_suffices B k a;
      agree = true;
      finding = held_finding B low (recording B words [] pieces) k;
    }
replayed_of (suc r) B low words pieces k a = refused_replay (suc r)

-- the words afterwards: those after start and all feeds; as lent where refused
abbrev pub words_after : ℕ → ℕ → Bool → List ℕ → List Feed → List ℕ
words_after zero B low ws pieces = (fed_all (started B low ws) pieces).words
words_after (suc r) B low ws pieces = ws

-- A replay of the pieces in a bit order with the refusal r: its answer and everything lent afterwards.
pub record ReplayOf (r B : ℕ) (low : Bool) (pieces : List Feed) (k : ℕ) (ws store bins order : List ℕ) (answer : Replayed)
    (ws' store' bins' order' : List ℕ) : Type 0 where
  pub answered : answer ≡ replayed_of r B low (length ws) pieces k (length store)
  pub written : ws' ≡ words_after r B low ws pieces
  -- the winner's counts and order, and past them as lent; all as lent where refused
  pub counted :
      let held = recording B (length ws) [] pieces in
      bins' ≡ bins_after r (recorded_bit B low held) (blocks_in B held) B k bins
  pub ordered :
      let held = recording B (length ws) [] pieces in
      order' ≡ order_after r (recorded_bit B low held) (blocks_in B held) B k order
  -- where it suffices, the all-set counts of the smaller subsets, and past them as lent; all as lent where it does not, and where refused
  pub stored :
      let held = recording B (length ws) [] pieces in
      store' ≡ store_after r (store_suffices B k (length store)) (recorded_bit B low held) (blocks_in B held) B k store
  -- the claim's conclusion: what was found is the best of the recording
  pub best : r ≡ 0 → BestOf B low (recording B (length ws) [] pieces) k answer.finding bins' order'

-- What `replay` promises.
abbrev pub Replay : ℕ → Bool → List ℕ → List ℕ → ℕ → List ℕ → List ℕ → List ℕ → List ℕ → Replayed → List ℕ → List ℕ → List ℕ → List ℕ → Type 0
Replay B low bytes lengths k ws store bins order =
    ReplayOf (replay_refusal B (length bytes) lengths k (length bins) (length order)) B low (cut bytes lengths) k ws store bins order
