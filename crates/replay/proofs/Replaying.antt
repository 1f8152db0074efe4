-- The calls of a replay are an acquisition and its searches, so the claim holds of them: what the replay answers and leaves is what the plain recording says (theorem `replayed`).
use mathlib.Core.Path.{◌≡◌, refl, sym, ap, subst, ◌∙◌}
use mathlib.Core.Bool.{Bool, true}
use mathlib.Core.List.{List, [], ◌∷◌, ◌++◌, append_assoc, append-nil}
use Prim.Native.Nat.{ℕ, ◌-◌, ◌^◌, ◌≤◌, zero-le}
use native.Mathlib.Nat.{zero-add, sub-zero}
use native.Mathlib.Omega.{arith}
use lib.ListN.{length, drop}
use Rattle.counting.specs.Block.{valid_size}
use Rattle.counting.specs.Recording.{stride, blocks_in, recorded_bit}
use Rattle.counting.specs.Sample.{onward, counts_of, AgreeBelow}
use Rattle.counting.specs.Words.{stored_bit}
use Rattle.sampling.specs.Boards.{Feed, boards_of, recording}
use Rattle.sampling.specs.Feeding.{fed_of, fed_words}
use Rattle.sampling.specs.Recorded.{State, started, fed, fed_all, answers_from, sampler_of, HoldsRecording}
use Rattle.sampling.specs.Sampler.{Started, started_of, started_words, blocks_of}
use Rattle.sampling.specs.declared.sampler.Head.{Head}
use Rattle.sampling.specs.declared.sampler.Sampler.{Sampler}
use Rattle.layers.specs.Store.{store_suffices}
use Rattle.scoring.specs.Score.{Number}
use Rattle.ranking.specs.Order.{order_of}
use Rattle.ranking.proofs.Dividing.{score_number}
use Rattle.searching.specs.Claim.{Acquisition, fresh, next, BestOf, SearchClaim, Claim}
use Rattle.searching.specs.Finding.{Searched, winner_of}
use Rattle.searching.specs.Refusal.{bottomup_refusal}
use Rattle.searching.specs.Search.{Search, StretchSearch, BottomupSearch, store_after}
use Rattle.searching.specs.Stretches.{sample_of}
use Rattle.searching.specs.declared.finding.Finding.{Finding}
use Rattle.searching.proofs.Claiming.{claims, recorder}
use Rattle.searching.proofs.Filled.{replaced_rest, length_counts, length_order}
use Rattle.searching.proofs.Refusing.{said_is}
use Rattle.searching.proofs.Stretches.{whole_stretches, whole_recordings}
use Rattle.searching.proofs.Walking.{winner_optimal}
use Rattle.replay.specs.Agreement.{same_finding}
use Rattle.replay.specs.Pieces.{refused_in, state_of, FedPieces}
use Rattle.replay.specs.Replay.{held_finding, ReplayOf}
use Rattle.replay.specs.declared.pieces.Taken.{Taken}
use Rattle.replay.proofs.Agreeing.{winner_counts, winner_finding}
use Rattle.replay.proofs.Comparing.{finding_self}
use Rattle.replay.proofs.Refusing.{ReplayFree}

-- ---- the calls are an acquisition

extend : {B : ℕ} {low : Bool} {ws : List ℕ} {old : List (List ℕ)} {feeds : List Feed} {answers : List ℕ} {s : Sampler} {ws' : List ℕ} → Acquisition B low ws old feeds answers s ws'
    → (more : List Feed)
    → Acquisition B low ws old (feeds ++ more) (answers ++ answers_from (state_of s ws') more) (fed_all (state_of s ws') more).sampler (fed_all (state_of s ws') more).words
unfolding fed fed_all answers_from
extend {B} {low} {ws} {old} {feeds} {answers} {s} {ws'} S [] = rw (append-nil feeds, append-nil answers) S
extend {B} {low} {ws} {old} {feeds} {answers} {s} {ws'} S (f ∷ more) =
    let X = extend {feeds = feeds ++ (f ∷ [])} (next S f (fed_of s (length ws') f.board f.piece) (fed_words s.head s.unfinished ws' f.board f.piece) refl refl) more in
    simp append_assoc at X

-- the state after start and all feeds
abbrev pub state_after : ℕ → Bool → List ℕ → List Feed → State
state_after B low ws feeds = fed_all (started B low ws) feeds

module _ (B : ℕ) (low : Bool) (ws : List ℕ) (pieces : List Feed) (ok : valid_size B ≡ true) where
  acquired : Acquisition B low ws [] pieces (answers_from (started B low ws) pieces) (state_after B low ws pieces).sampler (state_after B low ws pieces).words
  unfolding started started_of
  acquired =
      let none : (started_of B low (length ws)).refusal ≡ 0 = simp ok in
      extend (fresh (started_of B low (length ws)) (started_words B ws) refl refl none) pieces

  claim : Claim B low ws [] pieces (answers_from (started B low ws) pieces) (state_after B low ws pieces).sampler (state_after B low ws pieces).words
  claim = claims B low ws [] pieces _ _ _ acquired

  holds : HoldsRecording B low (length ws) (state_after B low ws pieces) (boards_of B (length ws) [] pieces)
  holds = recorder acquired

  -- its n is the recording's
  pub blocks_are : blocks_of (state_after B low ws pieces).sampler.head ≡ blocks_in B (recording B (length ws) [] pieces)
  blocks_are = (whole_recordings B low ws [] pieces _ _ _ acquired).blocks

-- a start that is not refused
pub not_refused : (B : ℕ) (low : Bool) (words : ℕ) (r : Started) → valid_size B ≡ true → r ≡ started_of B low words → r.refusal ≡ 0
unfolding started_of
not_refused B low words r ok e = ap (λ (q : Started). q.refusal) e ∙ simp ok

-- the state after start
pub fresh_is : (B : ℕ) (low : Bool) (ws : List ℕ) (r : Started) (ws₁ : List ℕ) → r ≡ started_of B low (length ws) → ws₁ ≡ started_words B ws → state_of r.sampler ws₁ ≡ started B low ws
unfolding started
fresh_is B low ws r ws₁ e g = λ i. record { sampler = (e i).sampler; words = g i }

-- .. and after all feeds
pub state_is : (B : ℕ) (low : Bool) (ws : List ℕ) (pieces : List Feed) (r : Started) (ws₁ : List ℕ) (taken : Taken) (ws₂ : List ℕ)
    → r ≡ started_of B low (length ws) → ws₁ ≡ started_words B ws → FedPieces r.sampler ws₁ pieces taken ws₂ → state_of taken.sampler ws₂ ≡ state_after B low ws pieces
state_is B low ws pieces r ws₁ taken ws₂ e g F = F.state ∙ ap (λ (q : State). fed_all q pieces) (fresh_is B low ws r ws₁ e g)

-- ---- one search, told of the recording

-- what a search that is not refused finds and leaves
record Told (B : ℕ) (low : Bool) (held : List ℕ) (k : ℕ) (bins order : List ℕ) (f : Finding) (bins' order' : List ℕ) : Type 0 where
  finding : f ≡ held_finding B low held k
  counted : let bit = recorded_bit B low held in let n = blocks_in B held in bins' ≡ counts_of bit n (winner_of bit n B k) ++ drop (2 ^ k) bins
  ordered : let bit = recorded_bit B low held in let n = blocks_in B held in order' ≡ order_of (counts_of bit n (winner_of bit n B k)) ++ drop (2 ^ k) order

module _ (B : ℕ) (low : Bool) (words : ℕ) (held ws : List ℕ) (lent : length ws ≡ words)
    (agree : AgreeBelow (blocks_in B held) B (stored_bit (stride B words) ws) (recorded_bit B low held)) (k : ℕ) (chosen : k ≤ B) where
  abbrev n : ℕ
  n = blocks_in B held

  abbrev bit : ℕ → ℕ → ℕ
  bit = stored_bit (stride B (length ws)) ws

  agreed_below : AgreeBelow n B bit (recorded_bit B low held)
  agreed_below = rw lent agree

  told : (bins order : List ℕ) (r : Searched) (bins' order' : List ℕ) → Search 0 low bit n B k bins order r bins' order' → Told B low held k bins order r.finding bins' order'
  told bins order r bins' order' S =
      let counts = winner_counts B n k bit (recorded_bit B low held) agreed_below chosen in
      record {
        finding = ap (λ (a : Searched). a.finding) S.answered ∙ winner_finding B n k bit (recorded_bit B low held) agreed_below chosen low;
        counted = S.counted ∙ ap (λ (c : List ℕ). c ++ drop (2 ^ k) bins) counts;
        ordered = S.ordered ∙ ap (λ (c : List ℕ). order_of c ++ drop (2 ^ k) order) counts;
      }

  -- past the 2 ^ k entries a search leaves what was there
  past_kept : (bins order : List ℕ) (r : Searched) (bins' order' : List ℕ) → Search 0 low bit n B k bins order r bins' order'
      → (drop (2 ^ k) bins' ≡ drop (2 ^ k) bins) × (drop (2 ^ k) order' ≡ drop (2 ^ k) order)
  past_kept bins order r bins' order' S =
      let W = winner_of bit n B k in
      let size = ap (λ (m : ℕ). 2 ^ m) (winner_optimal bit n B k chosen).subset.size in (
        ap (drop (2 ^ k)) S.counted ∙ replaced_rest (2 ^ k) (counts_of bit n W) bins (length_counts bit n W ∙ size),
        ap (drop (2 ^ k)) S.ordered ∙ replaced_rest (2 ^ k) (order_of (counts_of bit n W)) order (length_order bit n W ∙ size),
      )

-- ---- both searches

module _ (B : ℕ) (low : Bool) (ws : List ℕ) (pieces : List Feed) (bytes : ℕ) (lengths : List ℕ) (k : ℕ) (store bins order : List ℕ)
    (free : ReplayFree B bytes lengths k (length bins) (length order)) where
  abbrev st : State
  st = state_after B low ws pieces

  abbrev held : List ℕ
  held = recording B (length ws) [] pieces

  abbrev blocks : ℕ
  blocks = blocks_of st.sampler.head

  abbrev head : Head
  head = (sampler_of B low (length ws) (boards_of B (length ws) [] pieces)).head

  H : HoldsRecording B low (length ws) st (boards_of B (length ws) [] pieces)
  H = holds B low ws pieces free.valid

  C : Claim B low ws [] pieces (answers_from (started B low ws) pieces) st.sampler st.words
  C = claim B low ws pieces free.valid

  -- one of the searches, with any store and with buffers as long as those lent
  module _ (store₁ bins₁ order₁ : List ℕ) (r : Searched) (store₁' bins₁' order₁' : List ℕ)
      (S : BottomupSearch st.sampler.head st.words 0 blocks k store₁ bins₁ order₁ r store₁' bins₁' order₁')
      (same-bins : length bins₁ ≡ length bins) (same_order : length order₁ ≡ length order) where
    claimed : SearchClaim B low held 0 blocks k store₁ bins₁ order₁ r store₁' bins₁' order₁'
    claimed = C.search 0 blocks k store₁ bins₁ order₁ r store₁' bins₁' order₁' S

    succeeds : r.refusal ≡ 0
    succeeds =
        let w = free.width in
        let has : blocks ≤ blocks_in B held = omega (arith, blocks_are B low ws pieces free.valid) in
        claimed.succeeds zero-le has (w.some, w.width, w.chosen, rw same-bins free.room.0, rw same_order free.room.1)

    -- of all blocks, of the sampler that the recording tells
    all_blocks : Search 0 low (sample_of head st.words) (blocks_in B held) B k bins₁ order₁ r bins₁' order₁'
    all_blocks =
        let q = bottomup_refusal st.sampler.head (length st.words) 0 blocks k (length bins₁) (length order₁) in
        let none : q ≡ 0 = sym (said_is q _ _ _ _ k r S.search.answered) ∙ succeeds in
        let whole = (whole_stretches st.sampler.head 0).search st.words 0 k bins₁ order₁ r bins₁' order₁'
        (subst (λ (m : ℕ). StretchSearch m st.sampler.head st.words 0 blocks k bins₁ order₁ r bins₁' order₁') none S.search) in
        subst (λ (p : Head). Search 0 p.low_first (sample_of p st.words) (blocks_of p) p.block_size k bins₁ order₁ r bins₁' order₁') (ap (λ (q : Sampler). q.head) H.sampler) whole

    best : BestOf B low held k r.finding bins₁' order₁'
    best = (whole_recordings B low ws [] pieces _ _ _ (acquired B low ws pieces free.valid)).best k r.finding bins₁' order₁' (claimed.best succeeds)

    found : Told B low held k bins₁ order₁ r.finding bins₁' order₁'
    found =
        told B low (length ws) held st.words H.lent H.stored k free.width.chosen bins₁ order₁ r bins₁' order₁' all_blocks

    past : (drop (2 ^ k) bins₁' ≡ drop (2 ^ k) bins₁) × (drop (2 ^ k) order₁' ≡ drop (2 ^ k) order₁)
    past =
        past_kept B low (length ws) held st.words H.lent H.stored k free.width.chosen bins₁ order₁ r bins₁' order₁' all_blocks

    -- the claim tells the store, of the blocks from 0 on, which are all
    left : store₁' ≡ store_after 0 (store_suffices B k (length store₁)) (recorded_bit B low held) (blocks_in B held) B k store₁
    left =
        let bit = recorded_bit B low held in
        let from : onward 0 bit ≡ bit = λ i e. bit (zero-add e i) in
        let all : blocks - 0 ≡ blocks_in B held = sub-zero blocks ∙ blocks_are B low ws pieces free.valid in
        claimed.stored succeeds ∙ λ i. store_after 0 (store_suffices B k (length store₁)) (from i) (all i) B k store₁

  -- a search of all blocks of the sampler that the feeds left
  module _ (taken : Taken) (ws' : List ℕ) (is : state_of taken.sampler ws' ≡ state_after B low ws pieces) (n : ℕ) (all : n ≡ blocks_of taken.sampler.head)
      (store₁ bins₁ order₁ : List ℕ) (r : Searched) (store₁' bins₁' order₁' : List ℕ)
      (made : BottomupSearch taken.sampler.head ws' 0 n k store₁ bins₁ order₁ r store₁' bins₁' order₁') where
    moved : BottomupSearch st.sampler.head st.words 0 blocks k store₁ bins₁ order₁ r store₁' bins₁' order₁'
    moved =
        subst (λ (q : State). BottomupSearch q.sampler.head q.words 0 (blocks_of q.sampler.head) k store₁ bins₁ order₁ r store₁' bins₁' order₁') is
        (subst (λ (m : ℕ). BottomupSearch taken.sampler.head ws' 0 m k store₁ bins₁ order₁ r store₁' bins₁' order₁') all made)

    pub search_succeeds : length bins₁ ≡ length bins → length order₁ ≡ length order → r.refusal ≡ 0
    search_succeeds same-bins same_order = succeeds store₁ bins₁ order₁ r store₁' bins₁' order₁' moved same-bins same_order

  module _ (taken : Taken) (n : ℕ) (stored direct : Searched) (ws' store' bins₁ order₁ none none' bins' order' : List ℕ)
      (is : state_of taken.sampler ws' ≡ state_after B low ws pieces) (all : n ≡ blocks_of taken.sampler.head)
      (made-stored : BottomupSearch taken.sampler.head ws' 0 n k store bins order stored store' bins₁ order₁)
      (made-direct : BottomupSearch taken.sampler.head ws' 0 n k none bins₁ order₁ direct none' bins' order')
      (same-bins : length bins₁ ≡ length bins) (same_order : length order₁ ≡ length order) where
    S : BottomupSearch st.sampler.head st.words 0 blocks k store bins order stored store' bins₁ order₁
    S = moved taken ws' is n all store bins order stored store' bins₁ order₁ made-stored

    D : BottomupSearch st.sampler.head st.words 0 blocks k none bins₁ order₁ direct none' bins' order'
    D = moved taken ws' is n all none bins₁ order₁ direct none' bins' order' made-direct

    -- the claim says that both found the same, and the score is a number
    agreed : same_finding stored.finding direct.finding ≡ true
    agreed =
        let same = (C.same 0 blocks k store bins order stored store' bins₁ order₁ S none bins₁ order₁ direct none' bins' order' D
        (succeeds store bins order stored store' bins₁ order₁ S refl refl) (succeeds none bins₁ order₁ direct none' bins' order' D same-bins same_order)).findings in
        let number : Number direct.finding.z = rw (best none bins₁ order₁ direct none' bins' order' D same-bins same_order).z (score_number _ _ _) in
        subst (λ (f : Finding). same_finding f direct.finding ≡ true) (sym same) (finding_self direct.finding number)

    pub replayed : taken.refused ≡ refused_in (answers_from (started B low ws) pieces)
        → (layered : Bool) → layered ≡ store_suffices B k (length store)
        → (agree : Bool) → agree ≡ same_finding stored.finding direct.finding
        → (q : ℕ) → q ≡ 0
        → ReplayOf q B low pieces k ws store bins order
        (record { refusal = 0; refused = taken.refused; layered = layered; agree = agree; finding = direct.finding })
        ws' store' bins' order'
    replayed refused layered l agree a q free_is =
        let r = refused ∙ ap refused_in C.fed in
        let g = a ∙ agreed in
        let told = found none bins₁ order₁ direct none' bins' order' D same-bins same_order in
        let rest = past store bins order stored store' bins₁ order₁ S refl refl in
        let counts = counts_of (recorded_bit B low held) (blocks_in B held) (winner_of (recorded_bit B low held) (blocks_in B held) B k) in
        rw free_is (record {
          answered = λ i. record { refusal = 0; refused = r i; layered = l i; agree = g i; finding = told.finding i };
          written = ap (λ (x : State). x.words) is;
          counted = told.counted ∙ ap (λ (m : List ℕ). counts ++ m) rest.0;
          ordered = told.ordered ∙ ap (λ (m : List ℕ). order_of counts ++ m) rest.1;
          stored = left store bins order stored store' bins₁ order₁ S refl refl;
          best = λ z. best none bins₁ order₁ direct none' bins' order' D same-bins same_order;
        })
