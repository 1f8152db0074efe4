-- The claim: after every acquisition the words hold the plain recording, and what is best in a stretch of the words is best in that stretch of the recording
-- (theorem `claims`).
use mathlib.Core.Path.{◌≡◌, refl, sym, ap, ap₂, subst, ◌∙◌}
use mathlib.Core.Bool.{Bool, true, false, not}
use mathlib.Core.List.{List, [], ◌∷◌, ◌++◌, append_assoc, append-nil}
use mathlib.Core.Logic.{◌⊎◌, inl, inr}
use Prim.Native.Nat.{ℕ, zero, suc, ◌+◌, ◌-◌, ◌^◌, ◌≤◌, ◌<◌}
use native.Mathlib.Omega.{arith}
use lib.Dec.{T, leb}
use lib.Ieee.{Float, lt}
use lib.ListN.{length, take, drop}
use borrow.Author.Tests.{eq-eqb, le-leb, lt-leb, lt-ltb}
use Rattle.counting.specs.Block.{valid_size}
use Rattle.counting.specs.Recording.{stride, capacity, blocks_in, recorded_bit}
use Rattle.counting.specs.Sample.{onward, counts_of, AgreeBelow}
use Rattle.counting.specs.Stretch.{stretch_bit}
use Rattle.counting.specs.Words.{stored_bit}
use Rattle.counting.proofs.Counts.{same_counts}
use Rattle.sampling.specs.Boards.{Boards, Feed, boards_of, recording}
use Rattle.sampling.specs.Earlier.{held_from, earlier_recording, earlier_started, earlier_answers}
use Rattle.sampling.specs.Feeding.{Fed, fed_of}
use Rattle.sampling.specs.Recorded.{State, started, carried_over, fed, fed_all, answers_from, sampler_of, HoldsRecording, Bytes}
use Rattle.sampling.specs.Sampler.{Started, started_of, each_short, sampler_refusal}
use Rattle.sampling.specs.Stretch.{stretch_of, stretch_refusal}
use Rattle.sampling.specs.declared.sampler.Head.{Head}
use Rattle.sampling.specs.declared.sampler.Sampler.{Sampler}
use Rattle.sampling.proofs.Carried.{all_recorded, all_carried}
use Rattle.sampling.proofs.Keeping.{all_kept}
use Rattle.sampling.proofs.Recorded.{fed_all_snoc, answers_snoc}
use Rattle.layers.specs.Store.{widest, store_size, store_suffices}
use Rattle.scoring.proofs.Less.{equal}
use Rattle.ranking.specs.Order.{order_of}
use Rattle.ranking.specs.Ranking.{score_of}
use Rattle.ranking.proofs.Dividing.{score_number, score_fits, score_unsigned}
use Rattle.subsets.specs.Bits.{valid_width}
use Rattle.subsets.specs.Best.{Beats}
use Rattle.subsets.specs.Subsets.{Subset, lex_lt, padded}
use Rattle.subsets.proofs.Filling.{padded_front}
use Rattle.subsets.proofs.Listing.{bits_below}
use Rattle.searching.specs.Finding.{Searched, winner_of, finding_of, z_of}
use Rattle.searching.specs.Refusal.{or_else, width_refusal, buffer_refusal, search_refusal, bottomup_refusal}
use Rattle.searching.specs.Search.{StretchSearch, BottomupSearch, store_after}
use Rattle.searching.specs.Claim.{Acquisition, fresh, carried, next, Best, BestIn, SearchClaim, SearchRoom, Same, Claims}
use Rattle.searching.specs.declared.finding.Finding.{Finding}
use Rattle.searching.proofs.Filled.{replaced_first, length_counts, length_order}
use Rattle.searching.proofs.Refusing.{SearchFree, bottomup_free, said_is}
use Rattle.searching.proofs.Stored.{store_agree}
use Rattle.searching.proofs.Walking.{winner_optimal}

-- ---- an acquisition is a state of the recorder

-- a start that is not refused had a valid block size
valid_start : (B : ℕ) (low : Bool) (words : ℕ) → (started_of B low words).refusal ≡ 0 → valid_size B ≡ true
unfolding started_of
valid_start B low words e = by_test (valid_size B) refl e
  where
    by_test : (t : Bool) → valid_size B ≡ t → (started_of B low words).refusal ≡ 0 → valid_size B ≡ true
    by_test true p e = p
    by_test false p e = absurd (let h : ◌≡◌ {A = ℕ} 1 0 = simp p at e in omega arith)

-- the state after pieces under the earlier rule, a carry-over and feeds
abbrev pub state_after : ℕ → Bool → List ℕ → List (List ℕ) → List Feed → State
state_after B low ws old feeds = fed_all (carried_over B low ws old) feeds

pub record Stands (B : ℕ) (low : Bool) (ws : List ℕ) (old : List (List ℕ)) (feeds : List Feed) (answers : List ℕ) (s : Sampler) (ws' : List ℕ) : Type 0 where
  pub valid : valid_size B ≡ true
  pub small : Bytes (earlier_recording B (length ws) old)
  pub state : record { sampler = s; words = ws' } ≡ state_after B low ws old feeds
  pub said : answers ≡ earlier_answers (earlier_started B low ws) old ++ answers_from (carried_over B low ws old) feeds

pub stands : {B : ℕ} {low : Bool} {ws : List ℕ} {old : List (List ℕ)} {feeds : List Feed} {answers : List ℕ} {s : Sampler} {ws' : List ℕ}
    → Acquisition B low ws old feeds answers s ws' → Stands B low ws old feeds answers s ws'
unfolding started carried_over fed fed_all answers_from earlier_answers held_from
stands {B} {low} {ws} (fresh r ws' e g z) =
    let valid = valid_start B low (length ws) (sym (ap (λ (q : Started). q.refusal) e) ∙ z) in
    let is : record { sampler = r.sampler; words = ws' } ≡ started B low ws = λ i. record { sampler = (e i).sampler; words = g i } in
    record {
      valid = valid;
      small = λ i h. absurd (omega arith);
      state = is ∙ sym (all_carried B low ws valid).fresh;
      said = refl;
    }
stands {B} {low} {ws} (carried old valid small r ws' e g) = record {
  valid = valid;
  small = small;
  state = λ i. record { sampler = (e i).sampler; words = g i };
  said = sym (append-nil (earlier_answers (earlier_started B low ws) old));
}
stands {B} {low} {ws} (next {old} {feeds} {answers} {s} {ws'} before f r ws'' e g) =
    let S = stands before in
    let first = earlier_answers (earlier_started B low ws) old in
    let begun = carried_over B low ws old in
    let is : record { sampler = r.sampler; words = ws'' } ≡ fed (record { sampler = s; words = ws' }) f = λ i. record { sampler = (e i).sampler; words = g i } in
    let said : r.refusal ≡ (fed_of (fed_all begun feeds).sampler (length (fed_all begun feeds).words) f.board f.piece).refusal =
    ap (λ (q : Fed). q.refusal) e ∙ ap (λ (q : State). (fed_of q.sampler (length q.words) f.board f.piece).refusal) S.state in
    record {
      valid = S.valid;
      small = S.small;
      state = is ∙ ap (λ (q : State). fed q f) S.state ∙ sym (fed_all_snoc begun feeds f);
      said = ap₂ (λ (l : List ℕ) (a : ℕ). l ++ (a ∷ [])) S.said said
          ∙ append_assoc first (answers_from begun feeds) _ ∙ ap (λ (l : List ℕ). first ++ l) (sym (answers_snoc begun feeds f));
    }

-- the block size of an acquisition is valid
pub acquired_valid : {B : ℕ} {low : Bool} {ws : List ℕ} {old : List (List ℕ)} {feeds : List Feed} {answers : List ℕ} {s : Sampler} {ws' : List ℕ}
    → Acquisition B low ws old feeds answers s ws' → valid_size B ≡ true
acquired_valid acquired = (stands acquired).valid

-- ---- what is best in one sample is best in another that agrees with it

module _ (B n k : ℕ) (bit bit' : ℕ → ℕ → ℕ) (agree : AgreeBelow n B bit bit') where
  pub counts_agree : (t : List ℕ) → Subset B k t → counts_of bit n t ≡ counts_of bit' n t
  counts_agree t X = same_counts n B bit bit' agree t (bits_below B k t X)

  pub z_agree : (t : List ℕ) → Subset B k t → z_of bit n t ≡ z_of bit' n t
  z_agree t X = ap (λ (c : List ℕ). (score_of n (length t) c).z) (counts_agree t X)

  -- neither less: equal
  level : (s t : List ℕ) → T (not (lt (z_of bit n s) (z_of bit n t))) → T (not (lt (z_of bit n t) (z_of bit n s))) → z_of bit n t ≡ z_of bit n s
  level s t p q =
      let a = counts_of bit n t in
      let b = counts_of bit n s in
      equal (z_of bit n t) (z_of bit n s) (score_fits n (length t) a) (score_fits n (length s) b) (score_number n (length t) a) (score_number n (length s) b)
      (score_unsigned n (length t) a) (score_unsigned n (length s) b) q p

  beats_agree : (s t : List ℕ) → Subset B k t → Beats lt (z_of bit n) s t
      → T (lt (z_of bit' n t) (z_of bit n s)) ⊎ ((z_of bit' n t ≡ z_of bit n s) × T (lex_lt s t))
  beats_agree s t X (inl l) = inl (subst (λ (x : Float). T (lt x (z_of bit n s))) (z_agree t X) l)
  beats_agree s t X (inr (p, q, l)) = inr (sym (z_agree t X) ∙ level s t p q, l)

-- ---- the search of the words is a search of the recording

-- a sampler's head with these numbers of unfinished bytes, all of them short
module _ (B : ℕ) (low : Bool) (words : ℕ) (held ws lengths : List ℕ) (ok : valid_size B ≡ true) (lent : length ws ≡ words) (within : blocks_in B held ≤ capacity B words)
    (short : each_short (record { block_size = B; words = words; blocks = blocks_in B held; low_first = low; lengths = lengths }) ≡ true)
    (agree : AgreeBelow (blocks_in B held) B (stored_bit (stride B words) ws) (recorded_bit B low held)) (first end k : ℕ) where
  abbrev s : Head
  s = record { block_size = B; words = words; blocks = blocks_in B held; low_first = low; lengths = lengths }

  abbrev n : ℕ
  n = end - first

  abbrev bit : ℕ → ℕ → ℕ
  bit = stretch_bit (stretch_of s (length ws) first end) ws

  abbrev told : ℕ → ℕ → ℕ
  told = onward first (recorded_bit B low held)

  -- where the recording has its blocks, the stretch of the words is that of the recording
  pub agrees : end ≤ blocks_in B held → AgreeBelow n B bit told
  unfolding stretch_bit
  agrees has e b le lb =
      let whole : AgreeBelow (blocks_in B held) B (stored_bit (stride B (length ws)) ws) (recorded_bit B low held) = rw lent agree in
      whole (first + e) b (omega arith) lb

  pub usable_is : sampler_refusal s (length ws) ≡ 0
  unfolding sampler_refusal
  usable_is = simp (ok, lent, eq-eqb words words refl, le-leb _ _ within, short)

  stretch_is : first ≤ end → end ≤ blocks_in B held → stretch_refusal s first end ≡ 0
  unfolding stretch_refusal
  stretch_is order has = simp (le-leb _ _ order, le-leb _ _ has)

  -- 18 comes before all but 4, which does not come
  outside_is : (rest : ℕ) → (end < first) ⊎ (blocks_in B held < end)
      → or_else (or_else (sampler_refusal s (length ws)) (or_else (stretch_refusal s first end) (width_refusal B k))) rest ≡ 18
  unfolding stretch_refusal
  outside_is rest (inl h) = simp (usable_is, lt-leb _ _ h)
  outside_is rest (inr h) = by_order (leb first end) refl
    where
      by_order : (t : Bool) → leb first end ≡ t
          → or_else (or_else (sampler_refusal s (length ws)) (or_else (stretch_refusal s first end) (width_refusal B k))) rest ≡ 18
      by_order true e = simp (usable_is, e, lt-leb _ _ h)
      by_order false e = simp (usable_is, e)

  width_is : 1 ≤ k → k ≤ 20 → k ≤ B → width_refusal B k ≡ 0
  unfolding width_refusal valid_width
  width_is some width chosen = simp (le-leb _ _ some, le-leb _ _ width, le-leb _ _ chosen)

  buffer_is : (a b : ℕ) → 2 ^ k ≤ a → 2 ^ k ≤ b → buffer_refusal k a b ≡ 0
  unfolding buffer_refusal
  buffer_is a b p q = simp (le-leb _ _ p, le-leb _ _ q)

  best_of : end ≤ blocks_in B held → k ≤ B → (bins order : List ℕ)
      → let W = winner_of bit n B k in
      Best low told n B k (finding_of low bit n B W) (counts_of bit n W ++ drop (2 ^ k) bins) (order_of (counts_of bit n W) ++ drop (2 ^ k) order)
  best_of has chosen bins order =
      let W = winner_of bit n B k in
      let opt = winner_optimal bit n B k chosen in
      let front : take k (padded W) ≡ W = padded_front k W opt.subset.size in
      let counts : take (2 ^ k) (counts_of bit n W ++ drop (2 ^ k) bins) ≡ counts_of bit n W =
      replaced_first (2 ^ k) (counts_of bit n W) bins (length_counts bit n W ∙ ap (λ (m : ℕ). 2 ^ m) opt.subset.size) in
      let orders : take (2 ^ k) (order_of (counts_of bit n W) ++ drop (2 ^ k) order) ≡ order_of (counts_of bit n W) =
      replaced_first (2 ^ k) (order_of (counts_of bit n W)) order (length_order bit n W ∙ ap (λ (m : ℕ). 2 ^ m) opt.subset.size) in
      let score : score_of n (length W) (counts_of bit n W) ≡ score_of n k (take (2 ^ k) (counts_of bit n W ++ drop (2 ^ k) bins)) =
      λ i. score_of n (opt.subset.size i) (sym counts i) in
      record {
        block = refl;
        width = opt.subset.size;
        bit_order = refl;
        chosen = rw front opt.subset;
        zeros = ap padded (sym front);
        counted = counts ∙ counts_agree B n k bit told (agrees has) W opt.subset ∙ ap (counts_of told n) (sym front);
        division = λ i. (score i).division;
        z = λ i. (score i).z;
        ordered = orders ∙ ap order_of (sym counts);
        beats = λ t X. rw front (elim (opt.beats t X) [
          | inl e ↦ inl e
          | inr b ↦ inr (beats_agree B n k bit told (agrees has) W t X b)
        ]);
      }

  -- a search that was not refused found the best
  search_best : (r : ℕ) (bins order : List ℕ) (answer : Searched) (bins' order' : List ℕ) → StretchSearch r s ws first end k bins order answer bins' order'
      → (r ≡ 0 → SearchFree s (length ws) first end k) → answer.refusal ≡ 0 → BestIn B low held first end k answer.finding bins' order'
  search_best zero bins order answer bins' order' S free z =
      let f = free refl in
      subst (λ (f : Finding). BestIn B low held first end k f bins' order') (sym (ap (λ (q : Searched). q.finding) S.answered))
      (rw (S.counted, S.ordered) (best_of f.ordered.held f.width.chosen bins order))
  search_best (suc r) bins order answer bins' order' S free z = absurd (omega (arith, said_is (suc r) low bit n B k answer S.answered))

  out_is : (a b : ℕ) → (end < first) ⊎ (blocks_in B held < end) → bottomup_refusal s (length ws) first end k a b ≡ 18
  unfolding bottomup_refusal search_refusal
  out_is a b o = outside_is (buffer_refusal k a b) o

  free_is : (bins order : List ℕ) → first ≤ end → end ≤ blocks_in B held → SearchRoom B k bins order
      → bottomup_refusal s (length ws) first end k (length bins) (length order) ≡ 0
  unfolding bottomup_refusal search_refusal
  free_is bins order fe has (some, width, chosen, p, q) = simp (usable_is, stretch_is fe has, width_is some width chosen, buffer_is (length bins) (length order) p q)

  -- the counts left in a store that suffices are the recording's
  stored_in : (r : ℕ) (suffices : Bool) (store store' : List ℕ) → store' ≡ store_after r suffices bit n B k store → r ≡ 0 → end ≤ blocks_in B held
      → store' ≡ store_after 0 suffices told n B k store
  stored_in zero true store store' S z has = S ∙ ap (λ (l : List ℕ). l ++ drop (store_size B k) store) (store_agree n B bit told (agrees has) (widest k))
  stored_in zero false store store' S z has = S
  stored_in (suc r) suffices store store' S z has = absurd (omega arith)

  search_claim : (store bins order : List ℕ) (r : Searched) (store' bins' order' : List ℕ)
      → BottomupSearch s ws first end k store bins order r store' bins' order' → SearchClaim B low held first end k store bins order r store' bins' order'
  search_claim store bins order r store' bins' order' S =
      let q = bottomup_refusal s (length ws) first end k (length bins) (length order) in
      let said : r.refusal ≡ q = said_is q low bit n B k r S.search.answered in
      let free = bottomup_free s (length ws) first end k (length bins) (length order) in
      record {
        outside = λ o. said ∙ out_is (length bins) (length order) o;
        succeeds = λ fe has room. said ∙ free_is bins order fe has room;
        best = λ z. search_best q bins order r bins' order' S.search (λ e. (free e).search) z;
        stored = λ z.
            let none : q ≡ 0 = sym said ∙ z in
            stored_in q (store_suffices B k (length store)) store store' S.stored none (free none).search.ordered.held;
      }

  -- two searches that were not refused
  search_same : (q q' : ℕ) (bins order : List ℕ) (r : Searched) (bins' order' bins₂ order₂ : List ℕ) (r₂ : Searched) (bins₂' order₂' : List ℕ)
      → StretchSearch q s ws first end k bins order r bins' order' → StretchSearch q' s ws first end k bins₂ order₂ r₂ bins₂' order₂'
      → k ≤ B → r.refusal ≡ 0 → r₂.refusal ≡ 0 → Same k r bins' order' r₂ bins₂' order₂'
  search_same zero zero bins order r bins' order' bins₂ order₂ r₂ bins₂' order₂' S S₂ chosen z y =
      let W = winner_of bit n B k in
      let size = ap (λ (m : ℕ). 2 ^ m) (winner_optimal bit n B k chosen).subset.size in
      let counts = counts_of bit n W in
      record {
        findings = ap (λ (a : Searched). a.finding) (S.answered ∙ sym S₂.answered);
        counts = ap (take (2 ^ k)) S.counted ∙ replaced_first (2 ^ k) counts bins (length_counts bit n W ∙ size)
            ∙ sym (ap (take (2 ^ k)) S₂.counted ∙ replaced_first (2 ^ k) counts bins₂ (length_counts bit n W ∙ size));
        orders = ap (take (2 ^ k)) S.ordered ∙ replaced_first (2 ^ k) (order_of counts) order (length_order bit n W ∙ size)
            ∙ sym (ap (take (2 ^ k)) S₂.ordered ∙ replaced_first (2 ^ k) (order_of counts) order₂ (length_order bit n W ∙ size));
      }
  search_same (suc q) q' bins order r bins' order' bins₂ order₂ r₂ bins₂' order₂' S S₂ chosen z y = absurd (omega (arith, said_is (suc q) low bit n B k r S.answered))
  search_same zero (suc q') bins order r bins' order' bins₂ order₂ r₂ bins₂' order₂' S S₂ chosen z y = absurd (omega (arith, said_is (suc q') low bit n B k r₂ S₂.answered))

  both_same : (store bins order : List ℕ) (r : Searched) (store' bins' order' : List ℕ) → BottomupSearch s ws first end k store bins order r store' bins' order'
      → (store₂ bins₂ order₂ : List ℕ) (r₂ : Searched) (store₂' bins₂' order₂' : List ℕ)
      → BottomupSearch s ws first end k store₂ bins₂ order₂ r₂ store₂' bins₂' order₂'
      → r.refusal ≡ 0 → r₂.refusal ≡ 0 → Same k r bins' order' r₂ bins₂' order₂'
  both_same store bins order r store' bins' order' S store₂ bins₂ order₂ r₂ store₂' bins₂' order₂' S₂ z y =
      let q = bottomup_refusal s (length ws) first end k (length bins) (length order) in
      search_same q _ bins order r bins' order' bins₂ order₂ r₂ bins₂' order₂' S.search S₂.search
      (bottomup_free s (length ws) first end k (length bins) (length order) (sym (said_is q low bit n B k r S.search.answered) ∙ z)).search.width.chosen z y

-- ---- every acquisition

module _ {B : ℕ} {low : Bool} {ws : List ℕ} {old : List (List ℕ)} {feeds : List Feed} {answers : List ℕ} {s : Sampler} {ws' : List ℕ}
    (acquired : Acquisition B low ws old feeds answers s ws') where
  abbrev recorded : Boards
  recorded = boards_of B (length ws) old feeds

  -- the sampler and the words are those of the recording
  pub recorder : HoldsRecording B low (length ws) (record { sampler = s; words = ws' }) recorded
  recorder =
      let S = stands acquired in
      subst (λ (st : State). HoldsRecording B low (length ws) st recorded) (sym S.state) (all_recorded B low ws S.valid old S.small feeds).holds

  -- no board has a block's unfinished bytes
  pub each_short_is : each_short (sampler_of B low (length ws) recorded).head ≡ true
  each_short_is =
      let K = all_kept B (length ws) (acquired_valid acquired) old feeds in
      simp (lt-ltb _ _ (K.short 0), lt-ltb _ _ (K.short 1), lt-ltb _ _ (K.short 2), lt-ltb _ _ (K.short 3))

pub claims : Claims
claims B low ws old feeds answers s ws' acquired =
    let S = stands acquired in
    let held = recording B (length ws) old feeds in
    let H = recorder acquired in
    let is : s.head ≡ (sampler_of B low (length ws) (boards_of B (length ws) old feeds)).head = ap (λ (q : Sampler). q.head) H.sampler in
    let lengths = (sampler_of B low (length ws) (boards_of B (length ws) old feeds)).head.lengths in
    record {
      fed = S.said ∙ (all_recorded B low ws S.valid old S.small feeds).answers;
      search = λ first end k store bins order r store' bins' order' P.
          search_claim B low (length ws) held ws' lengths S.valid H.lent H.within (each_short_is acquired) H.stored first end k store bins order r store' bins' order'
          (subst (λ (q : Head). BottomupSearch q ws' first end k store bins order r store' bins' order') is P);
      same = λ first end k store bins order r store' bins' order' P store₂ bins₂ order₂ r₂ store₂' bins₂' order₂' P₂ z y.
          both_same B low (length ws) held ws' lengths S.valid H.lent H.within (each_short_is acquired) H.stored first end k store bins order r store' bins' order'
          (subst (λ (q : Head). BottomupSearch q ws' first end k store bins order r store' bins' order') is P) store₂ bins₂ order₂ r₂ store₂' bins₂' order₂'
          (subst (λ (q : Head). BottomupSearch q ws' first end k store₂ bins₂ order₂ r₂ store₂' bins₂' order₂') is P₂) z y;
    }
