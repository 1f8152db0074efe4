-- After a start or a carry-over and any feeds the sampler is the recording's and the words hold its blocks (`holds_all`), and what one feed sets (theorem `feed_fills`).
use mathlib.Core.Path.{◌≡◌, refl, sym, ap, ap₂, subst, ◌∙◌}
use mathlib.Core.Bool.{Bool, true, false, cond}
use mathlib.Core.List.{List, [], ◌∷◌, ◌++◌}
use Prim.Native.Nat.{ℕ, zero, suc, ◌+◌, ◌-◌, ◌*◌, ◌/◌, ◌%◌, ◌≤◌, ◌<◌, max}
use native.Mathlib.Omega.{arith}
use native.Mathlib.Decide.{dec_lt, ℕ_discrete}
use native.Mathlib.Nat.{le_trans, le_refl, min-le_left, mod-lt, div-lt_iff_lt-mul, div-add-mod', le-div_iff_mul-le, div-mul-le_self, add-mul, mul-le-mul_right}
use lib.Dec.{leb, eqb}
use lib.ListN.{length, get_or, take, drop, set, replicate, length-append}
use lib.Seq.{take-length}
use borrow.Author.Tests.{eq-eqb, eqb-true, eqb-false, ne_eqb, le-leb, lt-leb, lt-ltb}
use Rattle.counting.specs.Block.{bit_at, valid_size}
use Rattle.counting.specs.Buffer.{put}
use Rattle.counting.specs.Recording.{block_bytes, stride, capacity, blocks_in}
use Rattle.counting.specs.Words.{stored_bit}
use Rattle.counting.proofs.Accepted.{Valid, valid_facts}
use Rattle.sampling.specs.Boards.{Boards, Feed, changed, arriving, board_refusal, taken, boards_after, boards_from, refusals_from}
use Rattle.sampling.specs.Cut.{whole, rest}
use Rattle.sampling.specs.Feeding.{together, completed, feed_refusal, fed_head, arriving_on, left_on, fed_unfinished, fed_of, fed_words, FeedFills}
use Rattle.sampling.specs.Putting.{put_bytes, arriving_bit}
use Rattle.sampling.specs.Recorded.{State, fed, fed_all, answers_from, kept_bytes, sampler_of, HoldsRecording}
use Rattle.sampling.specs.Sampler.{pending, tail_of, sampler_refusal}
use Rattle.sampling.specs.declared.sampler.Head.{Head}
use Rattle.sampling.specs.declared.sampler.Sampler.{Sampler}
use Rattle.sampling.proofs.Cutting.{length_whole, length_rest, rest_short, blocks_behind, blocks_whole}
use Rattle.sampling.proofs.Filling.{length_put_bytes, stored_after, past_after}
use Rattle.sampling.proofs.Holding.{held_bit, held_more, held_past, held_recorded}
use Rattle.sampling.proofs.Tails.{changed_same, changed_other, lengths_of, length_on, length_set_on, tail_kept, put_kept}
use Rattle.sampling.proofs.Usable.{Accepted, accepted, room_words, room_lanes}

-- ---- theorem 1: what one feed does to each bit of each word

-- bit j of word p is the place of bit p / S of block 64 × (p mod S) + j
place : (S p j : ℕ) (ws : List ℕ) → j < 64 → stored_bit S ws (64 * (p % S) + j) (p / S) ≡ bit_at (get_or ws p 0) j
unfolding stored_bit
place S p j ws h =
    let word : p / S * S + (64 * (p % S) + j) / 64 ≡ p =
    ap (λ (m : ℕ). p / S * S + m) (let q : (64 * (p % S) + j) / 64 ≡ p % S = omega arith in q) ∙ div-add-mod' p S in
    let lane : (64 * (p % S) + j) % 64 ≡ j = omega arith in
    rw (word, lane)

module _ (s : Head) (u ws : List ℕ) (board : ℕ) (piece : List ℕ) (free : feed_refusal s (length ws) board (length piece) ≡ 0) where
  abbrev B : ℕ
  B = s.block_size

  abbrev size : ℕ
  size = block_bytes B

  abbrev S : ℕ
  S = stride B (length ws)

  abbrev new : List ℕ
  new = whole B (arriving_on s u board piece)

  taken_in : Accepted s (length ws) board (length piece)
  taken_in = accepted s (length ws) board (length piece) free

  valid : Valid B
  valid = valid_facts B taken_in.usable.valid

  -- no more bytes arrive than the sampler says it has, and those of the piece
  tail_within : length (tail_of s u board) ≤ pending s board
  unfolding tail_of
  tail_within = length_take_most (pending s board) (drop (512 * board) u)
    where
      length_take_most : (n : ℕ) (l : List ℕ) → length (take n l) ≤ n
      length_take_most zero l = omega arith
      length_take_most (suc n) [] = omega arith
      length_take_most (suc n) (x ∷ l) = let h = length_take_most n l in omega arith

  some_bytes : 0 < size
  some_bytes = omega (arith, valid)

  fits : s.blocks * size + length new ≤ 64 * S * size
  fits =
      let few : length (arriving_on s u board piece) ≤ together s board (length piece) = omega (arith, tail_within, length-append (tail_of s u board) piece) in
      let blocks : blocks_in B (arriving_on s u board piece) ≤ completed s board (length piece) = (le-div_iff_mul-le some_bytes).1 (le_trans (div-mul-le_self (length (arriving_on s u board piece)) size) few) in
      let sum : s.blocks * size + length new ≡ (s.blocks + blocks_in B (arriving_on s u board piece)) * size =
      ap (λ (k : ℕ). s.blocks * size + k) (length_whole B (arriving_on s u board piece)) ∙ sym (add-mul s.blocks (blocks_in B (arriving_on s u board piece)) size) in
      rw sum (room_lanes B (length ws) (s.blocks + blocks_in B (arriving_on s u board piece)) (omega (arith, taken_in.room)))

  all_rows : 8 * size ≡ B
  all_rows = omega (arith, valid)

  fed_is : fed_words s u ws board piece ≡ put_bytes s.low_first size S ws (s.blocks * size) new (length new)
  unfolding fed_words
  fed_is = simp free

  fills_bits : (p j : ℕ) → p < B * S → j < 64
      → bit_at (get_or (fed_words s u ws board piece) p 0) j
      ≡ max (bit_at (get_or ws p 0) j) (arriving_bit s.low_first size (s.blocks * size) new (64 * (p % S) + j) (p / S))
  fills_bits p j hp hj =
      let S>0 : 0 < S = by_zero S refl in
      let row : p / S < B = (div-lt_iff_lt-mul S>0).1 hp in
      let lane : p % S < S = mod-lt p S>0 in
      ap (λ (l : List ℕ). bit_at (get_or l p 0) j) fed_is
      ∙ sym (place S p j (put_bytes s.low_first size S ws (s.blocks * size) new (length new)) hj)
      ∙ stored_after s.low_first size S (s.blocks * size) ws new (omega (arith, valid)) (room_words B (length ws) valid) fits (length new) (le_refl _) (64 * (p % S) + j) (p / S) (omega arith) (omega (arith, all_rows))
      ∙ (λ i. max (place S p j ws hj i) (arriving_bit s.low_first size (s.blocks * size) (take-length new i) (64 * (p % S) + j) (p / S)))
    where
      by_zero : (n : ℕ) → n ≡ S → 0 < n
      by_zero zero e = absurd (let h : p < B * 0 = rw e hp in omega arith)
      by_zero (suc n) e = omega arith

  fills_rest : (p : ℕ) → B * S ≤ p → get_or (fed_words s u ws board piece) p 0 ≡ get_or ws p 0
  fills_rest p past =
      ap (λ (l : List ℕ). get_or l p 0) fed_is
      ∙ past_after s.low_first size S (s.blocks * size) ws new (omega (arith, valid)) (room_words B (length ws) valid) fits (length new) (le_refl _) p (rw all_rows past)

pub feed_fills : FeedFills
feed_fills s u ws board piece free = record { bits = fills_bits s u ws board piece free; rest = fills_rest s u ws board piece free }

-- ---- theorem 2: the words hold the recording

-- the state is that of what is held, every lane of a row included
pub record Holds (B : ℕ) (low : Bool) (n : ℕ) (state : State) (st : Boards) : Type 0 where
  pub sampler : state.sampler ≡ sampler_of B low n st
  pub lent : length state.words ≡ n
  pub within : blocks_in B st.held ≤ capacity B n
  pub full : length st.held ≡ blocks_in B st.held * block_bytes B
  pub short : (board : ℕ) → length (st.tail board) < block_bytes B
  pub bits : (e b : ℕ) → e < 64 * stride B n → b < 8 * block_bytes B → stored_bit (stride B n) state.words e b ≡ held_bit low (block_bytes B) st.held e b

module _ (B : ℕ) (low : Bool) (n : ℕ) (ok : valid_size B ≡ true) where
  abbrev width : ℕ
  width = block_bytes B

  sound : Valid B
  sound = valid_facts B ok

  pos : 0 < width
  pos = omega (arith, sound)

  small : width ≤ 512
  small = omega (arith, sound)

  -- ---- one feed, of a state by its parts

  module _ (st : Boards) (within : blocks_in B st.held ≤ capacity B n) (full : length st.held ≡ blocks_in B st.held * width)
      (short : (board : ℕ) → length (st.tail board) < width) (f : Feed) where
    abbrev head : Head
    head = (sampler_of B low n st).head

    abbrev unfinished : List ℕ
    unfinished = kept_bytes st.tail

    usable_is : sampler_refusal head n ≡ 0
    unfolding sampler_refusal
    usable_is =
        simp (ok, eq-eqb n n refl, le-leb _ _ within, lt-ltb _ _ (short 0), lt-ltb _ _ (short 1), lt-ltb _ _ (short 2), lt-ltb _ _ (short 3))

    pending_is : f.board < 4 → pending head f.board ≡ length (st.tail f.board)
    pending_is h = length_on st.tail f.board h

    tail_is : f.board < 4 → tail_of head unfinished f.board ≡ st.tail f.board
    unfolding tail_of
    tail_is h =
        let b = f.board in
        ap (λ (k : ℕ). take k (drop (512 * b) unfinished)) (pending_is h) ∙ tail_kept st.tail b h (let l : length (st.tail b) ≤ 512 = omega (arith, short b, small) in l)

    together_is : f.board < 4 → together head f.board (length f.piece) ≡ length (arriving st f)
    together_is h = ap (λ (k : ℕ). k + length f.piece) (pending_is h) ∙ sym (length-append (st.tail f.board) f.piece)

    -- it is refused where the recording refuses it
    refusal_is : feed_refusal head n f.board (length f.piece) ≡ board_refusal B n st f
    unfolding feed_refusal board_refusal
    refusal_is = simp usable_is (by_board (dec_lt f.board 4))
      where
        by_board : Dec (f.board < 4)
            → ◌≡◌ {A = ℕ} (cond (leb f.board 3) (cond (leb (blocks_in B st.held + completed head f.board (length f.piece)) (capacity B n)) 0 5) 21)
            (cond (leb f.board 3) (cond (leb (blocks_in B st.held + blocks_in B (arriving st f)) (capacity B n)) 0 5) 21)
        by_board (yes h) = ap (λ (k : ℕ). cond (leb f.board 3) (cond (leb (blocks_in B st.held + k / width) (capacity B n)) 0 5) 21) (together_is h)
        by_board (no h) = let far : leb f.board 3 ≡ false = lt-leb f.board 3 (omega arith) in rw far

    module _ (free : board_refusal B n st f ≡ 0) where
      named : f.board < 4
      named = (accepted head n f.board (length f.piece) (refusal_is ∙ free)).named

      arrives : arriving_on head unfinished f.board f.piece ≡ arriving st f
      arrives = ap (λ (l : List ℕ). l ++ f.piece) (tail_is named)

      more_blocks : blocks_in B (st.held ++ whole B (arriving st f)) ≡ blocks_in B st.held + blocks_in B (arriving st f)
      more_blocks = blocks_behind B pos st.held (whole B (arriving st f)) full ∙ ap (λ (k : ℕ). blocks_in B st.held + k) (blocks_whole B pos (arriving st f))

      within_now : blocks_in B (st.held ++ whole B (arriving st f)) ≤ capacity B n
      within_now = rw more_blocks (room (board_refusal_room free))
        where
          board_refusal_room : board_refusal B n st f ≡ 0 → feed_refusal head n f.board (length f.piece) ≡ 0
          board_refusal_room z = refusal_is ∙ z

          room : feed_refusal head n f.board (length f.piece) ≡ 0 → blocks_in B st.held + blocks_in B (arriving st f) ≤ capacity B n
          room z =
              let r = (accepted head n f.board (length f.piece) z).room in
              subst (λ (k : ℕ). blocks_in B st.held + k / width ≤ capacity B n) (together_is named) r

      full_now : length (st.held ++ whole B (arriving st f)) ≡ blocks_in B (st.held ++ whole B (arriving st f)) * width
      full_now =
          length-append st.held (whole B (arriving st f)) ∙ ap₂ (λ (a b : ℕ). a + b) full (length_whole B (arriving st f))
          ∙ sym (ap (λ (k : ℕ). k * width) more_blocks ∙ add-mul (blocks_in B st.held) (blocks_in B (arriving st f)) width)

      head_now : fed_head head n f.board (length f.piece) ≡ (sampler_of B low n (taken B st f)).head
      unfolding fed_head taken
      head_now =
          let b = f.board in
          let left : together head b (length f.piece) % width ≡ length (rest B (arriving st f)) =
          ap (λ (k : ℕ). k % width) (together_is named) ∙ sym (length_rest B (arriving st f)) in
          let blocks : blocks_in B st.held + completed head b (length f.piece) ≡ blocks_in B (st.held ++ whole B (arriving st f)) =
          ap (λ (k : ℕ). blocks_in B st.held + k / width) (together_is named) ∙ sym more_blocks in
          let lengths : set (lengths_of st.tail) b (together head b (length f.piece) % width) ≡ lengths_of (changed b (rest B (arriving st f)) st.tail) =
          ap (set (lengths_of st.tail) b) left ∙ length_set_on st.tail b (rest B (arriving st f)) named in
          simp (refusal_is ∙ free) (λ i. record { block_size = B; words = n; blocks = blocks i; low_first = low; lengths = lengths i })

      left_is : left_on head unfinished f.board f.piece
          ≡ rest B (arriving st f) ++ replicate (length (st.tail f.board) - length (rest B (arriving st f))) 0
      unfolding left_on
      left_is = λ i. rest B (arrives i) ++ replicate (pending_is named i - length (rest B (arrives i))) 0

      kept_now : fed_unfinished head n unfinished f.board f.piece ≡ kept_bytes (taken B st f).tail
      unfolding fed_unfinished taken
      kept_now =
          let b = f.board in
          let x = rest B (arriving st f) in
          simp (refusal_is ∙ free)
          (ap (put unfinished (512 * b)) left_is
          ∙ put_kept st.tail b named (let l : length (st.tail b) ≤ 512 = omega (arith, short b, small) in l) x (let l : length x ≤ 512 = omega (arith, rest_short B pos (arriving st f), small) in l))

      short_now : (board : ℕ) → length ((taken B st f).tail board) < width
      unfolding taken
      short_now board = elim (ℕ_discrete board f.board) [
        | yes e ↦ rw (changed_same f.board (rest B (arriving st f)) st.tail board e) (rest_short B pos (arriving st f))
        | no ne ↦ rw (changed_other f.board (rest B (arriving st f)) st.tail board ne) (short board)
      ]

      words_now : (ws : List ℕ) → length ws ≡ n
          → ((e b : ℕ) → e < 64 * stride B n → b < 8 * width → stored_bit (stride B n) ws e b ≡ held_bit low width st.held e b)
          → (e b : ℕ) → e < 64 * stride B n → b < 8 * width
          → stored_bit (stride B n) (fed_words head unfinished ws f.board f.piece) e b ≡ held_bit low width (st.held ++ whole B (arriving st f)) e b
      unfolding fed_words
      words_now ws lent bits e b le lb =
          let new = whole B (arriving st f) in
          let S = stride B n in
          let rows : 8 * width * S ≤ length ws = rw lent (room_words B n sound) in
          let fits : length st.held + length new ≤ 64 * S * width =
          rw (sym (length-append st.held new), full_now) (room_lanes B n (blocks_in B (st.held ++ new)) within_now) in
          let put_in : fed_words head unfinished ws f.board f.piece ≡ put_bytes low width S ws (length st.held) new (length new) =
          simp (lent, refusal_is ∙ free) (λ i. put_bytes low width S ws (sym full i) (whole B (arrives i)) (length (whole B (arrives i)))) in
          ap (λ (l : List ℕ). stored_bit S l e b) put_in
          ∙ stored_after low width S (length st.held) ws new pos rows fits (length new) (le_refl _) e b le lb
          ∙ (λ i. max (bits e b le lb i) (arriving_bit low width (length st.held) (take-length new i) e b))
          ∙ sym (held_more low width st.held new e b)

  -- ---- any feeds

  -- what a feed answers is the recording's refusal
  pub answer_is : (state : State) (st : Boards) (f : Feed) → Holds B low n state st
      → (fed_of state.sampler (length state.words) f.board f.piece).refusal ≡ board_refusal B n st f
  unfolding fed_of
  answer_is state st f H =
      (λ i. feed_refusal (H.sampler i).head (H.lent i) f.board (length f.piece)) ∙ refusal_is st H.within H.full H.short f

  -- a feed that is refused changes nothing
  refused_fed : (ws : List ℕ) (s : Sampler) (f : Feed) → (feed_refusal s.head (length ws) f.board (length f.piece) ≡ 0 → ⊥)
      → fed (record { sampler = s; words = ws }) f ≡ record { sampler = s; words = ws }
  unfolding fed fed_of fed_head fed_unfinished fed_words
  refused_fed ws s f some = simp (ne_eqb (feed_refusal s.head (length ws) f.board (length f.piece)) 0 some)

  length_fed : (s : Head) (u ws : List ℕ) (board : ℕ) (piece : List ℕ) → length (fed_words s u ws board piece) ≡ length ws
  unfolding fed_words
  length_fed s u ws board piece = by_test (eqb (feed_refusal s (length ws) board (length piece)) 0)
    where
      by_test : (t : Bool) → let new = whole s.block_size (arriving_on s u board piece) in
          length (cond t (put_bytes s.low_first (block_bytes s.block_size) (stride s.block_size (length ws)) ws (s.blocks * block_bytes s.block_size) new (length new)) ws) ≡ length ws
      by_test true = length_put_bytes _ _ _ _ _ _ _
      by_test false = refl

  -- .. and one that is taken makes the state that of what is held then
  taken_holds : (ws : List ℕ) (st : Boards) (f : Feed) → Holds B low n (record { sampler = sampler_of B low n st; words = ws }) st → board_refusal B n st f ≡ 0
      → Holds B low n (fed (record { sampler = sampler_of B low n st; words = ws }) f) (taken B st f)
  unfolding fed fed_of taken
  taken_holds ws st f H free =
      let s = sampler_of B low n st in
      let head : fed_head s.head (length ws) f.board (length f.piece) ≡ (sampler_of B low n (taken B st f)).head =
      ap (λ (k : ℕ). fed_head s.head k f.board (length f.piece)) H.lent ∙ head_now st H.within H.full H.short f free in
      let bytes : fed_unfinished s.head (length ws) s.unfinished f.board f.piece ≡ kept_bytes (taken B st f).tail =
      ap (λ (k : ℕ). fed_unfinished s.head k s.unfinished f.board f.piece) H.lent ∙ kept_now st H.within H.full H.short f free in
      record {
        sampler = λ i. record { head = head i; unfinished = bytes i };
        lent = length_fed s.head s.unfinished ws f.board f.piece ∙ H.lent;
        within = within_now st H.within H.full H.short f free;
        full = full_now st H.within H.full H.short f free;
        short = short_now st H.within H.full H.short f free;
        bits = words_now st H.within H.full H.short f free ws H.lent H.bits;
      }

  holds_parts : (ws : List ℕ) (st : Boards) (f : Feed) → Holds B low n (record { sampler = sampler_of B low n st; words = ws }) st
      → Holds B low n (fed (record { sampler = sampler_of B low n st; words = ws }) f) (boards_after B n st f)
  unfolding boards_after
  holds_parts ws st f H = by_test (eqb (board_refusal B n st f) 0) refl
    where
      said : feed_refusal (sampler_of B low n st).head (length ws) f.board (length f.piece) ≡ board_refusal B n st f
      said = ap (λ (k : ℕ). feed_refusal (sampler_of B low n st).head k f.board (length f.piece)) H.lent ∙ refusal_is st H.within H.full H.short f

      by_test : (t : Bool) → eqb (board_refusal B n st f) 0 ≡ t
          → Holds B low n (fed (record { sampler = sampler_of B low n st; words = ws }) f) (cond t (taken B st f) st)
      by_test true e = taken_holds ws st f H (eqb-true _ _ e)
      by_test false e =
          subst (λ (q : State). Holds B low n q st) (sym (refused_fed ws (sampler_of B low n st) f (λ z. eqb-false _ _ e (sym said ∙ z)))) H

  holds_fed : (state : State) (st : Boards) (f : Feed) → Holds B low n state st → Holds B low n (fed state f) (boards_after B n st f)
  holds_fed state st f H =
      let same : state ≡ record { sampler = sampler_of B low n st; words = state.words } = λ i. record { sampler = H.sampler i; words = state.words } in
      rw same (holds_parts state.words st f (record { sampler = refl; lent = H.lent; within = H.within; full = H.full; short = H.short; bits = H.bits }))

  pub holds_all : (state : State) (st : Boards) (feeds : List Feed) → Holds B low n state st
      → (answers_from state feeds ≡ refusals_from B n st feeds) × Holds B low n (fed_all state feeds) (boards_from B n st feeds)
  unfolding answers_from refusals_from fed_all boards_from
  holds_all state st [] H = (refl, H)
  holds_all state st (f ∷ fs) H =
      let later = holds_all (fed state f) (boards_after B n st f) fs (holds_fed state st f H) in
      (λ i. answer_is state st f H i ∷ later.0 i, later.1)

  -- of the blocks, what is stored is the recording's, and there is nothing else
  pub holds_recording : (state : State) (st : Boards) → Holds B low n state st → HoldsRecording B low n state st
  holds_recording state st H = record {
    sampler = H.sampler;
    lent = H.lent;
    within = H.within;
    stored = λ e b le lb.
        let lanes : blocks_in B st.held ≤ 64 * stride B n = le_trans H.within (min-le_left _ _) in
        H.bits e b (omega arith) (omega (arith, sound)) ∙ held_recorded B low st.held e b sound lb;
    clear = λ e b past le lb.
        let far : length st.held ≤ e * width + b / 8 = omega (arith, H.full, mul-le-mul_right width past) in
        H.bits e b le (omega (arith, sound)) ∙ held_past low width st.held e b far;
  }

-- ---- one feed more, at the end

pub fed_all_snoc : (st : State) (feeds : List Feed) (f : Feed) → fed_all st (feeds ++ (f ∷ [])) ≡ fed (fed_all st feeds) f
unfolding fed_all
fed_all_snoc st [] f = refl
fed_all_snoc st (g ∷ feeds) f = fed_all_snoc (fed st g) feeds f

pub answers_snoc : (st : State) (feeds : List Feed) (f : Feed)
    → answers_from st (feeds ++ (f ∷ []))
    ≡ answers_from st feeds ++ ((fed_of (fed_all st feeds).sampler (length (fed_all st feeds).words) f.board f.piece).refusal ∷ [])
unfolding answers_from fed_all
answers_snoc st [] f = refl
answers_snoc st (g ∷ feeds) f = ap (λ (l : List ℕ). (fed_of st.sampler (length st.words) g.board g.piece).refusal ∷ l) (answers_snoc (fed st g) feeds f)
