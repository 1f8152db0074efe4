-- Under the earlier rule the words hold the plain recording after start and any feeds, an unfinished block's bits too (theorem `all_earlier_recorded`).
use mathlib.Core.Path.{◌≡◌, refl, sym, ap, ◌∙◌}
use mathlib.Core.Bool.{Bool, true}
use mathlib.Core.List.{List, [], ◌∷◌, ◌++◌}
use Prim.Native.Nat.{ℕ, ◌+◌, ◌*◌, ◌/◌, ◌%◌, ◌≤◌, ◌<◌, max, zero-le}
use native.Mathlib.Omega.{arith}
use native.Mathlib.Decide.{dec_lt}
use native.Mathlib.Nat.{le_trans, le_refl, min-le_left}
use lib.ListN.{length, length-append, length-replicate}
use lib.Seq.{take-length}
use borrow.Author.Tests.{eq-eqb, le-leb, lt-leb}
use Rattle.counting.specs.Block.{valid_size}
use Rattle.counting.specs.Recording.{block_bytes, stride, capacity_bytes}
use Rattle.counting.specs.Words.{stored_bit}
use Rattle.counting.proofs.Accepted.{valid_facts}
use Rattle.sampling.specs.Earlier.{piece_refusal, held_after, held_from, piece_refusals, earlier_recording, earlier_refusal, earlier_feed_refusal, EarlierState, earlier_started, earlier_fed, earlier_fed_all, earlier_answers, AllEarlierRecorded}
use Rattle.sampling.specs.Putting.{put_bytes, arriving_bit}
use Rattle.sampling.specs.declared.carrying.Earlier.{Earlier}
use Rattle.sampling.proofs.Filling.{length_put_bytes, stored_after}
use Rattle.sampling.proofs.Holding.{held_bit, held_more, held_past, held_recorded, cleared_bit}
use Rattle.sampling.proofs.Usable.{room_words, room_bytes, room_blocks}

abbrev pub earlier_of : ℕ → Bool → ℕ → ℕ → Earlier
earlier_of B low n taken = record { block_size = B; words = n; taken = taken; low_first = low }

-- the state is that of the bytes held, every lane of a row included
pub record Told (B : ℕ) (low : Bool) (n : ℕ) (st : EarlierState) (held : List ℕ) : Type 0 where
  pub sampler : st.sampler ≡ earlier_of B low n (length held)
  pub lent : length st.words ≡ n
  pub within : length held ≤ capacity_bytes B n
  pub bits : (e b : ℕ) → e < 64 * stride B n → b < 8 * block_bytes B → stored_bit (stride B n) st.words e b ≡ held_bit low (block_bytes B) held e b

module _ (B : ℕ) (low : Bool) (n : ℕ) (ok : valid_size B ≡ true) where
  told_start : (ws : List ℕ) → length ws ≡ n → Told B low n (earlier_started B low ws) []
  unfolding stored_bit
  told_start ws len = simp len (record {
    sampler = refl;
    lent = length-replicate n 0;
    within = zero-le;
    bits = λ e b le lb. cleared_bit n (b * stride B n + e / 64) (e % 64) ∙ sym (held_past low (block_bytes B) [] e b zero-le);
  })

  -- the sampler of a recording is refused nothing but a piece that is too long
  refusal_is : (held piece : List ℕ) → length held ≤ capacity_bytes B n
      → earlier_feed_refusal (earlier_of B low n (length held)) n (length piece) ≡ piece_refusal B n held piece
  unfolding earlier_feed_refusal earlier_refusal piece_refusal
  refusal_is held piece within = simp (ok, eq-eqb n n refl, le-leb _ _ within)

  -- what a feed answers is the recording's refusal
  answer_is : (st : EarlierState) (held piece : List ℕ) → Told B low n st held
      → earlier_feed_refusal st.sampler (length st.words) (length piece) ≡ piece_refusal B n held piece
  answer_is st held piece T = (λ i. earlier_feed_refusal (T.sampler i) (T.lent i) (length piece)) ∙ refusal_is held piece T.within

  -- one feed, of a state by its parts
  told_parts : (ws held piece : List ℕ) → Told B low n (record { sampler = earlier_of B low n (length held); words = ws }) held
      → Told B low n (earlier_fed (record { sampler = earlier_of B low n (length held); words = ws }) piece) (held_after B n held piece)
  unfolding earlier_fed held_after piece_refusal
  told_parts ws held piece T = by_room (dec_lt (capacity_bytes B n) (length held + length piece))
    where
      by_room : Dec (capacity_bytes B n < length held + length piece)
          → Told B low n (earlier_fed (record { sampler = earlier_of B low n (length held); words = ws }) piece) (held_after B n held piece)
      by_room (yes over) = simp (T.lent, refusal_is held piece T.within, lt-leb _ _ over) T
      by_room (no not-over) =
          let fits : length held + length piece ≤ capacity_bytes B n = omega arith in
          let v = valid_facts B ok in
          let lent : length ws ≡ n = T.lent in
          let size>0 : 0 < block_bytes B = omega (arith, v) in
          let room : 8 * block_bytes B * stride B n ≤ length ws = rw lent (room_words B n v) in
          let put = put_bytes low (block_bytes B) (stride B n) ws (length held) piece (length piece) in
          let bits : (e b : ℕ) → e < 64 * stride B n → b < 8 * block_bytes B → stored_bit (stride B n) put e b ≡ held_bit low (block_bytes B) (held ++ piece) e b =
          λ e b le lb.
          stored_after low (block_bytes B) (stride B n) (length held) ws piece size>0 room (le_trans fits (room_bytes B n)) (length piece) (le_refl _) e b le lb
          ∙ (λ i. max (T.bits e b le lb i) (arriving_bit low (block_bytes B) (length held) (take-length piece i) e b))
          ∙ sym (held_more low (block_bytes B) held piece e b) in
          simp (lent, refusal_is held piece T.within, le-leb _ _ fits) (record {
            sampler = ap (earlier_of B low n) (sym (length-append held piece));
            lent = length_put_bytes low (block_bytes B) (stride B n) ws (length held) piece (length piece) ∙ lent;
            within = rw length-append fits;
            bits = bits;
          })

  told_fed : (st : EarlierState) (held piece : List ℕ) → Told B low n st held → Told B low n (earlier_fed st piece) (held_after B n held piece)
  told_fed st held piece T =
      let same : st ≡ record { sampler = earlier_of B low n (length held); words = st.words } = λ i. record { sampler = T.sampler i; words = st.words } in
      rw same (told_parts st.words held piece (record { sampler = refl; lent = T.lent; within = T.within; bits = T.bits }))

  told_all : (st : EarlierState) (held : List ℕ) (pieces : List (List ℕ)) → Told B low n st held
      → (earlier_answers st pieces ≡ piece_refusals B n held pieces) × Told B low n (earlier_fed_all st pieces) (held_from B n held pieces)
  unfolding earlier_answers piece_refusals earlier_fed_all held_from
  told_all st held [] T = (refl, T)
  told_all st held (p ∷ ps) T =
      let rest = told_all (earlier_fed st p) (held_after B n held p) ps (told_fed st held p T) in
      (λ i. answer_is st held p T i ∷ rest.0 i, rest.1)

-- after start and any feeds
pub earlier_told : (B : ℕ) (low : Bool) (ws : List ℕ) → valid_size B ≡ true → (pieces : List (List ℕ))
    → (earlier_answers (earlier_started B low ws) pieces ≡ piece_refusals B (length ws) [] pieces)
    × Told B low (length ws) (earlier_fed_all (earlier_started B low ws) pieces) (earlier_recording B (length ws) pieces)
earlier_told B low ws ok pieces = told_all B low (length ws) ok (earlier_started B low ws) [] pieces (told_start B low (length ws) ok ws refl)

pub all_earlier_recorded : AllEarlierRecorded
all_earlier_recorded B low ws ok pieces =
    let T = earlier_told B low ws ok pieces in
    let v = valid_facts B ok in
    record {
      answers = T.0;
      sampler = T.1.sampler;
      lent = T.1.lent;
      within = T.1.within;
      stored = λ e b le lb.
          let held = earlier_recording B (length ws) pieces in
          let lanes : length held / block_bytes B ≤ 64 * stride B (length ws) = le_trans (room_blocks B (length ws) (length held) v T.1.within) (min-le_left _ _) in
          T.1.bits e b (omega arith) (omega (arith, v)) ∙ held_recorded B low held e b v lb;
    }
