-- With the low bit first, what is recorded of bytes is what is recorded of the reversed bytes with the high bit first (theorems `recordings_reversed` and
-- `all_reversed`).
use mathlib.Core.Path.{◌≡◌, refl, sym, ap, ap₂, ◌∙◌}
use mathlib.Core.Bool.{Bool, true, false, cond}
use mathlib.Core.List.{List, [], ◌∷◌, ◌++◌}
use Prim.Native.Nat.{ℕ, zero, suc, ◌+◌, ◌-◌, ◌*◌, ◌/◌, ◌%◌, ◌≤◌, ◌<◌}
use native.Mathlib.Omega.{arith}
use native.Mathlib.Nat.{le_refl}
use lib.Dec.{leb, eqb}
use lib.ListN.{length, get_or, take, drop, replicate, length-map}
use Rattle.counting.specs.Block.{bit_at, place_in, bin_of}
use Rattle.counting.specs.Buffer.{put}
use Rattle.counting.specs.Recording.{block_bytes, stride, capacity, capacity_bytes, blocks_in}
use Rattle.counting.specs.Reversed.{reversed, reversed_bytes}
use Rattle.counting.specs.Sample.{list_of}
use Rattle.counting.specs.Words.{stored_bit}
use Rattle.counting.proofs.Lanes.{bit_lt}
use Rattle.counting.proofs.Reversing.{bin_bit, reversed_zero, turned, byte_at, take_reversed, drop_reversed, append_reversed}
use Rattle.sampling.specs.Boards.{Boards, Feed, changed, arriving, board_refusal, taken, boards_after, boards_from, refusals_from, carried}
use Rattle.sampling.specs.Carrying.{stored_byte, whole_of, left_of, left_bytes, carried_of, carried_words}
use Rattle.sampling.specs.Cut.{whole, rest}
use Rattle.sampling.specs.Earlier.{piece_refusal, held_after, held_from, piece_refusals, earlier_recording, earlier_refusal, earlier_feed_refusal, EarlierState, earlier_started, earlier_fed, earlier_fed_all}
use Rattle.sampling.specs.Feeding.{feed_refusal, fed_head, arriving_on, left_on, fed_unfinished, fed_of, fed_words}
use Rattle.sampling.specs.Putting.{put_bit, put_bits, put_byte, put_bytes}
use Rattle.sampling.specs.Recorded.{State, carried_over, fed, fed_all, answers_from}
use Rattle.sampling.specs.Reversed.{reversed_pieces, reversed_feeds, RecordingsReversed, high_first, mirrored, AllReversed}
use Rattle.sampling.specs.Sampler.{pending, tail_of, sampler_refusal}
use Rattle.sampling.specs.declared.carrying.Earlier.{Earlier}
use Rattle.sampling.specs.declared.sampler.Head.{Head}
use Rattle.sampling.proofs.Carried.{free as carry-free}
use Rattle.sampling.proofs.Earlier.{earlier_told}
use Rattle.sampling.proofs.Lifting.{eight}

-- ---- the cut does not look into bytes

blocks_reversed : (B : ℕ) (x : List ℕ) → blocks_in B (reversed_bytes x) ≡ blocks_in B x
blocks_reversed B x = ap (λ (k : ℕ). k / block_bytes B) (length-map x reversed)

whole_reversed : (B : ℕ) (x : List ℕ) → whole B (reversed_bytes x) ≡ reversed_bytes (whole B x)
unfolding whole
whole_reversed B x = ap (λ (k : ℕ). take (k * block_bytes B) (reversed_bytes x)) (blocks_reversed B x) ∙ take_reversed (blocks_in B x * block_bytes B) x

rest_reversed : (B : ℕ) (x : List ℕ) → rest B (reversed_bytes x) ≡ reversed_bytes (rest B x)
unfolding rest
rest_reversed B x = ap (λ (k : ℕ). drop (k * block_bytes B) (reversed_bytes x)) (blocks_reversed B x) ∙ drop_reversed (blocks_in B x * block_bytes B) x

none_reversed : (m : ℕ) → replicate m 0 ≡ reversed_bytes (replicate m 0)
none_reversed zero = refl
none_reversed (suc m) = λ i. sym reversed_zero i ∷ none_reversed m i

put_reversed : (u : List ℕ) (at : ℕ) (s : List ℕ) → put (reversed_bytes u) at (reversed_bytes s) ≡ reversed_bytes (put u at s)
unfolding put
put_reversed u at s =
    (λ i. take_reversed at u i ++ reversed_bytes s ++ (ap (λ (k : ℕ). drop (at + k) (reversed_bytes u)) (length-map s reversed) ∙ drop_reversed (at + length s) u) i)
    ∙ ap (λ (l : List ℕ). l ++ reversed_bytes (drop (at + length s) u)) (sym (append_reversed (take at u) s))
    ∙ sym (append_reversed (take at u ++ s) (drop (at + length s) u))

-- ---- the words

bits_put : (S : ℕ) (ws : List ℕ) (at k x r : ℕ) → r ≤ 8 → put_bits false S ws at k (reversed x) r ≡ put_bits true S ws at k x r
unfolding put_bits
bits_put S ws at k x zero h = refl
bits_put S ws at k x (suc r) h =
    let less : r < 8 = omega arith in
    λ i. put_bit (bits_put S ws at k x r (let le : r ≤ 8 = omega arith in le) i) (at + r * S) k (sym (turned x r less) i)

bytes_put : (size S : ℕ) (ws : List ℕ) (t : ℕ) (piece : List ℕ) (n : ℕ)
    → put_bytes false size S ws t (reversed_bytes piece) n ≡ put_bytes true size S ws t piece n
unfolding put_bytes put_byte
bytes_put size S ws t piece zero = refl
bytes_put size S ws t piece (suc n) =
    let at = 8 * ((t + n) % size) * S + (t + n) / size / 64 in
    let k = (t + n) / size % 64 in
    (λ i. put_bits false S (bytes_put size S ws t piece n i) at k (byte_at piece n i) 8)
    ∙ bits_put S (put_bytes true size S ws t piece n) at k (get_or piece n 0) 8 (le_refl 8)

all_put : (size S : ℕ) (ws : List ℕ) (t : ℕ) (x : List ℕ)
    → put_bytes false size S ws t (reversed_bytes x) (length (reversed_bytes x)) ≡ put_bytes true size S ws t x (length x)
all_put size S ws t x = ap (put_bytes false size S ws t (reversed_bytes x)) (length-map x reversed) ∙ bytes_put size S ws t x (length x)

-- ---- the plain recording

abbrev turned_feed : Feed → Feed
turned_feed f = record { board = f.board; piece = reversed_bytes f.piece }

abbrev turned_boards : Boards → Boards
turned_boards st = record { held = reversed_bytes st.held; tail = λ b. reversed_bytes (st.tail b) }

changed_reversed : (board : ℕ) (x : List ℕ) (was : ℕ → List ℕ) (b : ℕ) → changed board (reversed_bytes x) (λ c. reversed_bytes (was c)) b ≡ reversed_bytes (changed board x was b)
unfolding changed
changed_reversed board x was b = by_test (eqb b board)
  where
    by_test : (t : Bool) → cond t (reversed_bytes x) (reversed_bytes (was b)) ≡ reversed_bytes (cond t x (was b))
    by_test true = refl
    by_test false = refl

module _ (B words : ℕ) where
  earlier_reversed : (held piece : List ℕ) → held_after B words (reversed_bytes held) (reversed_bytes piece) ≡ reversed_bytes (held_after B words held piece)
  unfolding held_after
  earlier_reversed held piece = rw (length-map, length-map) (by_room (leb (length held + length piece) (capacity_bytes B words)))
    where
      by_room : (t : Bool) → cond t (reversed_bytes held ++ reversed_bytes piece) (reversed_bytes held) ≡ reversed_bytes (cond t (held ++ piece) held)
      by_room true = sym (append_reversed held piece)
      by_room false = refl

  from_reversed : (held : List ℕ) (pieces : List (List ℕ)) → held_from B words (reversed_bytes held) (reversed_pieces pieces) ≡ reversed_bytes (held_from B words held pieces)
  unfolding held_from
  from_reversed held [] = refl
  from_reversed held (p ∷ ps) =
      ap (λ (l : List ℕ). held_from B words l (reversed_pieces ps)) (earlier_reversed held p) ∙ from_reversed (held_after B words held p) ps

  arriving_reversed : (st : Boards) (f : Feed) → arriving (turned_boards st) (turned_feed f) ≡ reversed_bytes (arriving st f)
  arriving_reversed st f = sym (append_reversed (st.tail f.board) f.piece)

  refused_alike : (st : Boards) (f : Feed) → board_refusal B words (turned_boards st) (turned_feed f) ≡ board_refusal B words st f
  unfolding board_refusal
  refused_alike st f =
      let new : blocks_in B (arriving (turned_boards st) (turned_feed f)) ≡ blocks_in B (arriving st f) = ap (blocks_in B) (arriving_reversed st f) ∙ blocks_reversed B (arriving st f) in
      λ i. cond (leb f.board 3) (cond (leb (blocks_reversed B st.held i + new i) (capacity B words)) 0 5) 21

  taken_reversed : (st : Boards) (f : Feed) → taken B (turned_boards st) (turned_feed f) ≡ turned_boards (taken B st f)
  unfolding taken
  taken_reversed st f =
      let x = arriving st f in
      let new : whole B (arriving (turned_boards st) (turned_feed f)) ≡ reversed_bytes (whole B x) = ap (whole B) (arriving_reversed st f) ∙ whole_reversed B x in
      let left : rest B (arriving (turned_boards st) (turned_feed f)) ≡ reversed_bytes (rest B x) = ap (rest B) (arriving_reversed st f) ∙ rest_reversed B x in
      λ i. record {
        held = (ap (λ (l : List ℕ). reversed_bytes st.held ++ l) new ∙ sym (append_reversed st.held (whole B x))) i;
        tail = λ b. (ap (λ (l : List ℕ). changed f.board l (λ c. reversed_bytes (st.tail c)) b) left ∙ changed_reversed f.board (rest B x) st.tail b) i;
      }

  after_reversed : (st : Boards) (f : Feed) → boards_after B words (turned_boards st) (turned_feed f) ≡ turned_boards (boards_after B words st f)
  unfolding boards_after
  after_reversed st f =
      (λ i. cond (eqb (refused_alike st f i) 0) (taken_reversed st f i) (turned_boards st)) ∙ by_test (eqb (board_refusal B words st f) 0)
    where
      by_test : (t : Bool) → cond t (turned_boards (taken B st f)) (turned_boards st) ≡ turned_boards (cond t (taken B st f) st)
      by_test true = refl
      by_test false = refl

  boards_reversed : (st : Boards) (feeds : List Feed) → boards_from B words (turned_boards st) (reversed_feeds feeds) ≡ turned_boards (boards_from B words st feeds)
  unfolding boards_from
  boards_reversed st [] = refl
  boards_reversed st (f ∷ fs) =
      ap (λ (q : Boards). boards_from B words q (reversed_feeds fs)) (after_reversed st f) ∙ boards_reversed (boards_after B words st f) fs

  all_refused_alike : (st : Boards) (feeds : List Feed) → refusals_from B words (turned_boards st) (reversed_feeds feeds) ≡ refusals_from B words st feeds
  unfolding refusals_from
  all_refused_alike st [] = refl
  all_refused_alike st (f ∷ fs) =
      let later = ap (λ (q : Boards). refusals_from B words q (reversed_feeds fs)) (after_reversed st f) ∙ all_refused_alike (boards_after B words st f) fs in
      λ i. refused_alike st f i ∷ later i

  earlier_alike : (held : List ℕ) (pieces : List (List ℕ)) → piece_refusals B words (reversed_bytes held) (reversed_pieces pieces) ≡ piece_refusals B words held pieces
  unfolding piece_refusals piece_refusal
  earlier_alike held [] = refl
  earlier_alike held (p ∷ ps) =
      let later = ap (λ (l : List ℕ). piece_refusals B words l (reversed_pieces ps)) (earlier_reversed held p) ∙ earlier_alike (held_after B words held p) ps in
      λ i. cond (leb (length-map held reversed i + length-map p reversed i) (capacity_bytes B words)) 0 5 ∷ later i

  carried_reversed : (bytes : List ℕ) → carried B (reversed_bytes bytes) ≡ turned_boards (carried B bytes)
  unfolding carried
  carried_reversed bytes = λ i. record {
    held = whole_reversed B bytes i;
    tail = λ b. (ap (λ (l : List ℕ). changed 0 l (λ c. []) b) (rest_reversed B bytes) ∙ changed_reversed 0 (rest B bytes) (λ c. []) b) i;
  }

pub recordings_reversed : RecordingsReversed
recordings_reversed B words old feeds =
    let begin : carried B (earlier_recording B words (reversed_pieces old)) ≡ turned_boards (carried B (earlier_recording B words old)) =
    ap (carried B) (from_reversed B words [] old) ∙ carried_reversed B words (earlier_recording B words old) in
    let all : boards_from B words (carried B (earlier_recording B words (reversed_pieces old))) (reversed_feeds feeds) ≡ turned_boards (boards_from B words (carried B (earlier_recording B words old)) feeds) =
    ap (λ (q : Boards). boards_from B words q (reversed_feeds feeds)) begin ∙ boards_reversed B words (carried B (earlier_recording B words old)) feeds in
    record {
      refusals = ap₂ (λ (a b : List ℕ). a ++ b) (earlier_alike B words [] old)
          (ap (λ (q : Boards). refusals_from B words q (reversed_feeds feeds)) begin ∙ all_refused_alike B words (carried B (earlier_recording B words old)) feeds);
      held = λ i. (all i).held;
      tails = λ board i. (all i).tail board;
    }

-- ---- a feed

-- what is refused does not go by the bit order
refusal_same : (s : Head) (words board new : ℕ) → feed_refusal (high_first s) words board new ≡ feed_refusal s words board new
unfolding feed_refusal sampler_refusal
refusal_same s words board new = refl

module _ (s : Head) (u : List ℕ) (f : Feed) where
  abbrev turned_piece : List ℕ
  turned_piece = reversed_bytes f.piece

  arrives : arriving_on (high_first s) (reversed_bytes u) f.board turned_piece ≡ reversed_bytes (arriving_on s u f.board f.piece)
  unfolding tail_of
  arrives =
      let t = pending s f.board in
      let at = 512 * f.board in
      ap (λ (l : List ℕ). l ++ turned_piece) (ap (take t) (drop_reversed at u) ∙ take_reversed t (drop at u))
      ∙ sym (append_reversed (take t (drop at u)) f.piece)

  left_same : left_on (high_first s) (reversed_bytes u) f.board turned_piece ≡ reversed_bytes (left_on s u f.board f.piece)
  unfolding left_on
  left_same =
      let x = rest s.block_size (arriving_on s u f.board f.piece) in
      let m = pending s f.board - length x in
      let left : rest s.block_size (arriving_on (high_first s) (reversed_bytes u) f.board turned_piece) ≡ reversed_bytes x =
      ap (rest s.block_size) arrives ∙ rest_reversed s.block_size (arriving_on s u f.board f.piece) in
      ap (λ (l : List ℕ). l ++ replicate (pending s f.board - length l) 0) left
      ∙ ap (λ (k : ℕ). reversed_bytes x ++ replicate (pending s f.board - k) 0) (length-map x reversed)
      ∙ ap (λ (l : List ℕ). reversed_bytes x ++ l) (none_reversed m) ∙ sym (append_reversed x (replicate m 0))

  module _ (words : ℕ) where
    abbrev r : ℕ
    r = feed_refusal s words f.board (length f.piece)

    is_same : feed_refusal (high_first s) words f.board (length turned_piece) ≡ r
    is_same = ap (feed_refusal (high_first s) words f.board) (length-map f.piece reversed) ∙ refusal_same s words f.board (length f.piece)

    head_same : fed_head (high_first s) words f.board (length turned_piece) ≡ high_first (fed_head s words f.board (length f.piece))
    unfolding fed_head
    head_same = by_test (eqb r 0) refl
      where
        by_test : (t : Bool) → eqb r 0 ≡ t → fed_head (high_first s) words f.board (length turned_piece) ≡ high_first (fed_head s words f.board (length f.piece))
        by_test true e = rw (is_same, e, length-map)
        by_test false e = rw (is_same, e)

    kept_same : fed_unfinished (high_first s) words (reversed_bytes u) f.board turned_piece ≡ reversed_bytes (fed_unfinished s words u f.board f.piece)
    unfolding fed_unfinished
    kept_same = by_test (eqb r 0) refl
      where
        by_test : (t : Bool) → eqb r 0 ≡ t → fed_unfinished (high_first s) words (reversed_bytes u) f.board turned_piece ≡ reversed_bytes (fed_unfinished s words u f.board f.piece)
        by_test true e = rw (is_same, e) (ap (put (reversed_bytes u) (512 * f.board)) left_same ∙ put_reversed u (512 * f.board) (left_on s u f.board f.piece))
        by_test false e = rw (is_same, e)

  words_same : (ws : List ℕ) → s.low_first ≡ true → fed_words (high_first s) (reversed_bytes u) ws f.board turned_piece ≡ fed_words s u ws f.board f.piece
  unfolding fed_words
  words_same ws low = by_test (eqb (r (length ws)) 0) refl
    where
      by_test : (t : Bool) → eqb (r (length ws)) 0 ≡ t → fed_words (high_first s) (reversed_bytes u) ws f.board turned_piece ≡ fed_words s u ws f.board f.piece
      by_test true e =
          let B = s.block_size in
          let x = arriving_on s u f.board f.piece in
          let new : whole B (arriving_on (high_first s) (reversed_bytes u) f.board turned_piece) ≡ reversed_bytes (whole B x) = ap (whole B) arrives ∙ whole_reversed B x in
          rw (is_same (length ws), e)
          (ap (λ (l : List ℕ). put_bytes false (block_bytes B) (stride B (length ws)) ws (s.blocks * block_bytes B) l (length l)) new
          ∙ all_put (block_bytes B) (stride B (length ws)) ws (s.blocks * block_bytes B) (whole B x)
          ∙ ap (λ (b : Bool). put_bytes b (block_bytes B) (stride B (length ws)) ws (s.blocks * block_bytes B) (whole B x) (length (whole B x))) (sym low))
      by_test false e = rw (is_same (length ws), e)

  -- the bit order stays
  low_stays : (words : ℕ) → s.low_first ≡ true → (fed_head s words f.board (length f.piece)).low_first ≡ true
  unfolding fed_head
  low_stays words low = by_test (eqb (r words) 0) refl
    where
      by_test : (t : Bool) → eqb (r words) 0 ≡ t → (fed_head s words f.board (length f.piece)).low_first ≡ true
      by_test true e = rw e low
      by_test false e = rw e low

-- ---- any feeds

abbrev turned_state : State → State
turned_state st = record { sampler = mirrored st.sampler; words = st.words }

fed_same : (st : State) (f : Feed) → st.sampler.head.low_first ≡ true → fed (turned_state st) (turned_feed f) ≡ turned_state (fed st f)
unfolding fed fed_of
fed_same st f low = λ i. record {
  sampler = record {
    head = head_same st.sampler.head st.sampler.unfinished f (length st.words) i;
    unfinished = kept_same st.sampler.head st.sampler.unfinished f (length st.words) i;
  };
  words = words_same st.sampler.head st.sampler.unfinished f st.words low i;
}

fed_low : (st : State) (f : Feed) → st.sampler.head.low_first ≡ true → (fed st f).sampler.head.low_first ≡ true
unfolding fed fed_of
fed_low st f low = low_stays st.sampler.head st.sampler.unfinished f (length st.words) low

all_fed : (st : State) (feeds : List Feed) → st.sampler.head.low_first ≡ true
    → (answers_from (turned_state st) (reversed_feeds feeds) ≡ answers_from st feeds) × (fed_all (turned_state st) (reversed_feeds feeds) ≡ turned_state (fed_all st feeds))
unfolding answers_from fed_all fed_of
all_fed st [] low = (refl, refl)
all_fed st (f ∷ fs) low =
    let next = fed_same st f low in
    let later = all_fed (fed st f) fs (fed_low st f low) in (
      (λ i. is_same st.sampler.head st.sampler.unfinished f (length st.words) i ∷ (ap (λ (u : State). answers_from u (reversed_feeds fs)) next ∙ later.0) i),
      ap (λ (u : State). fed_all u (reversed_feeds fs)) next ∙ later.1,
    )

-- ---- pieces under the earlier rule

abbrev turned_earlier : EarlierState → EarlierState
turned_earlier st =
    let s = st.sampler in
    record { sampler = record { block_size = s.block_size; words = s.words; taken = s.taken; low_first = false }; words = st.words }

earlier_refused : (s : Earlier) (words new : ℕ)
    → earlier_feed_refusal (record { block_size = s.block_size; words = s.words; taken = s.taken; low_first = false }) words new ≡ earlier_feed_refusal s words new
unfolding earlier_feed_refusal earlier_refusal
earlier_refused s words new = refl

earlier_fed_is : (st : EarlierState) (piece : List ℕ) → st.sampler.low_first ≡ true → earlier_fed (turned_earlier st) (reversed_bytes piece) ≡ turned_earlier (earlier_fed st piece)
unfolding earlier_fed
earlier_fed_is st piece low = by_test (eqb q 0) refl
  where
    q : ℕ
    q = earlier_feed_refusal st.sampler (length st.words) (length piece)

    alike : earlier_feed_refusal (turned_earlier st).sampler (length st.words) (length (reversed_bytes piece)) ≡ q
    alike = ap (earlier_feed_refusal (turned_earlier st).sampler (length st.words)) (length-map piece reversed) ∙ earlier_refused st.sampler (length st.words) (length piece)

    by_test : (t : Bool) → eqb q 0 ≡ t → earlier_fed (turned_earlier st) (reversed_bytes piece) ≡ turned_earlier (earlier_fed st piece)
    by_test true e =
        let s = st.sampler in
        let B = s.block_size in
        let new : put_bytes false (block_bytes B) (stride B (length st.words)) st.words s.taken (reversed_bytes piece) (length (reversed_bytes piece))
        ≡ put_bytes s.low_first (block_bytes B) (stride B (length st.words)) st.words s.taken piece (length piece) =
        all_put (block_bytes B) (stride B (length st.words)) st.words s.taken piece
        ∙ ap (λ (b : Bool). put_bytes b (block_bytes B) (stride B (length st.words)) st.words s.taken piece (length piece)) (sym low) in
        let long : length (reversed_bytes piece) ≡ length piece = length-map piece reversed in
        rw (alike, e) (λ i. record {
          sampler = record { block_size = B; words = s.words; taken = s.taken + long i; low_first = false };
          words = new i;
        })
    by_test false e = rw (alike, e)

earlier_low : (st : EarlierState) (piece : List ℕ) → st.sampler.low_first ≡ true → (earlier_fed st piece).sampler.low_first ≡ true
unfolding earlier_fed
earlier_low st piece low = by_test (eqb (earlier_feed_refusal st.sampler (length st.words) (length piece)) 0) refl
  where
    by_test : (t : Bool) → eqb (earlier_feed_refusal st.sampler (length st.words) (length piece)) 0 ≡ t → (earlier_fed st piece).sampler.low_first ≡ true
    by_test true e = rw e low
    by_test false e = rw e low

earlier_all : (st : EarlierState) (pieces : List (List ℕ)) → st.sampler.low_first ≡ true
    → (earlier_fed_all (turned_earlier st) (reversed_pieces pieces) ≡ turned_earlier (earlier_fed_all st pieces)) × ((earlier_fed_all st pieces).sampler.low_first ≡ true)
unfolding earlier_fed_all
earlier_all st [] low = (refl, low)
earlier_all st (p ∷ ps) low =
    let later = earlier_all (earlier_fed st p) ps (earlier_low st p low) in
    (ap (λ (u : EarlierState). earlier_fed_all u (reversed_pieces ps)) (earlier_fed_is st p low) ∙ later.0, later.1)

-- ---- the carry-over

stored_lt : (S : ℕ) (ws : List ℕ) (e b : ℕ) → stored_bit S ws e b < 2
unfolding stored_bit
stored_lt S ws e b = bit_lt (get_or ws (b * S + e / 64) 0) (e % 64)

-- the same bits, read the other way
stored_reversed : (S : ℕ) (ws : List ℕ) (e j : ℕ) → stored_byte false S ws e j ≡ reversed (stored_byte true S ws e j)
unfolding stored_byte reversed place_in bin_of
stored_reversed S ws e j =
    let f : ℕ → ℕ = λ (i : ℕ). stored_bit S ws e (8 * j + i) in
    let bit : (i : ℕ) → i < 8 → f (get_or eight i 0) ≡ bit_at (bin_of f eight) i = λ i h. sym (bin_bit f (λ b. stored_lt S ws e (8 * j + b)) eight i h) in
    λ t.
    bit 7 (omega arith) t
    + 2 * (bit 6 (omega arith) t
    + 2 * (bit 5 (omega arith) t
    + 2 * (bit 4 (omega arith) t + 2 * (bit 3 (omega arith) t + 2 * (bit 2 (omega arith) t + 2 * (bit 1 (omega arith) t + 2 * (bit 0 (omega arith) t + 0)))))))

listed_reversed : (f g : ℕ → ℕ) → ((j : ℕ) → f j ≡ reversed (g j)) → (m : ℕ) → list_of m f ≡ reversed_bytes (list_of m g)
unfolding list_of
listed_reversed f g h zero = refl
listed_reversed f g h (suc m) = (λ i. listed_reversed f g h m i ++ (h m i ∷ [])) ∙ sym (append_reversed (list_of m g) (g m ∷ []))

module _ (st : EarlierState) (low : st.sampler.low_first ≡ true) where
  abbrev s : Earlier
  s = st.sampler

  abbrev t : Earlier
  t = (turned_earlier st).sampler

  free_same : earlier_refusal t (length st.words) ≡ earlier_refusal s (length st.words)
  unfolding earlier_refusal
  free_same = refl

  left_bytes_is : left_bytes t st.words ≡ reversed_bytes (left_bytes s st.words)
  unfolding left_bytes
  left_bytes_is =
      let S = stride s.block_size (length st.words) in
      listed_reversed (stored_byte false S st.words (whole_of s)) (stored_byte true S st.words (whole_of s)) (stored_reversed S st.words (whole_of s)) (left_of s)
      ∙ ap (λ (b : Bool). reversed_bytes (list_of (left_of s) (stored_byte b S st.words (whole_of s)))) (sym low)

  carried_sampler : (carried_of t st.words).sampler ≡ mirrored (carried_of s st.words).sampler
  unfolding carried_of
  carried_sampler = by_test (eqb (earlier_refusal s (length st.words)) 0) refl
    where
      none : List ℕ
      none = replicate 2048 0

      bytes : put none 0 (left_bytes t st.words) ≡ reversed_bytes (put none 0 (left_bytes s st.words))
      bytes = (λ i. put (none_reversed 2048 i) 0 (left_bytes_is i)) ∙ put_reversed none 0 (left_bytes s st.words)

      by_test : (q : Bool) → eqb (earlier_refusal s (length st.words)) 0 ≡ q → (carried_of t st.words).sampler ≡ mirrored (carried_of s st.words).sampler
      by_test true e = rw (free_same, e) (λ i. record {
        head = record { block_size = s.block_size; words = s.words; blocks = whole_of s; low_first = false; lengths = left_of s ∷ 0 ∷ 0 ∷ 0 ∷ [] };
        unfinished = bytes i;
      })
      by_test false e = rw (free_same, e) (λ i. record {
        head = record { block_size = 0; words = 0; blocks = 0; low_first = false; lengths = 0 ∷ 0 ∷ 0 ∷ 0 ∷ [] };
        unfinished = none_reversed 2048 i;
      })

  carried_words_is : carried_words t st.words ≡ carried_words s st.words
  unfolding carried_words earlier_refusal
  carried_words_is = refl

  -- one that is not refused keeps the bit order
  carried_low : earlier_refusal s (length st.words) ≡ 0 → (carried_of s st.words).sampler.head.low_first ≡ true
  unfolding carried_of
  carried_low free = simp free low

over_reversed : (B : ℕ) (ws : List ℕ) (old : List (List ℕ)) → carried_over B false ws (reversed_pieces old) ≡ turned_state (carried_over B true ws old)
unfolding carried_over
over_reversed B ws old =
    let E = earlier_all (earlier_started B true ws) old refl in
    let before = earlier_fed_all (earlier_started B true ws) old in
    (λ i. record { sampler = (carried_of (E.0 i).sampler (E.0 i).words).sampler; words = carried_words (E.0 i).sampler (E.0 i).words })
    ∙ (λ i. record { sampler = carried_sampler before E.1 i; words = carried_words_is before E.1 i })

pub all_reversed : AllReversed
unfolding carried_over
all_reversed B ws ok old feeds =
    let before = earlier_fed_all (earlier_started B true ws) old in
    let T = (earlier_told B true ws ok old).1 in
    let free : earlier_refusal before.sampler (length before.words) ≡ 0 =
    (λ i. earlier_refusal (T.sampler i) (T.lent i)) ∙ carry-free B true (length ws) ok before.words (earlier_recording B (length ws) old) T.lent T.within T.bits in
    let low = carried_low before (earlier_all (earlier_started B true ws) old refl).1 free in
    let all = all_fed (carried_over B true ws old) feeds low in
    let begin = over_reversed B ws old in
    let state : fed_all (carried_over B false ws (reversed_pieces old)) (reversed_feeds feeds) ≡ turned_state (fed_all (carried_over B true ws old) feeds) =
    ap (λ (u : State). fed_all u (reversed_feeds feeds)) begin ∙ all.1 in
    record {
      answers = ap (λ (u : State). answers_from u (reversed_feeds feeds)) begin ∙ all.0;
      words = ap (λ (u : State). u.words) state;
      sampler = ap (λ (u : State). u.sampler) state;
    }
