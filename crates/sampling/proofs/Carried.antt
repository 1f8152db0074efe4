-- A carry-over holds the carried recording (theorems `all_carried` and `all_recorded`).
use mathlib.Core.Path.{◌≡◌, refl, sym, ap, ap₂, subst, ◌∙◌}
use mathlib.Core.Bool.{Bool, true, false, cond}
use mathlib.Core.List.{List, [], ◌∷◌, ◌++◌, append-nil}
use Prim.Native.Nat.{ℕ, suc, ◌+◌, ◌-◌, ◌*◌, ◌/◌, ◌%◌, ◌^◌, ◌≤◌, ◌<◌, zero-le}
use native.Mathlib.Omega.{arith}
use native.Mathlib.Decide.{dec_lt, ℕ_discrete}
use native.Mathlib.Nat.{mod-eq_of_lt, div-add-mod', mul-le-mul_right, suc-mul, zero-div, zero-mod}
use lib.Dec.{eqb}
use lib.ListN.{length, get_or, replicate, length-replicate, get_or-replicate, get_or-append}
use lib.Seq.{get_or-drop, ext_get_or}
use borrow.Author.Tests.{eq-eqb, le-leb}
use Rattle.counting.specs.Block.{bit_at, place_in, bin_of, valid_size}
use Rattle.counting.specs.Buffer.{put}
use Rattle.counting.specs.Recording.{block_bytes, stride, capacity_bytes, blocks_in}
use Rattle.counting.specs.Sample.{list_of}
use Rattle.counting.specs.Words.{stored_bit}
use Rattle.counting.proofs.Accepted.{Valid, valid_facts}
use Rattle.counting.proofs.Buffers.{put_none}
use Rattle.counting.proofs.Counts.{bin_ext, mod_step, length_list, get_d_list}
use Rattle.sampling.specs.Boards.{changed, carried}
use Rattle.sampling.specs.Carrying.{BlockIn, clear_bits, stored_byte, whole_of, left_of, left_bytes, carried_of, carried_words}
use Rattle.sampling.specs.Cut.{whole, rest}
use Rattle.sampling.specs.Earlier.{earlier_recording, earlier_refusal, earlier_started, earlier_fed_all}
use Rattle.sampling.specs.Recorded.{started, carried_over, kept_bytes, sampler_of, Bytes, AllRecorded, AllCarried}
use Rattle.sampling.specs.Sampler.{started_of, started_words}
use Rattle.sampling.specs.declared.carrying.Earlier.{Earlier}
use Rattle.sampling.proofs.Clearing.{length_clears, stored_kept, stored_cleared}
use Rattle.sampling.proofs.Cutting.{length_whole, length_rest, rest_is, rest_short, whole_rest, blocks_whole}
use Rattle.sampling.proofs.Earlier.{earlier_of, earlier_told}
use Rattle.sampling.proofs.Holding.{held_bit, held_is, held_past}
use Rattle.sampling.proofs.Lifting.{eight, nth, Lifts, lifts}
use Rattle.sampling.proofs.Recorded.{Holds, holds_all, holds_recording}
use Rattle.sampling.proofs.Tails.{changed_same, changed_other, kept_ext, put_kept}
use Rattle.sampling.proofs.Usable.{room_blocks}

-- ---- a byte from its bits

turned_back : (low : Bool) (i : ℕ) → i < 8 → place_in low (place_in low i) ≡ i
unfolding place_in
turned_back true i h = refl
turned_back false i h = omega arith

place_lt : (low : Bool) (i : ℕ) → i < 8 → place_in low i < 8
unfolding place_in
place_lt true i h = h
place_lt false i h = omega arith

digits : (bit low : ℕ → ℕ) → ((i : ℕ) → low (suc i) ≡ bit i * 2 ^ i + low i) → bin_of bit eight + low 0 ≡ low 8
unfolding bin_of
digits bit low h = omega (arith, h 0, h 1, h 2, h 3, h 4, h 5, h 6, h 7)

byte_is : (x : ℕ) → x < 256 → bin_of (bit_at x) eight ≡ x
byte_is x h =
    let all = digits (bit_at x) (λ i. x % 2 ^ i) (mod_step x) in
    let none : x % 2 ^ 0 ≡ 0 = omega arith in
    omega (arith, all, mod-eq_of_lt {n = x} {m = 256} h)

-- no bytes at all, as a sampler has them
none_kept : replicate 2048 0 ≡ kept_bytes (λ b. [])
none_kept = kept_ext (replicate 2048 0) (λ b. []) (length-replicate {A = ℕ} 2048 0) (λ p h. get_or-replicate 2048 p 0 0 h)

-- ---- what was held

-- a sampler and words of the earlier rule that hold these bytes
module _ (B : ℕ) (low : Bool) (words : ℕ) (ok : valid_size B ≡ true) (ws held : List ℕ) (lent : length ws ≡ words) (within : length held ≤ capacity_bytes B words)
    (bits : (e b : ℕ) → e < 64 * stride B words → b < 8 * block_bytes B → stored_bit (stride B words) ws e b ≡ held_bit low (block_bytes B) held e b) where
  abbrev s : Earlier
  s = earlier_of B low words (length held)

  abbrev size : ℕ
  size = block_bytes B

  abbrev S : ℕ
  S = stride B words

  abbrev n : ℕ
  n = whole_of s

  abbrev r : ℕ
  r = left_of s

  valid : Valid B
  valid = valid_facts B ok

  pos : 0 < size
  pos = omega (arith, valid)

  pub free : earlier_refusal s words ≡ 0
  unfolding earlier_refusal
  free = simp (ok, eq-eqb words words refl, le-leb _ _ within)

  has : Lifts s words
  has = lifts s words free

  all : n * size + r ≡ length held
  all = div-add-mod' (length held) size

  inside : BlockIn S (length ws) n (8 * r)
  inside = rw lent has.inside

  -- a byte that is left over, read from the words
  left_bit : (j : ℕ) → j < r → (p : ℕ) → p < 8 → stored_bit S ws n (8 * j + place_in low p) ≡ bit_at (get_or held (n * size + j) 0) p
  left_bit j h p l =
      let q = place_in low p in
      let q<8 : q < 8 = place_lt low p l in
      let lane : n < 64 * S = has.inside.1 (omega arith) in
      let byte : (8 * j + q) / 8 ≡ j = omega arith in
      let bit : (8 * j + q) % 8 ≡ q = omega arith in
      bits n (8 * j + q) lane (omega (arith, has.few)) ∙ held_is low size held n (8 * j + q)
      ∙ (λ t. bit_at (get_or held (n * size + byte t) 0) (place_in low (bit t))) ∙ ap (bit_at (get_or held (n * size + j) 0)) (turned_back low p l)

  read : Bytes held → (j : ℕ) → j < r → stored_byte low S ws n j ≡ get_or held (n * size + j) 0
  unfolding stored_byte
  read small j h =
      let x = get_or held (n * size + j) 0 in
      bin_ext (λ i. stored_bit S ws n (8 * j + place_in low i)) (bit_at x) eight (λ i l. let p<8 : get_or eight i 0 < 8 = omega (arith, nth i l) in left_bit j h (get_or eight i 0) p<8)
      ∙ byte_is x (small (n * size + j) (omega (arith, all)))

  left_is : Bytes held → left_bytes s ws ≡ rest B held
  unfolding left_bytes
  left_is small =
      let same : list_of r (stored_byte low (stride B (length ws)) ws n) ≡ list_of r (stored_byte low S ws n) = ap (λ (m : ℕ). list_of r (stored_byte low (stride B m) ws n)) lent in
      same
      ∙ ext_get_or 0 (list_of r (stored_byte low S ws n)) (rest B held) (length_list r (stored_byte low S ws n) ∙ sym (length_rest B held))
      (λ j h.
      let l : j < r = rw length_list at h in
      get_d_list r (stored_byte low S ws n) j l ∙ read small j l
      ∙ sym (ap (λ (x : List ℕ). get_or x j 0) (rest_is B held) ∙ get_or-drop (n * size) held j 0))

  -- the blocks, and nothing past them
  whole_bit : (e b : ℕ) → e < n → b < 8 * size → held_bit low size held e b ≡ held_bit low size (whole B held) e b
  whole_bit e b h lb =
      let next : suc e ≤ n = h in
      let byte : e * size + b / 8 < length (whole B held) = rw length_whole (let far = rw suc-mul at (mul-le-mul_right size next) in omega arith) in
      let same : get_or held (e * size + b / 8) 0 ≡ get_or (whole B held) (e * size + b / 8) 0 =
      ap (λ (x : List ℕ). get_or x (e * size + b / 8) 0) (sym (whole_rest B held)) ∙ get_or-append (whole B held) (rest B held) 0 (e * size + b / 8) byte in
      held_is low size held e b ∙ ap (λ (x : ℕ). bit_at x (place_in low (b % 8))) same ∙ sym (held_is low size (whole B held) e b)

  none_past : (e b : ℕ) → n ≤ e → held_bit low size (whole B held) e b ≡ 0
  none_past e b h = held_past low size (whole B held) e b (rw length_whole (let far = mul-le-mul_right size h in omega arith))

  cleared : (e b : ℕ) → e < 64 * S → b < 8 * size → stored_bit S (clear_bits S ws n (8 * r)) e b ≡ held_bit low size (whole B held) e b
  cleared e b le lb = by_order (dec_lt e n) (ℕ_discrete e n) (dec_lt b (8 * r))
    where
      kept : (e ≡ n → b < 8 * r → ⊥) → stored_bit S (clear_bits S ws n (8 * r)) e b ≡ held_bit low size held e b
      kept other = stored_kept S ws n (8 * r) inside e b le other ∙ bits e b le lb

      by_order : Dec (e < n) → Dec (e ≡ n) → Dec (b < 8 * r) → stored_bit S (clear_bits S ws n (8 * r)) e b ≡ held_bit low size (whole B held) e b
      by_order (yes h) d q = kept (λ f g. omega arith) ∙ whole_bit e b h lb
      by_order (no h) (yes d) (yes q) =
          ap (λ (k : ℕ). stored_bit S (clear_bits S ws n (8 * r)) k b) d ∙ stored_cleared S ws n (8 * r) inside b q ∙ sym (none_past e b (omega arith))
      by_order (no h) (yes d) (no q) =
          let here : e * size ≡ n * size = ap (λ (k : ℕ). k * size) d in
          kept (λ f g. q g) ∙ held_past low size held e b (omega (arith, all)) ∙ sym (none_past e b (omega arith))
      by_order (no h) (no d) q =
          let next : suc n ≤ e = omega arith in
          let far = rw suc-mul at (mul-le-mul_right size next) in
          kept (λ f g. d f) ∙ held_past low size held e b (omega (arith, all, has.few)) ∙ sym (none_past e b (omega arith))

  words_are : carried_words s ws ≡ clear_bits S ws n (8 * r)
  unfolding carried_words
  words_are = simp (lent, free)

  -- the answer, by its parts
  head_is : (carried_of s ws).sampler.head ≡ (sampler_of B low words (carried B held)).head
  unfolding carried_of carried changed
  head_is =
      let blocks : n ≡ blocks_in B (whole B held) = sym (blocks_whole B pos held) in
      let left : r ≡ length (rest B held) = sym (length_rest B held) in
      simp (lent, free) (λ i. record { block_size = B; words = words; blocks = blocks i; low_first = low; lengths = left i ∷ 0 ∷ 0 ∷ 0 ∷ [] })

  bytes_are : Bytes held → (carried_of s ws).sampler.unfinished ≡ kept_bytes (carried B held).tail
  unfolding carried_of carried
  bytes_are small =
      let x = rest B held in
      let few : length x ≤ 512 = omega (arith, rest_short B pos held, has.at_most) in
      let no_more : 0 - length x ≡ 0 = omega arith in
      let alone : x ++ replicate (0 - length x) 0 ≡ x = ap (λ (k : ℕ). x ++ replicate k 0) no_more ∙ append-nil x in
      simp (lent, free)
      ((λ i. put (none_kept i) 0 (left_is small i)) ∙ ap (put (kept_bytes (λ b. [])) 0) (sym alone) ∙ put_kept (λ b. []) 0 (omega arith) (omega arith) x few)

  pub holds_carried : Bytes held → Holds B low words (record { sampler = (carried_of s ws).sampler; words = carried_words s ws }) (carried B held)
  unfolding carried
  holds_carried small = record {
    sampler = λ i. record { head = head_is i; unfinished = bytes_are small i };
    lent = ap length words_are ∙ length_clears S ws n (8 * r) ∙ lent;
    within = rw (blocks_whole B pos held) (room_blocks B words (length held) valid within);
    full = length_whole B held ∙ ap (λ (k : ℕ). k * size) (sym (blocks_whole B pos held));
    short = λ board. elim (ℕ_discrete board 0) [
      | yes e ↦ rw (changed_same 0 (rest B held) (λ b. []) board e) (rest_short B pos held)
      | no ne ↦ rw (changed_other 0 (rest B held) (λ b. []) board ne) pos
    ];
    bits = λ e b le lb. ap (λ (l : List ℕ). stored_bit S l e b) words_are ∙ cleared e b le lb;
  }

-- ---- after any earlier pieces

module _ (B : ℕ) (low : Bool) (ws : List ℕ) (ok : valid_size B ≡ true) where
  -- the earlier state, by its parts
  before_is : (old : List (List ℕ)) → let before = earlier_fed_all (earlier_started B low ws) old in
      before.sampler ≡ earlier_of B low (length ws) (length (earlier_recording B (length ws) old))
  before_is old = (earlier_told B low ws ok old).1.sampler

  not_refused : (old : List (List ℕ)) → let before = earlier_fed_all (earlier_started B low ws) old in (carried_of before.sampler before.words).refusal ≡ 0
  unfolding carried_of
  not_refused old =
      let before = earlier_fed_all (earlier_started B low ws) old in
      let T = (earlier_told B low ws ok old).1 in
      let none : earlier_refusal before.sampler (length before.words) ≡ 0 =
      (λ i. earlier_refusal (T.sampler i) (T.lent i)) ∙ free B low (length ws) ok before.words (earlier_recording B (length ws) old) T.lent T.within T.bits in
      simp none

  pub carried_holds : (old : List (List ℕ)) → Bytes (earlier_recording B (length ws) old)
      → Holds B low (length ws) (carried_over B low ws old) (carried B (earlier_recording B (length ws) old))
  unfolding carried_over
  carried_holds old small =
      let before = earlier_fed_all (earlier_started B low ws) old in
      let held = earlier_recording B (length ws) old in
      let T = (earlier_told B low ws ok old).1 in
      subst (λ (q : Earlier). Holds B low (length ws) (record { sampler = (carried_of q before.words).sampler; words = carried_words q before.words }) (carried B held))
      (sym T.sampler) (holds_carried B low (length ws) ok before.words held T.lent T.within T.bits small)

pub all_recorded : AllRecorded
all_recorded B low ws ok old small feeds =
    let words = length ws in
    let H = holds_all B low words ok (carried_over B low ws old) (carried B (earlier_recording B words old)) feeds (carried_holds B low ws ok old small) in
    record {
      answers = ap₂ (λ (a b : List ℕ). a ++ b) (earlier_told B low ws ok old).0 H.0;
      holds = holds_recording B low words ok _ _ H.1;
    }

-- ---- with no pieces before it a carry-over is a fresh start

fresh_left : (size : ℕ) → 8 * (0 % size) ≡ 0
fresh_left size = ap (λ (k : ℕ). 8 * k) (zero-mod size)

clear_none : (S : ℕ) (ws : List ℕ) (e : ℕ) → clear_bits S ws e 0 ≡ ws
unfolding clear_bits
clear_none S ws e = refl

fresh_free : (B : ℕ) (low : Bool) (n : ℕ) → valid_size B ≡ true → earlier_refusal (earlier_of B low n 0) n ≡ 0
unfolding earlier_refusal
fresh_free B low n ok = simp (ok, eq-eqb n n refl, le-leb _ _ (zero-le {n = capacity_bytes B n}))

fresh_words : (B : ℕ) (low : Bool) (n : ℕ) (ws : List ℕ) → carried_words (earlier_of B low n 0) ws ≡ ws
unfolding carried_words clear_bits
fresh_words B low n ws = by_test (eqb (earlier_refusal (earlier_of B low n 0) (length ws)) 0)
  where
    none : clear_bits (stride B (length ws)) ws (0 / block_bytes B) (8 * (0 % block_bytes B)) ≡ ws
    none = ap (clear_bits (stride B (length ws)) ws (0 / block_bytes B)) (fresh_left (block_bytes B)) ∙ clear_none (stride B (length ws)) ws (0 / block_bytes B)

    by_test : (t : Bool) → cond t (clear_bits (stride B (length ws)) ws (0 / block_bytes B) (8 * (0 % block_bytes B))) ws ≡ ws
    by_test true = none
    by_test false = refl

fresh_bytes : (B : ℕ) (low : Bool) (n : ℕ) (ws : List ℕ) → put (replicate 2048 0) 0 (left_bytes (earlier_of B low n 0) ws) ≡ replicate 2048 0
unfolding left_bytes list_of
fresh_bytes B low n ws =
    ap (λ (m : ℕ). put (replicate 2048 0) 0 (list_of m (stored_byte low (stride B (length ws)) ws (0 / block_bytes B)))) (zero-mod (block_bytes B))
    ∙ put_none (replicate 2048 0) 0

fresh_is : (B : ℕ) (low : Bool) (ws : List ℕ) → valid_size B ≡ true → carried_over B low ws [] ≡ started B low ws
unfolding carried_over earlier_fed_all started started_of started_words carried_of
fresh_is B low ws ok =
    let n = length ws in
    let zeros : List ℕ = replicate n 0 in
    let lent : length zeros ≡ n = length-replicate n 0 in
    let none : earlier_refusal (earlier_of B low n 0) (length zeros) ≡ 0 = ap (earlier_refusal (earlier_of B low n 0)) lent ∙ fresh_free B low n ok in
    let blocks : 0 / block_bytes B ≡ 0 = zero-div (block_bytes B) in
    let left : 0 % block_bytes B ≡ 0 = zero-mod (block_bytes B) in
    simp (none, ok) (λ i. record {
      sampler = record {
        head = record { block_size = B; words = n; blocks = blocks i; low_first = low; lengths = left i ∷ 0 ∷ 0 ∷ 0 ∷ [] };
        unfinished = fresh_bytes B low n zeros i;
      };
      words = fresh_words B low n zeros i;
    })

pub all_carried : AllCarried
all_carried B low ws ok = record { taken = not_refused B low ws ok; fresh = fresh_is B low ws ok }
