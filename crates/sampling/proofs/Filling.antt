-- What putting bytes does to the words: each bit that has a place is the or of what was there and what arrives (theorem `stored_after`), and the rest stays.
use mathlib.Core.Path.{◌≡◌, refl, sym, ap, ◌∙◌}
use mathlib.Core.Bool.{Bool, true, false, cond}
use mathlib.Core.List.{List, [], ◌∷◌, ◌++◌}
use Prim.Native.Nat.{ℕ, zero, suc, ◌+◌, ◌-◌, ◌*◌, ◌/◌, ◌%◌, ◌^◌, ◌≤◌, ◌<◌, max}
use native.Mathlib.Omega.{arith}
use native.Mathlib.Decide.{dec_lt, ℕ_discrete}
use native.Mathlib.Nat.{mul_assoc, mul_comm, add-mul, add-zero, add-suc, add_assoc, mod-lt, div-lt_iff_lt-mul, mul-le-mul_right, mul-lt-mul_of_pos_right, le-mul_of_pos_right, le_refl, div-add-mod'}
use native.Mathlib.Numerals.{add-one}
use lib.Arith.{digits_div, digits_mod}
use lib.Dec.{leb}
use lib.ListN.{length, get_or, take, length-set, length-append, get_or-append, get_or-eq_default}
use lib.Seq.{get_or-set_same, get_or-set_other, get_or-append_seam, get_or-append-add, take-suc, length-take-le}
use borrow.Author.Tests.{le-leb, lt-leb}
use Rattle.counting.specs.Block.{bit_at, place_in}
use Rattle.counting.specs.Words.{stored_bit}
use Rattle.counting.proofs.Lanes.{bit_lt, bit_zero, bit_of_or, moved_at, moved_off}
use Rattle.sampling.specs.Putting.{put_bit, put_bits, put_byte, put_bytes, arriving_bit}

-- ---- one step more, as a loop counts

pub put_bits_next : (low : Bool) (S : ℕ) (ws : List ℕ) (at k x r : ℕ) → put_bits low S ws at k x (r + 1) ≡ put_bit (put_bits low S ws at k x r) (at + r * S) k (bit_at x (place_in low r))
unfolding put_bits
put_bits_next low S ws at k x r = rw add-one

pub put_bytes_next : (low : Bool) (size S : ℕ) (ws : List ℕ) (t : ℕ) (piece : List ℕ) (n : ℕ)
    → put_bytes low size S ws t piece (n + 1) ≡ put_byte low size S (put_bytes low size S ws t piece n) (t + n) (get_or piece n 0)
unfolding put_bytes
put_bytes_next low size S ws t piece n = rw add-one

-- ---- the number of words stays

length_put_bit : (ws : List ℕ) (i k v : ℕ) → length (put_bit ws i k v) ≡ length ws
unfolding put_bit
length_put_bit ws i k v = length-set ws i _

length_put_bits : (low : Bool) (S : ℕ) (ws : List ℕ) (at k x r : ℕ) → length (put_bits low S ws at k x r) ≡ length ws
unfolding put_bits
length_put_bits low S ws at k x zero = refl
length_put_bits low S ws at k x (suc r) = length_put_bit (put_bits low S ws at k x r) _ _ _ ∙ length_put_bits low S ws at k x r

length_put_byte : (low : Bool) (size S : ℕ) (ws : List ℕ) (t x : ℕ) → length (put_byte low size S ws t x) ≡ length ws
unfolding put_byte
length_put_byte low size S ws t x = length_put_bits low S ws _ _ x 8

pub length_put_bytes : (low : Bool) (size S : ℕ) (ws : List ℕ) (t : ℕ) (piece : List ℕ) (n : ℕ) → length (put_bytes low size S ws t piece n) ≡ length ws
unfolding put_bytes
length_put_bytes low size S ws t piece zero = refl
length_put_bytes low size S ws t piece (suc n) = length_put_byte low size S (put_bytes low size S ws t piece n) _ _ ∙ length_put_bytes low size S ws t piece n

-- ---- where a byte lies

-- 64 × S blocks of size bytes are 8 times as many bytes as 8 × size rows of S words have words
pub rows : (size S : ℕ) → 64 * S * size ≡ 8 * (8 * size * S)
rows size S =
    let a : 64 * S * size ≡ 64 * (S * size) = mul_assoc 64 S size in
    let b : 8 * size * S ≡ 8 * (size * S) = mul_assoc 8 size S in
    let c : S * size ≡ size * S = mul_comm S size in
    omega arith

-- the words of byte t of the recording, at, at + S, .. at + 7 × S, lie below m
pub record Placed (size S t m : ℕ) : Type 0 where
  pub row : 8 * (t % size) < m
  pub last : 8 * (t % size) * S + t / size / 64 + 7 * S < m

pub placed : (size S t m : ℕ) → 0 < size → t < 64 * S * size → 8 * size * S ≤ m → Placed size S t m
placed size S t m pos inside room =
    let e : t / size < 64 * S = (div-lt_iff_lt-mul pos).1 inside in
    let f : t / size / 64 < S = omega arith in
    let j : t % size < size = mod-lt t pos in
    let j+1 : t % size + 1 ≤ size = omega arith in
    let g : (t % size + 1) * S ≤ size * S = mul-le-mul_right S j+1 in
    let h : (t % size + 1) * S ≡ t % size * S + 1 * S = add-mul (t % size) 1 S in
    let k : 8 * (t % size) * S ≡ 8 * (t % size * S) = mul_assoc 8 (t % size) S in
    let l : 8 * size * S ≡ 8 * (size * S) = mul_assoc 8 size S in
    let s : 0 < S = omega arith in
    let n : 8 * size ≤ 8 * size * S = le-mul_of_pos_right (8 * size) s in
    record { row = omega arith; last = omega arith }

-- the same by the byte's block and place in it, as a loop keeps them
pub record At (S m block byte : ℕ) : Type 0 where
  pub row : 8 * byte < m
  pub last : 8 * byte * S + block / 64 + 7 * S < m
  pub inside : block < 64 * S

pub at_place : (size S t m block byte : ℕ) → 0 < size → t < 64 * S * size → 8 * size * S ≤ m → block * size + byte ≡ t → byte < size → At S m block byte
at_place size S t m block byte pos inside room is short =
    let b-is : t % size ≡ byte = ap (λ (n : ℕ). n % size) (sym is) ∙ digits_mod block short in
    let e-is : t / size ≡ block = ap (λ (n : ℕ). n / size) (sym is) ∙ digits_div block short in
    let P = placed size S t m pos inside room in
    record { row = rw b-is at P.row; last = rw (b-is, e-is) at P.last; inside = rw e-is at ((div-lt_iff_lt-mul pos).1 inside) }

-- ---- one bit

module _ (ws : List ℕ) (i k v : ℕ) (small : v < 2) (inside : i < length ws) where
  put_bit_at : bit_at (get_or (put_bit ws i k v) i 0) k ≡ max (bit_at (get_or ws i 0) k) v
  unfolding put_bit
  put_bit_at =
      ap (λ (w : ℕ). bit_at w k) (get_or-set_same ws i _ 0 inside)
      ∙ bit_of_or (get_or ws i 0) (v * 2 ^ k) k
      ∙ ap (max (bit_at (get_or ws i 0) k)) (moved_at v k small)

  put_bit_off : (p j : ℕ) → (p ≡ i → j ≡ k → ⊥) → bit_at (get_or (put_bit ws i k v) p 0) j ≡ bit_at (get_or ws p 0) j
  unfolding put_bit
  put_bit_off p j other = by_word (ℕ_discrete p i)
    where
      same_word : (j ≡ k → ⊥) → bit_at (get_or (put_bit ws i k v) i 0) j ≡ bit_at (get_or ws i 0) j
      same_word off =
          let none : bit_at (v * 2 ^ k) j ≡ 0 = moved_off v k j small off in
          ap (λ (w : ℕ). bit_at w j) (get_or-set_same ws i _ 0 inside) ∙ bit_of_or (get_or ws i 0) (v * 2 ^ k) j ∙ omega (arith, none)

      by_word : Dec (p ≡ i) → bit_at (get_or (put_bit ws i k v) p 0) j ≡ bit_at (get_or ws p 0) j
      by_word (yes e) = rw e (same_word (other e))
      by_word (no ne) = ap (λ (w : ℕ). bit_at w j) (get_or-set_other ws i p _ 0 ne)

-- ---- the bits of a byte, S words apart from `at` on

module _ (low : Bool) (S : ℕ) (ws : List ℕ) (at k x : ℕ) (inside : at + 7 * S < length ws) where
  step_inside : (r : ℕ) → r < 8 → at + r * S < length (put_bits low S ws at k x r)
  step_inside r h =
      let r≤7 : r ≤ 7 = omega arith in
      rw length_put_bits (omega (arith, mul-le-mul_right S r≤7))

  put_bits_off : (r : ℕ) → r ≤ 8 → (p j : ℕ) → ((q : ℕ) → q < r → p ≡ at + q * S → j ≡ k → ⊥)
      → bit_at (get_or (put_bits low S ws at k x r) p 0) j ≡ bit_at (get_or ws p 0) j
  unfolding put_bits
  put_bits_off zero h p j other = refl
  put_bits_off (suc r) h p j other =
      put_bit_off (put_bits low S ws at k x r) (at + r * S) k _ (bit_lt x (place_in low r)) (step_inside r (omega arith)) p j (other r (omega arith))
      ∙ put_bits_off r (omega arith) p j (λ q l. other q (omega arith))

  put_bits_at : 0 < S → (r : ℕ) → r ≤ 8 → (q : ℕ) → q < r
      → bit_at (get_or (put_bits low S ws at k x r) (at + q * S) 0) k ≡ max (bit_at (get_or ws (at + q * S) 0) k) (bit_at x (place_in low q))
  unfolding put_bits
  put_bits_at pos zero h q l = absurd (omega arith)
  put_bits_at pos (suc r) h q l = by_turn (ℕ_discrete q r) (put_bits_at pos r (omega arith) q)
    where
      apart : (m n : ℕ) → m < n → at + m * S ≡ at + n * S → ⊥
      apart m n less e = let f : m * S < n * S = mul-lt-mul_of_pos_right less pos in omega arith

      last : bit_at (get_or (put_bit (put_bits low S ws at k x r) (at + r * S) k (bit_at x (place_in low r))) (at + r * S) 0) k
          ≡ max (bit_at (get_or ws (at + r * S) 0) k) (bit_at x (place_in low r))
      last =
          put_bit_at (put_bits low S ws at k x r) (at + r * S) k _ (bit_lt x (place_in low r)) (step_inside r (omega arith))
          ∙ ap (λ (n : ℕ). max n (bit_at x (place_in low r))) (put_bits_off r (omega arith) (at + r * S) k (λ m less e z. apart m r less (sym e)))

      by_turn : Dec (q ≡ r)
          → (q < r → bit_at (get_or (put_bits low S ws at k x r) (at + q * S) 0) k ≡ max (bit_at (get_or ws (at + q * S) 0) k) (bit_at x (place_in low q)))
          → bit_at (get_or (put_bit (put_bits low S ws at k x r) (at + r * S) k (bit_at x (place_in low r))) (at + q * S) 0) k
          ≡ max (bit_at (get_or ws (at + q * S) 0) k) (bit_at x (place_in low q))
      by_turn (yes e) ih = rw e last
      by_turn (no ne) ih =
          let less : q < r = omega arith in
          put_bit_off (put_bits low S ws at k x r) (at + r * S) k _ (bit_lt x (place_in low r)) (step_inside r (omega arith)) (at + q * S) k (λ e z. apart q r less e)
          ∙ ih less

  -- a word past them all stays whole
  put_bits_past : (r : ℕ) → r ≤ 8 → (p : ℕ) → at + 7 * S < p → get_or (put_bits low S ws at k x r) p 0 ≡ get_or ws p 0
  unfolding put_bits put_bit
  put_bits_past zero h p past = refl
  put_bits_past (suc r) h p past =
      let r≤7 : r ≤ 7 = omega arith in
      let far : r * S ≤ 7 * S = mul-le-mul_right S r≤7 in
      get_or-set_other (put_bits low S ws at k x r) (at + r * S) p _ 0 (omega arith) ∙ put_bits_past r (omega arith) p past

-- ---- one byte of the recording

both : (f : ℕ → ℕ → ℕ) {a b c d : ℕ} → a ≡ b → c ≡ d → f a c ≡ f b d
both f p q = λ i. f (p i) (q i)

module _ (low : Bool) (size S t x : ℕ) (ws : List ℕ) (pos : 0 < size) (inside : t < 64 * S * size) (room : 8 * size * S ≤ length ws) where
  abbrev at : ℕ
  at = 8 * (t % size) * S + t / size / 64

  -- the row of the byte's bit q
  row : (q : ℕ) → (8 * (t % size) + q) * S + t / size / 64 ≡ at + q * S
  row q = omega (arith, add-mul (8 * (t % size)) q S)

  block_in : t / size < 64 * S
  block_in = (div-lt_iff_lt-mul pos).1 inside

  put_byte_at : (e b : ℕ) → b < 8 * size → e * size + b / 8 ≡ t
      → stored_bit S (put_byte low size S ws t x) e b ≡ max (stored_bit S ws e b) (bit_at x (place_in low (b % 8)))
  unfolding stored_bit put_byte
  put_byte_at e b lb is =
      let short : b / 8 < size = omega arith in
      let e-is : e ≡ t / size = sym (digits_div e short) ∙ ap (λ (n : ℕ). n / size) is in
      let j-is : b / 8 ≡ t % size = sym (digits_mod e short) ∙ ap (λ (n : ℕ). n % size) is in
      let b-is : b ≡ 8 * (t % size) + b % 8 = omega arith in
      let word : b * S + e / 64 ≡ at + b % 8 * S = both (λ m n. m * S + n / 64) b-is e-is ∙ row (b % 8) in
      let bit : e % 64 ≡ t / size % 64 = ap (λ (n : ℕ). n % 64) e-is in
      let turn : b % 8 < 8 = omega arith in
      let S>0 : 0 < S = omega (arith, block_in) in
      both (λ p j. bit_at (get_or (put_byte low size S ws t x) p 0) j) word bit
      ∙ put_bits_at low S ws at (t / size % 64) x (placed size S t (length ws) pos inside room).last S>0 8 (le_refl 8) (b % 8) turn
      ∙ sym (both (λ p j. max (bit_at (get_or ws p 0) j) (bit_at x (place_in low (b % 8)))) word bit)

  put_byte_off : (e b : ℕ) → e < 64 * S → (e * size + b / 8 ≡ t → ⊥) → stored_bit S (put_byte low size S ws t x) e b ≡ stored_bit S ws e b
  unfolding stored_bit put_byte
  put_byte_off e b le other =
      put_bits_off low S ws at (t / size % 64) x (placed size S t (length ws) pos inside room).last 8 (le_refl 8) (b * S + e / 64) (e % 64) clash
    where
      clash : (q : ℕ) → q < 8 → b * S + e / 64 ≡ at + q * S → e % 64 ≡ t / size % 64 → ⊥
      clash q turn word bit =
          let lane : e / 64 < S = omega arith in
          let lane' : t / size / 64 < S = omega (arith, block_in) in
          let same : b * S + e / 64 ≡ (8 * (t % size) + q) * S + t / size / 64 = word ∙ sym (row q) in
          let b-is : b ≡ 8 * (t % size) + q = sym (digits_div b lane) ∙ ap (λ (n : ℕ). n / S) same ∙ digits_div (8 * (t % size) + q) lane' in
          let h-is : e / 64 ≡ t / size / 64 = sym (digits_mod b lane) ∙ ap (λ (n : ℕ). n % S) same ∙ digits_mod (8 * (t % size) + q) lane' in
          let e-is : e ≡ t / size = omega arith in
          let j-is : b / 8 ≡ t % size = omega arith in
          other (both (λ m n. m * size + n) e-is j-is ∙ div-add-mod' t size)

  put_byte_past : (p : ℕ) → 8 * size * S ≤ p → get_or (put_byte low size S ws t x) p 0 ≡ get_or ws p 0
  unfolding put_byte
  put_byte_past p past =
      let under = (placed size S t (8 * size * S) pos inside (le_refl _)).last in
      put_bits_past low S ws at (t / size % 64) x (placed size S t (length ws) pos inside room).last 8 (le_refl 8) p (omega (arith, under))

-- ---- a piece

-- a byte added at the end changes no other
get_d_snoc_off : (held : List ℕ) (x m : ℕ) → (m ≡ length held → ⊥) → get_or (held ++ (x ∷ [])) m 0 ≡ get_or held m 0
get_d_snoc_off held x m other = by_order (dec_lt m (length held))
  where
    by_order : Dec (m < length held) → get_or (held ++ (x ∷ [])) m 0 ≡ get_or held m 0
    by_order (yes below) = get_or-append held (x ∷ []) 0 m below
    by_order (no above) =
        let past : length held ≤ m = omega arith in
        let past' : length (held ++ (x ∷ [])) ≤ m = rw length-append (omega arith) in
        get_or-eq_default (held ++ (x ∷ [])) 0 past' ∙ sym (get_or-eq_default held 0 past)

-- nothing arrives with an empty piece
arriving_none : (low : Bool) (size t e b : ℕ) → arriving_bit low size t [] e b ≡ 0
unfolding arriving_bit
arriving_none low size t e b = by_test (leb t (e * size + b / 8))
  where
    by_test : (c : Bool) → cond c (bit_at 0 (place_in low (b % 8))) 0 ≡ 0
    by_test true = bit_zero (place_in low (b % 8))
    by_test false = refl

module _ (low : Bool) (size t : ℕ) (piece : List ℕ) (n : ℕ) (more : n < length piece) (e b : ℕ) where
  abbrev byte : ℕ
  byte = e * size + b / 8

  size_take : length (take n piece) ≡ n
  size_take = length-take-le n piece (omega arith)

  -- the bit of the next byte was not among those before it
  arriving_at : byte ≡ t + n
      → (arriving_bit low size t (take n piece) e b ≡ 0) × (arriving_bit low size t (take (suc n) piece) e b ≡ bit_at (get_or piece n 0) (place_in low (b % 8)))
  unfolding arriving_bit
  arriving_at is =
      let come : leb t byte ≡ true = le-leb t byte (omega arith) in
      let nth : byte - t ≡ n = omega arith in
      let none : get_or (take n piece) n 0 ≡ 0 = get_or-eq_default (take n piece) 0 (let h : length (take n piece) ≤ n = omega (arith, size_take) in h) in
      let last : get_or (take (suc n) piece) n 0 ≡ get_or piece n 0 =
      ap (λ (l : List ℕ). get_or l n 0) (take-suc piece n 0 more)
      ∙ ap (λ (m : ℕ). get_or (take n piece ++ (get_or piece n 0 ∷ [])) m 0) (sym size_take)
      ∙ get_or-append_seam (take n piece) (get_or piece n 0) [] 0 in (
        rw (come, nth, none) (bit_zero (place_in low (b % 8))),
        rw (come, nth, last),
      )

  arriving_off : (byte ≡ t + n → ⊥) → arriving_bit low size t (take (suc n) piece) e b ≡ arriving_bit low size t (take n piece) e b
  unfolding arriving_bit
  arriving_off other = by_come (dec_lt byte t)
    where
      by_come : Dec (byte < t) → arriving_bit low size t (take (suc n) piece) e b ≡ arriving_bit low size t (take n piece) e b
      by_come (yes early) = let none : leb t byte ≡ false = lt-leb t byte early in rw none
      by_come (no late) =
          let off : byte - t ≡ length (take n piece) → ⊥ = λ z. other (let h : byte ≡ t + n = omega (arith, size_take) in h) in
          let same : get_or (take (suc n) piece) (byte - t) 0 ≡ get_or (take n piece) (byte - t) 0 =
          ap (λ (l : List ℕ). get_or l (byte - t) 0) (take-suc piece n 0 more) ∙ get_d_snoc_off (take n piece) (get_or piece n 0) (byte - t) off in
          rw same

module _ (low : Bool) (size S t : ℕ) (ws piece : List ℕ) (pos : 0 < size) (room : 8 * size * S ≤ length ws) (fits : t + length piece ≤ 64 * S * size) where
  enough : (n : ℕ) → 8 * size * S ≤ length (put_bytes low size S ws t piece n)
  enough n = rw length_put_bytes room

  pub stored_after : (n : ℕ) → n ≤ length piece → (e b : ℕ) → e < 64 * S → b < 8 * size
      → stored_bit S (put_bytes low size S ws t piece n) e b ≡ max (stored_bit S ws e b) (arriving_bit low size t (take n piece) e b)
  unfolding put_bytes
  stored_after zero h e b le lb = omega (arith, arriving_none low size t e b)
  stored_after (suc n) h e b le lb = by_place (ℕ_discrete (e * size + b / 8) (t + n)) (stored_after n (omega arith) e b le lb)
    where
      by_place : Dec (e * size + b / 8 ≡ t + n)
          → stored_bit S (put_bytes low size S ws t piece n) e b ≡ max (stored_bit S ws e b) (arriving_bit low size t (take n piece) e b)
          → stored_bit S (put_byte low size S (put_bytes low size S ws t piece n) (t + n) (get_or piece n 0)) e b
          ≡ max (stored_bit S ws e b) (arriving_bit low size t (take (suc n) piece) e b)
      by_place (yes here) was =
          let new = arriving_at low size t piece n (omega arith) e b here in
          omega (
            arith,
            put_byte_at low size S (t + n) (get_or piece n 0) (put_bytes low size S ws t piece n) pos (omega arith) (enough n) e b lb here,
            was,
            new.0,
            new.1,
          )
      by_place (no other) was =
          put_byte_off low size S (t + n) (get_or piece n 0) (put_bytes low size S ws t piece n) pos (omega arith) (enough n) e b le other
          ∙ was
          ∙ ap (max (stored_bit S ws e b)) (sym (arriving_off low size t piece n (omega arith) e b other))

  pub past_after : (n : ℕ) → n ≤ length piece → (p : ℕ) → 8 * size * S ≤ p → get_or (put_bytes low size S ws t piece n) p 0 ≡ get_or ws p 0
  unfolding put_bytes
  past_after zero h p past = refl
  past_after (suc n) h p past =
      put_byte_past low size S (t + n) (get_or piece n 0) (put_bytes low size S ws t piece n) pos (omega arith) (enough n) p past
      ∙ past_after n (omega arith) p past

-- ---- bytes put in one behind the other

put_first : (low : Bool) (size S : ℕ) (ws : List ℕ) (t : ℕ) (a b : List ℕ) (n : ℕ) → n ≤ length a → put_bytes low size S ws t (a ++ b) n ≡ put_bytes low size S ws t a n
unfolding put_bytes
put_first low size S ws t a b zero h = refl
put_first low size S ws t a b (suc n) h =
    λ i. put_byte low size S (put_first low size S ws t a b n (omega arith) i) (t + n) (get_or-append a b 0 n (omega arith) i)

put_more : (low : Bool) (size S : ℕ) (ws : List ℕ) (t : ℕ) (a b : List ℕ) (n : ℕ)
    → put_bytes low size S ws t (a ++ b) (length a + n) ≡ put_bytes low size S (put_bytes low size S ws t a (length a)) (t + length a) b n
unfolding put_bytes
put_more low size S ws t a b zero = ap (put_bytes low size S ws t (a ++ b)) (add-zero (length a)) ∙ put_first low size S ws t a b (length a) (le_refl _)
put_more low size S ws t a b (suc n) =
    ap (put_bytes low size S ws t (a ++ b)) (add-suc (length a) n)
    ∙ (λ i. put_byte low size S (put_more low size S ws t a b n i) (sym (add_assoc t (length a) n) i) (get_or-append-add a b n 0 i))

pub put_both : (low : Bool) (size S : ℕ) (ws : List ℕ) (t : ℕ) (a b : List ℕ)
    → put_bytes low size S (put_bytes low size S ws t a (length a)) (t + length a) b (length b) ≡ put_bytes low size S ws t (a ++ b) (length (a ++ b))
put_both low size S ws t a b = sym (ap (put_bytes low size S ws t (a ++ b)) (length-append a b) ∙ put_more low size S ws t a b (length b))

pub put_no_bytes : (low : Bool) (size S : ℕ) (ws : List ℕ) (t : ℕ) → put_bytes low size S ws t [] 0 ≡ ws
unfolding put_bytes
put_no_bytes low size S ws t = refl
