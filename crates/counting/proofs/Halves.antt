-- The bins of some bits as two halves, by the last bit: the half without it stands first.
use mathlib.Core.Path.{◌≡◌, refl, sym, ap, ap₂, ◌∙◌}
use mathlib.Core.List.{List, [], ◌∷◌, ◌++◌}
use Prim.Native.Nat.{ℕ, zero, suc, ◌+◌, ◌-◌, ◌*◌, ◌/◌, ◌%◌, ◌^◌, ◌≤◌, ◌<◌, min}
use native.Mathlib.Omega.{arith}
use native.Mathlib.Decide.{dec_lt}
use native.Mathlib.Nat.{pow-suc}
use lib.Dec.{lit<}
use lib.ListN.{length, get_or, take, drop, length-take, length-drop, get_or-append}
use lib.Seq.{take-suc, take_all, get_or-take, get_or-drop, get_or-append-add, length-take-le, drop_at}
use borrow.Rule.Slice.PartMut.{put_mid, mid_of, take_put}
use Rattle.counting.specs.Block.{bit_at}
use Rattle.counting.specs.Sample.{onward, same, sum_to}
use Rattle.counting.specs.Tally.{lane_of, word_with}
use Rattle.counting.specs.Words.{stored_bit}
use Rattle.counting.specs.Rows.{RowsIn, CountRoom, marked_in, Parted}
use Rattle.counting.proofs.Marks.{part_at, stored_lt, with_row, marked_one, marked_last}

-- a list and its last entry
snoc_last : (bits : List ℕ) (last : ℕ) → length bits ≡ suc last → bits ≡ take last bits ++ (get_or bits last 0 ∷ [])
snoc_last bits last e = sym (take_all (suc last) bits (omega arith)) ∙ take-suc bits last 0 (omega arith)

-- the second of two parts of a list
get_d_second : (xs ys : List ℕ) (h w : ℕ) → length xs ≡ h → get_or (xs ++ ys) (h + w) 0 ≡ get_or ys w 0
get_d_second xs ys h w e = ap (λ (k : ℕ). get_or (xs ++ ys) (k + w) 0) (sym e) ∙ get_or-append-add xs ys w 0

-- entry h + w of a list whose part from h on was lent and came back as ys, and whose first part was lent then and came back as zs
upper_entry : (bins ys zs : List ℕ) (h k w : ℕ) → h ≤ length bins → length zs ≡ h → w < length ys
    → get_or (zs ++ drop h (put_mid h k bins ys)) (h + w) 0 ≡ get_or ys w 0
upper_entry bins ys zs h k w room ez hw =
    get_d_second zs (drop h (put_mid h k bins ys)) h w ez
    ∙ ap (λ (l : List ℕ). get_or l w 0) (drop_at (take h bins) (ys ++ drop k (drop h bins)) h (length-take-le h bins room))
    ∙ get_or-append ys (drop k (drop h bins)) 0 w hw

-- half the bins are those of the other bits
pub half_size : (bits : List ℕ) (size : ℕ) → 1 ≤ length bits → size ≡ 2 ^ length bits
    → (length bits ≡ suc (length bits - 1)) × (size / 2 ≡ 2 ^ (length bits - 1)) × (size ≡ size / 2 + size / 2)
half_size bits size pos power =
    let many : length bits ≡ suc (length bits - 1) = omega arith in
    let twice : size ≡ 2 ^ (length bits - 1) * 2 = power ∙ ap (λ (k : ℕ). 2 ^ k) many ∙ pow-suc 2 (length bits - 1) in
    (many, omega arith, omega arith)

pub upper_size : (bins : List ℕ) (half : ℕ) → length bins ≡ half + half → length (mid_of half (length bins - half) bins) ≡ half
upper_size bins half twice = simp (length-take, length-drop) (omega arith)

pub lower_size : (bins ys : List ℕ) (half k : ℕ) → length bins ≡ half + half → length (take half (put_mid half k bins ys)) ≡ half
lower_size bins ys half k twice = ap length (take_put half k bins ys (omega arith)) ∙ length-take-le half bins (omega arith)

-- what is asked of the other bits and of either half
pub rows_init : (words : List ℕ) (S : ℕ) (bits : List ℕ) (last : ℕ) → RowsIn words S bits → RowsIn words S (take last bits)
rows_init words S bits last rows i h =
    let size : length (take last bits) ≡ min last (length bits) = length-take last bits in
    let same : get_or (take last bits) i 0 ≡ get_or bits i 0 = get_or-take last bits i 0 (omega arith) in
    rw same (rows i (omega arith))

pub room_upper : (n half k : ℕ) (bins : List ℕ) → CountRoom n bins → CountRoom n (mid_of half k bins)
room_upper n half k bins room v h =
    let size : length (mid_of half k bins) ≡ min k (length bins - half) = simp (length-take, length-drop) in
    let same : get_or (mid_of half k bins) v 0 ≡ get_or bins (half + v) 0 = get_or-take k (drop half bins) v 0 (omega arith) ∙ get_or-drop half bins v 0 in
    rw same (room (half + v) (omega arith))

pub room_lower : (n half k : ℕ) (bins ys : List ℕ) → half ≤ length bins → CountRoom n bins → CountRoom n (take half (put_mid half k bins ys))
room_lower n half k bins ys fits room =
    let first : take half (put_mid half k bins ys) ≡ take half bins = take_put half k bins ys fits in
    rw first (λ v h.
    let size : length (take half bins) ≡ half = length-take-le half bins fits in
    let same : get_or (take half bins) v 0 ≡ get_or bins v 0 = get_or-take half bins v 0 (omega arith) in
    rw same (room v (omega arith)))

-- a lane lies in one word
lane_of_is : (f g : ℕ → ℕ) (e : ℕ) → f (e / 64) ≡ g (e / 64) → lane_of f e ≡ lane_of g e
unfolding lane_of
lane_of_is f g e h = ap (λ (w : ℕ). bit_at w (e % 64)) h

module _ (words : List ℕ) (S start n : ℕ) (bits : List ℕ) (last at : ℕ) (many : length bits ≡ suc last) (here : at ≡ get_or bits last 0 * S + start) (word : ℕ → ℕ) where
  -- the lanes of the words with the row of the last bit, flipped where y is 0
  by_last : (flip y e : ℕ) → e < n → y < 2 → flip ≡ (1 - y) * (2 ^ 64 - 1)
      → lane_of (word_with word (part_at words at ((n + 63) / 64)) flip) e
      ≡ min (lane_of word e) (same (stored_bit S words (64 * start + e) (get_or bits last 0)) y)
  by_last flip y e h hy ef = with_row words S start (get_or bits last 0) at ((n + 63) / 64) here word flip y e (omega arith) hy ef

  -- one bit: either of its bins
  one_bin : (flip y : ℕ) → last ≡ 0 → y < 2 → flip ≡ (1 - y) * (2 ^ 64 - 1)
      → sum_to (lane_of (word_with word (part_at words at ((n + 63) / 64)) flip)) n
      ≡ marked_in (lane_of word) (onward (64 * start) (stored_bit S words)) bits n y
  one_bin flip y one hy ef =
      let single : get_or bits last 0 ∷ [] ≡ bits = ap (λ (j : ℕ). take j bits ++ (get_or bits last 0 ∷ [])) (sym one) ∙ sym (snoc_last bits last many) in
      marked_one (lane_of word) _ (onward (64 * start) (stored_bit S words)) (get_or bits last 0) n y (λ e l. by_last flip y e l hy ef)
      ∙ ap (λ (l : List ℕ). marked_in (lane_of word) (onward (64 * start) (stored_bit S words)) l n y) single

  -- and both
  pub two_bins : (bins bins' : List ℕ) → last ≡ 0 → length bins ≡ 2
      → Parted word (part_at words at ((n + 63) / 64)) n 0 bins bins'
      → (v : ℕ) → v < length bins → get_or bins' v 0 ≡ get_or bins v 0 + marked_in (lane_of word) (onward (64 * start) (stored_bit S words)) bits n v
  two_bins bins bins' one two (without, with) v h = go v (omega arith)
    where
      go : (v : ℕ) → v < 2 → get_or bins' v 0 ≡ get_or bins v 0 + marked_in (lane_of word) (onward (64 * start) (stored_bit S words)) bits n v
      go zero l = without ∙ ap (λ (x : ℕ). get_or bins 0 0 + x) (one_bin 18446744073709551615 0 one (lit< tt) refl)
      go (suc zero) l = with ∙ ap (λ (x : ℕ). get_or bins 1 0 + x) (one_bin 0 1 one (lit< tt) refl)
      go (suc (suc v)) l = absurd (omega arith)

  -- and so of words that hold them ANDed
  part_lanes : (part : ℕ → ℕ) (flip y : ℕ) → y < 2 → flip ≡ (1 - y) * (2 ^ 64 - 1) → at + (n + 63) / 64 ≤ length words
      → ((t : ℕ) → t < length (part_at words at ((n + 63) / 64)) → part t ≡ word_with word (part_at words at ((n + 63) / 64)) flip t)
      → (e : ℕ) → e < n → lane_of part e ≡ min (lane_of word e) (same (stored_bit S words (64 * start + e) (get_or bits last 0)) y)
  part_lanes part flip y hy ef room step e h =
      let long : length (part_at words at ((n + 63) / 64)) ≡ (n + 63) / 64 = simp (length-take, length-drop) (omega arith) in
      lane_of_is part (word_with word (part_at words at ((n + 63) / 64)) flip) e (step (e / 64) (omega arith)) ∙ by_last flip y e h hy ef

  -- what the marks that are left count in the bins of the other bits is what the words count in those with the last bit y
  by_half : (part : ℕ → ℕ) (flip y v : ℕ) → y < 2 → flip ≡ (1 - y) * (2 ^ 64 - 1) → v < 2 ^ last → at + (n + 63) / 64 ≤ length words
      → ((t : ℕ) → t < length (part_at words at ((n + 63) / 64)) → part t ≡ word_with word (part_at words at ((n + 63) / 64)) flip t)
      → marked_in (lane_of part) (onward (64 * start) (stored_bit S words)) (take last bits) n v
      ≡ marked_in (lane_of word) (onward (64 * start) (stored_bit S words)) bits n (y * 2 ^ last + v)
  by_half part flip y v hy ef hv room step =
      let k : length (take last bits) ≡ last = length-take-le last bits (omega arith) in
      let bit = onward (64 * start) (stored_bit S words) in
      let hv' : v < 2 ^ length (take last bits) = rw k hv in
      marked_last (lane_of word) (lane_of part) bit (λ e. stored_lt S words (64 * start + e)) (take last bits) (get_or bits last 0) n y v hv' (part_lanes part flip y hy ef room step)
      ∙ ap₂ (λ (l : List ℕ) (j : ℕ). marked_in (lane_of word) bit l n (y * 2 ^ j + v)) (sym (snoc_last bits last many)) k

  -- both halves
  pub halves : (bins upper lower : List ℕ) (part part' : ℕ → ℕ) (half : ℕ) → half ≡ 2 ^ last → length bins ≡ half + half → at + (n + 63) / 64 ≤ length words
      → length upper ≡ length (mid_of half (length bins - half) bins)
      → length lower ≡ length (take half (put_mid half (length bins - half) bins upper))
      → ((t : ℕ) → t < length (part_at words at ((n + 63) / 64)) → part t ≡ word_with word (part_at words at ((n + 63) / 64)) 0 t)
      → ((t : ℕ) → t < length (part_at words at ((n + 63) / 64)) → part' t ≡ word_with word (part_at words at ((n + 63) / 64)) 18446744073709551615 t)
      → ((v : ℕ) → v < length (mid_of half (length bins - half) bins) → get_or upper v 0 ≡ get_or (mid_of half (length bins - half) bins) v 0 + marked_in (lane_of part) (onward (64 * start) (stored_bit S words)) (take last bits) n v)
      → ((v : ℕ) → v < length (take half (put_mid half (length bins - half) bins upper)) → get_or lower v 0 ≡ get_or (take half (put_mid half (length bins - half) bins upper)) v 0 + marked_in (lane_of part') (onward (64 * start) (stored_bit S words)) (take last bits) n v)
      → (v : ℕ) → v < length bins
      → get_or (lower ++ drop half (put_mid half (length bins - half) bins upper)) v 0
      ≡ get_or bins v 0 + marked_in (lane_of word) (onward (64 * start) (stored_bit S words)) bits n v
  halves bins upper lower part part' half power twice room upper-kept lower-kept step step' up low v h = by_side (dec_lt v half)
    where
      bit : ℕ → ℕ → ℕ
      bit = onward (64 * start) (stored_bit S words)

      first : take half (put_mid half (length bins - half) bins upper) ≡ take half bins
      first = take_put half (length bins - half) bins upper (omega arith)

      low_size : length (take half bins) ≡ half
      low_size = length-take-le half bins (omega arith)

      up_size : length (mid_of half (length bins - half) bins) ≡ half
      up_size = upper_size bins half twice

      lower_is : length lower ≡ half
      lower_is = lower-kept ∙ lower_size bins upper half (length bins - half) twice

      by_side : Dec (v < half) → get_or (lower ++ drop half (put_mid half (length bins - half) bins upper)) v 0 ≡ get_or bins v 0 + marked_in (lane_of word) bit bits n v
      by_side (yes below) =
          let inside : v < length lower = rw lower_is below in
          let inside' : v < length (take half (put_mid half (length bins - half) bins upper)) = rw (first, low_size) below in
          let small : v < 2 ^ last = rw (← power) below in
          let none : 0 * 2 ^ last + v ≡ v = omega arith in
          get_or-append lower _ 0 v inside ∙ low v inside'
          ∙ ap₂ ◌+◌ (ap (λ (l : List ℕ). get_or l v 0) first ∙ get_or-take half bins v 0 below)
          (by_half part' 18446744073709551615 0 v (lit< tt) refl small room step' ∙ ap (marked_in (lane_of word) bit bits n) none)
      by_side (no above) =
          let w = v - half in
          let e : v ≡ half + w = omega arith in
          let in-half : w < half = omega arith in
          let inside : w < length upper = rw (upper-kept, up_size) in-half in
          let inside' : w < length (mid_of half (length bins - half) bins) = rw up_size in-half in
          let small : w < 2 ^ last = rw (← power) in-half in
          let back : 1 * 2 ^ last + w ≡ v = omega arith in
          ap (λ (k : ℕ). get_or (lower ++ drop half (put_mid half (length bins - half) bins upper)) k 0) e
          ∙ upper_entry bins upper lower half (length bins - half) w (omega arith) lower_is inside ∙ up w inside'
          ∙ ap₂ ◌+◌ (get_or-take (length bins - half) (drop half bins) w 0 (omega arith) ∙ get_or-drop half bins w 0 ∙ ap (λ (k : ℕ). get_or bins k 0) (sym e))
          (by_half part 0 1 w (lit< tt) refl small room step ∙ ap (marked_in (lane_of word) bit bits n) back)

-- two bits: four bins
module _ (words : List ℕ) (S start n : ℕ) (bits : List ℕ) (low high : ℕ) (two : length bits ≡ 2)
    (here : low ≡ get_or bits 0 0 * S + start) (there : high ≡ get_or bits 1 0 * S + start) (room : high + (n + 63) / 64 ≤ length words) (word : ℕ → ℕ) where
  one_of_four : (hf lf y x : ℕ) → y < 2 → hf ≡ (1 - y) * (2 ^ 64 - 1) → x < 2 → lf ≡ (1 - x) * (2 ^ 64 - 1)
      → sum_to (lane_of (word_with (word_with word (part_at words high ((n + 63) / 64)) hf) (part_at words low ((n + 63) / 64)) lf)) n
      ≡ marked_in (lane_of word) (onward (64 * start) (stored_bit S words)) bits n (y * 2 ^ 1 + x)
  one_of_four hf lf y x hy eh hx el =
      let single : length (take 1 bits) ≡ 1 = length-take-le 1 bits (omega arith) in
      let first : low ≡ get_or (take 1 bits) 0 0 * S + start = here ∙ ap (λ (b : ℕ). b * S + start) (sym (get_or-take 1 bits 0 0 (lit< tt))) in
      let part = word_with word (part_at words high ((n + 63) / 64)) hf in
      one_bin words S start n (take 1 bits) 0 low single first part lf x refl hx el
      ∙ by_half words S start n bits 1 high two there word part hf y x hy eh hx room (λ t h. refl)

  pub four_bins : (bins bins' : List ℕ) → length bins ≡ 4
      → Parted (word_with word (part_at words high ((n + 63) / 64)) 18446744073709551615) (part_at words low ((n + 63) / 64)) n 0 bins bins'
      → Parted (word_with word (part_at words high ((n + 63) / 64)) 0) (part_at words low ((n + 63) / 64)) n 2 bins bins'
      → (v : ℕ) → v < length bins → get_or bins' v 0 ≡ get_or bins v 0 + marked_in (lane_of word) (onward (64 * start) (stored_bit S words)) bits n v
  four_bins bins bins' four (b0, b1) (b2, b3) v h = go v (omega arith)
    where
      go : (v : ℕ) → v < 4 → get_or bins' v 0 ≡ get_or bins v 0 + marked_in (lane_of word) (onward (64 * start) (stored_bit S words)) bits n v
      go zero l = b0 ∙ ap (λ (x : ℕ). get_or bins 0 0 + x) (one_of_four 18446744073709551615 18446744073709551615 0 0 (lit< tt) refl (lit< tt) refl)
      go (suc zero) l = b1 ∙ ap (λ (x : ℕ). get_or bins 1 0 + x) (one_of_four 18446744073709551615 0 0 1 (lit< tt) refl (lit< tt) refl)
      go (suc (suc zero)) l = b2 ∙ ap (λ (x : ℕ). get_or bins 2 0 + x) (one_of_four 0 18446744073709551615 1 0 (lit< tt) refl (lit< tt) refl)
      go (suc (suc (suc zero))) l = b3 ∙ ap (λ (x : ℕ). get_or bins 3 0 + x) (one_of_four 0 0 1 1 (lit< tt) refl (lit< tt) refl)
      go (suc (suc (suc (suc v)))) l = absurd (omega arith)
