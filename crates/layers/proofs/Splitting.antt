-- The bins of a subset, split off those of the bits before its last.
use mathlib.Core.Path.{◌≡◌, sym, ap, ◌∙◌}
use mathlib.Core.Logic.{inl, inr}
use Prim.Native.Nat.{ℕ, suc, ◌+◌, ◌-◌, ◌*◌, ◌^◌, ◌≤◌, ◌<◌}
use native.Mathlib.Omega.{arith}
use native.Mathlib.Decide.{dec_lt}
use native.Mathlib.Nat.{pow-suc}
use mathlib.Core.List.{List, ◌++◌}
use lib.ListN.{length, get_or, take, drop, set, length-drop, take-append-drop}
use lib.Pow.{pow_pos}
use lib.Seq.{length-take-le, get_or-set_same, get_or-set_other, get_or-take, get_or-drop, ext_get_or}
use borrow.Rule.Slice.PartMut.{mid_of, put_mid, mid_len, same_len_mid}
use Rattle.counting.specs.Sample.{count_in, all_set, counts_of, Bits}
use Rattle.counting.proofs.Counts.{counts_are}
use Rattle.layers.specs.Store.{widest}
use Rattle.layers.specs.Settle.{chosen, Covered, Reduced}
use Rattle.layers.specs.Gather.{Gathered, Spared}
use Rattle.layers.proofs.Parting.{part_before, part_at, part_after, mid_at}
use Rattle.layers.proofs.Picking.{chosen_le, chosen_lt, all_chosen}
use Rattle.layers.proofs.Settling.{joined}

-- the numbers below `end` choose subsets that are kept
pub few_chosen : (k : ℕ) (bits : List ℕ) (end u : ℕ) → length bits ≤ k → (length bits < k → end ≡ 2 ^ length bits) → (k ≤ length bits → end + 1 ≡ 2 ^ length bits)
    → u < end → length (chosen bits u) ≤ widest k
few_chosen k bits end u le short all h = go (dec_lt (length bits) k)
  where
    go : Dec (length bits < k) → length (chosen bits u) ≤ widest k
    go (yes l) = omega (arith, chosen_le bits u)
    go (no g) =
        let w : k ≤ length bits = omega arith in
        let b : u < 2 ^ length bits - 1 = omega (arith, all w) in
        omega (arith, chosen_lt bits u b)

-- lists of one length that agree from m on
pub same_rest : (m : ℕ) (xs ys : List ℕ) → length xs ≡ length ys → ((w : ℕ) → m ≤ w → get_or xs w 0 ≡ get_or ys w 0) → drop m xs ≡ drop m ys
same_rest m xs ys e f =
    ext_get_or 0 (drop m xs) (drop m ys) (length-drop m xs ∙ ap (λ (x : ℕ). x - m) e ∙ sym (length-drop m ys))
    (λ i h. get_or-drop m xs i 0 ∙ f (m + i) (omega arith) ∙ sym (get_or-drop m ys i 0))

-- bins whose entries are the counts, and past them those of another list
pub counts_first : (bit : ℕ → ℕ → ℕ) (n : ℕ) (bits xs ys : List ℕ) → length xs ≡ length ys → 2 ^ length bits ≤ length xs
    → ((v : ℕ) → v < 2 ^ length bits → get_or xs v 0 ≡ count_in bit n bits v) → ((w : ℕ) → 2 ^ length bits ≤ w → get_or xs w 0 ≡ get_or ys w 0)
    → xs ≡ counts_of bit n bits ++ drop (2 ^ length bits) ys
counts_first bit n bits xs ys e room f rest =
    let m : ℕ = 2 ^ length bits in
    let size : length (take m xs) ≡ m = length-take-le m xs room in
    let front : take m xs ≡ counts_of bit n bits =
    counts_are bit n bits (take m xs) size (λ v h. let l : v < m = rw size at h in get_or-take m xs v 0 l ∙ f v l) in
    sym (take-append-drop m xs) ∙ ap (λ (l : List ℕ). l ++ drop m xs) front ∙ ap (λ (l : List ℕ). counts_of bit n bits ++ l) (same_rest m xs ys e rest)

-- What is known once the second half of g is settled and `up` stands in its place: the first half is the sums of both, and less the second the bins are those
-- of the bits.
pub record SplitOff (bit : ℕ → ℕ → ℕ) (n : ℕ) (bits : List ℕ) (half : ℕ) (b whole : List ℕ) : Type 0 where
  pub size : length whole ≡ length b
  pub falls : (i : ℕ) → i < half → get_or whole (0 + half + i) 0 ≤ get_or whole (0 + i) 0
  pub split : (b' : List ℕ) → length b' ≡ length whole → Reduced 0 half half whole b' → b' ≡ counts_of bit n bits ++ drop (2 ^ length bits) b

module _ (bit : ℕ → ℕ → ℕ) (two : Bits bit) (n k : ℕ) (bits : List ℕ) (j half end count : ℕ) (width : length bits ≡ suc j) (half_is : half ≡ 2 ^ j)
    (short : length bits < k → end ≡ 2 * half) (all : k ≤ length bits → end + 1 ≡ 2 * half) (own : k ≤ length bits → count ≡ all_set bit n bits)
    (b g : List ℕ) (room : 2 * half ≤ length b) (same : length g ≡ length b)
    (read : Gathered bit n bits (2 ^ (length bits - 1)) end g) (spared : Spared (2 ^ (length bits - 1)) end (set b (2 * half - 1) count) g) where
  power : 2 ^ length bits ≡ 2 * half
  power = ap (λ (x : ℕ). 2 ^ x) width ∙ pow-suc 2 j ∙ omega arith

  start : 2 ^ (length bits - 1) ≡ half
  start =
      let e : length bits - 1 ≡ j = omega arith in
      ap (λ (x : ℕ). 2 ^ x) e ∙ sym half_is

  some : 1 ≤ half
  some = omega (arith, pow_pos j)

  -- the second half, before it is settled
  pub covered : Covered bit n j bits (mid_of half (2 * half - half) g)
  covered = record { two = two; width = width; size = mid_len half (2 * half) g (omega arith) ∙ omega arith; at_least = at_least }
    where
      at_least : (u : ℕ) → u < 2 ^ j → get_or (mid_of half (2 * half - half) g) u 0 ≡ all_set bit n (chosen bits (2 ^ j + u))
      at_least u h = mid_at half (2 * half - half) u g (omega arith) ∙ go (dec_lt (half + u) end) ∙ ap (λ (x : ℕ). all_set bit n (chosen bits (x + u))) half_is
        where
          go : Dec (half + u < end) → get_or g (half + u) 0 ≡ all_set bit n (chosen bits (half + u))
          go (yes l) = read (half + u) (omega (arith, start)) l
          go (no q) = last (dec_lt (length bits) k)
            where
              last : Dec (length bits < k) → get_or g (half + u) 0 ≡ all_set bit n (chosen bits (half + u))
              last (yes l) = absurd (omega (arith, short l))
              last (no r) =
                  let w : k ≤ length bits = omega arith in
                  let e : half + u ≡ 2 * half - 1 = omega (arith, all w) in
                  let top : half + u ≡ 2 ^ length bits - 1 = omega (arith, all w, power) in
                  spared (half + u) (inr (omega arith)) ∙ ap (λ (x : ℕ). get_or (set b (2 * half - 1) count) x 0) e
                  ∙ get_or-set_same b (2 * half - 1) count 0 (omega (arith, some)) ∙ own w
                  ∙ sym (ap (all_set bit n) (ap (chosen bits) top ∙ all_chosen bits))

  module _ (up : List ℕ) (size : length up ≡ length (mid_of half (2 * half - half) g))
      (settled : (v : ℕ) → v < 2 ^ j → get_or up v 0 ≡ count_in bit n bits (2 ^ j + v))
      (halved : (v : ℕ) → v < 2 ^ (length bits - 1) → get_or b v 0 ≡ count_in bit n (take (length bits - 1) bits) v) where
    abbrev whole : List ℕ
    whole = put_mid half (2 * half - half) g up

    up_size : length up ≡ half
    up_size = size ∙ mid_len half (2 * half) g (omega arith) ∙ omega arith

    whole_size : length whole ≡ length b
    whole_size = same_len_mid half (2 * half - half) g up size ∙ same

    upper : (v : ℕ) → v < half → get_or whole (half + v) 0 ≡ count_in bit n bits (half + v)
    upper v h =
        part_at half (2 * half - half) v g up (omega arith) (omega (arith, up_size)) ∙ settled v (omega arith)
        ∙ ap (λ (x : ℕ). count_in bit n bits (x + v)) (sym half_is)

    lower : (v : ℕ) → v < half → get_or whole v 0 ≡ count_in bit n bits v + count_in bit n bits (half + v)
    lower v h =
        let e : length bits - 1 ≡ j = omega arith in
        part_before half (2 * half - half) v g up (omega arith) h ∙ spared v (inl (omega (arith, start)))
        ∙ get_or-set_other b (2 * half - 1) v count 0 (λ q. omega (arith, some)) ∙ halved v (omega (arith, start))
        ∙ ap (λ (x : ℕ). count_in bit n (take x bits) v) e ∙ joined bit two n bits j v width (omega arith)
        ∙ ap (λ (x : ℕ). count_in bit n bits v + count_in bit n bits (x + v)) (sym half_is)

    falls : (i : ℕ) → i < half → get_or whole (0 + half + i) 0 ≤ get_or whole (0 + i) 0
    falls i h =
        let p : 0 + half + i ≡ half + i = omega arith in
        let q : 0 + i ≡ i = omega arith in
        omega (arith, ap (λ (x : ℕ). get_or whole x 0) p, ap (λ (x : ℕ). get_or whole x 0) q, upper i h, lower i h)

    split : (b' : List ℕ) → length b' ≡ length whole → Reduced 0 half half whole b' → b' ≡ counts_of bit n bits ++ drop (2 ^ length bits) b
    split b' e r = counts_first bit n bits b' b (e ∙ whole_size) (omega (arith, power, e, whole_size)) (λ v h. entry v h (dec_lt v half)) rest
      where
        entry : (v : ℕ) → v < 2 ^ length bits → Dec (v < half) → get_or b' v 0 ≡ count_in bit n bits v
        entry v h (yes l) =
            let p : 0 + v ≡ v = omega arith in
            let q : 0 + half + v ≡ half + v = omega arith in
            omega (
              arith,
              r.inside v l,
              ap (λ (x : ℕ). get_or b' x 0) p,
              ap (λ (x : ℕ). get_or whole x 0) p,
              ap (λ (x : ℕ). get_or whole x 0) q,
              upper v l,
              lower v l,
            )
        entry v h (no g') =
            let p : half + (v - half) ≡ v = omega arith in
            r.outside v (inr (omega arith)) ∙ ap (λ (x : ℕ). get_or whole x 0) (sym p) ∙ upper (v - half) (omega (arith, power)) ∙ ap (count_in bit n bits) p

        rest : (w : ℕ) → 2 ^ length bits ≤ w → get_or b' w 0 ≡ get_or b w 0
        rest w h =
            r.outside w (inr (omega (arith, power)))
            ∙ part_after half (2 * half) w g up (omega arith) (omega arith) (up_size ∙ omega arith) (omega (arith, power))
            ∙ spared w (inr (after w h (dec_lt (length bits) k)))
            ∙ get_or-set_other b (2 * half - 1) w count 0 (λ q. omega (arith, power, some))
          where
            after : (w : ℕ) → 2 ^ length bits ≤ w → Dec (length bits < k) → end ≤ w
            after w h (yes l) = omega (arith, short l, power)
            after w h (no q) = let x : k ≤ length bits = omega arith in omega (arith, all x, power)

    pub split_off : SplitOff bit n bits half b (put_mid half (2 * half - half) g up)
    split_off = record { size = whole_size; falls = falls; split = split }
