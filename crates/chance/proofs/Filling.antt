-- Row upon row in the scratch: the entries after t blocks at its start, and the zeros at the row's two ends.
use mathlib.Core.Path.{◌≡◌, refl, sym, ap, ap₂, ◌∙◌}
use mathlib.Core.List.{List, ◌∷◌, ◌++◌}
use Prim.Native.Nat.{ℕ, zero, suc, ◌+◌, ◌-◌, ◌^◌, ◌≤◌, ◌<◌}
use native.Mathlib.Omega.{arith}
use native.Mathlib.Decide.{dec_lt}
use native.Mathlib.Numerals.{add-one}
use lib.ListN.{length, get_or, take, drop, set, get_or-append, get_or-eq_default}
use Rattle.std.specs.List.{AllWithin}
use lib.Seq.{drop-set-lt, take_at, drop-append-add, drop-drop, set_split, get_or-take, get_or-drop}
use Rattle.counting.proofs.Counts.{sum_ext}
use Rattle.chance.specs.Chance.{sum_from, before}
use Rattle.chance.specs.Entries.{entry, next_entry, next_row, entries_after}
use Rattle.chance.specs.Zeros.{Row}
use Rattle.chance.specs.Bracket.{low_of}
use Rattle.chance.proofs.InPlace.{after}
use Rattle.chance.proofs.Rows.{next_none, entries_length, entries_next, entries_step, entries_le}

-- ---- block by block

-- the entries after t blocks, and the rest as lent
abbrev pub Filling : ℕ → ℕ → ℕ → List ℕ → List ℕ → Type 0
Filling t k d s₀ s = s ≡ entries_after t k d ++ drop (suc t) s₀

pub fill_begins : (k d : ℕ) (s : List ℕ) → 0 < length s → Filling 0 k d (set s 0 (2 ^ 40)) (set s 0 (2 ^ 40))
unfolding entries_after
fill_begins k d s h = set_split s 0 (2 ^ 40) h ∙ ap (λ (x : List ℕ). 2 ^ 40 ∷ x) (sym (drop-set-lt 1 s 0 (2 ^ 40) (omega arith)))

-- the first entry, which was set, is none of the rest
pub fill_ends : (n k d : ℕ) (s₀ s : List ℕ) → Filling n k d (set s₀ 0 (2 ^ 40)) s → Filling n k d s₀ s
fill_ends n k d s₀ s is = is ∙ ap (λ (x : List ℕ). entries_after n k d ++ x) (drop-set-lt (suc n) s₀ 0 (2 ^ 40) (omega arith))

pub fill_more : (t k d : ℕ) (s₀ s : List ℕ) → Filling t k d s₀ s → Filling (t + 1) k d s₀ (after k d (t + 1) s)
fill_more t k d s₀ s is =
    let row = entries_after t k d in
    let size : length row ≡ t + 1 = entries_length t k d ∙ sym (add-one t) in
    let a : take (t + 1) s ≡ row = ap (take (t + 1)) is ∙ take_at row (drop (suc t) s₀) (t + 1) size in
    let n : length row + 1 ≡ suc (t + 1) = omega arith in
    let b : drop (suc (t + 1)) s ≡ drop (suc (t + 1)) s₀ =
    ap₂ drop (sym n) is ∙ drop-append-add row (drop (suc t) s₀) 1 ∙ drop-drop 1 (suc t) s₀ ∙ ap (λ (x : ℕ). drop x s₀) (let z : suc t + 1 ≡ suc (t + 1) = omega arith in z) in
    ap₂ (λ (x y : List ℕ). next_row k d x ++ y) a b
    ∙ ap (λ (x : List ℕ). x ++ drop (suc (t + 1)) s₀) (sym (ap (λ (v : ℕ). entries_after v k d) (add-one t) ∙ entries_next t k d))

-- the entries of the row are the scratch's first
fill_at : (t k d : ℕ) (s₀ s : List ℕ) → Filling t k d s₀ s → (j : ℕ) → j ≤ t → entry s j ≡ entry (entries_after t k d) j
fill_at t k d s₀ s is j l =
    ap (λ (x : List ℕ). get_or x j 0) is ∙ get_or-append (entries_after t k d) (drop (suc t) s₀) 0 j (omega (arith, entries_length t k d))

pub fill_le : (t k d : ℕ) (s₀ s : List ℕ) → d < 2 ^ k → Filling t k d s₀ s → (j : ℕ) → j ≤ t → get_or s j 0 ≤ 2 ^ 40
fill_le t k d s₀ s h is j l = omega (arith, fill_at t k d s₀ s is j l, entries_le t k d h j)

pub fill_low : (n c k d : ℕ) (s₀ s : List ℕ) → c ≤ n → Filling n k d s₀ s → sum_from (entry s) c n ≡ low_of n c k d
unfolding sum_from low_of
fill_low n c k d s₀ s h is =
    sum_ext (λ i. entry s (c + i)) (λ i. entry (entries_after n k d) (c + i)) (suc n - c) (λ i l. fill_at n k d s₀ s is (c + i) (omega arith))

-- ---- the zeros at a row's two ends

-- the entries after t blocks below `from` and from `to` on are 0
pub record Ended (t k d from to : ℕ) : Type 0 where
  pub ordered : from ≤ to
  pub within : to ≤ t + 1
  pub below : (j : ℕ) → j < from → entry (entries_after t k d) j ≡ 0
  pub beyond : (j : ℕ) → to ≤ j → entry (entries_after t k d) j ≡ 0

pub ends_begin : (k d : ℕ) → Ended 0 k d 0 1
ends_begin k d =
    record {
      ordered = omega arith;
      within = omega arith;
      below = λ j h. absurd (omega arith);
      beyond = λ j h. get_or-eq_default (entries_after 0 k d) 0 (omega (arith, entries_length 0 k d));
    }

-- such a row stands in the scratch
pub row_there : (t k d from to : ℕ) (s₀ s : List ℕ) → d < 2 ^ k → Filling t k d s₀ s → Ended t k d from to → Row (t + 1) from to s
row_there t k d from to s₀ s h is z =
    record {
      ordered = z.ordered;
      within = z.within;
      small = λ j l. fill_le t k d s₀ s h is j (omega arith);
      below = λ j l. fill_at t k d s₀ s is j (omega (arith, z.ordered, z.within)) ∙ z.below j l;
      beyond = λ j a l. fill_at t k d s₀ s is j (omega arith) ∙ z.beyond j a;
    }

-- a block makes 0 of two zeros
none_next : (t k d j : ℕ) → entry (entries_after t k d) j ≡ 0 → before (entry (entries_after t k d)) j ≡ 0 → entry (entries_after (t + 1) k d) j ≡ 0
none_next t k d j x y = ap (λ (v : ℕ). entry (entries_after v k d) j) (add-one t) ∙ entries_step t k d j ∙ ap₂ (next_entry k d) x y ∙ next_none k d

module _ (t k d from to from' to' : ℕ) (s₀ s : List ℕ) (is : Filling (t + 1) k d s₀ s) (z : Ended t k d from to) where
  low_none : (j : ℕ) → j < from → entry (entries_after (t + 1) k d) j ≡ 0
  low_none zero h = none_next t k d 0 (z.below 0 h) refl
  low_none (suc j) h = none_next t k d (suc j) (z.below (suc j) h) (z.below j (omega arith))

  high_none : (j : ℕ) → to + 1 ≤ j → entry (entries_after (t + 1) k d) j ≡ 0
  high_none zero h = absurd (omega arith)
  high_none (suc j) h = none_next t k d (suc j) (z.beyond (suc j) (omega arith)) (z.beyond j (omega arith))

  pub ends_more : from ≤ from' → from' ≤ to' → to' ≤ to + 1 → ((j : ℕ) → from ≤ j → j < from' → get_or s j 0 ≡ 0) → ((j : ℕ) → to' ≤ j → j < to + 1 → get_or s j 0 ≡ 0)
      → Ended (t + 1) k d from' to'
  ends_more a b c low high =
      record {
        ordered = b;
        within = omega (arith, z.within);
        below = λ j h. under j h (dec_lt j from);
        beyond = λ j h. over j h (dec_lt j (to + 1));
      }
    where
      under : (j : ℕ) → j < from' → Dec (j < from) → entry (entries_after (t + 1) k d) j ≡ 0
      under j h (yes l) = low_none j l
      under j h (no l) = sym (fill_at (t + 1) k d s₀ s is j (omega (arith, z.within))) ∙ low j (omega arith) h

      over : (j : ℕ) → to' ≤ j → Dec (j < to + 1) → entry (entries_after (t + 1) k d) j ≡ 0
      over j h (yes l) = sym (fill_at (t + 1) k d s₀ s is j (omega (arith, z.within))) ∙ high j h l
      over j h (no l) = high_none j (omega arith)

-- zeros of a part of a scratch are zeros of the scratch
pub none_within : (s : List ℕ) (from to lo hi : ℕ) → hi ≤ to - from → AllWithin (λ x. x ≡ 0) (take (to - from) (drop from s)) lo hi
    → (j : ℕ) → from + lo ≤ j → j < from + hi → get_or s j 0 ≡ 0
none_within s from to lo hi room none j a h =
    let e : from + (j - from) ≡ j = omega arith in
    ap (λ (i : ℕ). get_or s i 0) (sym e) ∙ sym (get_or-drop from s (j - from) 0) ∙ sym (get_or-take (to - from) (drop from s) (j - from) 0 (omega arith))
    ∙ none (j - from) 0 (omega arith) (omega arith)
