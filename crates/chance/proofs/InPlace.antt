-- A row made in place, from the highest entry down: what is above j is made, and the rest is as it was.
use mathlib.Core.Path.{◌≡◌, refl, sym, ap, ap₂, ◌∙◌}
use mathlib.Core.List.{List, ◌++◌}
use Prim.Native.Nat.{ℕ, zero, suc, ◌+◌, ◌-◌, ◌≤◌, ◌<◌}
use native.Mathlib.Omega.{arith}
use native.Mathlib.Decide.{dec_lt}
use lib.ListN.{length, get_or, take, drop, set, length-append, length-drop, length-set, get_or-append, get_or-eq_default}
use lib.Seq.{length-take-le, get_or-append-add, get_or-take, get_or-drop, get_or-set_same, get_or-set_other, take-set-le, drop-set-lt, ext_get_or}
use Rattle.chance.specs.Chance.{before}
use Rattle.chance.specs.Entries.{entry, next_entry, next_row}
use Rattle.chance.specs.Zeros.{Row}
use Rattle.chance.proofs.Rows.{next_none, next_length, next_at}

-- the scratch after a block
abbrev pub after : ℕ → ℕ → ℕ → List ℕ → List ℕ
after k d m s = next_row k d (take m s) ++ drop (suc m) s

-- ---- entry by entry

module _ (k d m : ℕ) (s : List ℕ) (room : m < length s) where
  made : length (next_row k d (take m s)) ≡ suc m
  made = next_length k d (take m s) ∙ ap suc (length-take-le m s (omega arith))

  pub after_length : length (after k d m s) ≡ length s
  after_length = omega (arith, length-append (next_row k d (take m s)) (drop (suc m) s), made, length-drop (suc m) s)

  after_past : (u : ℕ) → m < u → get_or (after k d m s) u 0 ≡ get_or s u 0
  after_past u h =
      let e : suc m + (u - suc m) ≡ u = omega arith in
      ap (λ (v : ℕ). get_or (after k d m s) v 0) (sym e ∙ ap (λ (v : ℕ). v + (u - suc m)) (sym made))
      ∙ get_or-append-add (next_row k d (take m s)) (drop (suc m) s) (u - suc m) 0
      ∙ get_or-drop (suc m) s (u - suc m) 0 ∙ ap (λ (v : ℕ). get_or s v 0) e

  module _ (missing : get_or s m 0 ≡ 0) where
    old : (j : ℕ) → j ≤ m → entry (take m s) j ≡ entry s j
    old j h = go (dec_lt j m)
      where
        go : Dec (j < m) → entry (take m s) j ≡ entry s j
        go (yes l) = get_or-take m s j 0 l
        go (no l) =
            let e : m ≡ j = omega arith in
            get_or-eq_default (take m s) 0 (omega (arith, length-take-le m s (let i : m ≤ length s = omega arith in i))) ∙ sym missing ∙ ap (λ (v : ℕ). get_or s v 0) e

    old_before : (j : ℕ) → j ≤ m → before (entry (take m s)) j ≡ before (entry s) j
    old_before zero h = refl
    old_before (suc j) h = old j (omega arith)

    after_at : (j : ℕ) → j ≤ m → get_or (after k d m s) j 0 ≡ next_entry k d (entry s j) (before (entry s) j)
    after_at j h =
        get_or-append (next_row k d (take m s)) (drop (suc m) s) 0 j (omega (arith, made))
        ∙ next_at k d (take m s) j ∙ ap₂ (next_entry k d) (old j h) (old_before j h)

-- ---- the loop

pub record Making (k d m : ℕ) (s₀ : List ℕ) (j : ℕ) (s : List ℕ) : Type 0 where
  pub size : length s ≡ length s₀
  pub within : j ≤ m
  pub below : (u : ℕ) → u ≤ j → get_or s u 0 ≡ get_or s₀ u 0
  pub above : (u : ℕ) → j < u → get_or s u 0 ≡ get_or (after k d m s₀) u 0

module _ (k d m : ℕ) (s₀ : List ℕ) (room : m < length s₀) (missing : get_or s₀ m 0 ≡ 0) where
  -- of two zeros a zero is made
  none_made : (u : ℕ) → u ≤ m → entry s₀ u ≡ 0 → before (entry s₀) u ≡ 0 → get_or (after k d m s₀) u 0 ≡ 0
  none_made u h x y = after_at k d m s₀ room missing u h ∙ ap₂ (next_entry k d) x y ∙ next_none k d

  pub make_more : (j : ℕ) (s : List ℕ) (x : ℕ) → 0 < j → Making k d m s₀ j s → x ≡ next_entry k d (get_or s j 0) (get_or s (j - 1) 0) → Making k d m s₀ (j - 1) (set s j x)
  make_more zero s x pos t is = absurd (omega arith)
  make_more (suc i) s x pos t is =
      let e : suc i - 1 ≡ i = omega arith in
      let now : x ≡ get_or (after k d m s₀) (suc i) 0 =
      is ∙ ap₂ (next_entry k d) (t.below (suc i) (omega arith)) (ap (λ (v : ℕ). get_or s v 0) e ∙ t.below i (omega arith))
      ∙ sym (after_at k d m s₀ room missing (suc i) t.within) in
      record {
        size = length-set s (suc i) x ∙ t.size;
        within = omega (arith, t.within);
        below = λ u h. get_or-set_other s (suc i) u x 0 (λ z. omega arith) ∙ t.below u (omega arith);
        above = λ u h. go u now (dec_lt (suc i) u) (omega arith);
      }
    where
      go : (u : ℕ) → x ≡ get_or (after k d m s₀) (suc i) 0 → Dec (suc i < u) → suc i ≤ u → get_or (set s (suc i) x) u 0 ≡ get_or (after k d m s₀) u 0
      go u now (yes l) h = get_or-set_other s (suc i) u x 0 (λ z. omega arith) ∙ t.above u l
      go u now (no l) h =
          let e : suc i ≡ u = omega arith in
          ap (λ (v : ℕ). get_or (set s (suc i) x) v 0) (sym e)
          ∙ get_or-set_same s (suc i) x 0 (omega (arith, t.size, t.within)) ∙ now ∙ ap (λ (v : ℕ). get_or (after k d m s₀) v 0) e

  module _ (from to : ℕ) (row : Row m from to s₀) where
    beyond : (u : ℕ) → to < u → get_or s₀ u 0 ≡ get_or (after k d m s₀) u 0
    beyond zero h = absurd (omega arith)
    beyond (suc u) h = go (dec_lt m (suc u)) (dec_lt (suc u) m)
      where
        go : Dec (m < suc u) → Dec (suc u < m) → get_or s₀ (suc u) 0 ≡ get_or (after k d m s₀) (suc u) 0
        go (yes l) _ = sym (after_past k d m s₀ room (suc u) l)
        go (no l) (yes i) =
            let x = row.beyond (suc u) (omega arith) i in
            x ∙ sym (none_made (suc u) (omega arith) x (row.beyond u (omega arith) (omega arith)))
        go (no l) (no i) =
            let e : m ≡ suc u = omega arith in
            let x : get_or s₀ (suc u) 0 ≡ 0 = ap (λ (v : ℕ). get_or s₀ v 0) (sym e) ∙ missing in
            x ∙ sym (none_made (suc u) (omega arith) x (row.beyond u (omega arith) (omega arith)))

    pub make_begins : Making k d m s₀ to s₀
    make_begins = record { size = refl; within = row.within; below = λ u h. refl; above = beyond }

    none_before : (u : ℕ) → u ≤ from → before (entry s₀) u ≡ 0
    none_before zero h = refl
    none_before (suc u) h = row.below u (omega arith)

    pub make_ends : (s : List ℕ) (x : ℕ) → Making k d m s₀ from s → x ≡ next_entry k d (get_or s from 0) 0 → set s from x ≡ after k d m s₀
    make_ends s x t is =
        ext_get_or 0 (set s from x) (after k d m s₀) (length-set s from x ∙ t.size ∙ sym (after_length k d m s₀ room)) (λ u h. go u (dec_lt u from) (dec_lt from u))
      where
        go : (u : ℕ) → Dec (u < from) → Dec (from < u) → get_or (set s from x) u 0 ≡ get_or (after k d m s₀) u 0
        go u (yes l) _ =
            let z = row.below u l in
            get_or-set_other s from u x 0 (λ e. omega arith) ∙ t.below u (omega arith) ∙ z
            ∙ sym (none_made u (omega (arith, t.within)) z (none_before u (omega arith)))
        go u (no l) (yes i) = get_or-set_other s from u x 0 (λ e. omega arith) ∙ t.above u i
        go u (no l) (no i) =
            let e : from ≡ u = omega arith in
            ap (λ (v : ℕ). get_or (set s from x) v 0) (sym e) ∙ get_or-set_same s from x 0 (omega (arith, t.size, t.within)) ∙ is
            ∙ ap₂ (next_entry k d) (t.below from (omega arith)) (sym (none_before from (omega arith)))
            ∙ sym (after_at k d m s₀ room missing from t.within) ∙ ap (λ (v : ℕ). get_or (after k d m s₀) v 0) e

-- the entry past the row, made 0 first, is not read
pub after_cleared : (k d m : ℕ) (s : List ℕ) → after k d m (set s m 0) ≡ after k d m s
after_cleared k d m s = ap₂ (λ (x y : List ℕ). next_row k d x ++ y) (take-set-le m s m 0 (omega arith)) (drop-set-lt (suc m) s m 0 (omega arith))

-- .. and the row is as it was
pub cleared : (m from to : ℕ) (s : List ℕ) → Row m from to s → Row m from to (set s m 0)
cleared m from to s row =
    record {
      ordered = row.ordered;
      within = row.within;
      small = λ j h. rw (other j h) (row.small j h);
      below = λ j h. other j (omega (arith, row.ordered, row.within)) ∙ row.below j h;
      beyond = λ j a h. other j h ∙ row.beyond j a h;
    }
  where
    other : (j : ℕ) → j < m → get_or (set s m 0) j 0 ≡ get_or s j 0
    other j h = get_or-set_other s m j 0 0 (λ z. omega arith)
