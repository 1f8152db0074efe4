-- Laws of the header: what its columns read as, and when they are a number's.
use mathlib.Core.Path.{◌≡◌, refl, sym, ap, ◌∙◌}
use mathlib.Core.Bool.{Bool, true, false, cond}
use mathlib.Core.List.{List}
use Prim.Native.Nat.{ℕ, zero, suc, ◌+◌, ◌-◌, ◌*◌, ◌/◌, ◌%◌, ◌^◌, ◌≤◌, ◌<◌}
use native.Mathlib.Nat.{pow-suc, pow-le-pow_right}
use native.Mathlib.Numerals.{add-one}
use native.Mathlib.Omega.{arith}
use lib.Dec.{leb, eqb}
use lib.Arith.{lt_of_le-ne}
use lib.ListN.{length, get_or, take, drop, length-drop, get_or-eq_default}
use lib.Seq.{take_all, length-take-le, ext_get_or, get_or-take, get_or-drop}
use borrow.Author.Tests.{eq-eqb, ne_eqb, le-leb, eqb-true, eqb-false, leb-true, leb-false}
use Rattle.counting.proofs.Counts.{get_d_list}
use Rattle.sheet.specs.Columns.{symbol, symbol_at, columns}
use Rattle.sheet.proofs.Writing.{length_columns, shifted_none, shifted_more}
use Rattle.sheet.specs.Header.{digit_of, read_to, match_to, field_at, is_field, FieldsAre, block_size_of, width_of, raw_of, well_formed, input_refusal}

-- ---- what the columns read as

pub digit_below : (c : ℕ) → digit_of c < 10
unfolding digit_of
digit_below c = by_low (leb 48 c) (leb c 57) refl
  where
    by_low : (a b : Bool) → leb c 57 ≡ b → cond a (cond b (c - 48) 0) 0 < 10
    by_low true true e = omega (arith, leb-true c 57 e)
    by_low true false e = omega arith
    by_low false b e = omega arith

pub read_more : (s : List ℕ) (at i : ℕ) → read_to s at (i + 1) ≡ 10 * read_to s at i + digit_of (get_or s (at + i) 0)
unfolding read_to
read_more s at i = rw add-one

pub read_below : (s : List ℕ) (at i : ℕ) → read_to s at i < 10 ^ i
unfolding read_to
read_below s at zero = omega arith
read_below s at (suc i) = rw pow-suc (omega (arith, read_below s at i, digit_below (get_or s (at + i) 0)))

-- what the first i of 6 columns read as
pub read_small : (s : List ℕ) (at i : ℕ) → i ≤ 6 → read_to s at i < 1000000
read_small s at i h = let ten : 0 < 10 = omega arith in omega (arith, read_below s at i, pow-le-pow_right ten h)

-- ---- when they are a number's

pub match_more : (s : List ℕ) (at w n i : ℕ) → get_or s (at + i) 0 ≡ symbol_at n (w - 1 - i) → match_to s at w n (i + 1) ≡ match_to s at w n i
unfolding match_to
match_more s at w n i e = rw add-one (simp (eq-eqb _ _ e))

pub match_none : (s : List ℕ) (at w n i : ℕ) → (get_or s (at + i) 0 ≡ symbol_at n (w - 1 - i) → ⊥) → match_to s at w n (i + 1) ≡ false
unfolding match_to
match_none s at w n i h = rw add-one (simp (ne_eqb _ _ h))

pub match_all : (s : List ℕ) (at w n : ℕ) → match_to s at w n 0 ≡ true
unfolding match_to
match_all s at w n = refl

-- ---- the whole header

both : (a b : Bool) → cond a b false ≡ true → (a ≡ true) × (b ≡ true)
both true b h = (refl, h)
both false b h = let z : ◌≡◌ {A = ℕ} 0 1 = cc in absurd (omega arith)

pub formed_long : (s : List ℕ) → well_formed s ≡ true → 13 ≤ length s
unfolding well_formed
formed_long s h = leb-true 13 (length s) (both (leb 13 (length s)) _ h).0

passed : (t : Bool) (x : ℕ) → cond t x 15 ≡ 0 → (t ≡ true) × (x ≡ 0)
passed true x e = (refl, e)
passed false x e = absurd (omega arith)

-- what an input that is not refused has
pub record Taken (s : List ℕ) : Type 0 where
  pub long : 13 ≤ length s
  pub block : block_size_of s ≤ 64
  pub width : width_of s ≤ 8
  pub raw : length (raw_of s) ≤ 8192

pub taken : (s : List ℕ) → input_refusal s ≡ 0 → Taken s
unfolding input_refusal
taken s h =
    let p = passed (well_formed s) _ h in
    let q = passed (leb (block_size_of s) 64) _ p.1 in
    let r = passed (leb (width_of s) 8) _ q.1 in
    let t = passed (leb (length (raw_of s)) 8192) 0 r.1 in
    record {
      long = formed_long s p.0;
      block = leb-true (block_size_of s) 64 q.0;
      width = leb-true (width_of s) 8 r.0;
      raw = leb-true (length (raw_of s)) 8192 t.0;
    }

-- the part of an input past its header
pub raw_is : (s : List ℕ) → take (length s - 13) (drop 13 s) ≡ raw_of s
raw_is s = let all : length (drop 13 s) ≤ length s - 13 = omega (arith, length-drop 13 s) in take_all (length s - 13) (drop 13 s) all

-- ---- a field is a number in 6 columns

-- a space and a digit are no 0, so what matches lies within the input
symbol_some : (i rest : ℕ) → 1 ≤ symbol i rest
symbol_some zero rest = omega arith
symbol_some (suc i) zero = omega arith
symbol_some (suc i) (suc rest) = omega arith

digit_back : (r : ℕ) → r < 10 → digit_of (48 + r) ≡ r
unfolding digit_of
digit_back r h =
    let low : 48 ≤ 48 + r = omega arith in
    let high : 48 + r ≤ 57 = omega arith in
    simp (le-leb _ _ low, le-leb _ _ high) (omega arith)

digit_symbol : (i rest : ℕ) → digit_of (symbol i rest) ≡ rest % 10
unfolding digit_of
digit_symbol zero rest = digit_back (rest % 10) (omega arith)
digit_symbol (suc i) zero = refl
digit_symbol (suc i) (suc rest) = digit_back (suc rest % 10) (omega arith)

match_at : (s : List ℕ) (at w n m i : ℕ) → match_to s at w n m ≡ true → i < m → get_or s (at + i) 0 ≡ symbol_at n (w - 1 - i)
unfolding match_to
match_at s at w n zero i h l = absurd (omega arith)
match_at s at w n (suc m) i h l =
    let p = both (eqb (get_or s (at + m) 0) (symbol_at n (w - 1 - m))) (match_to s at w n m) h in
    by_place (eqb i m) refl (eqb-true _ _ p.0) (match_at s at w n m i p.1)
  where
    by_place : (t : Bool) → eqb i m ≡ t → get_or s (at + m) 0 ≡ symbol_at n (w - 1 - m)
        → (i < m → get_or s (at + i) 0 ≡ symbol_at n (w - 1 - i)) → get_or s (at + i) 0 ≡ symbol_at n (w - 1 - i)
    by_place true e last before =
        let same : i ≡ m = eqb-true i m e in
        ap (λ (j : ℕ). get_or s (at + j) 0) same ∙ last ∙ ap (λ (j : ℕ). symbol_at n (w - 1 - j)) (sym same)
    by_place false e last before =
        let other : i ≡ m → ⊥ = eqb-false i m e in
        let most : i ≤ m = omega arith in
        before (lt_of_le-ne most other)

matched : (s : List ℕ) (at w n m : ℕ) → ((i : ℕ) → i < m → get_or s (at + i) 0 ≡ symbol_at n (w - 1 - i)) → match_to s at w n m ≡ true
unfolding match_to
matched s at w n zero h = refl
matched s at w n (suc m) h = simp (eq-eqb _ _ (h m (omega arith)), matched s at w n m (λ i l. h i (omega arith)))

column_at : (w n i : ℕ) → i < w → get_or (columns w n) i 0 ≡ symbol_at n (w - 1 - i)
unfolding columns
column_at w n i h = get_d_list w (λ j. symbol_at n (w - 1 - j)) i h

within : (s : List ℕ) (j : ℕ) → 1 ≤ get_or s j 0 → j < length s
within s j h = by_test (leb (length s) j) refl
  where
    by_test : (t : Bool) → leb (length s) j ≡ t → j < length s
    by_test true e = let past : length s ≤ j = leb-true (length s) j e in absurd (omega (arith, get_or-eq_default s 0 past))
    by_test false e = leb-false (length s) j e

module _ (s : List ℕ) (at : ℕ) where
  is_written : is_field s at ≡ true → take 6 (drop at s) ≡ columns 6 (field_at s at)
  unfolding symbol_at
  is_written h =
      let n = field_at s at in
      let last : get_or s (at + 5) 0 ≡ symbol_at n 0 = match_at s at 6 n 6 5 h (omega arith) in
      let room : at + 5 < length s = within s (at + 5) (omega (arith, last, symbol_some 0 (n / 10 ^ 0))) in
      let six : 6 ≤ length (drop at s) = omega (arith, length-drop at s) in
      let size : length (take 6 (drop at s)) ≡ 6 = length-take-le 6 (drop at s) six in
      ext_get_or 0 (take 6 (drop at s)) (columns 6 n) (size ∙ sym (length_columns 6 n))
      (λ i l. let small : i < 6 = omega arith in get_or-take 6 (drop at s) i 0 small ∙ get_or-drop at s i 0 ∙ match_at s at 6 n 6 i h small ∙ sym (column_at 6 n i small))

  module _ (n : ℕ) (few : n < 1000000) (e : take 6 (drop at s) ≡ columns 6 n) where
    column_is : (i : ℕ) → i < 6 → get_or s (at + i) 0 ≡ symbol_at n (5 - i)
    column_is i h = sym (get_or-drop at s i 0) ∙ sym (get_or-take 6 (drop at s) i 0 h) ∙ ap (λ (l : List ℕ). get_or l i 0) e ∙ column_at 6 n i h

    -- what is read of the first i columns is what stands before the others
    read_is : (i : ℕ) → i ≤ 6 → read_to s at i ≡ n / 10 ^ (6 - i)
    unfolding read_to symbol_at
    read_is zero h = omega arith
    read_is (suc i) h =
        let before : i ≤ 6 = omega arith in
        let here : i < 6 = omega arith in
        let j : ℕ = 5 - i in
        let next : 6 - i ≡ j + 1 = omega arith in
        let this : 6 - suc i ≡ j = omega arith in
        let q : ℕ = n / 10 ^ j in
        let tens : read_to s at i ≡ q / 10 = read_is i before ∙ ap (λ (k : ℕ). n / 10 ^ k) next ∙ sym (shifted_more n j) in
        let digit : digit_of (get_or s (at + i) 0) ≡ q % 10 = ap digit_of (column_is i here) ∙ digit_symbol j q in
        rw (tens, digit, this) (omega arith)

    is_read : (is_field s at ≡ true) × (field_at s at ≡ n)
    is_read =
        let same : field_at s at ≡ n = read_is 6 (omega arith) ∙ sym (shifted_none n) in
        (ap (λ (k : ℕ). match_to s at 6 k 6) same ∙ matched s at 6 n 6 column_is, same)

pub fields_are : FieldsAre
fields_are s at = record { written = is_written s at; read = is_read s at }
