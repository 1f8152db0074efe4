-- Laws of numbers in columns, written into a buffer.
use mathlib.Core.Path.{◌≡◌, refl, sym, ap, ◌∙◌}
use mathlib.Core.List.{List, [], ◌∷◌, ◌++◌, append_assoc, append-nil}
use Prim.Native.Nat.{ℕ, zero, suc, ◌+◌, ◌-◌, ◌*◌, ◌/◌, ◌%◌, ◌^◌, ◌≤◌, ◌<◌}
use native.Mathlib.Nat.{mul-le-mul_left, mul-zero, mul-suc, pow-suc, div-one, div-div-eq-div-mul}
use native.Mathlib.Numerals.{add-one}
use native.Mathlib.Omega.{arith}
use lib.ListN.{length, take, get_or, set, length-append}
use lib.Seq.{take-suc, length-take-le}
use Rattle.counting.specs.Sample.{list_of}
use Rattle.counting.proofs.Counts.{length_list}
use borrow.Author.Tests.{le-leb, lt-leb, leb-true}
use lib.Dec.{leb}
use mathlib.Core.Bool.{Bool, true, false}
use Rattle.sheet.specs.Lines.{three_lines, Printed}
use Rattle.sheet.specs.Columns.{symbol, symbol_at, columns, fields, line}
use Rattle.counting.specs.Buffer.{put}
use Rattle.counting.proofs.Buffers.{put_none, put_more, put_put, put_first}

-- ---- characters

pub symbol_last : (i rest : ℕ) → i ≡ 0 → 48 + rest % 10 ≡ symbol i rest
symbol_last i rest e = rw e

pub symbol_space : (i rest : ℕ) → (i ≡ 0 → ⊥) → rest ≡ 0 → 32 ≡ symbol i rest
symbol_space zero rest h e = absurd (h refl)
symbol_space (suc i) rest h e = rw e

pub symbol_digit : (i rest : ℕ) → (i ≡ 0 → ⊥) → (rest ≡ 0 → ⊥) → 48 + rest % 10 ≡ symbol i rest
symbol_digit zero rest h g = absurd (h refl)
symbol_digit (suc i) zero h g = absurd (g refl)
symbol_digit (suc i) (suc rest) h g = refl

-- one place further to the left
pub shifted_none : (n : ℕ) → n ≡ n / 10 ^ 0
shifted_none n = sym (div-one n)

pub shifted_more : (n i : ℕ) → n / 10 ^ i / 10 ≡ n / 10 ^ (i + 1)
shifted_more n i = div-div-eq-div-mul n (10 ^ i) 10 ∙ rw (add-one, pow-suc)

-- ---- lengths

pub length_columns : (w n : ℕ) → length (columns w n) ≡ w
unfolding columns
length_columns w n = length_list w (λ i. symbol_at n (w - 1 - i))

pub length_fields : (w : ℕ) (ns : List ℕ) → length (fields w ns) ≡ w * length ns
unfolding fields
length_fields w [] = sym (mul-zero w)
length_fields w (n ∷ ns) =
    length-append (columns w n) (fields w ns) ∙ rw (length_columns w n, length_fields w ns) (omega (arith, mul-suc w (length ns)))

pub length_line : (w : ℕ) (ns : List ℕ) → length (line w ns) ≡ w * length ns + 1
unfolding line
length_line w ns = length-append (fields w ns) (10 ∷ []) ∙ rw (length_fields w ns)

-- ---- one more

pub list_more : (m : ℕ) (f : ℕ → ℕ) → list_of (m + 1) f ≡ list_of m f ++ (f m ∷ [])
unfolding list_of
list_more m f = rw add-one

pub fields_more : (w : ℕ) (ns : List ℕ) (n : ℕ) → fields w (ns ++ (n ∷ [])) ≡ fields w ns ++ columns w n
unfolding fields
fields_more w [] n = append-nil (columns w n)
fields_more w (m ∷ ns) n = ap (λ (s : List ℕ). columns w m ++ s) (fields_more w ns n) ∙ sym (append_assoc (columns w m) (fields w ns) (columns w n))

-- ---- a field, character by character

-- the first i characters of n's w columns
abbrev pub front : ℕ → ℕ → ℕ → List ℕ
front w n i = list_of i (λ j. symbol_at n (w - 1 - j))

pub front_none : (out : List ℕ) (at w n : ℕ) → out ≡ put out at (front w n 0)
unfolding list_of
front_none out at w n = sym (put_none out at)

pub front_more : (out : List ℕ) (at w n i : ℕ) → at + i < length out
    → set (put out at (front w n i)) (at + i) (symbol_at n (w - 1 - i)) ≡ put out at (front w n (i + 1))
front_more out at w n i h =
    let f : ℕ → ℕ = λ j. symbol_at n (w - 1 - j) in
    put_more out at (front w n i) (f i) (at + i) (rw length_list) h ∙ ap (put out at) (sym (list_more i f))

pub front_all : (out : List ℕ) (at w n : ℕ) → put out at (front w n w) ≡ put out at (columns w n)
unfolding columns
front_all out at w n = refl

-- ---- a line, field by field

pub fields_none : (out : List ℕ) (at w : ℕ) (ns : List ℕ) → out ≡ put out at (fields w (take 0 ns))
unfolding fields
fields_none out at w ns = sym (put_none out at)

-- w more columns are left for field i
pub room_more : (at w i m all : ℕ) → at + w * m ≤ all → i < m → at + w * i + w ≤ all
room_more at w i m all h l = let g : suc i ≤ m = l in omega (arith, mul-le-mul_left w g, mul-suc w i)

pub place_more : (at w i : ℕ) → at + w * i + w ≡ at + w * (i + 1)
place_more at w i = rw add-one (omega (arith, mul-suc w i))

pub fields_next : (out : List ℕ) (at w : ℕ) (ns : List ℕ) (i : ℕ) → i < length ns → at + w * length ns ≤ length out
    → put (put out at (fields w (take i ns))) (at + w * i) (columns w (get_or ns i 0)) ≡ put out at (fields w (take (i + 1) ns))
fields_next out at w ns i h room =
    let before : i ≤ length ns = omega arith in
    let here : at + length (fields w (take i ns)) ≡ at + w * i = rw (length_fields, length-take-le i ns before) in
    let fit : at + w * i ≤ length out = omega (arith, room_more at w i (length ns) (length out) room h) in
    put_put out at (fields w (take i ns)) (columns w (get_or ns i 0)) (at + w * i) here fit
    ∙ ap (put out at) (sym (fields_more w (take i ns) (get_or ns i 0)) ∙ ap (fields w) (sym (take-suc ns i 0 h) ∙ rw add-one))

pub line_end : (out : List ℕ) (at w : ℕ) (ns : List ℕ) (m : ℕ) → m ≡ at + w * length ns → m < length out
    → set (put out at (fields w ns)) m 10 ≡ put out at (line w ns)
unfolding line
line_end out at w ns m e h = put_more out at (fields w ns) 10 m (rw length_fields (sym e)) h

-- ---- whole sheets

-- a buffer that has room, and one that has none
pub printed : (s out : List ℕ) → length s ≤ length out → Printed s out (length s) (put out 0 s)
printed s out h = record { answered = simp (le-leb _ _ h); written = simp (le-leb _ _ h) (put_first out s) }

pub unprinted : (s out : List ℕ) → length out < length s → Printed s out 0 out
unprinted s out h = record { answered = simp (lt-leb _ _ h); written = simp (lt-leb _ _ h) }

pub length_lines : (counts bits patterns : List ℕ) → length counts ≡ 6 → length patterns ≡ 2 → length (three_lines counts bits patterns) ≡ 91 + 8 * length bits
unfolding three_lines
length_lines counts bits patterns c p =
    length-append (line 8 counts ++ line 8 bits) (line 20 patterns)
    ∙ rw (length-append (line 8 counts) (line 8 bits), length_line 8 counts, length_line 8 bits, length_line 20 patterns, c, p) (omega arith)

pub lines_put : (out counts bits patterns : List ℕ) (a b : ℕ) → a ≡ 49 → b ≡ a + 8 * length bits + 1 → b ≤ length out → length counts ≡ 6
    → put (put (put out 0 (line 8 counts)) a (line 8 bits)) b (line 20 patterns) ≡ put out 0 (three_lines counts bits patterns)
unfolding three_lines
lines_put out counts bits patterns a b p q h c =
    let first : 0 + length (line 8 counts) ≡ a = rw (length_line 8 counts, c) (omega arith) in
    let second : 0 + length (line 8 counts ++ line 8 bits) ≡ b = rw (length-append (line 8 counts) (line 8 bits), length_line 8 counts, length_line 8 bits, c) (omega arith) in
    let fits : a ≤ length out = omega arith in
    ap (λ (o : List ℕ). put o b (line 20 patterns)) (put_put out 0 (line 8 counts) (line 8 bits) a first fits)
    ∙ put_put out 0 (line 8 counts ++ line 8 bits) (line 20 patterns) b second h

-- what was printed lies within the buffer
pub printed_within : (s out : List ℕ) (n : ℕ) (out' : List ℕ) → Printed s out n out' → n ≤ length out
printed_within s out n out' p = by_test (leb (length s) (length out)) refl
  where
    by_test : (t : Bool) → leb (length s) (length out) ≡ t → n ≤ length out
    by_test true e = let m : n ≡ length s = p.answered ∙ simp e in omega (arith, leb-true (length s) (length out) e)
    by_test false e = let m : n ≡ 0 = p.answered ∙ simp e in omega arith
