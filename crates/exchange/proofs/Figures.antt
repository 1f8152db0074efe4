-- Laws of decimal digits: how many there are, and digits and lists of numbers put into a buffer piece by piece.
use mathlib.Core.Path.{◌≡◌, refl, sym, ap, ap₂, ◌∙◌}
use mathlib.Core.Bool.{Bool, true, false, cond}
use mathlib.Core.List.{List, [], ◌∷◌, ◌++◌, append_assoc, append-nil}
use Prim.Native.Nat.{ℕ, zero, suc, ◌+◌, ◌-◌, ◌*◌, ◌/◌, ◌%◌, ◌^◌, ◌≤◌, ◌<◌}
use native.Mathlib.Nat.{pow-suc, one-le-pow, div-div-eq-div-mul, mul_comm}
use native.Mathlib.Numerals.{add-one}
use native.Mathlib.Omega.{arith}
use lib.Dec.{ltb, leb}
use lib.ListN.{length, set, length-append}
use borrow.Author.Tests.{ltb-true, ltb-false, lt-ltb, le-ltb, leb-true, leb-false, lt-leb, le-leb}
use Rattle.counting.specs.Buffer.{put}
use Rattle.exchange.specs.Writer.{digits_of, places, decimal}
use Rattle.counting.proofs.Buffers.{put_none, put_more, put_put}
use Rattle.exchange.proofs.Following.{decimal_one, decimal_more}

-- ---- how many digits

one_digit : (j n : ℕ) → n < 10 → length (digits_of j n) ≡ 1
unfolding digits_of
one_digit zero n h = refl
one_digit (suc j) n h = rw (lt-ltb n 10 h)

more_digits : (k j n : ℕ) → k ≤ j → 10 ^ suc k ≤ n → n < 10 ^ suc (suc k) → length (digits_of (suc j) n) ≡ suc (suc k)
unfolding digits_of
more_digits zero j n l h g =
    let long : 10 ≤ n = h in
    let short : n < 100 = g in
    let few : n / 10 < 10 = omega arith in
    rw (le-ltb n 10 long) (length-append (digits_of j (n / 10)) _ ∙ rw (one_digit j (n / 10) few))
more_digits (suc k) zero n l h g = absurd (omega arith)
more_digits (suc k) (suc j) n l h g =
    let low : 10 ^ suc k * 10 ≤ n = rw pow-suc at h in
    let high : n < 10 ^ suc (suc k) * 10 = rw (pow-suc 10 (suc (suc k))) at g in
    let pos : 1 ≤ 10 ^ suc k = one-le-pow (suc k) 10 (omega arith) in
    let long : 10 ≤ n = omega arith in
    let least : 10 ^ suc k ≤ n / 10 = omega arith in
    let most : n / 10 < 10 ^ suc (suc k) = omega arith in
    rw (le-ltb n 10 long)
    (length-append (digits_of (suc j) (n / 10)) _ ∙ rw (more_digits k j (n / 10) (omega arith) least most) (omega arith))

pub digit_count : (k n : ℕ) → k ≤ 8 → 10 ^ suc k ≤ n → n < 10 ^ suc (suc k) → suc (suc k) ≡ length (decimal n)
unfolding decimal
digit_count k n l h g = sym (more_digits k 8 n l h g)

pub digit_count_one : (n : ℕ) → n < 10 → 1 ≡ length (decimal n)
unfolding decimal
digit_count_one n h = sym (one_digit 9 n h)

-- ---- one more digit for each power of ten

-- how many of the k numbers p, 10 p, 100 p, .. are at most n
unfoldable pub reached : ℕ → ℕ → ℕ → ℕ
reached zero p n = 0
reached (suc k) p n = cond (leb p n) 1 0 + reached k (p * 10) n

reached_tenth : (k p n : ℕ) → reached k (p * 10) n ≡ reached k p (n / 10)
unfolding reached
reached_tenth zero p n = refl
reached_tenth (suc k) p n = ap₂ (λ (b : Bool) (m : ℕ). cond b 1 0 + m) (by_test (leb p (n / 10)) refl) (reached_tenth k (p * 10) n)
  where
    by_test : (b : Bool) → leb p (n / 10) ≡ b → leb (p * 10) n ≡ leb p (n / 10)
    by_test true e = let low : p ≤ n / 10 = leb-true p (n / 10) e in le-leb (p * 10) n (omega arith) ∙ sym e
    by_test false e = let high : n / 10 < p = leb-false p (n / 10) e in lt-leb (p * 10) n (omega arith) ∙ sym e

reached_none : (k p n : ℕ) → n < p → reached k p n ≡ 0
unfolding reached
reached_none zero p n h = refl
reached_none (suc k) p n h = rw (lt-leb p n h, reached_none k (p * 10) n (omega arith))

digits_reached : (k n : ℕ) → 1 + reached k 10 n ≡ length (digits_of k n)
unfolding digits_of reached
digits_reached zero n = refl
digits_reached (suc k) n = by_test (ltb n 10) refl (digits_reached k (n / 10))
  where
    by_test : (b : Bool) → ltb n 10 ≡ b → 1 + reached k 10 (n / 10) ≡ length (digits_of k (n / 10))
        → 1 + (cond (leb 10 n) 1 0 + reached k (10 * 10) n) ≡ length (cond b ((48 + n) ∷ []) (digits_of k (n / 10) ++ ((48 + n % 10) ∷ [])))
    by_test true e r =
        let low : n < 10 = ltb-true n 10 e in
        let none : reached k (10 * 10) n ≡ 0 = reached_none k (10 * 10) n (omega arith) in
        rw (lt-leb 10 n low, none)
    by_test false e r =
        let high : 10 ≤ n = ltb-false n 10 e in
        rw (le-leb 10 n high, reached_tenth k 10 n) (omega (arith, r, length-append (digits_of k (n / 10)) ((48 + n % 10) ∷ [])))

pub decimal_reached : (n : ℕ) → 1 + reached 9 10 n ≡ length (decimal n)
unfolding decimal
decimal_reached n = digits_reached 9 n

pub reached_next : (i n : ℕ) → i < 9 → reached (9 - i) (10 ^ suc i) n ≡ cond (leb (10 ^ i * 10) n) 1 0 + reached (9 - (i + 1)) (10 ^ suc (i + 1)) n
unfolding reached
reached_next i n h =
    let less : 9 - i ≡ suc (9 - (i + 1)) = omega arith in
    let p : 10 ^ suc i ≡ 10 ^ i * 10 = pow-suc 10 i in
    let q : 10 ^ suc (i + 1) ≡ 10 ^ i * 10 * 10 = rw add-one (pow-suc 10 (suc i) ∙ ap (λ (m : ℕ). m * 10) p) in
    rw (less, p, q)

pub reached_none_left : (i n : ℕ) → i ≡ 9 → reached (9 - i) (10 ^ suc i) n ≡ 0
unfolding reached
reached_none_left i n e = rw e

pub one_at_most : (b : Bool) → cond b 1 0 ≤ 1
one_at_most true = omega arith
one_at_most false = omega arith

-- ---- at most so many

-- a number below 10 ^ (k + 1) has k + 1 digits at most
few_digits : (k j n : ℕ) → n < 10 ^ suc k → length (digits_of j n) ≤ suc k
unfolding digits_of
few_digits k zero n h = omega arith
few_digits zero (suc j) n h = omega (arith, one_digit (suc j) n h)
few_digits (suc k) (suc j) n h = by_test (ltb n 10) refl (few_digits k j (n / 10))
  where
    by_test : (b : Bool) → ltb n 10 ≡ b → (n / 10 < 10 ^ suc k → length (digits_of j (n / 10)) ≤ suc k)
        → length (cond b ((48 + n) ∷ []) (digits_of j (n / 10) ++ ((48 + n % 10) ∷ []))) ≤ suc (suc k)
    by_test true e r = omega arith
    by_test false e r =
        let room : n < 10 ^ suc k * 10 = rw pow-suc at h in
        let fits : n / 10 < 10 ^ suc k = omega arith in
        omega (arith, length-append (digits_of j (n / 10)) ((48 + n % 10) ∷ []), r fits)

pub digits_most : (k n : ℕ) → n < 10 ^ suc k → length (decimal n) ≤ suc k
unfolding decimal
digits_most k n h = few_digits k 9 n h

most_digits : (j n : ℕ) → length (digits_of j n) ≤ suc j
unfolding digits_of
most_digits zero n = omega arith
most_digits (suc j) n = by_test (ltb n 10) (most_digits j (n / 10))
  where
    by_test : (b : Bool) → length (digits_of j (n / 10)) ≤ suc j
        → length (cond b ((48 + n) ∷ []) (digits_of j (n / 10) ++ ((48 + n % 10) ∷ []))) ≤ suc (suc j)
    by_test true r = omega arith
    by_test false r = omega (arith, length-append (digits_of j (n / 10)) ((48 + n % 10) ∷ []))

pub digits_ten : (n : ℕ) → length (decimal n) ≤ 10
unfolding decimal
digits_ten n = most_digits 9 n

-- ---- digits in groups

-- the last k digits stand behind those of what is left of the number
pub decimal_places : (k n : ℕ) → 10 ^ k ≤ n → n ≤ 4294967295 → decimal n ≡ decimal (n / 10 ^ k) ++ places k n
unfolding places
decimal_places zero n h l = rw (append-nil (decimal (n / 1))) (ap decimal (omega arith))
decimal_places (suc k) n h l =
    let low : 10 ^ k * 10 ≤ n = rw pow-suc at h in
    let pos : 1 ≤ 10 ^ k = one-le-pow k 10 (omega arith) in
    let long : 10 ≤ n = omega arith in
    let least : 10 ^ k ≤ n / 10 = omega arith in
    let most : n / 10 ≤ 4294967295 = omega arith in
    let same : n / 10 / 10 ^ k ≡ n / 10 ^ suc k = div-div-eq-div-mul n 10 (10 ^ k) ∙ ap (λ (m : ℕ). n / m) (mul_comm 10 (10 ^ k) ∙ sym (pow-suc 10 k)) in
    decimal_more n long l
    ∙ ap (λ (s : List ℕ). s ++ ((48 + n % 10) ∷ [])) (decimal_places k (n / 10) least most)
    ∙ append_assoc (decimal (n / 10 / 10 ^ k)) (places k (n / 10)) _
    ∙ ap (λ (m : ℕ). decimal m ++ (places k (n / 10) ++ ((48 + n % 10) ∷ []))) same

pub two_places : (n : ℕ) → n < 100 → places 2 n ≡ (48 + n / 10) ∷ (48 + n % 10) ∷ []
unfolding places
two_places n h = let first : n / 10 % 10 ≡ n / 10 = omega arith in rw first

pub four_places : (n : ℕ) → places 4 n ≡ places 2 (n / 100) ++ places 2 (n % 100)
unfolding places
four_places n =
    let a : n / 10 / 10 / 10 % 10 ≡ n / 100 / 10 % 10 = omega arith in
    let b : n / 10 / 10 % 10 ≡ n / 100 % 10 = omega arith in
    let c : n / 10 % 10 ≡ n % 100 / 10 % 10 = omega arith in
    let d : n % 10 ≡ n % 100 % 10 = omega arith in
    cc

-- only the last k digits of the number count
pub four_left : (n : ℕ) → places 4 (n % 10000) ≡ places 4 n
unfolding places
four_left n =
    let a : n % 10000 / 10 / 10 / 10 % 10 ≡ n / 10 / 10 / 10 % 10 = omega arith in
    let b : n % 10000 / 10 / 10 % 10 ≡ n / 10 / 10 % 10 = omega arith in
    let c : n % 10000 / 10 % 10 ≡ n / 10 % 10 = omega arith in
    let d : n % 10000 % 10 ≡ n % 10 = omega arith in
    cc

-- numbers of two, three and four digits
pub decimal_two : (n : ℕ) → 10 ≤ n → n < 100 → decimal n ≡ places 2 n
unfolding places
decimal_two n h l =
    let first : n / 10 < 10 = omega arith in
    let small : n / 10 % 10 ≡ n / 10 = omega arith in
    decimal_more n h (omega arith) ∙ rw (decimal_one (n / 10) first, small)

pub decimal_three : (n : ℕ) → 100 ≤ n → n < 1000 → decimal n ≡ ((48 + n / 100) ∷ []) ++ places 2 (n % 100)
unfolding places
decimal_three n h l =
    let first : n / 100 < 10 = omega arith in
    let a : n / 10 % 10 ≡ n % 100 / 10 % 10 = omega arith in
    let b : n % 10 ≡ n % 100 % 10 = omega arith in
    let front : decimal (n / 100) ≡ (48 + n / 100) ∷ [] = decimal_one (n / 100) first in
    decimal_places 2 n h (omega arith) ∙ rw (front, a, b)

pub decimal_four : (n : ℕ) → 1000 ≤ n → n < 10000 → decimal n ≡ places 4 n
unfolding places
decimal_four n h l =
    let first : n / 1000 < 10 = omega arith in
    let front : decimal (n / 1000) ≡ (48 + n / 1000) ∷ [] = decimal_one (n / 1000) first in
    let a : n / 1000 ≡ n / 10 / 10 / 10 % 10 = omega arith in
    decimal_places 3 n h (omega arith) ∙ rw (front, a)

-- ---- put into a buffer

pub put_one : (out : List ℕ) (at x : ℕ) → at < length out → set out at x ≡ put out at (x ∷ [])
put_one out at x h = ap (λ (o : List ℕ). set o at x) (sym (put_none out at)) ∙ put_more out at [] x at (omega arith) h

pub put_pair : (out : List ℕ) (at n x y : ℕ) → n < 100 → at + 2 ≤ length out → x ≡ 48 + n / 10 → y ≡ 48 + n % 10 → set (set out at x) (at + 1) y ≡ put out at (places 2 n)
put_pair out at n x y small room p q =
    let a : at < length out = omega arith in
    let b : at + 1 < length out = omega arith in
    let last : x ∷ y ∷ [] ≡ places 2 n = ap₂ (λ (v w : ℕ). v ∷ w ∷ []) p q ∙ sym (two_places n small) in
    ap (λ (o : List ℕ). set o (at + 1) y) (put_one out at x a) ∙ put_more out at (x ∷ []) y (at + 1) (omega arith) b ∙ ap (put out at) last

length_places : (k n : ℕ) → length (places k n) ≡ k
unfolding places
length_places zero n = refl
length_places (suc k) n = length-append (places k (n / 10)) _ ∙ rw (length_places k (n / 10)) (omega arith)

-- where s is what is written from `at` on: the place behind it, and the buffer
abbrev pub Stands : List ℕ → ℕ → List ℕ → ℕ → List ℕ → Type 0
Stands out at s to out' = (to ≡ at + length s) × (out' ≡ put out at s)

-- a piece behind another
pub stands_more : (out : List ℕ) (at : ℕ) (s t : List ℕ) (to : ℕ) (out' out'' : List ℕ) → Stands out at s to out' → out'' ≡ put out' to t → to ≤ length out
    → Stands out at (s ++ t) (to + length t) out''
stands_more out at s t to out' out'' h e room =
    (rw length-append (omega (arith, h.0)), e ∙ ap (λ (o : List ℕ). put o to t) h.1 ∙ put_put out at s t to (sym h.0) room)

pub short_one : (out : List ℕ) (at n x : ℕ) → n < 10 → at < length out → x ≡ 48 + n → Stands out at (decimal n) (at + 1) (set out at x)
short_one out at n x small room e = rw (decimal_one n small ∙ ap (λ (y : ℕ). y ∷ []) (sym e)) (refl, put_one out at x room)

pub short_two : (out : List ℕ) (at n : ℕ) (out' : List ℕ) → 10 ≤ n → n < 100 → out' ≡ put out at (places 2 n) → Stands out at (decimal n) (at + 2) out'
short_two out at n out' h l e = rw (decimal_two n h l) (rw length_places, e)

pub short_three : (out : List ℕ) (at n x : ℕ) (out' : List ℕ) → 100 ≤ n → n < 1000 → at < length out → x ≡ 48 + n / 100
    → out' ≡ put (set out at x) (at + 1) (places 2 (n % 100)) → Stands out at (decimal n) (at + 3) out'
short_three out at n x out' h l room p e =
    let s : decimal n ≡ (x ∷ []) ++ places 2 (n % 100) = decimal_three n h l ∙ ap (λ (y : ℕ). (y ∷ []) ++ places 2 (n % 100)) (sym p) in
    let r : Stands out at ((x ∷ []) ++ places 2 (n % 100)) (at + 1 + length (places 2 (n % 100))) out' =
    stands_more out at (x ∷ []) (places 2 (n % 100)) (at + 1) (set out at x) out' (refl, put_one out at x room) e (omega arith) in
    rw s (omega (arith, r.0, length_places 2 (n % 100)), r.1)

pub short_four : (out : List ℕ) (at n : ℕ) (out' : List ℕ) → 1000 ≤ n → n < 10000 → out' ≡ put out at (places 4 n) → Stands out at (decimal n) (at + 4) out'
short_four out at n out' h l e = rw (decimal_four n h l) (rw length_places, e)

pub put_four_pairs : (out : List ℕ) (at n : ℕ) (out' out'' : List ℕ) → at + 4 ≤ length out → out' ≡ put out at (places 2 (n / 100)) → out'' ≡ put out' (at + 2) (places 2 (n % 100))
    → out'' ≡ put out at (places 4 n)
put_four_pairs out at n out' out'' room p q =
    q ∙ ap (λ (o : List ℕ). put o (at + 2) (places 2 (n % 100))) p
    ∙ put_put out at (places 2 (n / 100)) (places 2 (n % 100)) (at + 2) (rw length_places) (omega arith)
    ∙ ap (put out at) (sym (four_places n))

-- four digits behind those of what is left of the number
decimal_long : (n : ℕ) → 10000 ≤ n → n ≤ 4294967295 → decimal n ≡ decimal (n / 10000) ++ places 4 (n % 10000)
decimal_long n h l = decimal_places 4 n h l ∙ ap (λ (s : List ℕ). decimal (n / 10000) ++ s) (sym (four_left n))

pub length_long : (n : ℕ) → 10000 ≤ n → n ≤ 4294967295 → length (decimal n) ≡ length (decimal (n / 10000)) + 4
length_long n h l = ap length (decimal_long n h l) ∙ length-append (decimal (n / 10000)) (places 4 (n % 10000)) ∙ rw length_places

pub long_more : (out : List ℕ) (at n to : ℕ) (out' out'' : List ℕ) → 10000 ≤ n → n ≤ 4294967295 → Stands out at (decimal (n / 10000)) to out'
    → out'' ≡ put out' to (places 4 (n % 10000)) → to ≤ length out → Stands out at (decimal n) (to + 4) out''
long_more out at n to out' out'' h l s e room =
    let r : Stands out at (decimal (n / 10000) ++ places 4 (n % 10000)) (to + length (places 4 (n % 10000))) out'' =
    stands_more out at (decimal (n / 10000)) (places 4 (n % 10000)) to out' out'' s e room in
    rw (decimal_long n h l) (omega (arith, r.0, length_places 4 (n % 10000)), r.1)

-- what was written behind s
pub stands_then : (out : List ℕ) (at : ℕ) (s t : List ℕ) (to to' : ℕ) (out' out'' : List ℕ) → Stands out at s to out' → Stands out' to t to' out'' → to ≤ length out
    → Stands out at (s ++ t) to' out''
stands_then out at s t to to' out' out'' h g room = let r = stands_more out at s t to out' out'' h g.1 room in (g.0 ∙ r.0, r.1)
