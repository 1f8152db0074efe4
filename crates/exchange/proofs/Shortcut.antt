-- Laws of a number that is read past: nine digits are never too many, and five are a number.
use mathlib.Core.Path.{◌≡◌, refl, sym, ap, ◌∙◌}
use mathlib.Core.Bool.{Bool, true, false, cond}
use mathlib.Core.List.{List, [], ◌∷◌}
use mathlib.Core.Option.{some}
use Prim.Native.Nat.{ℕ, suc, ◌+◌, ◌-◌, ◌*◌, ◌^◌, ◌≤◌, ◌<◌}
use native.Mathlib.Nat.{mul_assoc, mul-le-mul, mul-le-mul_right, pow-le-pow_right, pow-succ'}
use native.Mathlib.Omega.{arith}
use lib.ListN.{length, take, drop}
use borrow.Author.Tests.{le-leb, ne_eqb}
use Rattle.std.proofs.lemmas.Grind.{common_steps}
use Rattle.std.specs.Prelude.{slice_index_or}
use Rattle.exchange.specs.Grammar.{is_digit}
use Rattle.exchange.specs.Reader.{skip, read_digits, read_whole, read_word, held}
use Rattle.exchange.specs.Cursor.{rest_of, digit_first}
use Rattle.exchange.proofs.Tokens.{digit_range, digit_no_space}
use Rattle.exchange.proofs.Stepping.{digits_behind, is_held, behind_first, front}

-- a byte from '0' to '9'
pub is_one : (c : ℕ) → 48 ≤ c → c ≤ 57 → is_digit c ≡ true
unfolding is_digit
is_one c a b = rw (le-leb 48 c a, le-leb c 57 b)

-- a number of which the first digit is no 0
pub word_digits : (s t : List ℕ) (c : ℕ) → skip s ≡ c ∷ t → 49 ≤ c → c ≤ 57 → read_word s ≡ held (read_digits (c - 48) t)
unfolding read_word read_whole
word_digits s t c e a b =
    let no_zero : c ≡ 48 → ⊥ = λ p. omega arith in
    rw (e, is_one c (omega arith) b, ne_eqb c 48 no_zero)

-- what is left is no longer than all
digits_short : (n : ℕ) (s : List ℕ) → length (read_digits n s).1 ≤ length s
unfolding read_digits
digits_short n [] = omega arith
digits_short n (c ∷ s) = by_test (is_digit c) (digits_short (10 * n + (c - 48)) s)
  where
    by_test : (b : Bool) → length (read_digits (10 * n + (c - 48)) s).1 ≤ length s → length (cond b (read_digits (10 * n + (c - 48)) s) (n, c ∷ s)).1 ≤ length (c ∷ s)
    by_test true h = omega arith
    by_test false h = omega arith

-- k digits more make a number below (n + 1) * 10 ^ k
digits_below : (n k : ℕ) (s : List ℕ) → length s ≡ k + length (read_digits n s).1 → (read_digits n s).0 < (n + 1) * 10 ^ k
unfolding read_digits
digits_below n k [] e = let None-more : k ≡ 0 = omega arith in rw None-more (omega arith)
digits_below n k (c ∷ s) e = by_test (is_digit c) refl e (digits_below (10 * n + (c - 48)) (k - 1) s) (digits_short (10 * n + (c - 48)) s)
  where
    by_test : (b : Bool) → is_digit c ≡ b → length (c ∷ s) ≡ k + length (cond b (read_digits (10 * n + (c - 48)) s) (n, c ∷ s)).1
        → (length s ≡ k - 1 + length (read_digits (10 * n + (c - 48)) s).1 → (read_digits (10 * n + (c - 48)) s).0 < (10 * n + (c - 48) + 1) * 10 ^ (k - 1))
        → length (read_digits (10 * n + (c - 48)) s).1 ≤ length s
        → (cond b (read_digits (10 * n + (c - 48)) s) (n, c ∷ s)).0 < (n + 1) * 10 ^ k
    by_test true d h r short =
        let range = digit_range c d in
        let one_less : k ≡ suc (k - 1) = omega arith in
        let more : (10 * n + (c - 48) + 1) * 10 ^ (k - 1) ≤ (n + 1) * 10 * 10 ^ (k - 1) = mul-le-mul_right (10 ^ (k - 1)) (omega arith) in
        let same : (n + 1) * 10 * 10 ^ (k - 1) ≡ (n + 1) * 10 ^ k =
        mul_assoc (n + 1) 10 (10 ^ (k - 1)) ∙ ap (λ (x : ℕ). (n + 1) * x) (sym (pow-succ' 10 (k - 1)) ∙ ap (λ (x : ℕ). 10 ^ x) (sym one_less)) in
        omega (arith, r (omega arith), more, same)
    by_test false d h r short = let None-more : k ≡ 0 = omega arith in rw None-more (omega arith)

-- nine digits are never too many
few_held : (t : List ℕ) (n : ℕ) → n ≤ 9 → length t ≤ length (read_digits 0 t).1 + 8 → rest_of (held (read_digits n t)) ≡ some (read_digits 0 t).1
few_held t n small few =
    let rest : (read_digits n t).1 ≡ (read_digits 0 t).1 = digits_behind n t in
    let k : ℕ = length t - length (read_digits n t).1 in
    let all : length t ≡ k + length (read_digits n t).1 = omega (arith, digits_short n t) in
    let base : 0 < 10 = omega arith in
    let eight : k ≤ 8 = omega (arith, ap length rest) in
    let ten : n + 1 ≤ 10 = omega arith in
    let powers : 10 ^ k ≤ 10 ^ 8 = pow-le-pow_right base eight in
    let bound : (n + 1) * 10 ^ k ≤ 10 * 10 ^ 8 = mul-le-mul ten powers in
    let fits : (read_digits n t).0 ≤ 4294967295 = omega (arith, digits_below n k t all, bound) in
    rw (le-leb (read_digits n t).0 4294967295 fits) (ap some rest)

pub word_few : (s u : List ℕ) → u ≡ skip s → 1 ≤ length u → 49 ≤ slice_index_or u 0 0 → slice_index_or u 0 0 ≤ 57
    → (t : List ℕ) → t ≡ (read_digits 0 (behind_first u)).1 → length (behind_first u) ≤ length t + 8 → some t ≡ rest_of (read_word s)
word_few s u e some_byte low high t h few =
    let first : skip s ≡ slice_index_or u 0 0 ∷ behind_first u = sym e ∙ front u some_byte in
    let room : length (behind_first u) ≤ length (read_digits 0 (behind_first u)).1 + 8 = omega (arith, ap length h) in
    ap some h
    ∙ sym (few_held (behind_first u) (slice_index_or u 0 0 - 48) (omega arith) room)
    ∙ sym (ap rest_of (word_digits s (behind_first u) (slice_index_or u 0 0) first low high))

-- ---- five digits

-- the bytes behind the first five
abbrev pub behind_five : List ℕ → List ℕ
behind_five s = take (length s - 5) (drop 5 s)

front_five : (s : List ℕ) → 5 ≤ length s
    → s ≡ slice_index_or s 0 0 ∷ slice_index_or s 1 0 ∷ slice_index_or s 2 0 ∷ slice_index_or s 3 0 ∷ slice_index_or s 4 0 ∷ behind_five s
front_five (a ∷ b ∷ c ∷ d ∷ e ∷ t) h = grind (arith, common_steps)
front_five [] h = absurd (omega arith)
front_five (a ∷ []) h = absurd (omega arith)
front_five (a ∷ b ∷ []) h = absurd (omega arith)
front_five (a ∷ b ∷ c ∷ []) h = absurd (omega arith)
front_five (a ∷ b ∷ c ∷ d ∷ []) h = absurd (omega arith)

stays : (n : ℕ) (t : List ℕ) → digit_first t ≡ false → read_digits n t ≡ (n, t)
unfolding read_digits
stays n [] h = refl
stays n (c ∷ t) h = rw h

module _ (a b c d e : ℕ) (t : List ℕ) (la : 49 ≤ a) (ha : a ≤ 57) (lb : 48 ≤ b) (hb : b ≤ 57) (lc : 48 ≤ c) (hc : c ≤ 57) (ld : 48 ≤ d) (hd : d ≤ 57) (le : 48 ≤ e) (he : e ≤ 57) (end : digit_first t ≡ false) where
  abbrev first_two : ℕ
  first_two = 10 * (a - 48) + (b - 48)

  abbrev all_five : ℕ
  all_five = 10 * (10 * (10 * first_two + (c - 48)) + (d - 48)) + (e - 48)

  five_read : read_digits (a - 48) (b ∷ c ∷ d ∷ e ∷ t) ≡ (all_five, t)
  unfolding read_digits
  five_read = rw (is_one b lb hb, is_one c lc hc, is_one d ld hd, is_one e le he) (stays all_five t end)

  five_listed : rest_of (read_word (a ∷ b ∷ c ∷ d ∷ e ∷ t)) ≡ some t
  unfolding skip
  five_listed =
      let digit : is_digit a ≡ true = is_one a (omega arith) ha in
      let first : skip (a ∷ b ∷ c ∷ d ∷ e ∷ t) ≡ a ∷ b ∷ c ∷ d ∷ e ∷ t = rw (digit_no_space a digit) in
      let fits : all_five ≤ 4294967295 = omega arith in
      ap rest_of (word_digits (a ∷ b ∷ c ∷ d ∷ e ∷ t) (b ∷ c ∷ d ∷ e ∷ t) a first la ha ∙ ap held five_read ∙ is_held all_five t fits)

pub five_word : (s : List ℕ) → 5 ≤ length s → 49 ≤ slice_index_or s 0 0 → slice_index_or s 0 0 ≤ 57 → 48 ≤ slice_index_or s 1 0 → slice_index_or s 1 0 ≤ 57
    → 48 ≤ slice_index_or s 2 0 → slice_index_or s 2 0 ≤ 57 → 48 ≤ slice_index_or s 3 0 → slice_index_or s 3 0 ≤ 57 → 48 ≤ slice_index_or s 4 0 → slice_index_or s 4 0 ≤ 57
    → digit_first (behind_five s) ≡ false → some (behind_five s) ≡ rest_of (read_word s)
five_word s long la ha lb hb lc hc ld hd le he end =
    sym (ap (λ (l : List ℕ). rest_of (read_word l)) (front_five s long)
    ∙ five_listed (slice_index_or s 0 0) (slice_index_or s 1 0) (slice_index_or s 2 0) (slice_index_or s 3 0) (slice_index_or s 4 0) (behind_five s) la ha lb hb lc hc ld hd le he end)
