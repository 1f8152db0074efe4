-- Laws of one step of a cursor: what the byte that stands first makes of what is read.
use mathlib.Core.Path.{◌≡◌, refl, sym, ap, ◌∙◌}
use mathlib.Core.Bool.{Bool, true, false, cond, ◌&&◌}
use mathlib.Core.List.{List, [], ◌∷◌}
use mathlib.Core.Option.{Option, none, some}
use Prim.Native.Nat.{ℕ, ◌+◌, ◌-◌, ◌*◌, ◌≤◌, ◌<◌}
use native.Mathlib.Omega.{arith}
use lib.Dec.{eqb, leb}
use lib.ListN.{length, take, drop}
use lib.Pointwise.{pointwise}
use Rattle.std.proofs.lemmas.Grind.{common_steps}
use Rattle.std.specs.Prelude.{slice_index_or}
use borrow.Author.Tests.{le-leb, lt-leb, leb-true}
use Rattle.std.specs.Prelude.{Some, None, MatchOption}
use Rattle.std.specs.Prelude as code
use Rattle.std.specs.Borrow.{Bor}
use Rattle.exchange.specs.Grammar.{is_digit}
use Rattle.exchange.specs.Reader.{read_exactly, read_digits, held}
use Rattle.exchange.specs.Cursor.{IsRead, left_of}
use Rattle.exchange.proofs.Following.{digits_grow, digits_rest}
use Rattle.exchange.proofs.Tokens.{both, none_some}

-- ---- fixed bytes

same : (k s : List ℕ) → pointwise eqb (take (length k) s) k ≡ true → read_exactly k s ≡ some (drop (length k) s)
unfolding read_exactly
same [] s h = refl
same (c ∷ k) [] h = cc
same (c ∷ k) (b ∷ s) h = let p = both (eqb b c) (pointwise eqb (take (length k) s) k) h in rw p.0 (same k s p.1)

other : (k s : List ℕ) → pointwise eqb (take (length k) s) k ≡ false → read_exactly k s ≡ none
unfolding read_exactly
other [] s h = cc
other (c ∷ k) [] h = refl
other (c ∷ k) (b ∷ s) h = by_test (eqb b c) h (other k s)
  where
    by_test : (t : Bool) → t && pointwise eqb (take (length k) s) k ≡ false → (pointwise eqb (take (length k) s) k ≡ false → read_exactly k s ≡ none)
        → cond t (read_exactly k s) none ≡ none
    by_test true e f = f e
    by_test false e f = refl

-- what stands first is taken off
pub taken_off : (Q : Bor (List ℕ) → Type 0) (k s : List ℕ) (r : code.Option (Bor (List ℕ)))
    → MatchOption r (pointwise eqb (take (length k) s) k ≡ false) (λ x. (pointwise eqb (take (length k) s) k ≡ true) × (x.now ≡ drop (length k) s) × Q x)
    → left_of r ≡ read_exactly k s
taken_off Q k s None h = sym (other k s h)
taken_off Q k s (Some x) h = ap some h.1 ∙ sym (same k s h.0)

-- ---- the byte that stands first

-- the bytes behind it
abbrev pub behind_first : List ℕ → List ℕ
behind_first s = take (length s - 1) (drop 1 s)

pub front : (s : List ℕ) → 1 ≤ length s → s ≡ slice_index_or s 0 0 ∷ behind_first s
front [] h = absurd (omega arith)
front (c ∷ s) h = grind (arith, common_steps)

-- ---- digits

-- one digit further
pub digit_next : (s : List ℕ) → 1 ≤ length s → is_digit (slice_index_or s 0 0) ≡ true → (read_digits 0 (behind_first s)).1 ≡ (read_digits 0 s).1
unfolding read_digits
digit_next s h e =
    digits_rest 0 (10 * 0 + (slice_index_or s 0 0 - 48)) (behind_first s)
    ∙ (let step : read_digits (10 * 0 + (slice_index_or s 0 0 - 48)) (behind_first s) ≡ read_digits 0 (slice_index_or s 0 0 ∷ behind_first s) = rw e in
    ap (λ (r : ℕ × List ℕ). r.1) (step ∙ ap (read_digits 0) (sym (front s h))))

-- what is left of the bytes behind digits, whatever the number before them
pub digits_behind : (n : ℕ) (s : List ℕ) → (read_digits n s).1 ≡ (read_digits 0 s).1
digits_behind n s = digits_rest n 0 s

-- a number that is too large
pub not_held : (n : ℕ) (s : List ℕ) → 4294967295 < n → held (read_digits n s) ≡ none
not_held n s h = let over : 4294967295 < (read_digits n s).0 = omega (arith, digits_grow n s) in rw (lt-leb (read_digits n s).0 4294967295 over)

pub is_held : (n : ℕ) (t : List ℕ) → n ≤ 4294967295 → held (n, t) ≡ some (n, t)
is_held n t h = rw (le-leb n 4294967295 h)

-- ---- a number that is known to stand there

pub none_unread : {A : Type 0} (o : Option A) → o ≡ none → IsRead o → ⊥
none_unread none e h = h
none_unread (some a) e h = none_some (sym e)

pub is_read : {A : Type 0} (o : Option A) (a : A) → o ≡ some a → IsRead o
is_read none a e = none_some e
is_read (some b) a e = Prim.tt {0}

by_fit : (b : Bool) (q : ℕ × List ℕ) → leb q.0 4294967295 ≡ b → IsRead (cond b (some q) none) → q.0 ≤ 4294967295
by_fit true q e h = leb-true q.0 4294967295 e
by_fit false q e h = absurd h

pub read_held : (q : ℕ × List ℕ) → IsRead (held q) → q.0 ≤ 4294967295
read_held q h = by_fit (leb q.0 4294967295) q refl h

-- a digit that stands first, behind a number so far: the number with it leads where both lead
pub known_next : (n : ℕ) (s : List ℕ) → 1 ≤ length s → is_digit (slice_index_or s 0 0) ≡ true
    → read_digits (10 * n + (slice_index_or s 0 0 - 48)) (behind_first s) ≡ read_digits n s
unfolding read_digits
known_next n s h e =
    let step : read_digits (10 * n + (slice_index_or s 0 0 - 48)) (behind_first s) ≡ read_digits n (slice_index_or s 0 0 ∷ behind_first s) = rw e in
    step ∙ ap (read_digits n) (sym (front s h))

-- and is no larger than the whole number
pub known_small : (n : ℕ) (s : List ℕ) → 1 ≤ length s → is_digit (slice_index_or s 0 0) ≡ true → 10 * n + (slice_index_or s 0 0 - 48) ≤ (read_digits n s).0
known_small n s h e =
    omega (arith, digits_grow (10 * n + (slice_index_or s 0 0 - 48)) (behind_first s), ap (λ (r : ℕ × List ℕ). r.0) (known_next n s h e))
