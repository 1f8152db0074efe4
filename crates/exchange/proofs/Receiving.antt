-- Laws of a reading: the bits and the indices that are stored of a text, and what the steps' answers make of the whole.
use mathlib.Core.Path.{◌≡◌, refl, sym, ap, ◌∙◌}
use mathlib.Core.Bool.{true, false}
use mathlib.Core.List.{List, ◌++◌}
use mathlib.Core.Option.{none, some}
use Prim.Native.Nat.{ℕ, zero, suc, ◌-◌, ◌≤◌, ◌<◌, min}
use native.Mathlib.Omega.{arith}
use lib.Dec.{leb}
use lib.ListN.{length, take, drop, replicate, length-take}
use lib.Seq.{length-take-le, take_all, take-take, take_at}
use borrow.Author.Tests.{le-leb, lt-leb}
use Rattle.subsets.specs.Subsets.{padded}
use Rattle.searching.specs.Finding.{no_finding}
use Rattle.searching.specs.declared.finding.Finding.{Finding}
use Rattle.judging.specs.Check.{check_refusal, checked_scratch}
use Rattle.exchange.specs.Grammar.{Exchanged}
use Rattle.exchange.specs.Reader.{read_text}
use Rattle.exchange.specs.Exchange.{room_refusal, begun, said_finding, said_refusal, reading_with, Reads, Reading}

-- ---- bits, in an array of twenty

zeros_left : (n m : ℕ) → drop n (replicate {A = ℕ} m 0) ≡ replicate (m - n) 0
zeros_left zero m = let e : m ≡ m - 0 = omega arith in ap (λ (x : ℕ). replicate x 0) e
zeros_left (suc n) zero = let e : 0 ≡ 0 - suc n = omega arith in ap (λ (x : ℕ). replicate x 0) e
zeros_left (suc n) (suc m) = let e : m - n ≡ suc m - suc n = omega arith in zeros_left n m ∙ ap (λ (x : ℕ). replicate x 0) e

module _ (ns stored : List ℕ) (n : ℕ) (e : n ≡ min (length ns) 20) where
  pub room_for : n ≡ length (take n (replicate {A = ℕ} 20 0))
  room_for = sym (length-take-le n (replicate 20 0) (omega arith))

  first_twenty : take n ns ≡ take 20 ns
  first_twenty = sym (take-take n 20 ns (omega arith)) ∙ take_all n (take 20 ns) (omega (arith, length-take 20 ns))

  pub bits_padded : stored ≡ take (length (take n (replicate {A = ℕ} 20 0))) ns → stored ++ drop n (replicate {A = ℕ} 20 0) ≡ padded (take 20 ns)
  bits_padded q =
      let all : stored ≡ take 20 ns = q ∙ ap (λ (m : ℕ). take m ns) (sym room_for) ∙ first_twenty in
      let size : n ≡ length (take 20 ns) = omega (arith, length-take 20 ns) in
      ap (λ (l : List ℕ). l ++ drop n (replicate 20 0)) all
      ∙ ap (λ (l : List ℕ). take 20 ns ++ l) (zeros_left n 20 ∙ ap (λ (m : ℕ). replicate (20 - m) 0) size)

-- ---- indices, in the order that was lent

module _ (ns order stored : List ℕ) (count : ℕ) (e : count ≡ length ns) (room : count ≤ length order) (q : stored ≡ take (length (take count order)) ns) where
  all_stored : stored ≡ ns
  all_stored = q ∙ take_all (length (take count order)) ns (omega (arith, length-take-le count order room))

  pub order_begun : stored ++ drop count order ≡ begun ns order
  order_begun = λ i. all_stored i ++ drop (e i) order

  pub order_first : take count (stored ++ drop count order) ≡ ns
  order_first = take_at stored (drop count order) count (ap length all_stored ∙ sym e) ∙ all_stored

-- ---- the whole

module _ (text order scratch : List ℕ) (r : Reading) where
  pub reads_none : read_text text ≡ none → r ≡ record { refusal = 16; finding = no_finding } → Reads text order scratch r order scratch
  reads_none e q = record { answered = rw e q; indices = rw e; checked = rw e }

  module _ (x : Exchanged) (e : read_text text ≡ some x) where
    pub reads_short : length order < length x.indices → r ≡ record { refusal = 17; finding = no_finding } → Reads text order scratch r order scratch
    unfolding said_refusal room_refusal
    reads_short h q =
        let short : leb (length x.indices) (length order) ≡ false = lt-leb _ _ h in
        record { answered = rw (e, short) q; indices = rw (e, short); checked = rw (e, short) }

    pub reads_checked : length x.indices ≤ length order → (q : ℕ) → q ≡ check_refusal (said_finding x) x.indices (length scratch) → r ≡ reading_with q (said_finding x)
        → (order' scratch' : List ℕ) → order' ≡ begun x.indices order → scratch' ≡ checked_scratch (said_finding x) (length x.indices) scratch
        → Reads text order scratch r order' scratch'
    unfolding said_refusal room_refusal
    reads_checked h q p a order' scratch' o z =
        let room : leb (length x.indices) (length order) ≡ true = le-leb _ _ h in
        record { answered = rw (e, room, ← p) a; indices = rw (e, room) o; checked = rw (e, room) z }

pub with_refusal : (q : ℕ) (f : Finding) (r : Reading) → (q ≡ 0 → ⊥) → r ≡ record { refusal = q; finding = no_finding } → r ≡ reading_with q f
with_refusal zero f r h e = absurd (h refl)
with_refusal (suc q) f r h e = e
