-- How long a text can be (`text_fits`), and how many indices one can have (`indices_fit`).
use mathlib.Core.Path.{◌≡◌, refl, ap, ap₂, ◌∙◌}
use mathlib.Core.Bool.{Bool, true, false, cond}
use mathlib.Core.List.{List, [], ◌∷◌, ◌++◌}
use mathlib.Core.Option.{Option, none, some}
use Prim.Native.Nat.{ℕ, zero, suc, ◌+◌, ◌*◌, ◌/◌, ◌^◌, ◌≤◌, ◌<◌}
use native.Mathlib.Nat.{add-mul, one-mul, one-le-pow}
use native.Mathlib.Omega.{arith}
use lib.Dec.{leb}
use lib.ListN.{length, get_or, length-append}
use borrow.Author.Tests.{leb-true, leb-false, le-leb}
use Rattle.counting.proofs.Accepted.{both}
use Rattle.subsets.specs.Bits.{valid_width}
use Rattle.searching.specs.declared.finding.Finding.{Finding}
use Rattle.judging.specs.Check.{chosen}
use Rattle.judging.proofs.Checking.{chosen_length}
use Rattle.exchange.specs.Grammar.{Exchanged, ascii, Word, word, Separated, last, further, Entry, entry, Array, empty, full, Seen, seen, Member, has_bits, has_indices, has_division, has_block, has_low, has_score, Text, text}
use Rattle.exchange.specs.Writer.{decimal, listed, Writable}
use Rattle.exchange.specs.Exchange.{exchanged_of, finding_text}
use Rattle.exchange.specs.Length.{longest_text, TextFits, IndicesFit}
use Rattle.exchange.proofs.Numbers.{whole_first}
use Rattle.exchange.proofs.Objects.{token_long, text_sound}
use Rattle.exchange.proofs.Figures.{digits_most}
use Rattle.exchange.proofs.Commas.{listed_most}
use Rattle.exchange.proofs.Pieces.{length_text, truth_most}
use Rattle.exchange.proofs.Acceptance.{accepted}

-- ---- digits of the numbers below 2 ^ k

-- for each width up to k, 2 ^ k is at most 10 ^ (1 + 3 k / 10)
abbrev tested : ℕ → Bool
tested zero = true
tested (suc k) = cond (leb (2 ^ suc k) (10 ^ suc (3 * suc k / 10))) (tested k) false

tested_at : (m k : ℕ) → tested m ≡ true → 1 ≤ k → k ≤ m → 2 ^ k ≤ 10 ^ suc (3 * k / 10)
tested_at zero k e low h = absurd (omega arith)
tested_at (suc m) k e low h = by_test (leb k m) refl (tested_at m)
  where
    test : (leb (2 ^ suc m) (10 ^ suc (3 * suc m / 10)) ≡ true) × (tested m ≡ true)
    test = both (leb (2 ^ suc m) (10 ^ suc (3 * suc m / 10))) (tested m) e

    by_test : (b : Bool) → leb k m ≡ b → ((j : ℕ) → tested m ≡ true → 1 ≤ j → j ≤ m → 2 ^ j ≤ 10 ^ suc (3 * j / 10)) → 2 ^ k ≤ 10 ^ suc (3 * k / 10)
    by_test true f r = r k test.1 low (leb-true k m f)
    by_test false f r =
        let same : k ≡ suc m = omega (arith, leb-false k m f) in
        rw same (leb-true (2 ^ suc m) (10 ^ suc (3 * suc m / 10)) test.0)

bin_digits : (k n : ℕ) → 1 ≤ k → k ≤ 20 → n < 2 ^ k → length (decimal n) ≤ suc (3 * k / 10)
bin_digits k n low high h = let bins = tested_at 20 k refl low high in digits_most (3 * k / 10) n (omega arith)

-- ---- the length of a text

pub longest_is : (k : ℕ) → 1 ≤ k → k ≤ 20 → longest_text k ≡ 81 + 5 * k + (2 ^ k + 1) * (2 + 3 * k / 10)
unfolding longest_text valid_width
longest_is k low high = rw (le-leb 1 k low, le-leb k 20 high)

pub longest_none : (k : ℕ) → valid_width k ≡ false → 0 ≡ longest_text k
unfolding longest_text
longest_none k e = rw e

pub writable_fits : (f : Finding) (order : List ℕ) → length f.bits ≡ 20 → Writable f order → length (finding_text f order) ≤ longest_text f.width
writable_fits f order size w =
    let k = f.width in
    let d = suc (3 * k / 10) in
    let chosen_size : length (chosen f) ≡ k = chosen_length f w.width size in
    let a-bit : 0 < length (chosen f) = omega (arith, w.some) in
    let bins : 1 ≤ 2 ^ k = one-le-pow k 2 (omega arith) in
    let an-index : 0 < length order = omega (arith, w.sized) in
    let small : (n : ℕ) → n < 4097 → length (decimal n) ≤ 4 = λ n h. digits_most 3 n (omega arith) in
    let bits : length (listed (chosen f)) + 1 ≤ length (chosen f) * 5 =
    listed_most 4 (chosen f) a-bit (λ i h. small (get_or (chosen f) i 0) (let b = w.bits i h in omega (arith, w.block))) in
    let indices : length (listed order) + 1 ≤ length order * (d + 1) =
    listed_most d order an-index (λ i h. bin_digits k (get_or order i 0) w.some w.width (w.indices i h)) in
    let each : length order * (d + 1) ≡ 2 ^ k * (2 + 3 * k / 10) = ap₂ (λ (m n : ℕ). m * n) w.sized (omega arith) in
    let all : (2 ^ k + 1) * (2 + 3 * k / 10) ≡ 2 ^ k * (2 + 3 * k / 10) + (2 + 3 * k / 10) = add-mul (2 ^ k) 1 (2 + 3 * k / 10) ∙ ap (λ (m : ℕ). 2 ^ k * (2 + 3 * k / 10) + m) (one-mul (2 + 3 * k / 10)) in
    let block : length (decimal f.block_size) ≤ 4 = small f.block_size (omega (arith, w.block)) in
    let division : length (decimal f.division) ≤ d = bin_digits k f.division w.some w.width w.division in
    omega (arith, longest_is k w.some w.width, length_text (exchanged_of f order), truth_most f.low_first)

pub text_fits : TextFits
text_fits f order scratch size e = writable_fits f order size (accepted f order scratch e)

-- ---- the number of indices

-- a number has a byte
word_long : {a : List ℕ} {n : ℕ} → Word a n → 1 ≤ length a
word_long (word {a} {b} w h l) =
    let (c, s, p, d) = whole_first h in
    omega (arith, length-append a b, ap length p)

-- an entry has two bytes or more, its own and the mark behind it
entries_long : {ns b ms : List ℕ} → Separated Entry (ascii "]") ns b ms → 2 * length ms ≤ 2 * length ns + length b
entries_long (last {a} {b} (entry {ns} {n} w) x) = omega (arith, length-append ns (n ∷ []), length-append a b, word_long w, token_long x)
entries_long (further {a} {b} {c} (entry {ns} {n} w) x m) =
    omega (arith, length-append ns (n ∷ []), length-append (a ++ b) c, length-append a b, word_long w, token_long x, entries_long m)

array_long : {a ns : List ℕ} → Array a ns → 2 * length ns ≤ length a
array_long (empty x y) = omega arith
array_long (full {a} {b} x m) = omega (arith, length-append a b, entries_long m)

-- how many indices there were so far
abbrev listed_count : Option (List ℕ) → ℕ
listed_count none = 0
listed_count (some ns) = length ns

abbrev index_count : Seen → ℕ
index_count (seen x i d b l z) = listed_count i

member_long : {st st' : Seen} {a : List ℕ} → Member st a st' → 2 * index_count st' ≤ 2 * index_count st + length a
member_long (has_bits k v) = omega arith
member_long (has_indices {a} {s} k v) = omega (arith, length-append a s, array_long v)
member_long (has_division k v) = omega arith
member_long (has_block k v) = omega arith
member_long (has_low k v) = omega arith
member_long (has_score k v) = omega arith

members_long : {st st' : Seen} {b : List ℕ} → Separated Member (ascii "}") st b st' → 2 * index_count st' ≤ 2 * index_count st + length b
members_long (last {a} {b} m x) = omega (arith, length-append a b, member_long m)
members_long (further {a} {b} {c} m x r) = omega (arith, length-append (a ++ b) c, length-append a b, member_long m, members_long r)

text_long : {s : List ℕ} {e : Exchanged} → Text s e → 2 * length e.indices ≤ length s
text_long (text {a} {b} {c} x m w) = omega (arith, length-append (a ++ b) c, length-append a b, members_long m)

pub indices_fit : IndicesFit
indices_fit s e r = text_long (text_sound s e r)
