-- Laws of arrays: how one is read by its brackets, and what stands behind each number of one that is read to its end.
use mathlib.Core.Path.{◌≡◌, refl, sym, ap, ◌∙◌}
use mathlib.Core.List.{List, [], ◌∷◌, ◌++◌, append_assoc}
use mathlib.Core.Option.{none, some}
use Prim.Native.Nat.{ℕ, ◌+◌, ◌≤◌, ◌<◌}
use native.Mathlib.Omega.{arith}
use lib.Dec.{eqb}
use lib.ListN.{length, take, length-append, length-take}
use lib.Seq.{take_at, take_all}
use Rattle.std.specs.Prelude.{Some, None, unwrap_or}
use Rattle.std.specs.Prelude as code
use Rattle.std.specs.Borrow.{Bor}
use Rattle.exchange.specs.Grammar.{ascii, Separated, last, further, Entry, entry}
use Rattle.exchange.specs.Reader.{Read, bind, either, skip, read_exactly, read_token, read_word, read_entry, read_array}
use Rattle.exchange.specs.Cursor.{left_of, counted}
use Rattle.exchange.specs.Arrays.{numbers_in}
use Rattle.exchange.proofs.Tokens.{none_some, some_same, bound, chosen, passed}
use Rattle.exchange.proofs.Objects.{turns_sound, entry_sound}
use Rattle.exchange.proofs.Following.{entry_turn}
use Rattle.exchange.proofs.Stepping.{behind_first, front}
use Rattle.exchange.proofs.Turning.{entries_from}

-- ---- an array by its brackets

numbers_none : (s : List ℕ) → read_array s ≡ none → length (numbers_in s) ≡ 0
unfolding numbers_in
numbers_none s e = rw e

pub numbers_some : (s ns t : List ℕ) → read_array s ≡ some (ns, t) → numbers_in s ≡ ns
unfolding numbers_in
numbers_some s ns t e = rw e

-- what was counted behind the bracket
pub counted_none : (o : Read (List ℕ)) → none ≡ counted o → o ≡ none
counted_none none e = refl
counted_none (some p) e = none_some e

pub counted_some : (o : Read (List ℕ)) (n : ℕ) (t : List ℕ) → some (n, t) ≡ counted o → (ns : List ℕ) × (o ≡ some (ns, t)) × (n ≡ length ns)
counted_some none n t e = none_some (sym e)
counted_some (some p) n t e =
    let same = some_same e in
    (p.0, (λ i. some (p.0, (sym same i).1)), ap (λ (q : ℕ × List ℕ). q.0) same)

-- ---- an array that has numbers

-- behind its bracket all its numbers are read
pub record Opened (s : List ℕ) : Type 0 where
  pub inside : List ℕ
  pub behind : List ℕ
  pub bracket : read_token (ascii "[") s ≡ some inside
  pub all : entries_from [] inside ≡ some (numbers_in s, behind)

read_numbers : (s : List ℕ) (o : Read (List ℕ)) → read_array s ≡ o → 0 < length (numbers_in s) → (t : List ℕ) × (read_array s ≡ some (numbers_in s, t))
read_numbers s none e h = absurd (omega (arith, numbers_none s e))
read_numbers s (some p) e h = (p.1, e ∙ (λ i. some (sym (numbers_some s p.0 p.1 e) i, p.1)))

pub opened : (s : List ℕ) → 0 < length (numbers_in s) → Opened s
unfolding read_array
opened s h =
    let (t, e) = read_numbers s (read_array s) refl h in
    bound (read_token (ascii "[") s) _ e (λ u x y.
    chosen (read_token (ascii "]") u) _ _ y
    (λ v z w. let none-there : [] ≡ numbers_in s = ap (λ (p : List ℕ × List ℕ). p.0) (some_same w) in absurd (omega (arith, ap length none-there)))
    (λ w. record { inside = u; behind = t; bracket = x; all = w }))

-- what is left behind a bracket that is there
pub open_left : (r : code.Option (Bor (List ℕ))) (s u : Bor (List ℕ)) (t : List ℕ) → left_of r ≡ some t → u ≡ unwrap_or r s → u.now ≡ t
open_left None s u t e h = none_some e
open_left (Some x) s u t e h = ap (λ (b : Bor (List ℕ)). b.now) h ∙ some_same e

-- ---- one byte that was read

byte_read : (c : ℕ) (u w : List ℕ) → read_exactly (c ∷ []) u ≡ some w → (1 ≤ length u) × (w ≡ behind_first u)
unfolding read_exactly
byte_read c [] w h = none_some h
byte_read c (b ∷ u) w h =
    let p = passed (eqb b c) (some u) h in
    let some_byte : 1 ≤ length (b ∷ u) = omega arith in
    let all : b ∷ u ≡ b ∷ behind_first (b ∷ u) = front (b ∷ u) some_byte in
    let same : u ≡ w = some_same p.1 in
    (some_byte, (cc))

mark_read : (c : ℕ) (b u : List ℕ) → u ≡ skip b → (w : List ℕ) → read_token (c ∷ []) b ≡ some w → (1 ≤ length u) × (w ≡ behind_first u)
unfolding read_token
mark_read c b u here w h = byte_read c u w (rw (← here) at h)

-- ---- numbers that are read to their end

more_follow : {ms a ns : List ℕ} → Separated Entry (ascii "]") ms a ns → (ks : List ℕ) × (ns ≡ ms ++ ks)
more_follow (last (entry {n = n} w) x) = (n ∷ [], refl)
more_follow {ms} (further (entry {n = n} w) x m) = let (ks, e) = more_follow m in (n ∷ ks, e ∙ append_assoc ms (n ∷ []) ks)

-- the numbers so far come first
entries_follow : (ms s ns t : List ℕ) → entries_from ms s ≡ some (ns, t) → (ks : List ℕ) × (ns ≡ ms ++ ks)
entries_follow ms s ns t e =
    let (a, p, m) = turns_sound Entry read_entry (ascii "]") entry_sound (length s) ms s (ns, t) e in
    more_follow m

-- a number comes first
pub entries_word : (ms s : List ℕ) (r : List ℕ × List ℕ) → entries_from ms s ≡ some r → (p : ℕ × List ℕ) × (read_word s ≡ some p)
unfolding read_entry
entries_word ms s r e =
    bound (read_entry ms s) _ (sym (entry_turn ms s) ∙ e) (λ q x y. bound (read_word s) _ x (λ p z w. (p, z)))

-- what a turn makes of n numbers of ns, v being the next and u the bytes from the mark behind it on
pub record Turn (ns t : List ℕ) (n v : ℕ) (u : List ℕ) : Type 0 where
  pub marked : 1 ≤ length u
  pub grown : take (n + 1) ns ≡ take n ns ++ (v ∷ [])
  pub again : n + 1 < length ns → entries_from (take (n + 1) ns) (behind_first u) ≡ some (ns, t)

module _ (ns t s b u : List ℕ) (n v : ℕ) (some_left : n < length ns) (all : entries_from (take n ns) s ≡ some (ns, t))
    (word : read_word s ≡ some (v, b)) (here : u ≡ skip b) where
  size : length (take n ns ++ (v ∷ [])) ≡ n + 1
  size = omega (arith, length-append (take n ns) (v ∷ []), length-take n ns)

  first : (ks : List ℕ) → ns ≡ take n ns ++ (v ∷ []) ++ ks → take (n + 1) ns ≡ take n ns ++ (v ∷ [])
  first ks e = ap (take (n + 1)) e ∙ take_at (take n ns ++ (v ∷ [])) ks (n + 1) size

  pub turned : Turn ns t n v u
  unfolding read_entry
  turned =
      let step : either (read_token (ascii "]") b) (λ w. some (take n ns ++ (v ∷ []), w)) (bind (read_token (ascii ",") b) (λ w. entries_from (take n ns ++ (v ∷ [])) w)) ≡ some (ns, t) =
      sym (entry_turn (take n ns) s ∙ rw word) ∙ all in
      chosen (read_token (ascii "]") b) _ _ step
      (λ w x y.
      let end : take n ns ++ (v ∷ []) ≡ ns = ap (λ (p : List ℕ × List ℕ). p.0) (some_same y) in
      record {
        marked = (mark_read 93 b u here w x).0;
        grown = ap (take (n + 1)) (sym end) ∙ take_all (n + 1) (take n ns ++ (v ∷ [])) (omega (arith, size));
        again = λ h. absurd (omega (arith, ap length end, size));
      })
      (λ y.
      bound (read_token (ascii ",") b) _ y (λ w x z.
      let (ks, e) = entries_follow (take n ns ++ (v ∷ [])) w ns t z in
      let p = mark_read 44 b u here w x in
      record {
        marked = p.0;
        grown = first ks e;
        again = λ h. rw (first ks e, ← p.1) z;
      }))
