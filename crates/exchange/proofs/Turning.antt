-- Laws of a cursor's loop over numbers: what its steps' answers make of a turn.
use mathlib.Core.Path.{◌≡◌, refl, sym, ap, ◌∙◌}
use mathlib.Core.List.{List, [], ◌∷◌, ◌++◌}
use mathlib.Core.Option.{none, some}
use Prim.Native.Nat.{ℕ, ◌≤◌, ◌<◌}
use native.Mathlib.Omega.{arith}
use lib.ListN.{length, length-append}
use borrow.Author.Tests.{eq-eqb, ne_eqb}
use Rattle.std.specs.Prelude.{slice_index_or}
use Rattle.exchange.specs.Grammar.{ascii}
use Rattle.exchange.specs.Reader.{Read, skip, read_exactly, read_token, read_word, read_entry, read_separated}
use Rattle.exchange.specs.Cursor.{rest_of}
use Rattle.exchange.proofs.Tokens.{none_some, some_same, token_sound}
use Rattle.exchange.proofs.Numbers.{word_sound}
use Rattle.exchange.proofs.Objects.{token_long}
use Rattle.exchange.proofs.Following.{entry_turn}
use Rattle.exchange.proofs.Stepping.{behind_first, front}

-- ---- one byte

module _ (c : ℕ) (s u : List ℕ) (e : u ≡ skip s) where
  pub mark_end : length u < 1 → read_token (c ∷ []) s ≡ none
  unfolding read_token read_exactly
  mark_end h = rw (← e) (by_bytes u h)
    where
      by_bytes : (v : List ℕ) → length v < 1 → read_exactly (c ∷ []) v ≡ none
      by_bytes [] h = refl
      by_bytes (b ∷ v) h = absurd (omega arith)

  module _ (some_byte : 1 ≤ length u) where
    first : skip s ≡ slice_index_or u 0 0 ∷ behind_first u
    first = sym e ∙ front u some_byte

    pub mark_here : slice_index_or u 0 0 ≡ c → read_token (c ∷ []) s ≡ some (behind_first u)
    unfolding read_token read_exactly
    mark_here h = rw (first, eq-eqb _ _ h)

    pub mark_other : (slice_index_or u 0 0 ≡ c → ⊥) → read_token (c ∷ []) s ≡ none
    unfolding read_token read_exactly
    mark_other h = rw (first, ne_eqb _ _ h)

-- ---- a number that was read past

pub rest_got : (o : Read ℕ) (t : List ℕ) → some t ≡ rest_of o → (n : ℕ) × (o ≡ some (n, t))
rest_got none t e = none_some (sym e)
rest_got (some p) t e = (p.0, (λ i. some (p.0, some_same (sym e) i)))

pub rest_none : (o : Read ℕ) → none ≡ rest_of o → o ≡ none
rest_none none e = refl
rest_none (some p) e = none_some e

-- ---- a turn

-- a number and its mark take a byte or more
pub past : (s t u k : List ℕ) (v : ℕ) → 1 ≤ length k → read_word s ≡ some (v, t) → read_token k t ≡ some u → length u < length s
past s t u k v some_byte x y =
    let (a, p, w) = word_sound s (v, t) x in
    let (d, q, m) = token_sound k t u y in
    omega (arith, ap length p, length-append a t, ap length q, length-append d u, token_long m)

abbrev pub entries_from : List ℕ → List ℕ → Read (List ℕ)
entries_from ns s = read_separated read_entry (ascii "]") ns s

module _ (ns s : List ℕ) where
  pub entries_stop : read_word s ≡ none → entries_from ns s ≡ none
  unfolding read_entry
  entries_stop e = entry_turn ns s ∙ rw e

  module _ (v : ℕ) (t : List ℕ) (e : read_word s ≡ some (v, t)) where
    pub entries_close : (u : List ℕ) → read_token (ascii "]") t ≡ some u → entries_from ns s ≡ some (ns ++ (v ∷ []), u)
    unfolding read_entry
    entries_close u x = entry_turn ns s ∙ rw (e, x)

    pub entries_open : read_token (ascii "]") t ≡ none → read_token (ascii ",") t ≡ none → entries_from ns s ≡ none
    unfolding read_entry
    entries_open x y = entry_turn ns s ∙ rw (e, x, y)

    pub entries_next : (u : List ℕ) → read_token (ascii "]") t ≡ none → read_token (ascii ",") t ≡ some u → entries_from ns s ≡ entries_from (ns ++ (v ∷ [])) u
    unfolding read_entry
    entries_next u x y = entry_turn ns s ∙ rw (e, x, y)
