-- What is read of a text: recognisers that take the bytes from the cursor on and give back what they read and the bytes that are left, or nothing.
use Rattle.std.specs.Prelude.{Bool, true, false, cond, ◌||◌, List, [], ◌∷◌, ◌++◌, ℕ, zero, suc, ◌+◌, ◌-◌, ◌*◌, eqb, leb, length}
use Rattle.std.proofs.Math.Option.{Option, none, some}
use Rattle.exchange.specs.Grammar.{Exchanged, ascii, is_space, is_digit, is_exp, Seen, seen, low_of}
use Rattle.exchange.specs.declared.keys.Name.{Name}
use Rattle.exchange.specs.declared.keys.Name.TheVariants.{Bits, SortedIndices, BestDivision, BlockSize, LowFirst, ZScore}

-- what was read, and the bytes that are left; or nothing
abbrev pub Read : Type 0 → Type 0
Read A = Option (A × List ℕ)

-- go on where something was read
abbrev pub bind : {A B : Type 0} → Option A → (A → Option B) → Option B
bind none f = none
bind (some a) f = f a

-- go on with what was read, or else with something else
abbrev pub either : {A B : Type 0} → Option A → (A → Option B) → Option B → Option B
either none f other = other
either (some a) f other = f a

-- ---- white space and fixed tokens

-- ws: all white space that stands first is passed
unfoldable pub skip : List ℕ → List ℕ
skip [] = []
skip (c ∷ s) = cond (is_space c) (skip s) (c ∷ s)

-- the bytes k and nothing else
unfoldable pub read_exactly : List ℕ → List ℕ → Option (List ℕ)
read_exactly [] s = some s
read_exactly (c ∷ k) [] = none
read_exactly (c ∷ k) (b ∷ s) = cond (eqb b c) (read_exactly k s) none

-- the bytes k, white space before them
unfoldable pub read_token : List ℕ → List ℕ → Option (List ℕ)
read_token k s = read_exactly k (skip s)

-- false or true, white space before it
unfoldable pub read_truth : List ℕ → Read Bool
read_truth s = either (read_token (ascii "false") s) (λ t. some (false, t)) (bind (read_token (ascii "true") s) (λ t. some (true, t)))

-- ---- numbers

-- the number that n's digits make with all the digits that follow
unfoldable pub read_digits : ℕ → List ℕ → ℕ × List ℕ
read_digits n [] = (n, [])
read_digits n (c ∷ s) = cond (is_digit c) (read_digits (10 * n + (c - 48)) s) (n, c ∷ s)

-- int: 0 alone, or digits that do not begin with 0, as many as there are
unfoldable pub read_whole : List ℕ → Read ℕ
read_whole [] = none
read_whole (c ∷ s) = cond (is_digit c) (cond (eqb c 48) (some (0, s)) (some (read_digits (c - 48) s))) none

-- one digit or more
unfoldable pub skip_digits : List ℕ → Option (List ℕ)
skip_digits [] = none
skip_digits (c ∷ s) = cond (is_digit c) (some (read_digits 0 (c ∷ s)).1) none

-- [ minus ]
unfoldable pub skip_minus : List ℕ → List ℕ
skip_minus [] = []
skip_minus (c ∷ s) = cond (eqb c 0x2d) s (c ∷ s)

-- [ minus / plus ]
unfoldable pub skip_sign : List ℕ → List ℕ
skip_sign [] = []
skip_sign (c ∷ s) = cond (eqb c 0x2b || eqb c 0x2d) s (c ∷ s)

-- [ frac ]: a point wants a digit or more behind it
unfoldable pub skip_fraction : List ℕ → Option (List ℕ)
skip_fraction [] = some []
skip_fraction (c ∷ s) = cond (eqb c 0x2e) (skip_digits s) (some (c ∷ s))

-- [ exp ]: so does an e, with or without a sign
unfoldable pub skip_exponent : List ℕ → Option (List ℕ)
skip_exponent [] = some []
skip_exponent (c ∷ s) = cond (is_exp c) (skip_digits (skip_sign s)) (some (c ∷ s))

-- number = [ minus ] int [ frac ] [ exp ]
unfoldable pub skip_number : List ℕ → Option (List ℕ)
skip_number s = bind (read_whole (skip_minus s)) (λ (n, t). bind (skip_fraction t) skip_exponent)

-- a number of any kind, white space before it
unfoldable pub skip_score : List ℕ → Option (List ℕ)
skip_score s = skip_number (skip s)

-- where 32 bits hold the number
abbrev pub held : ℕ × List ℕ → Read ℕ
held r = cond (leb r.0 4294967295) (some r) none

-- a whole number that 32 bits hold, white space before it
unfoldable pub read_word : List ℕ → Read ℕ
read_word s = bind (read_whole (skip s)) held

-- ---- arrays and objects

-- One turn reads one thing, then `close` or a comma and what follows it. Each turn takes a byte or more, so that length s turns are enough for s.
module _ {S : Type 0} (step : S → List ℕ → Read S) (close : List ℕ) where
  unfoldable pub read_turns : ℕ → S → List ℕ → Read S
  read_turns zero st s = none
  read_turns (suc k) st s =
      bind (step st s) (λ (st', t). either (read_token close t) (λ u. some (st', u)) (bind (read_token (ascii ",") t) (λ u. read_turns k st' u)))

  abbrev pub read_separated : S → List ℕ → Read S
  read_separated st s = read_turns (length s) st s

-- one more number
unfoldable pub read_entry : List ℕ → List ℕ → Read (List ℕ)
read_entry ns s = bind (read_word s) (λ (n, t). some (ns ++ (n ∷ []), t))

-- an array: its bracket, then the closing one or numbers up to it
unfoldable pub read_array : List ℕ → Read (List ℕ)
read_array s =
    bind (read_token (ascii "[") s) (λ t. either (read_token (ascii "]") t) (λ u. some ([], u)) (read_separated read_entry (ascii "]") [] t))

-- a key with its quotation marks
abbrev pub quoted : Name → List ℕ
quoted Bits = ascii "\"bits\""
quoted SortedIndices = ascii "\"sorted_indices\""
quoted BestDivision = ascii "\"best_division\""
quoted BlockSize = ascii "\"block_size\""
quoted LowFirst = ascii "\"low_first\""
quoted ZScore = ascii "\"z_score\""

-- the first of these names that stands there
unfoldable pub read_name : List Name → List ℕ → Read Name
read_name [] s = none
read_name (x ∷ xs) s = either (read_token (quoted x) s) (λ t. some (x, t)) (read_name xs s)

-- the keys there are
abbrev pub names : List Name
names = Bits ∷ SortedIndices ∷ BestDivision ∷ BlockSize ∷ LowFirst ∷ ZScore ∷ []

-- a key and the colon behind it
unfoldable pub read_key : List ℕ → Read Name
read_key s = bind (read_name names s) (λ (x, t). bind (read_token (ascii ":") t) (λ u. some (x, u)))

-- the value of a key that was not there before
unfoldable pub read_value : Name → Seen → List ℕ → Read Seen
read_value Bits (seen none i d b l z) s = bind (read_array s) (λ (ns, t). some (seen (some ns) i d b l z, t))
read_value Bits (seen (some x) i d b l z) s = none
read_value SortedIndices (seen x none d b l z) s = bind (read_array s) (λ (ns, t). some (seen x (some ns) d b l z, t))
read_value SortedIndices (seen x (some i) d b l z) s = none
read_value BestDivision (seen x i none b l z) s = bind (read_word s) (λ (n, t). some (seen x i (some n) b l z, t))
read_value BestDivision (seen x i (some d) b l z) s = none
read_value BlockSize (seen x i d none l z) s = bind (read_word s) (λ (n, t). some (seen x i d (some n) l z, t))
read_value BlockSize (seen x i d (some b) l z) s = none
read_value LowFirst (seen x i d b none z) s = bind (read_truth s) (λ (v, t). some (seen x i d b (some v) z, t))
read_value LowFirst (seen x i d b (some l) z) s = none
read_value ZScore (seen x i d b l false) s = bind (skip_score s) (λ t. some (seen x i d b l true, t))
read_value ZScore (seen x i d b l true) s = none

-- a key with its colon, and the value that it wants
unfoldable pub read_member : Seen → List ℕ → Read Seen
read_member st s = bind (read_key s) (λ (x, t). read_value x st t)

-- the four keys were there that have to be
unfoldable pub whole : Seen → Option Exchanged
whole (seen none i d b l z) = none
whole (seen (some x) none d b l z) = none
whole (seen (some x) (some i) none b l z) = none
whole (seen (some x) (some i) (some d) none l z) = none
whole (seen (some x) (some i) (some d) (some b) l z) = some (record { bits = x; indices = i; division = d; block = b; low_first = low_of l })

-- nothing is left
abbrev pub is_empty : List ℕ → Bool
is_empty [] = true
is_empty (c ∷ s) = false

-- before the first member
abbrev pub nothing_seen : Seen
nothing_seen = seen none none none none none false

-- the whole text: a brace, members up to the closing one, white space
unfoldable pub read_text : List ℕ → Option Exchanged
read_text s =
    bind (read_token (ascii "{") s) (λ t.
    bind (read_separated read_member (ascii "}") nothing_seen t) (λ (st, u). cond (is_empty (skip u)) (whole st) none))
