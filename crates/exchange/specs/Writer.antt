-- What is written: the five keys in their order, decimal numbers without leading zeros, no white space.
use Rattle.std.specs.Prelude.{◌≡◌, Bool, cond, List, [], ◌∷◌, ◌++◌, ℕ, zero, suc, ◌+◌, ◌/◌, ◌%◌, ◌^◌, ◌≤◌, ◌<◌, ltb, length, get_or}
use Rattle.searching.specs.declared.finding.Finding.{Finding}
use Rattle.judging.specs.Check.{chosen}
use Rattle.exchange.specs.Grammar.{Exchanged, ascii}

-- n's digits, at most k of them behind the first
unfoldable pub digits_of : ℕ → ℕ → List ℕ
digits_of zero n = (48 + n) ∷ []
digits_of (suc k) n = cond (ltb n 10) ((48 + n) ∷ []) (digits_of k (n / 10) ++ ((48 + n % 10) ∷ []))

-- the last k digits of n, zeros in front among them
unfoldable pub places : ℕ → ℕ → List ℕ
places zero n = []
places (suc k) n = places k (n / 10) ++ ((48 + n % 10) ∷ [])

-- ten digits are enough for 32 bits
unfoldable pub decimal : ℕ → List ℕ
decimal n = digits_of 9 n

-- numbers behind another
unfoldable pub behind : List ℕ → List ℕ
behind [] = []
behind (n ∷ ns) = ascii "," ++ decimal n ++ behind ns

-- numbers with commas between them
unfoldable pub listed : List ℕ → List ℕ
listed [] = []
listed (n ∷ ns) = decimal n ++ behind ns

-- true or false
abbrev pub truth : Bool → List ℕ
truth v = cond v (ascii "true") (ascii "false")

-- the whole text
unfoldable pub text_of : Exchanged → List ℕ
text_of r =
    ascii "{\"bits\":[" ++ listed r.bits ++ ascii "],\"sorted_indices\":[" ++ listed r.indices ++ ascii "],\"best_division\":"
    ++ decimal r.division ++ ascii ",\"block_size\":" ++ decimal r.block ++ ascii ",\"low_first\":" ++ truth r.low_first ++ ascii "}"

-- the two parts in which it is written: up to the end of the second array's numbers, and from there on
unfoldable pub arrays_text : List ℕ → List ℕ → List ℕ
arrays_text bits indices = ascii "{\"bits\":[" ++ listed bits ++ ascii "],\"sorted_indices\":[" ++ listed indices

-- .. the second of them
unfoldable pub numbers_text : ℕ → ℕ → Bool → List ℕ
numbers_text division block low =
    ascii "],\"best_division\":" ++ decimal division ++ ascii ",\"block_size\":" ++ decimal block ++ ascii ",\"low_first\":" ++ truth low ++ ascii "}"

-- .. of which this is the end: the last member and the brace
unfoldable pub low_text : Bool → List ℕ
low_text low = ascii ",\"low_first\":" ++ truth low ++ ascii "}"

-- numbers that 32 bits hold
abbrev pub Words : List ℕ → Type 0
Words ns = (i : ℕ) → i < length ns → get_or ns i 0 ≤ 4294967295

-- all numbers of a text are such
pub record Fits (r : Exchanged) : Type 0 where
  pub bits : Words r.bits
  pub indices : Words r.indices
  pub division : r.division ≤ 4294967295
  pub block : r.block ≤ 4294967295

-- what a check that accepts a finding and its order tells of the numbers to be written
pub record Writable (f : Finding) (order : List ℕ) : Type 0 where
  pub some : 1 ≤ f.width
  pub width : f.width ≤ 20
  pub block : f.block_size ≤ 4096
  pub bits : (i : ℕ) → i < length (chosen f) → get_or (chosen f) i 0 < f.block_size
  pub sized : length order ≡ 2 ^ f.width
  pub indices : (i : ℕ) → i < length order → get_or order i 0 < 2 ^ f.width
  pub division : f.division < 2 ^ f.width
