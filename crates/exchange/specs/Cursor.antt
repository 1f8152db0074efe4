-- What the steps of the code that reads a text answer, in the reader's words. A cursor is the bytes that are left.
use Rattle.std.specs.Prelude.{Bool, false, List, [], ◌∷◌, ℕ, length, Option, Some, None}
use Rattle.std.specs.Borrow.{Bor}
use Rattle.std.proofs.Math.Option.{none, some}
use Rattle.std.proofs.Math.Option as maybe
use Rattle.exchange.specs.Grammar.{Exchanged, is_digit, Seen, seen}
use Rattle.exchange.specs.Reader.{Read}
use Rattle.exchange.specs.Arrays.{numbers_in}
use Rattle.exchange.specs.declared.listed.Listed.{Listed}
use Rattle.exchange.specs.declared.members.Found.{Found}
use Rattle.exchange.specs.declared.text.Said.{Said}

-- nothing, or f of what there is
abbrev pub told : {A B : Type 0} → (A → B) → Option A → maybe.Option B
told f None = none
told f (Some a) = some (f a)

-- the bytes that are left
abbrev pub left_of : Option (Bor (List ℕ)) → maybe.Option (List ℕ)
left_of o = told (λ t. t.now) o

-- what was read, and the bytes that are left
abbrev pub read_of : {A : Type 0} → Option (A × Bor (List ℕ)) → Read A
read_of o = told (λ p. (p.0, p.1.now)) o

-- ---- numbers

-- the bytes behind a number
abbrev pub rest_of : Read ℕ → maybe.Option (List ℕ)
rest_of none = none
rest_of (some p) = some p.1

-- something was read
abbrev pub IsRead : {A : Type 0} → maybe.Option A → Type 0
IsRead none = ⊥
IsRead (some a) = Unit {0}

-- a digit stands first
abbrev pub digit_first : List ℕ → Bool
digit_first [] = false
digit_first (c ∷ s) = is_digit c

-- ---- arrays

-- how many numbers were read
abbrev pub counted : Read (List ℕ) → Read ℕ
counted none = none
counted (some p) = some (length p.0, p.1)

-- the numbers of an array that was read
abbrev pub numbers_of : Listed → List ℕ
numbers_of l = numbers_in l.text.now

-- an array that was read, and the bytes that are left
abbrev pub array_of : Option (Listed × Bor (List ℕ)) → Read (List ℕ)
array_of o = told (λ p. (numbers_of p.0, p.1.now)) o

-- ---- members

-- what the members so far have said
abbrev pub seen_in : Found → Seen
seen_in f =
    seen (told numbers_of f.bits) (told numbers_of f.indices) (told (λ n. n) f.division) (told (λ n. n) f.block_size) (told (λ v. v) f.low_first) f.scored

-- what all members have said, and the bytes that are left
abbrev pub members_of : Option (Found × Bor (List ℕ)) → Read Seen
members_of o = told (λ p. (seen_in p.0, p.1.now)) o

-- ---- a whole text

-- what a text says
abbrev pub exchanged_in : Said → Exchanged
exchanged_in r = record { bits = numbers_of r.bits; indices = numbers_of r.indices; division = r.division; block = r.block_size; low_first = r.low_first }

abbrev pub said_of : Option Said → maybe.Option Exchanged
said_of o = told exchanged_in o
