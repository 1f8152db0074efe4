-- A finding and its order as text: what the two calls answer and leave.
use Rattle.std.specs.Prelude.{◌≡◌, cond, List, ◌++◌, ℕ, zero, suc, leb, length, take, drop, Result, Ok, Err}
use Rattle.std.proofs.Math.Option.{Option, none, some}
use Rattle.counting.specs.Refusal.{number_of}
use Rattle.counting.specs.declared.refusal.Refusal.{Refusal}
use Rattle.subsets.specs.Subsets.{padded}
use Rattle.ranking.specs.Ranking.{zero_score}
use Rattle.searching.specs.Refusal.{or_else}
use Rattle.searching.specs.Finding.{no_finding}
use Rattle.searching.specs.declared.finding.Finding.{Finding}
use Rattle.judging.specs.Check.{chosen, check_refusal, checked_scratch}
use Rattle.exchange.specs.Grammar.{Exchanged}
use Rattle.exchange.specs.Reader.{read_text}
use Rattle.exchange.specs.Writer.{text_of}

-- 17: `need` entries do not fit a buffer of `room`
unfoldable pub room_refusal : ℕ → ℕ → ℕ
room_refusal need room = cond (leb need room) 0 17

-- a lent buffer that begins with these entries: the rest is as lent
abbrev pub begun : List ℕ → List ℕ → List ℕ
begun entries lent = entries ++ drop (length entries) lent

-- ---- writing

-- what is written of a finding and its order: no z, and no bit entry past the width
abbrev pub exchanged_of : Finding → List ℕ → Exchanged
exchanged_of f order = record { bits = chosen f; indices = order; division = f.division; block = f.block_size; low_first = f.low_first }

-- the bytes that are written
abbrev pub finding_text : Finding → List ℕ → List ℕ
finding_text f order = text_of (exchanged_of f order)

-- the check's refusals, then 17
unfoldable pub write_refusal : Finding → List ℕ → ℕ → ℕ → ℕ
write_refusal f order scratch out = or_else (check_refusal f order scratch) (room_refusal (length (finding_text f order)) out)

-- what a writing answers: a refusal, 0 where there is none, and the length of the text that was written
pub record Written : Type 0 where
  pub refusal : ℕ
  pub length : ℕ

-- .. of a call's answer: the length is 0 beside a refusal
abbrev pub as_written : Result ℕ Refusal → Written
as_written (Ok n) = record { refusal = 0; length = n }
as_written (Err r) = record { refusal = number_of r; length = 0 }

-- the refusal r, and the length of the text s; 0 where refused
abbrev pub written_with : ℕ → List ℕ → Written
written_with zero s = record { refusal = 0; length = length s }
written_with (suc r) s = record { refusal = suc r; length = 0 }

-- the output after the refusal r: it begins with the text s; as lent where refused
abbrev pub output_after : ℕ → List ℕ → List ℕ → List ℕ
output_after zero s out = begun s out
output_after (suc r) s out = out

-- What a writing answers and leaves. The scratch is the check's.
pub record Writes (f : Finding) (order scratch out : List ℕ) (r : Written) (scratch' out' : List ℕ) : Type 0 where
  pub answered : r ≡ written_with (write_refusal f order (length scratch) (length out)) (finding_text f order)
  pub output : out' ≡ output_after (write_refusal f order (length scratch) (length out)) (finding_text f order) out
  pub checked : scratch' ≡ checked_scratch f (length order) scratch

-- ---- reading

-- the finding that is read: its width is the number of bits, of which it has room for twenty; z is 0, and so are the bit entries past the width
abbrev pub said_finding : Exchanged → Finding
said_finding e =
    record { block_size = e.block; width = length e.bits; bits = padded (take 20 e.bits); division = e.division; z = zero_score; low_first = e.low_first }

-- of what a text says, the order buffer having `room` entries: 17, then the check's refusals
unfoldable pub said_refusal : Exchanged → ℕ → ℕ → ℕ
said_refusal e room scratch = or_else (room_refusal (length e.indices) room) (check_refusal (said_finding e) e.indices scratch)

-- what a reading answers: a refusal, 0 where there is none, and the finding that was read
pub record Reading : Type 0 where
  pub refusal : ℕ
  pub finding : Finding

-- .. of a call's answer: every field of the finding is 0 beside a refusal
abbrev pub as_reading : Result Finding Refusal → Reading
as_reading (Ok f) = record { refusal = 0; finding = f }
as_reading (Err r) = record { refusal = number_of r; finding = no_finding }

-- the finding after the refusal r: every field 0 where refused
abbrev pub reading_with : ℕ → Finding → Reading
reading_with zero f = record { refusal = 0; finding = f }
reading_with (suc r) f = record { refusal = suc r; finding = no_finding }

-- the answer: 16 where the text is none
abbrev pub reading_of : Option Exchanged → ℕ → ℕ → Reading
reading_of none room scratch = reading_with 16 no_finding
reading_of (some e) room scratch = reading_with (said_refusal e room scratch) (said_finding e)

-- the order: as lent after 16 and 17, else it begins with the indices, whatever the check says
abbrev pub read_order : Option Exchanged → List ℕ → List ℕ
read_order none order = order
read_order (some e) order = cond (leb (length e.indices) (length order)) (begun e.indices order) order

-- the scratch: as lent after 16 and 17, else as the check leaves it
abbrev pub read_scratch : Option Exchanged → ℕ → List ℕ → List ℕ
read_scratch none room scratch = scratch
read_scratch (some e) room scratch =
    cond (leb (length e.indices) room) (checked_scratch (said_finding e) (length e.indices) scratch) scratch

-- What a reading answers and leaves.
pub record Reads (text order scratch : List ℕ) (r : Reading) (order' scratch' : List ℕ) : Type 0 where
  pub answered : r ≡ reading_of (read_text text) (length order) (length scratch)
  pub indices : order' ≡ read_order (read_text text) order
  pub checked : scratch' ≡ read_scratch (read_text text) (length order) scratch
