-- How long a text can be, and how many indices one can have.
use Rattle.std.specs.Prelude.{◌≡◌, cond, List, ℕ, ◌+◌, ◌*◌, ◌/◌, ◌^◌, ◌≤◌, length}
use Rattle.std.proofs.Math.Option.{some}
use Rattle.subsets.specs.Bits.{valid_width}
use Rattle.searching.specs.declared.finding.Finding.{Finding}
use Rattle.judging.specs.Check.{check_refusal}
use Rattle.exchange.specs.Grammar.{Exchanged}
use Rattle.exchange.specs.Reader.{read_text}
use Rattle.exchange.specs.Exchange.{finding_text}

-- 80 fixed bytes, where low_first is false; 4 digits for the block size and for each of the k bits, 1 + 3k/10 for the division and for each of the 2^k indices; commas between them
unfoldable pub longest_text : ℕ → ℕ
longest_text k = cond (valid_width k) (81 + 5 * k + (2 ^ k + 1) * (2 + 3 * k / 10)) 0

-- Theorem: no text of an accepted finding is longer.
abbrev pub TextFits : Type 0
TextFits =
    (f : Finding) (order : List ℕ) (scratch : ℕ) → length f.bits ≡ 20 → check_refusal f order scratch ≡ 0
    → length (finding_text f order) ≤ longest_text f.width

-- Theorem: an order buffer of half as many entries as the text has bytes has room for its indices.
abbrev pub IndicesFit : Type 0
IndicesFit = (s : List ℕ) (e : Exchanged) → read_text s ≡ some e → 2 * length e.indices ≤ length s
