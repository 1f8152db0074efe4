-- `writer::text_length` meets its contract: 75 fixed bytes, the numbers, and true or false.
use borrow.Author.Rules.{rules}
use Prim.Native.Nat.{◌≤◌}
use mathlib.Core.Path.{◌≡◌}
use native.Mathlib.Omega.{arith}
use lib.ListN.{length}
use lib.Seq.{length-take-le}
use Rattle.judging.specs.Check.{chosen}
use Rattle.exchange.specs.Exchange.{exchanged_of}
use Rattle.exchange.proofs.Figures.{digits_ten}
use Rattle.exchange.proofs.Commas.{listed_ten}
use Rattle.exchange.proofs.Acceptance.{bins_most}
use Rattle.exchange.proofs.Pieces.{length_text, truth_most}
use Rattle.exchange.proofs.writer.text_length.Goals.{After-digits-2, After-listed_length, After-listed_length-2, Start}
use Rattle.exchange.proofs.writer.text_length.Goals as goal

size : (s : Start) → length s.args.finding.bits ≡ 20
size s = search rules

-- as many bits as the width says
chosen_size : (s : Start) → length (chosen s.args.finding) ≡ s.args.finding.width
chosen_size s =
    let f = s.args.finding in
    let room : f.width ≤ length f.bits = omega (arith, size s, s.requires.width) in
    length-take-le f.width f.bits room

few : (s : Start) → length s.args.order.now ≤ 1048576
few s = omega (arith, s.requires.sized, bins_most s.args.finding.width s.requires.width)

numbers : (d : After-digits-2) → (d.digits-2.result ≤ 10) × (d.digits.result ≤ 10)
numbers d =
    let f = d.args.finding in
    (omega (arith, digits_ten f.block_size, d.digits-2.ensures), omega (arith, digits_ten f.division, d.digits.ensures))

bits : (d : After-listed_length) → d.listed_length.result ≤ 220
bits d =
    omega (arith, d.listed_length.ensures, listed_ten (chosen d.args.finding), chosen_size (goal.at.overflow_add-result d).Start, d.requires.width)

indices : (d : After-listed_length-2) → d.listed_length-2.result ≤ 11534336
indices d =
    omega (arith, d.listed_length-2.ensures, listed_ten d.args.order.now, few (goal.at.overflow_add-result-2 d).Start)

pub overflow_add-numbers : goal.overflow_add-numbers
overflow_add-numbers c = omega (arith, (numbers c).0, (numbers c).1)

pub overflow_add-result : goal.overflow_add-result
overflow_add-result c = omega (arith, bits c)

pub listed_length-requires-2 : goal.listed_length-requires-2
listed_length-requires-2 c = few (goal.at.listed_length-requires-2 c).Start

pub overflow_add-result-2 : goal.overflow_add-result-2
overflow_add-result-2 c = omega (arith, bits (goal.at.overflow_add-result-2 c).After-listed_length, indices c)

pub overflow_add-result-3 : goal.overflow_add-result-3
overflow_add-result-3 c =
    let n = numbers (goal.at.overflow_add-result-3 c).After-digits-2 in
    omega (arith, bits (goal.at.overflow_add-result-3 c).After-listed_length, indices c, n.0, n.1)

pub overflow_add-result-4 : goal.overflow_add-result-4
overflow_add-result-4 c =
    let n = numbers (goal.at.overflow_add-result-4 c).After-digits-2 in
    let low = c.args.finding.low_first in
    omega (arith, bits (goal.at.overflow_add-result-4 c).After-listed_length, indices (goal.at.overflow_add-result-4 c).After-listed_length-2, n.0, n.1, c.truth_length.ensures, truth_most low)

pub returns : goal.returns
returns c =
    omega
    (arith, length_text (exchanged_of c.args.finding c.args.order.now), c.listed_length-2.ensures, c.listed_length.ensures, c.digits-2.ensures, c.digits.ensures, c.truth_length.ensures)
