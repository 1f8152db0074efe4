-- `records::write_tested` meets its contract: the finding's numbers, and four stores behind them.
use mathlib.Core.Path.{◌≡◌, ap, ◌∙◌}
use native.Mathlib.Omega.{arith}
use Prim.Native.Nat.{ℕ}
use mathlib.Core.List.{List}
use lib.ListN.{length, set, length-set}
use Rattle.exports.specs.Records.{finding_numbers}
use Rattle.exports.proofs.Writing.{finding_size, four_more}
use borrow.Author.Rules.{rules}
use Rattle.exports.proofs.records.write_tested.Goals.{After-struct_known-1, Start}
use Rattle.exports.proofs.records.write_tested.Goals as goal

size : (s : Start) → length s.args.tested.finding.bits ≡ 20
size s = search rules

-- the numbers are as many as before
kept : (c : After-struct_known-1) → length c.write_finding.new.numbers ≡ length c.args.numbers.now
kept c = c.write_finding.auto.numbers

pub bounds-numbers-26 : goal.bounds-numbers-26
bounds-numbers-26 c = simp length-set (omega (arith, kept c, c.requires))

pub bounds-numbers-27 : goal.bounds-numbers-27
bounds-numbers-27 c = simp length-set (omega (arith, kept c, c.requires))

pub bounds-numbers-28 : goal.bounds-numbers-28
bounds-numbers-28 c = simp length-set (omega (arith, kept c, c.requires))

pub returns : goal.returns
returns c =
    let t = c.args.tested in
    ap (λ (n : List ℕ). set (set (set (set n 25 t.blocks) 26 t.positive) 27 t.low) 28 t.high) c.write_finding.ensures
    ∙ four_more (finding_numbers t.finding) c.args.numbers.now t.blocks t.positive t.low t.high (finding_size t.finding (size (goal.at.returns c).Start)) c.requires
