-- `Reader::fill` meets its contract: each number read goes on within the text.
use Rattle.std.proofs.Common.{◌≡◌}
use Rattle.cases.specs.Reading.{Onward}
use Rattle.cases.proofs.reading.Reader.fill.Given as goal

abbrev pub invariant-loop-entry : goal.invariant-loop-entry
invariant-loop-entry g l = Onward l.fn.self.text.now l.fn.self.at l.self.at × (l.self.text ≡ l.fn.self.text)
