-- `reading::next_digit` meets its contract: each turn goes on within the text.
use Rattle.std.proofs.Common.{◌-◌, ◌≤◌, min, length}
use Rattle.cases.proofs.reading.next_digit.Given as goal

abbrev pub invariant-loop-i : goal.invariant-loop-i
invariant-loop-i l = (min l.at (length l.text) ≤ l.i) × (l.i ≤ length l.text)

abbrev pub decreases-loop-i : goal.decreases-loop-i
decreases-loop-i l = length l.text - l.i
