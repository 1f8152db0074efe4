-- `members::read_members` meets its contract: each turn is one turn of the definition, from what was found so far.
use Rattle.std.proofs.Common.{◌≡◌, length}
use Rattle.exchange.specs.Reader.{nothing_seen}
use Rattle.exchange.specs.Cursor.{seen_in}
use Rattle.exchange.proofs.Collecting.{members_from}
use Rattle.exchange.proofs.members.read_members.Given as goal

abbrev pub invariant-loop-more : goal.invariant-loop-more
invariant-loop-more l = members_from nothing_seen l.s ≡ members_from (seen_in l.found) l.left

abbrev pub decreases-loop-more : goal.decreases-loop-more
decreases-loop-more l = length l.left
