-- `writer::has_room` meets its contract: no text of the width is longer than the longest.
use borrow.Author.Rules.{rules}
use Prim.Native.Nat.{◌≤◌}
use mathlib.Core.Path.{◌≡◌, sym, ◌∙◌}
use native.Mathlib.Omega.{arith}
use lib.ListN.{length}
use borrow.Author.Tests.{le-leb}
use Rattle.exchange.specs.Exchange.{finding_text}
use Rattle.exchange.proofs.Bounds.{writable_fits}
use Rattle.exchange.proofs.writer.has_room.Goals.{Start}
use Rattle.exchange.proofs.writer.has_room.Goals as goal

size : (s : Start) → length s.args.finding.bits ≡ 20
size s = search rules

pub returns-then-longest_text-room : goal.returns-then-longest_text-room
returns-then-longest_text-room c =
    let a = c.args in
    let most = writable_fits a.finding a.order.now (size (goal.at.returns-then-longest_text-room c).Start) c.requires in
    let room : length (finding_text a.finding a.order.now) ≤ a.room = omega (arith, most, c.longest_text.ensures, c.if-longest_text-room.true) in
    le-leb _ _ c.if-longest_text-room.true ∙ sym (le-leb _ _ room)
