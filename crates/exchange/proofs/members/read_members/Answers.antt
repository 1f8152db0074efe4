-- `members::read_members` meets its contract: each turn is one turn of the definition, from what was found so far.
use Rattle.std.proofs.Common.{◌≡◌, sym, ap, ◌∙◌}
use Rattle.std.proofs.Math.Option.{none}
use Rattle.exchange.specs.Grammar.{Seen}
use Rattle.exchange.specs.Reader.{Read, nothing_seen}
use Rattle.exchange.specs.Cursor.{seen_in, members_of}
use Rattle.exchange.proofs.Collecting.{members_from, members_stop, members_close, members_open, members_next, member_past}
use Rattle.exchange.proofs.members.read_members.Goals.{At-loop-more}
use Rattle.exchange.proofs.members.read_members.Goals as goal

-- what was found so far leads where all lead
led : (d : At-loop-more) (o : Read Seen) → members_from (seen_in d.loop-more.found) d.loop-more.left.now ≡ o → members_from nothing_seen d.args.s.now ≡ o
led d o e = d.loop-more.invariant ∙ e

pub returns-in_err-more : goal.returns-in_err-more
returns-in_err-more c =
    ap members_of c.from_residual.ensures
    ∙ sym (led (goal.at.returns-in_err-more c).At-loop-more none (members_stop (seen_in c.loop-more.found) c.loop-more.left.now (sym c.in_err-more.ensures)))

pub returns-in-Some : goal.returns-in-Some
returns-in-Some c =
    sym (led (goal.at.returns-in-Some c).At-loop-more _
    (members_close (seen_in c.loop-more.found) c.loop-more.left.now (seen_in c.in_ok-more.more) c.in_ok-more.behind.now (sym c.in_ok-more.ensures) c.in-Some.end.now (sym c.in-Some.ensures)))

pub returns-in_err-left : goal.returns-in_err-left
returns-in_err-left c =
    ap members_of c.from_residual-in_err-left.ensures
    ∙ sym (led (goal.at.returns-in_err-left c).At-loop-more none
    (members_open (seen_in c.loop-more.found) c.loop-more.left.now (seen_in c.in_ok-more.more) c.in_ok-more.behind.now (sym c.in_ok-more.ensures) (sym c.in_default.ensures) (sym c.in_err-left.ensures)))

pub loop-more-smaller : goal.loop-more-smaller
loop-more-smaller c =
    member_past (seen_in c.loop-more.found) c.loop-more.left.now (seen_in c.in_ok-more.more) c.in_ok-more.behind.now (sym c.in_ok-more.ensures) c.in_ok-left.left.now (sym c.in_ok-left.ensures)

pub loop-more-preserved : goal.loop-more-preserved
loop-more-preserved c =
    led (goal.at.loop-more-preserved c).At-loop-more _
    (members_next (seen_in c.loop-more.found) c.loop-more.left.now (seen_in c.in_ok-more.more) c.in_ok-more.behind.now (sym c.in_ok-more.ensures) c.in_ok-left.left.now (sym c.in_default.ensures) (sym c.in_ok-left.ensures))
