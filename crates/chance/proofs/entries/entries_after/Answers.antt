-- `entries::entries_after` meets its contract: after t blocks the row of t blocks stands at the start, and only zeros are outside `from` and `to`.
use mathlib.Core.Path.{refl, ap₂, ◌∙◌}
use mathlib.Core.List.{List}
use Prim.Native.Nat.{ℕ, ◌+◌}
use native.Mathlib.Omega.{arith}
use lib.ListN.{set}
use Rattle.chance.proofs.Filling.{Filling, fill_begins, fill_more, ends_begin, ends_more, row_there}
use Rattle.chance.proofs.InPlace.{after}
use Rattle.chance.proofs.entries.entries_after.Goals.{After-next_row, At-loop-t}
use Rattle.chance.proofs.entries.entries_after.Goals as goal

-- the scratch where the loop begins
abbrev begun : At-loop-t → List ℕ
begun l = set l.args.scratch.now 0 1099511627776

next : (d : After-next_row) → Filling (d.loop-t.t + 1) d.args.k d.args.d (set d.args.scratch.now 0 1099511627776) d.next_row.new.scratch
next d =
    d.next_row.ensures ∙ ap₂ (λ (k x : ℕ). after k x (d.loop-t.t + 1) d.loop-t.scratch) d.new-odds.ensures.0 d.new-odds.ensures.1
    ∙ fill_more d.loop-t.t d.args.k d.args.d (set d.args.scratch.now 0 1099511627776) d.loop-t.scratch d.loop-t.invariant.1

pub loop-t-init : goal.loop-t-init
loop-t-init c =
    (refl, fill_begins c.args.k c.args.d c.args.scratch.now (omega arith), ends_begin c.args.k c.args.d)

pub next_row-requires-clause-row : goal.next_row-requires-clause-row
next_row-requires-clause-row c =
    row_there c.loop-t.t c.args.k c.args.d c.loop-t.from c.loop-t.to (begun (goal.at.next_row-requires-clause-row c).At-loop-t) c.loop-t.scratch c.requires.2 c.loop-t.invariant.1 c.loop-t.invariant.2

pub loop-t-preserved : goal.loop-t-preserved
loop-t-preserved c =
    let d = (goal.at.loop-t-preserved c).After-next_row in (
      d.next_row.auto.scratch ∙ c.loop-t.invariant.0,
      next d,
      ends_more c.loop-t.t c.args.k c.args.d c.loop-t.from c.loop-t.to c.past_zeros-from.result c.before_zeros-to.result (begun (goal.at.loop-t-preserved c).At-loop-t) d.next_row.new.scratch (next d) c.loop-t.invariant.2
          c.past_zeros-from.ensures.0 c.before_zeros-to.ensures.0 c.before_zeros-to.ensures.1 c.past_zeros-from.ensures.2 c.before_zeros-to.ensures.2,
    )
