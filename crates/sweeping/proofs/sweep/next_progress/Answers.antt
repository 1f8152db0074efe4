-- `sweep::next_progress` meets its contract: a rejection stops, a pair of fewer than two blocks is skipped, any other can be tested.
use mathlib.Core.Path.{ap, ◌∙◌}
use Prim.Native.Nat.{◌/◌, ◌≤◌, ◌<◌}
use native.Mathlib.Omega.{arith}
use lib.ListN.{length}
use borrow.Author.Tests.{le-leb, lt-leb}
use Rattle.counting.proofs.Accepted.{valid_facts}
use Rattle.sweeping.specs.Progress.{counted}
use Rattle.sweeping.specs.Sweep.{room_of}
use Rattle.sweeping.proofs.Progressing.{stopped, skips, tests}
use Rattle.sweeping.proofs.Refusals.{testable}
use Rattle.sweeping.proofs.sweep.next_progress.Goals.{Else-raw-pair-lt2}
use Rattle.sweeping.proofs.sweep.next_progress.Goals as goal

-- two blocks or more
two : (d : Else-raw-pair-lt2) → let a = d.args in 2 ≤ length a.raw.now / (a.pair.block_size / 8)
two d = omega (arith, d.if-raw-pair-lt2.false)

pub returns-then-progress : goal.returns-then-progress
returns-then-progress c =
    let a = c.args in
    stopped a.share a.raw.now a.pair a.progress c.if-progress.true

pub nonzero_div-raw : goal.nonzero_div-raw
nonzero_div-raw c = omega (arith, (valid_facts c.args.pair.block_size c.requires.sizes.0.valid).low)

pub returns-then-raw-pair-lt2 : goal.returns-then-raw-pair-lt2
returns-then-raw-pair-lt2 c =
    let a = c.args in
    let few : length a.raw.now / (a.pair.block_size / 8) < 2 = omega (arith, c.if-raw-pair-lt2.true) in
    skips a.share a.raw.now a.pair a.progress c.if-progress.false (lt-leb _ _ few)

pub test_pair-tested-requires : goal.test_pair-tested-requires
test_pair-tested-requires c =
    let a = c.args in
    testable a.pair (length a.raw.now) (room_of a.words.now a.bins.now a.order.now a.scratch.now a.entries.now) c.requires.sizes.0 c.requires.entries_value (two (goal.at.test_pair-tested-requires c).Else-raw-pair-lt2)

pub returns : goal.returns
returns c =
    let a = c.args in
    c.counted.ensures ∙ ap (counted a.share a.progress) c.test_pair-tested.ensures
    ∙ tests a.share a.raw.now a.pair a.progress c.if-progress.false (le-leb _ _ (two (goal.at.returns c).Else-raw-pair-lt2))
