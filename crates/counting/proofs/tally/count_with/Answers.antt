-- `tally::count_with` meets its contract: whole words, and the first lanes of one more.
use Prim.Native.Nat.{ℕ, ◌%◌, ◌^◌, ◌<◌}
use mathlib.Core.Path.{ap, sym, ◌∙◌}
use lib.Count.{ones}
use Rattle.counting.specs.Tally.{word_at, word_with}
use Rattle.counting.proofs.Tallying.{with_small, lanes_part, lanes_whole}
use native.Mathlib.Omega.{arith}
use borrow.Author.Rules.{rules}
use Rattle.counting.proofs.tally.count_with.Goals.{After-shared_slice_known-2-1}
use Rattle.counting.proofs.tally.count_with.Goals as goal

-- a word of acc and of the row is one of 64 bits
small : (d : After-shared_slice_known-2-1) (t : ℕ)
    → word_with (word_at d.args.acc.now) d.args.row.now d.args.flip t < 2 ^ 64
small d =
    let a = d.args in
    with_small (word_at a.acc.now) a.row.now a.flip (λ t. search (rules, d.shared_slice_known-1.given t)) (λ t. search (rules, d.shared_slice_known-2-1.given t)) d.ranges.flip.fits

pub returns-then-rest-gt0 : goal.returns-then-rest-gt0
returns-then-rest-gt0 c =
    let a = c.args in (
      omega (
        arith,
        lanes_part (word_with (word_at a.acc.now) a.row.now a.flip) (small (goal.at.returns-then-rest-gt0 c).After-shared_slice_known-2-1) a.n,
        c.count_words-sum.ensures.0,
        c.ones_below.ensures.0,
        ap (λ (w : ℕ). ones (w % 2 ^ (a.n % 64))) c.word.ensures,
      ),
      omega arith,
    )

pub returns-else-rest-gt0 : goal.returns-else-rest-gt0
returns-else-rest-gt0 c =
    let a = c.args in
    (c.count_words-sum.ensures.0 ∙ sym (lanes_whole (word_with (word_at a.acc.now) a.row.now a.flip) (small (goal.at.returns-else-rest-gt0 c).After-shared_slice_known-2-1) a.n c.if-rest-gt0.false), omega arith)
