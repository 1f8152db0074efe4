-- `tally::count_both` meets its contract: whole words, and the first lanes of one more.
use Prim.Native.Nat.{ℕ, ◌/◌, ◌%◌, ◌^◌, ◌<◌}
use mathlib.Core.Path.{ap, sym, ◌∙◌}
use lib.Count.{ones}
use lib.Dec.{lit<}
use Rattle.counting.specs.Tally.{word_at, word_with}
use Rattle.counting.proofs.Tallying.{anded_word, with_small, lanes_part, lanes_whole}
use native.Mathlib.Omega.{arith}
use borrow.Author.Rules.{rules}
use Rattle.counting.proofs.tally.count_both.Goals.{After-shared_slice_known-3-1}
use Rattle.counting.proofs.tally.count_both.Goals as goal

-- the words of acc and of both rows, by the flip of the low one
abbrev both : (d : After-shared_slice_known-3-1) → ℕ → ℕ → ℕ
both d flip =
    let a = d.args in
    word_with (word_with (word_at a.acc.now) a.high.now a.flip) a.low.now flip

-- each is one of 64 bits
small : (d : After-shared_slice_known-3-1) (flip : ℕ) → flip < 2 ^ 64 → (t : ℕ) → both d flip t < 2 ^ 64
small d flip fits =
    let a = d.args in
    with_small (word_with (word_at a.acc.now) a.high.now a.flip) a.low.now flip
    (with_small (word_at a.acc.now) a.high.now a.flip (λ t. search (rules, d.shared_slice_known-1.given t)) (λ t. search (rules, d.shared_slice_known-2-1.given t)) d.ranges.flip.fits)
    (λ t. search (rules, d.shared_slice_known-3-1.given t)) fits

pub returns-then-rest-gt0 : goal.returns-then-rest-gt0
returns-then-rest-gt0 c =
    let a = c.args in
    let w = c.word-w in
    let words = word_with (word_at a.acc.now) a.high.now a.flip in
    record {
      without_value = (
        omega (
          arith,
          lanes_part (both (goal.at.returns-then-rest-gt0 c).After-shared_slice_known-3-1 18446744073709551615) (small (goal.at.returns-then-rest-gt0 c).After-shared_slice_known-3-1 18446744073709551615 (lit< tt)) a.n,
          c.both_words-sums.ensures.without_value.0,
          c.ones_below.ensures.0,
          ap (λ (x : ℕ). ones (x % 2 ^ (a.n % 64))) (anded_word words a.low.now 18446744073709551615 (a.n / 64) _ _ w.ensures c.anded.ensures),
        ),
        omega arith,
      );
      with_value = (
        omega (
          arith,
          lanes_part (both (goal.at.returns-then-rest-gt0 c).After-shared_slice_known-3-1 0) (small (goal.at.returns-then-rest-gt0 c).After-shared_slice_known-3-1 0 (lit< tt)) a.n,
          c.both_words-sums.ensures.with_value.0,
          c.ones_below-then-rest-gt0.ensures.0,
          ap (λ (x : ℕ). ones (x % 2 ^ (a.n % 64))) (anded_word words a.low.now 0 (a.n / 64) _ _ w.ensures c.anded-then-rest-gt0.ensures),
        ),
        omega arith,
      );
    }

pub returns-else-rest-gt0 : goal.returns-else-rest-gt0
returns-else-rest-gt0 c =
    let a = c.args in record {
      without_value = (c.both_words-sums.ensures.without_value.0 ∙ sym (lanes_whole (both (goal.at.returns-else-rest-gt0 c).After-shared_slice_known-3-1 18446744073709551615) (small (goal.at.returns-else-rest-gt0 c).After-shared_slice_known-3-1 18446744073709551615 (lit< tt)) a.n c.if-rest-gt0.false), omega arith);
      with_value = (c.both_words-sums.ensures.with_value.0 ∙ sym (lanes_whole (both (goal.at.returns-else-rest-gt0 c).After-shared_slice_known-3-1 0) (small (goal.at.returns-else-rest-gt0 c).After-shared_slice_known-3-1 0 (lit< tt)) a.n c.if-rest-gt0.false), omega arith);
    }
