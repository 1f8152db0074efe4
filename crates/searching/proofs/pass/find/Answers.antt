-- `pass::find` meets its contract: the pick gives the winner, and ranking it once more leaves its counts and order in the buffers.
use mathlib.Core.Path.{◌≡◌, sym, ap, ◌∙◌}
use mathlib.Core.Bool.{false}
use mathlib.Core.List.{List, ◌++◌}
use Prim.Native.Nat.{ℕ, ◌^◌}
use lib.ListN.{take}
use Rattle.counting.specs.Sample.{counts_of}
use Rattle.counting.specs.Stretch.{span, stretch_bit}
use Rattle.ranking.specs.Order.{order_of}
use Rattle.subsets.specs.Subsets.{Subset}
use Rattle.searching.specs.Finding.{winner_of, ranking_of}
use Rattle.searching.proofs.Walking.{winner_optimal, winner_front}
use Rattle.searching.proofs.pass.find.Goals.{After-pick-bits, Start}
use Rattle.searching.proofs.pass.find.Goals as goal

abbrev winner : Start → List ℕ
winner s = winner_of (stretch_bit s.args.sample.now.stretch s.args.sample.now.words.now) (span s.args.sample.now.stretch) s.args.sample.now.stretch.block_size s.args.sample.now.k

winner_is : (s : Start) → Subset s.args.sample.now.stretch.block_size s.args.sample.now.k (winner s)
winner_is s = (winner_optimal (stretch_bit s.args.sample.now.stretch s.args.sample.now.words.now) (span s.args.sample.now.stretch) s.args.sample.now.stretch.block_size s.args.sample.now.k s.args.sample.now.searchable.chosen).subset

-- the bits that were picked
picked : (w : After-pick-bits) → take w.args.sample.now.k w.pick-bits.result ≡ winner_of (stretch_bit w.args.sample.now.stretch w.args.sample.now.words.now) (span w.args.sample.now.stretch) w.args.sample.now.stretch.block_size w.args.sample.now.k
picked w =
    winner_front (stretch_bit w.args.sample.now.stretch w.args.sample.now.words.now) (span w.args.sample.now.stretch) w.args.sample.now.stretch.block_size w.args.sample.now.k w.pick-bits.result w.args.sample.now.searchable.chosen w.pick-bits.ensures.value

pub begin-requires-clause-subset : goal.begin-requires-clause-subset
begin-requires-clause-subset c =
    let won = winner_is (goal.at.begin-requires-clause-subset c).Start in
    rw (picked (goal.at.begin-requires-clause-subset c).After-pick-bits) won

pub rank-ranking-requires-clause-subset : goal.rank-ranking-requires-clause-subset
rank-ranking-requires-clause-subset c =
    let won = winner_is (goal.at.rank-ranking-requires-clause-subset c).Start in
    rw (picked (goal.at.rank-ranking-requires-clause-subset c).After-pick-bits) won

pub returns : goal.returns
returns c =
    let a = c.args in
    let bit = stretch_bit a.sample.now.stretch a.sample.now.words.now in
    let n = span a.sample.now.stretch in
    let m = 2 ^ a.sample.now.k in
    let r = c.rank-ranking in
    let is = picked (goal.at.returns c).After-pick-bits in
    let won = winner_is (goal.at.returns c).Start in
    let rank = r.ensures.value ∙ ap (ranking_of bit n) is in
    let past = c.begin.ensures.past_same in
    record {
      found = λ i. record {
        block_size = a.sample.now.stretch.block_size;
        width = sym won.size i;
        bits = c.pick-bits.ensures.value i;
        division = (rank i).division;
        z = (rank i).z;
        low_first = false;
      };
      counted = r.ensures.bins_after ∙ λ i. counts_of bit n (is i) ++ (past.0 ∙ c.pick-bits.ensures.past_same.0) i;
      ordered = r.ensures.order_after ∙ λ i. order_of (counts_of bit n (is i)) ++ (past.1 ∙ c.pick-bits.ensures.past_same.1) i;
    }
