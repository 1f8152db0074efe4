-- `Pass::walk` meets its contract: after each step the best so far beats every subset up to the current one.
use mathlib.Core.Path.{◌≡◌, refl, ap, ◌∙◌}
use mathlib.Core.Bool.{true}
use Prim.Native.Nat.{ℕ, ◌-◌, ◌^◌, ◌<◌}
use lib.ListN.{take}
use Rattle.counting.specs.Sample.{counts_of}
use Rattle.counting.specs.Stretch.{span, stretch_bit}
use Rattle.ranking.specs.declared.ranking.Ranking.{Ranking}
use Rattle.subsets.specs.Choose.{choose}
use Rattle.subsets.specs.Rank.{rank_of}
use Rattle.subsets.specs.Subsets.{Subset}
use Rattle.subsets.proofs.Visiting.{numbers_subset}
use Rattle.searching.specs.Pass.{PastSame}
use Rattle.searching.proofs.Filled.{counts_first, counts_rest, order_rest}
use Rattle.searching.proofs.Walking.{holds, fails, first_front, begun, takes, keeps, ends, falls}
use Rattle.searching.proofs.pass.Pass.walk.Goals.{After-first-bits, After-rank-next, After-step, Start}
use Rattle.searching.proofs.pass.Pass.walk.Goals as goal

-- the sample that is searched
abbrev bit : Start → ℕ → ℕ → ℕ
bit s = stretch_bit s.args.self.now.sample.stretch s.args.self.now.sample.words.now

-- the first subset
is_first : (d : After-first-bits) → Subset d.args.self.now.sample.stretch.block_size d.args.self.now.sample.k (take d.args.self.now.sample.k d.first-bits.result)
is_first d =
    let p = d.args.self.now.sample.searchable in
    rw (first_front (stretch_bit d.args.self.now.sample.stretch d.args.self.now.sample.words.now) (span d.args.self.now.sample.stretch) d.args.self.now.sample.stretch.block_size d.args.self.now.sample.k p.chosen p.width d.first-bits.result d.first-bits.ensures)
    (numbers_subset d.args.self.now.sample.stretch.block_size d.args.self.now.sample.k p.chosen)

-- the step makes the measure fall
less : (d : After-step) → d.step.result ≡ true
    → choose d.args.self.now.sample.stretch.block_size d.args.self.now.sample.k - rank_of d.args.self.now.sample.stretch.block_size (take d.args.self.now.sample.k d.step.new.bits)
    < choose d.args.self.now.sample.stretch.block_size d.args.self.now.sample.k - rank_of d.args.self.now.sample.stretch.block_size (take d.args.self.now.sample.k d.pass.bits)
less d e =
    let a = d.args in
    falls (stretch_bit a.self.now.sample.stretch a.self.now.sample.words.now) (span a.self.now.sample.stretch) a.self.now.sample.stretch.block_size a.self.now.sample.k d.args.self.now.sample.searchable.chosen d.args.self.now.sample.searchable.width _ _ _ _ d.pass.invariant.walked d.step.auto.bits
    _ d.step.ensures.stepped e

-- after a turn both buffers are past 2 ^ k entries as they were where the loop began, and the counts are first
buffers : (d : After-rank-next)
    → PastSame d.args.self.now.sample.k d.rank-ranking.new.bins d.rank-ranking.new.order d.rank-next.new.bins d.rank-next.new.order
    × (take (2 ^ d.args.self.now.sample.k) d.rank-next.new.bins ≡ counts_of (stretch_bit d.args.self.now.sample.stretch d.args.self.now.sample.words.now) (span d.args.self.now.sample.stretch) (take d.args.self.now.sample.k d.step.new.bits))
buffers d =
    let a = d.args in
    let g = d.step in
    let r = d.rank-next in
    let bit = stretch_bit a.self.now.sample.stretch a.self.now.sample.words.now in
    let n = span a.self.now.sample.stretch in
    let was = d.pass.invariant.past_same in
    let next : Subset a.self.now.sample.stretch.block_size a.self.now.sample.k (take a.self.now.sample.k g.new.bits) = (g.ensures.stepped.next d.pass-test.true).subset in (
      (
        counts_rest bit n a.self.now.sample.k _ g.new.bins r.new.bins next.size r.ensures.bins_after ∙ g.ensures.past_same.0 ∙ was.0,
        order_rest bit n a.self.now.sample.k _ g.new.order r.new.order next.size r.ensures.order_after ∙ g.ensures.past_same.1 ∙ was.1,
      ),
      counts_first bit n a.self.now.sample.k _ g.new.bins r.new.bins next.size r.ensures.bins_after,
    )

pub begin-requires-clause-subset : goal.begin-requires-clause-subset
begin-requires-clause-subset c =
    is_first (goal.at.begin-requires-clause-subset c).After-first-bits

pub rank-ranking-requires-clause-subset : goal.rank-ranking-requires-clause-subset
rank-ranking-requires-clause-subset c =
    is_first (goal.at.rank-ranking-requires-clause-subset c).After-first-bits

pub pass-init : goal.pass-init
pass-init c =
    let a = c.args in
    let r = c.rank-ranking in
    let bit = stretch_bit a.self.now.sample.stretch a.self.now.sample.words.now in
    let first = is_first (goal.at.pass-init c).After-first-bits in
    record {
      walked = begun bit (span a.self.now.sample.stretch) a.self.now.sample.stretch.block_size a.self.now.sample.k c.args.self.now.sample.searchable.chosen c.args.self.now.sample.searchable.width _ _ c.first-bits.ensures (ap (λ (q : Ranking). q.z) r.ensures.value);
      run_lent = refl;
      bins_lent = refl;
      order_lent = refl;
      past_same = (refl, refl);
      standing = c.begin.ensures.ready.stands;
      counted = counts_first bit (span a.self.now.sample.stretch) a.self.now.sample.k _ c.begin.new.bins r.new.bins first.size r.ensures.bins_after;
    }

pub pass-smaller-then-better : goal.pass-smaller-then-better
pass-smaller-then-better c = less (goal.at.pass-smaller-then-better c).After-step c.pass-test.true

pub pass-preserved-then-better : goal.pass-preserved-then-better
pass-preserved-then-better c =
    let a = c.args in
    let r = c.rank-next in
    let g = c.step in
    let was = c.pass.invariant in
    let b = buffers (goal.at.pass-preserved-then-better c).After-rank-next in
    record {
      walked = takes (bit (goal.at.pass-preserved-then-better c).Start) (span a.self.now.sample.stretch) a.self.now.sample.stretch.block_size a.self.now.sample.k c.args.self.now.sample.searchable.chosen c.args.self.now.sample.searchable.width _ _ _ _
          was.walked g.auto.bits _ g.ensures.stepped c.pass-test.true _ (ap (λ (q : Ranking). q.z) r.ensures.value) (holds _ c.if-better.true);
      run_lent = g.auto.run ∙ was.run_lent;
      bins_lent = r.auto.bins ∙ g.auto.bins ∙ was.bins_lent;
      order_lent = r.auto.order ∙ g.auto.order ∙ was.order_lent;
      past_same = b.0;
      standing = (g.ensures.ready c.pass-test.true).stands;
      counted = b.1;
    }

pub pass-smaller : goal.pass-smaller
pass-smaller c = less (goal.at.pass-smaller c).After-step c.pass-test.true

pub pass-preserved : goal.pass-preserved
pass-preserved c =
    let a = c.args in
    let r = c.rank-next in
    let g = c.step in
    let was = c.pass.invariant in
    let b = buffers (goal.at.pass-preserved c).After-rank-next in
    record {
      walked = keeps (bit (goal.at.pass-preserved c).Start) (span a.self.now.sample.stretch) a.self.now.sample.stretch.block_size a.self.now.sample.k c.args.self.now.sample.searchable.chosen c.args.self.now.sample.searchable.width _ _ _ _
          was.walked g.auto.bits _ g.ensures.stepped c.pass-test.true _ (ap (λ (q : Ranking). q.z) r.ensures.value) (fails _ c.if-better.false);
      run_lent = g.auto.run ∙ was.run_lent;
      bins_lent = r.auto.bins ∙ g.auto.bins ∙ was.bins_lent;
      order_lent = r.auto.order ∙ g.auto.order ∙ was.order_lent;
      past_same = b.0;
      standing = (g.ensures.ready c.pass-test.true).stands;
      counted = b.1;
    }

pub returns-clause-value : goal.returns-clause-value
returns-clause-value c =
    let a = c.args in
    ends (bit (goal.at.returns-clause-value c).Start) (span a.self.now.sample.stretch) a.self.now.sample.stretch.block_size a.self.now.sample.k c.args.self.now.sample.searchable.chosen c.args.self.now.sample.searchable.width _ _ _ _
    c.pass.invariant.walked c.step.auto.bits _ c.step.ensures.stepped c.pass-test.false
