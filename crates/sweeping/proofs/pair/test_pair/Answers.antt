-- `pair::test_pair` meets its contract: the training half can be searched, and what is found judged on the testing half.
use mathlib.Core.Path.{◌≡◌, sym, ap, subst, ◌∙◌}
use mathlib.Core.Bool.{true}
use mathlib.Core.List.{List}
use Prim.Native.Nat.{ℕ, ◌^◌}
use lib.ListN.{length, take}
use Rattle.counting.proofs.Accepted.{valid_facts}
use Rattle.judging.specs.Split.{first_part}
use Rattle.judging.specs.Training.{trained_of, trained_order, Trainable}
use Rattle.sweeping.specs.Pair.{tested_part, judged_of, tested_of}
use Rattle.sweeping.proofs.Testing.{trainable, judgeable, judgeable_as}
use Rattle.sweeping.proofs.pair.test_pair.Goals.{After-train-finding}
use Rattle.sweeping.proofs.pair.test_pair.Goals as goal

-- what the search left

module _ (d : After-train-finding) where
  abbrev raw : List ℕ
  raw = d.args.raw.now

  abbrev B : ℕ
  B = d.args.pair.block_size

  abbrev left : List ℕ
  left = d.train-finding.new.order

  training_is : d.first_part-training.result.now ≡ first_part raw B true
  training_is = d.first_part-training.ensures

  finding_is : d.train-finding.result ≡ trained_of B d.args.pair.low_first d.args.pair.width (first_part raw B true)
  finding_is = d.train-finding.ensures.found ∙ ap (trained_of B d.args.pair.low_first d.args.pair.width) training_is

  order_is : (m : ℕ) → m ≡ 2 ^ d.args.pair.width → take m left ≡ trained_order B d.args.pair.low_first d.args.pair.width (first_part raw B true)
  order_is m e =
      ap (λ (x : ℕ). take x left) e ∙ d.train-finding.ensures.ordered
      ∙ ap (trained_order B d.args.pair.low_first d.args.pair.width) training_is

  testing_is : d.tested_part-testing.result.now ≡ tested_part raw B
  testing_is = d.tested_part-testing.ensures

pub tested_part-testing-requires : goal.tested_part-testing-requires
tested_part-testing-requires c = (valid_facts c.args.pair.block_size c.requires.sizes.valid).high

pub train-finding-requires : goal.train-finding-requires
train-finding-requires c =
    let a = c.args in
    subst (λ (l : List ℕ). Trainable a.pair.block_size a.pair.width (length l) (length a.words.now) (length a.bins.now) (length a.order.now)) (sym c.first_part-training.ensures)
    (trainable a.pair a.raw.now (length a.words.now) (length a.bins.now) (length a.order.now) (length a.scratch.now) (length a.entries.now) c.requires)

pub judge-requires : goal.judge-requires
judge-requires c =
    let a = c.args in
    judgeable_as (finding_is (goal.at.judge-requires c).After-train-finding) (order_is (goal.at.judge-requires c).After-train-finding c.bin_count-m.result c.bin_count-m.ensures) (testing_is (goal.at.judge-requires c).After-train-finding)
    (judgeable a.pair (raw (goal.at.judge-requires c).After-train-finding) (length a.words.now) (length a.bins.now) (length a.order.now) (length a.scratch.now) (length a.entries.now) c.requires)

pub returns : goal.returns
unfolding tested_of
returns c =
    c.judge.ensures ∙ (λ i. judged_of (finding_is (goal.at.returns c).After-train-finding i) (order_is (goal.at.returns c).After-train-finding c.bin_count-m.result c.bin_count-m.ensures i) (testing_is (goal.at.returns c).After-train-finding i))
