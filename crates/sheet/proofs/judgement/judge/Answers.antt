-- `judgement::judge` meets its contract: the search finds the definition's finding, and the evaluation of it is not refused.
use mathlib.Core.Path.{◌≡◌, refl, sym, ap, subst, ◌∙◌}
use mathlib.Core.Bool.{false}
use mathlib.Core.List.{List}
use Prim.Native.Nat.{ℕ, ◌≤◌}
use native.Mathlib.Omega.{arith}
use lib.ListN.{length, take, replicate, length-replicate}
use lib.Seq.{length-take-le}
use Rattle.std.specs.Prelude.{Result, Ok, Err}
use Rattle.std.specs.Result.{IsOk}
use Rattle.counting.specs.declared.refusal.Refusal.{Refusal}
use Rattle.counting.proofs.Reasons.{some_number}
use Rattle.judging.specs.Evaluation.{Evaluated, as_evaluated, evaluated_of, positive_in, z_in, score_number}
use Rattle.judging.specs.Training.{trained_of, trained_order, Trainable}
use Rattle.judging.specs.declared.evaluation.Evaluated as found
use Rattle.judging.specs.declared.evaluation.Score.TheVariants.{Z}
use Rattle.sheet.specs.Judgement.{judged_of}
use Rattle.sheet.proofs.Accepting.{judged_evaluated}
use Rattle.sheet.proofs.judgement.judge.Goals.{After-evaluate_histogram, After-train-finding}
use Rattle.sheet.proofs.judgement.judge.Goals as goal

-- the room on the stack
filled_long : {A : Type 0} (n : ℕ) (x : A) (s : List A) → s ≡ replicate n x → n ≡ length s
filled_long n x s e = sym (ap length e ∙ length-replicate n x)

-- both buffers keep their length
bins_long : (d : After-train-finding) → length d.train-finding.new.bins ≡ 256
bins_long d = omega (arith, d.train-finding.auto.bins, filled_long 256 0 d.filled-bins.result d.filled-bins.ensures)

order_long : (d : After-train-finding) → length d.train-finding.new.order ≡ 256
order_long d = omega (arith, d.train-finding.auto.order, filled_long 256 0 d.filled-order.result d.filled-order.ensures)

pub train-finding-requires : goal.train-finding-requires
train-finding-requires c =
    let a = c.args in
    subst (λ (x : ℕ × ℕ × ℕ). Trainable a.block_size a.k (length a.training.now) x.0 x.1 x.2)
    (λ i. (filled_long 576 0 c.filled-words.result c.filled-words.ensures i, filled_long 256 0 c.filled-bins.result c.filled-bins.ensures i, filled_long 256 0 c.filled-order.result c.filled-order.ensures i)) c.requires.trainable

pub slice_bounds-evaluate_histogram-end : goal.slice_bounds-evaluate_histogram-end
slice_bounds-evaluate_histogram-end c =
    let m = c.bin_count-m.result in
    let order : List ℕ = c.train-finding.new.order in
    let fits : m ≤ length order = omega (arith, c.bin_count-m.ensures, order_long (goal.at.slice_bounds-evaluate_histogram-end c).After-train-finding, c.requires.trainable.room.1) in
    sym (length-take-le m order fits)

-- the evaluation, as a record
tried : (d : After-evaluate_histogram) → length d.train-finding.new.bins ≡ 256 → let a = d.args in
    let f = trained_of a.block_size false a.k a.training.now in
    let order = trained_order a.block_size false a.k a.training.now in
    as_evaluated d.evaluate_histogram.result ≡ record { refusal = 0; positive = positive_in f order a.testing.now; score = Z (z_in f order a.testing.now) }
tried d long =
    let a = d.args in
    let trained = d.train-finding in
    let left : List ℕ = trained.new.order in
    let ordered : take d.bin_count-m.result left ≡ trained_order a.block_size false a.k a.training.now = ap (λ (m : ℕ). take m left) d.bin_count-m.ensures ∙ trained.ensures.ordered in
    d.evaluate_histogram.ensures.value
    ∙ (λ i. evaluated_of (trained.ensures.found i) (ordered i) a.testing.now (long i))
    ∙ judged_evaluated a.block_size a.k a.training.now a.testing.now d.requires

pub unwrap-evaluated-requires : goal.unwrap-evaluated-requires
unwrap-evaluated-requires c = taken c.evaluate_histogram.result (ap (λ (e : Evaluated). e.refusal) (tried (goal.at.unwrap-evaluated-requires c).After-evaluate_histogram (bins_long (goal.at.unwrap-evaluated-requires c).After-train-finding)))
  where
    taken : (r : Result found.Evaluated Refusal) → (as_evaluated r).refusal ≡ 0 → IsOk r
    taken (Ok e) z = refl
    taken (Err r) z = absurd (some_number r z)

pub returns : goal.returns
unfolding judged_of
returns c =
    let a = c.args in
    let f = trained_of a.block_size false a.k a.training.now in
    let order = trained_order a.block_size false a.k a.training.now in
    let is = ap as_evaluated (sym c.unwrap-evaluated.ensures) ∙ tried (goal.at.returns c).After-evaluate_histogram (bins_long (goal.at.returns c).After-train-finding) in
    let z : c.number_of.result ≡ z_in f order a.testing.now = c.number_of.ensures ∙ ap (λ (e : Evaluated). score_number e.score) is in
    λ i. record { finding = c.train-finding.ensures.found i; positive = (is i).positive; z = z i }
