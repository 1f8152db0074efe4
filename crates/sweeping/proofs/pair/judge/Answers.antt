-- `pair::judge` meets its contract: neither the evaluation nor the bracket is refused.
use mathlib.Core.Path.{◌≡◌, refl, sym, ap, ◌∙◌}
use Prim.Native.Nat.{ℕ}
use native.Mathlib.Omega.{arith}
use lib.ListN.{length}
use Rattle.std.specs.Prelude.{Result, Ok}
use Rattle.counting.specs.Recording.{blocks_in}
use Rattle.counting.specs.declared.refusal.Refusal.{Refusal}
use Rattle.counting.proofs.Accepted.{valid_facts}
use Rattle.chance.specs.Bracket.{low_of, high_of, bracketed_of, bracket_of}
use Rattle.chance.specs.declared.bracket.Ends.{Ends}
use Rattle.chance.proofs.Answering.{ends_are}
use Rattle.judging.specs.Evaluation.{positive_in, Evaluated, as_evaluated}
use Rattle.judging.specs.declared.evaluation.Evaluated as found
use Rattle.sweeping.specs.Pair.{judged_of}
use Rattle.sweeping.proofs.Judging.{evaluated_valid, evaluated_positive, evaluated_well}
use Rattle.sweeping.proofs.pair.judge.Goals.{After-bracket}
use Rattle.sweeping.proofs.pair.judge.Goals as goal

positive : (d : After-bracket) → let a = d.args in d.unwrap-evaluated.result.positive ≡ positive_in a.finding a.order.now a.testing.now
positive d =
    let a = d.args in
    ap (λ (x : Result found.Evaluated Refusal). (as_evaluated x).positive) (sym d.unwrap-evaluated.ensures)
    ∙ ap (λ (e : Evaluated). e.positive) d.evaluate_histogram.ensures.value ∙ evaluated_positive a.finding a.order.now a.testing.now (length a.scratch.now) d.requires.taken

ends : (d : After-bracket) → let a = d.args in let f = a.finding in let n = blocks_in f.block_size a.testing.now in let c = positive_in f a.order.now a.testing.now in
    d.bracket.result ≡ Ok (record { low = low_of n c f.width f.division; high = high_of n c f.width f.division })
ends d =
    let a = d.args in
    let f = a.finding in
    let n = blocks_in f.block_size a.testing.now in
    ends_are n (positive_in f a.order.now a.testing.now) f.width f.division (length a.entries.now) d.bracket.result
    (d.bracket.ensures.value ∙ ap (λ (x : ℕ). bracket_of n x f.width f.division (length a.entries.now)) (positive d)) d.requires.bracketed

pub unwrap-evaluated-requires : goal.unwrap-evaluated-requires
unwrap-evaluated-requires c = evaluated_well c.args.finding c.args.order.now c.args.testing.now (length c.args.scratch.now) c.evaluate_histogram.result c.evaluate_histogram.ensures.value c.requires.taken

pub nonzero_div-blocks-2 : goal.nonzero_div-blocks-2
nonzero_div-blocks-2 c = let a = c.args in omega (arith, (valid_facts a.finding.block_size (evaluated_valid a.finding a.order.now a.testing.now (length a.scratch.now) c.requires.taken)).low)

pub unwrap-chance-requires : goal.unwrap-chance-requires
unwrap-chance-requires c = let e = ends (goal.at.unwrap-chance-requires c).After-bracket in rw e refl

pub returns : goal.returns
unfolding judged_of
returns c =
    let a = c.args in
    let f = a.finding in
    let n = blocks_in f.block_size a.testing.now in
    let at = (goal.at.returns c).After-bracket in
    let both = sym c.unwrap-chance.ensures ∙ ends at in
    let low = ap (λ (x : Result Ends Refusal). (bracketed_of x).low) both in
    let high = ap (λ (x : Result Ends Refusal). (bracketed_of x).high) both in
    λ i. record { finding = f; blocks = n; positive = positive at i; low = low i; high = high i }
