-- `Pass::pick` meets its contract: the only subset, or the pass.
use mathlib.Core.Path.{◌≡◌, sym, ap, ◌∙◌}
use native.Mathlib.Omega.{arith}
use Rattle.subsets.specs.Subsets.{padded}
use Rattle.searching.proofs.Walking.{only_winner}
use Rattle.searching.proofs.pass.Pass.pick.Goals as goal

pub returns-then-k-block_size-clause-value : goal.returns-then-k-block_size-clause-value
returns-then-k-block_size-clause-value c =
    let a = c.args in
    let all : a.self.now.sample.k ≡ a.self.now.sample.stretch.block_size = omega arith in
    c.first.ensures ∙ ap padded (sym (only_winner _ _ a.self.now.sample.stretch.block_size a.self.now.sample.k all))
