-- `records::write_plan` meets its contract: one store, then the sizes and the widths.
use mathlib.Core.Path.{◌≡◌, refl, ap, ◌∙◌}
use mathlib.Core.List.{List, ◌∷◌, ◌++◌}
use Prim.Native.Nat.{ℕ, ◌+◌, ◌≤◌}
use native.Mathlib.Omega.{arith}
use lib.ListN.{length, take, drop, length-set}
use borrow.Author.Rules.{rules}
use Rattle.judging.specs.Plan.{sizes_in}
use Rattle.exports.specs.Records.{written}
use Rattle.exports.proofs.Writing.{plan_written, seven_sizes, seven_widths, seven_pairs}
use Rattle.exports.proofs.records.write_plan.Goals.{Start}
use Rattle.exports.proofs.records.write_plan.Goals as goal

seven : (s : Start) → length s.args.plan.sizes ≡ 7
seven s = search rules

pub write_sizes-requires : goal.write_sizes-requires
write_sizes-requires c = simp length-set (omega (arith, c.requires))

pub write_sizes-requires-2 : goal.write_sizes-requires-2
write_sizes-requires-2 c =
    let e : length c.write_sizes.new.numbers ≡ length c.args.numbers.now = c.write_sizes.auto.numbers ∙ simp length-set in
    omega (arith, c.requires, e)

pub returns : goal.returns
returns c =
    let p = c.args.plan in
    let l = c.args.numbers.now in
    let some : 1 ≤ length l = omega (arith, c.requires) in
    let sizes = seven_sizes p.sizes in
    let widths = seven_widths p.sizes in
    let pairs = seven_pairs p.sizes (seven (goal.at.returns c).Start) in
    c.write_sizes-2.ensures
    ∙ ap (λ (n : List ℕ). (take 8 n ++ widths) ++ drop (8 + 7) n) c.write_sizes.ensures
    ∙ plan_written l sizes widths p.pairs some refl refl
    ∙ ap (λ (b : List ℕ). written (p.pairs ∷ (b ++ widths)) l) pairs.0
    ∙ ap (λ (w : List ℕ). written (p.pairs ∷ (sizes_in p.sizes ++ w)) l) pairs.1
