-- `plan::configurations` meets its contract. The loop's invariant: the pairs so far are written, and the sizes from `size` on are left.
use mathlib.Core.Path.{◌≡◌, sym, ◌∙◌}
use mathlib.Core.Bool.{true, false}
use Prim.Native.Nat.{◌≤◌}
use native.Mathlib.Omega.{arith}
use Rattle.counting.specs.Block.{valid_size}
use Rattle.counting.proofs.Accepted.{valid_facts}
use Rattle.std.proofs.lemmas.List.{map-set}
use Rattle.judging.specs.Plan.{sizes_in, widths_in, plan_of}
use Rattle.judging.specs.declared.plan.Planned as pair
use Rattle.judging.proofs.Planning.{Planned, begun, turn, all_sizes, all_widths}
use Rattle.judging.proofs.plan.configurations.Goals.{In-loop-size}
use Rattle.judging.proofs.plan.configurations.Goals as goal

-- what a turn begins with
at_turn : (c : In-loop-size) → let s = c.args in let l = c.loop-size in Planned s.block_size s.data_size c.max-top.result l.pairs l.size (sizes_in l.sizes) (widths_in l.sizes)
at_turn c = c.loop-size.invariant.0

low : (c : In-loop-size) → c.loop-size.size ≤ 4096
low c = omega (arith, c.loop-size-test.true, c.loop-size.invariant.1.0, valid_facts _ c.loop-size.invariant.1.1)

pub returns-then-not-valid_block_size : goal.returns-then-not-valid_block_size
unfolding plan_of
returns-then-not-valid_block_size c =
    let bad : valid_size c.args.block_size ≡ false = sym c.valid_block_size.ensures ∙ c.if-not-valid_block_size.true in
    simp bad

pub loop-size-init : goal.loop-size-init
loop-size-init c =
    let s = c.args in
    let good : valid_size s.block_size ≡ true = sym c.valid_block_size.ensures ∙ c.if-not-valid_block_size.false in
    (rw (c.max-top.ensures, c.after_eight-size.ensures) (begun s.block_size s.data_size (valid_facts _ good)), (c.max-top.ensures, good))

pub overflow_mul-size : goal.overflow_mul-size
overflow_mul-size c = omega (arith, low (goal.at.overflow_mul-size c).In-loop-size)

pub loop-size-preserved : goal.loop-size-preserved
loop-size-preserved c =
    let l = c.loop-size in
    let set_size = map-set (λ (p : pair.Planned). p.block_size) l.sizes l.pairs (record { block_size = l.size; width = c.width_for.result }) in
    let set_width = map-set (λ (p : pair.Planned). p.width) l.sizes l.pairs (record { block_size = l.size; width = c.width_for.result }) in
    (rw (set_size, set_width, c.width_for.ensures) (turn _ _ _ _ _ _ _ (at_turn (goal.at.loop-size-preserved c).In-loop-size) c.loop-size-test.true), l.invariant.1)

pub returns : goal.returns
unfolding plan_of
returns c =
    let l = c.loop-size in
    let sizes = all_sizes _ _ _ _ _ _ _ l.invariant.0 c.loop-size-test.false in
    let widths = all_widths _ _ _ _ _ _ _ l.invariant.0 c.loop-size-test.false in
    simp l.invariant.1.1 (λ i. record { refusal = 0; pairs = sizes.0 i; blocks = sizes.1 i; widths = widths i })
