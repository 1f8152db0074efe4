-- `size::store_needed` meets its contract: each return has the tests that led there.
use mathlib.Core.Path.{◌≡◌, sym, ◌∙◌}
use mathlib.Core.Bool.{true}
use Prim.Native.Nat.{◌<◌}
use native.Mathlib.Omega.{arith}
use borrow.Author.Tests.{lt-leb}
use Rattle.counting.specs.Block.{valid_size}
use Rattle.counting.proofs.Accepted.{valid_facts}
use Rattle.subsets.specs.Bits.{valid_width}
use Rattle.subsets.proofs.Refusing.{width_bounds}
use Rattle.layers.specs.Store.{store_needed}
use Rattle.layers.proofs.Sizing.{none_needed, all_needed}
use Rattle.layers.proofs.size.store_needed.Goals.{Else-not-valid_block_size, Else-not-valid_width}
use Rattle.layers.proofs.size.store_needed.Goals as goal

size_ok : (d : Else-not-valid_block_size) → valid_size d.args.block_size ≡ true
size_ok d = sym d.valid_block_size.ensures ∙ d.if-not-valid_block_size.false

width_ok : (d : Else-not-valid_width) → valid_width d.args.k ≡ true
width_ok d = sym d.valid_width.ensures ∙ d.if-not-valid_width.false

pub returns-then-not-valid_block_size : goal.returns-then-not-valid_block_size
unfolding store_needed
returns-then-not-valid_block_size c = simp (sym c.valid_block_size.ensures ∙ c.if-not-valid_block_size.true)

pub returns-then-not-valid_width : goal.returns-then-not-valid_width
unfolding store_needed
returns-then-not-valid_width c = simp (size_ok (goal.at.returns-then-not-valid_width c).Else-not-valid_block_size, sym c.valid_width.ensures ∙ c.if-not-valid_width.true)

pub returns-then-k-block_size : goal.returns-then-k-block_size
unfolding store_needed
returns-then-k-block_size c =
    let a = c.args in
    let above : a.block_size < a.k = omega (arith, c.if-k-block_size.true) in
    simp (size_ok (goal.at.returns-then-k-block_size c).Else-not-valid_block_size, width_ok (goal.at.returns-then-k-block_size c).Else-not-valid_width, lt-leb a.k a.block_size above)

pub store_size-size-requires : goal.store_size-size-requires
store_size-size-requires c =
    let a = c.args in
    let small : a.block_size < 4294967296 = omega (arith, valid_facts _ (size_ok (goal.at.store_size-size-requires c).Else-not-valid_block_size)) in
    (small, (width_bounds _ (width_ok (goal.at.store_size-size-requires c).Else-not-valid_width)).1)

pub returns-then-size-gt4294967296 : goal.returns-then-size-gt4294967296
returns-then-size-gt4294967296 c =
    let a = c.args in
    let w = c.store_size-size in
    none_needed a.block_size a.k w.result w.ensures (size_ok (goal.at.returns-then-size-gt4294967296 c).Else-not-valid_block_size) (width_ok (goal.at.returns-then-size-gt4294967296 c).Else-not-valid_width) c.if-k-block_size.false c.if-size-gt4294967296.true

pub returns-else-size-gt4294967296 : goal.returns-else-size-gt4294967296
returns-else-size-gt4294967296 c =
    let a = c.args in
    let w = c.store_size-size in
    all_needed a.block_size a.k w.result w.ensures (size_ok (goal.at.returns-else-size-gt4294967296 c).Else-not-valid_block_size) (width_ok (goal.at.returns-else-size-gt4294967296 c).Else-not-valid_width) c.if-k-block_size.false c.if-size-gt4294967296.false
