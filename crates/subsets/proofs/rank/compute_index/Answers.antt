-- `rank::compute_index` meets its contract: each return has the tests that led there.
use mathlib.Core.Path.{◌≡◌, refl, sym, ◌∙◌}
use mathlib.Core.Bool.{true}
use Prim.Native.Nat.{◌^◌, ◌≤◌, ◌<◌}
use native.Mathlib.Omega.{arith}
use lib.ListN.{length, take, length-take}
use Rattle.counting.specs.Block.{valid_size}
use Rattle.subsets.specs.Bits.{valid_width}
use Rattle.subsets.proofs.Choosing.{told_within}
use Rattle.subsets.proofs.Testing.{accepted}
use Rattle.counting.proofs.Accepted.{valid_facts}
use Rattle.counting.proofs.Reasons.{some_number}
use Rattle.std.proofs.lemmas.Result.{err_from_is_err_and}
use Rattle.subsets.proofs.Refusing.{width_bounds, bad_size, bad_width, too_wide, bad_bits, too_many, taken}
use Rattle.subsets.proofs.rank.compute_index.Goals.{Else-k-block_size, Else-not-valid_block_size, Else-not-valid_width}
use Rattle.subsets.proofs.rank.compute_index.Goals as goal

-- what has been shown past each of the first three tests

size_ok : (d : Else-not-valid_block_size) → valid_size d.args.block_size ≡ true
size_ok d = sym d.valid_block_size.ensures ∙ d.if-not-valid_block_size.false

width_ok : (d : Else-not-valid_width) → valid_width d.args.k ≡ true
width_ok d = sym d.valid_width.ensures ∙ d.if-not-valid_width.false

sized : (d : Else-k-block_size) → let a = d.args in length (take a.k a.bits) ≡ a.k
sized d =
    omega (arith, length-take d.args.k d.args.bits, width_bounds d.args.k (width_ok (goal.at.slice_bounds-bits-end d).Else-not-valid_width), d.well_formed)

pub returns-then-not-valid_block_size : goal.returns-then-not-valid_block_size
returns-then-not-valid_block_size c =
    let a = c.args in
    bad_size a.block_size a.k (take a.k a.bits) (sym c.valid_block_size.ensures ∙ c.if-not-valid_block_size.true)

pub returns-then-not-valid_width : goal.returns-then-not-valid_width
returns-then-not-valid_width c =
    let a = c.args in
    bad_width a.block_size a.k (take a.k a.bits) (size_ok (goal.at.returns-then-not-valid_width c).Else-not-valid_block_size) (sym c.valid_width.ensures ∙ c.if-not-valid_width.true)

pub returns-then-k-block_size : goal.returns-then-k-block_size
returns-then-k-block_size c =
    let a = c.args in
    too_wide a.block_size a.k (take a.k a.bits) (size_ok (goal.at.returns-then-k-block_size c).Else-not-valid_block_size) (width_ok (goal.at.returns-then-k-block_size c).Else-not-valid_width) c.if-k-block_size.true

pub slice_bounds-bits-end : goal.slice_bounds-bits-end
slice_bounds-bits-end c =
    omega (arith, width_bounds c.args.k (width_ok (goal.at.slice_bounds-bits-end c).Else-not-valid_width), c.well_formed)

pub slice_bounds-chosen-end : goal.slice_bounds-chosen-end
slice_bounds-chosen-end c = sym (sized (goal.at.slice_bounds-chosen-end c).Else-k-block_size)

pub returns-in_err-bits_refusal : goal.returns-in_err-bits_refusal
returns-in_err-bits_refusal c =
    let a = c.args in
    let p = err_from_is_err_and c.from_residual.result c.from_residual.ensures.1 in
    rw (p.1, p.2)
    (bad_bits a.block_size a.k (take a.k a.bits) (size_ok (goal.at.returns-in_err-bits_refusal c).Else-not-valid_block_size) (width_ok (goal.at.returns-in_err-bits_refusal c).Else-not-valid_width) c.if-k-block_size.false _ c.in_err-bits_refusal.ensures (some_number _))

pub choose_up_to-many-requires : goal.choose_up_to-many-requires
choose_up_to-many-requires c =
    omega (arith, valid_facts c.args.block_size (size_ok (goal.at.choose_up_to-many-requires c).Else-not-valid_block_size))

pub returns-then-many : goal.returns-then-many
returns-then-many c =
    let a = c.args in
    let n = c.choose_up_to-many in
    let more : 2 ^ 32 < n.result = omega arith in
    too_many a.block_size a.k (take a.k a.bits) (size_ok (goal.at.returns-then-many c).Else-not-valid_block_size) (width_ok (goal.at.returns-then-many c).Else-not-valid_width) c.if-k-block_size.false
    0 n.result c.in_ok-bits_refusal.ensures refl n.ensures more

pub rank_of-requires : goal.rank_of-requires
rank_of-requires c =
    let a = c.args in
    let n = c.choose_up_to-many in
    let few : n.result ≤ 2 ^ 32 = omega arith in (
      omega (arith, valid_facts a.block_size (size_ok (goal.at.rank_of-requires c).Else-not-valid_block_size)),
      rw (sized (goal.at.rank_of-requires c).Else-k-block_size) (told_within a.block_size a.k n.result n.ensures few),
      accepted a.block_size (length (take a.k a.bits)) (take a.k a.bits) refl (sym c.in_ok-bits_refusal.ensures),
    )

pub returns : goal.returns
returns c =
    let a = c.args in
    let n = c.choose_up_to-many in
    taken a.block_size a.k (take a.k a.bits) (size_ok (goal.at.returns c).Else-not-valid_block_size) (width_ok (goal.at.returns c).Else-not-valid_width) c.if-k-block_size.false
    0 n.result c.rank_of.result c.in_ok-bits_refusal.ensures refl n.ensures c.if-many.false c.rank_of.ensures
