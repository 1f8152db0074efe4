-- `feeding::taken_of` meets its contract: the sampler's own refusal comes first, then the board's, and past them the sums fit.
use mathlib.Core.Path.{◌≡◌, refl, sym, ap, ◌∙◌}
use mathlib.Core.Bool.{true}
use Prim.Native.Nat.{ℕ, ◌+◌, ◌*◌, ◌/◌, ◌%◌, ◌≤◌, ◌<◌}
use native.Mathlib.Nat.{min-le_right, div-le_self}
use native.Mathlib.Omega.{arith}
use lib.Dec.{leb}
use borrow.Author.Tests.{le-leb, lt-leb}
use Rattle.counting.specs.Recording.{block_bytes, capacity}
use Rattle.counting.proofs.Accepted.{Valid, valid_facts}
use Rattle.sampling.specs.Feeding.{together, completed, feed_refusal, Taken, as_taken, taken_of}
use Rattle.sampling.specs.Sampler.{sampler_refusal}
use Rattle.sampling.proofs.Refused.{refused, passed_on}
use Rattle.sampling.proofs.Usable.{Usable, usable}
use Rattle.sampling.proofs.feeding.taken_of.Goals.{After-unfinished_on, Else-unknown, In_ok-sampler_refusal}
use Rattle.sampling.proofs.feeding.taken_of.Goals as goal

-- past the sampler's refusal
free : (c : In_ok-sampler_refusal) → sampler_refusal c.args.head c.args.words ≡ 0
free c = sym c.in_ok-sampler_refusal.ensures

fit : (e : Else-unknown) → Usable e.args.head e.args.words
fit e = usable e.args.head e.args.words (sym e.in_ok-sampler_refusal.ensures)

named : (e : Else-unknown) → leb e.args.board 3 ≡ true
named e = le-leb _ _ e.if-unknown.false

valid : (e : Else-unknown) → Valid e.args.head.block_size
valid e = valid_facts _ (fit e).valid

-- the blocks that the piece completes
done_is : (u : After-unfinished_on) → let a = u.args in
    (u.unfinished_on.result + a.new) / block_bytes a.head.block_size ≡ completed a.head a.board a.new
done_is u = let a = u.args in ap (λ (m : ℕ). (m + a.new) / block_bytes a.head.block_size) u.unfinished_on.ensures

pub returns-in_err-sampler_refusal : goal.returns-in_err-sampler_refusal
unfolding taken_of feed_refusal
returns-in_err-sampler_refusal c =
    let is = c.in_err-sampler_refusal.ensures in
    let refused_with : ℕ → Taken = λ n. record { refusal = n; blocks = 0; left = 0 } in
    simp (refused _ _ is) (ap as_taken (passed_on c.from_residual.result _ c.from_residual.ensures.1) ∙ ap refused_with is)

pub returns-then-unknown : goal.returns-then-unknown
unfolding taken_of feed_refusal
returns-then-unknown c = simp (free (goal.at.returns-then-unknown c).In_ok-sampler_refusal, lt-leb _ _ c.if-unknown.true) refl

pub overflow_add-all : goal.overflow_add-all
overflow_add-all c =
    let e = (goal.at.overflow_add-all c).Else-unknown in
    omega (arith, (fit e).short c.args.board (omega (arith, c.if-unknown.false)), c.requires.bound, valid e, c.unfinished_on.ensures)

pub nonzero_div-blocks : goal.nonzero_div-blocks
nonzero_div-blocks c = omega (arith, valid (goal.at.nonzero_div-blocks c).Else-unknown)

pub overflow_add-blocks : goal.overflow_add-blocks
overflow_add-blocks c =
    let e = (goal.at.overflow_add-blocks c).Else-unknown in
    omega (arith, done_is (goal.at.overflow_add-blocks c).After-unfinished_on, (fit e).short c.args.board (omega (arith, c.if-unknown.false)), c.requires.bound, valid e, (fit e).within, min-le_right (64 * (c.args.words / c.args.head.block_size)) 16777216, div-le_self (together c.args.head c.args.board c.args.new) (block_bytes c.args.head.block_size))

pub capacity_blocks-requires-clause-le_block_size : goal.capacity_blocks-requires-clause-le_block_size
capacity_blocks-requires-clause-le_block_size c = omega (arith, valid (goal.at.capacity_blocks-requires-clause-le_block_size c).Else-unknown)

pub returns-then-blocks-capacity_blocks : goal.returns-then-blocks-capacity_blocks
unfolding taken_of feed_refusal
returns-then-blocks-capacity_blocks c =
    let a = c.args in
    let over : capacity a.head.block_size a.words < a.head.blocks + completed a.head a.board a.new =
    omega (arith, c.capacity_blocks.ensures, done_is (goal.at.returns-then-blocks-capacity_blocks c).After-unfinished_on) in
    simp (free (goal.at.returns-then-blocks-capacity_blocks c).In_ok-sampler_refusal, named (goal.at.returns-then-blocks-capacity_blocks c).Else-unknown, lt-leb _ _ over) refl

pub nonzero_rem-result : goal.nonzero_rem-result
nonzero_rem-result c = omega (arith, valid (goal.at.nonzero_rem-result c).Else-unknown)

pub returns : goal.returns
unfolding taken_of feed_refusal
returns c =
    let a = c.args in
    let size = block_bytes a.head.block_size in
    let within : a.head.blocks + completed a.head a.board a.new ≤ capacity a.head.block_size a.words =
    omega (arith, c.capacity_blocks.ensures, done_is (goal.at.returns c).After-unfinished_on) in
    let taken : ℕ → Taken = λ m. record { refusal = 0; blocks = a.head.blocks + (m + a.new) / size; left = (m + a.new) % size } in
    simp (free (goal.at.returns c).In_ok-sampler_refusal, named (goal.at.returns c).Else-unknown, le-leb _ _ within) (ap taken c.unfinished_on.ensures)
