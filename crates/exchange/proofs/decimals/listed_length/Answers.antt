-- `decimals::listed_length` meets its contract: what is left of the numbers, less its commas, leads to the whole.
use Rattle.std.proofs.Common.{◌≡◌, ◌+◌, length, drop, ap, arith, slice_index_or}
use Rattle.exchange.specs.Writer.{decimal, behind}
use Rattle.exchange.proofs.Commas.{length_first, length_next, behind_none, listed_ten}
use Rattle.exchange.proofs.decimals.listed_length.Goals.{In-loop-n}
use Rattle.exchange.proofs.decimals.listed_length.Goals as goal

-- one number less is left
turn : (d : In-loop-n) → let ns = d.args.ns.now in let i = d.loop-n.n-index in
    length (behind (drop i ns)) ≡ 1 + length (decimal (slice_index_or ns i 0)) + length (behind (drop (i + 1) ns))
turn d = length_next d.args.ns.now d.loop-n.n-index (omega arith)

pub loop-n-init : goal.loop-n-init
loop-n-init c = omega (arith, length_first c.args.ns.now)

pub overflow_add-sum : goal.overflow_add-sum
overflow_add-sum c = omega (arith, turn (goal.at.overflow_add-sum c).In-loop-n, c.digits-sum.ensures, listed_ten c.args.ns.now)

pub loop-n-preserved : goal.loop-n-preserved
loop-n-preserved c = omega (arith, turn (goal.at.loop-n-preserved c).In-loop-n, c.digits-sum.ensures)

pub returns : goal.returns
returns c =
    let all : c.loop-n.n-index ≡ length c.args.ns.now = omega arith in
    omega (arith, ap length (behind_none c.args.ns.now c.loop-n.n-index all))
