-- `decimals::put_behind` meets its contract: what is left of the numbers, put behind those written, makes the whole.
use Rattle.std.proofs.Common.{◌≡◌, ◌+◌, ◌<◌, ◌≤◌, length, drop, sym, ap, ◌∙◌, arith, length-set, slice_index_or}
use Rattle.counting.specs.Buffer.{put}
use Rattle.counting.proofs.Buffers.{put_none}
use Rattle.exchange.specs.Writer.{decimal, behind}
use Rattle.exchange.proofs.Commas.{behind_next, behind_none, length_next, comma_put}
use Rattle.exchange.proofs.decimals.put_behind.Goals.{In-loop-n}
use Rattle.exchange.proofs.decimals.put_behind.Goals as goal

-- what is left has room, and one number less is left
fits : (d : In-loop-n) → let ns = d.args.ns.now in let i = d.loop-n.n-index in
    d.loop-n.to + (1 + length (decimal (slice_index_or ns i 0)) + length (behind (drop (i + 1) ns))) ≤ length d.loop-n.out
fits d =
    let here : d.loop-n.n-index < length d.args.ns.now = omega arith in
    omega (arith, length_next d.args.ns.now d.loop-n.n-index here, d.loop-n.invariant.0, d.requires, d.loop-n.auto.out)

pub bounds-out-to : goal.bounds-out-to
bounds-out-to c = omega (arith, fits c)

pub put_decimal-to-requires : goal.put_decimal-to-requires
put_decimal-to-requires c = simp length-set (omega (arith, fits (goal.at.put_decimal-to-requires c).In-loop-n))

pub loop-n-preserved : goal.loop-n-preserved
loop-n-preserved c =
    let ns = c.args.ns.now in
    let i = c.loop-n.n-index in
    let here : i < length ns = omega arith in (
      omega (arith, c.loop-n.invariant.0, c.put_decimal-to.ensures.value, length_next ns i here),
      comma_put c.loop-n.out c.loop-n.to (slice_index_or ns i 0) (behind (drop (i + 1) ns)) _ _ (fits (goal.at.loop-n-preserved c).In-loop-n) c.put_decimal-to.ensures.out_after c.put_decimal-to.ensures.value
          ∙ ap (put c.loop-n.out c.loop-n.to) (sym (behind_next ns i here))
          ∙ c.loop-n.invariant.1,
    )

pub returns-clause-value : goal.returns-clause-value
returns-clause-value c =
    let all : c.loop-n.n-index ≡ length c.args.ns.now = omega arith in
    omega (arith, c.loop-n.invariant.0, ap length (behind_none c.args.ns.now c.loop-n.n-index all))

pub returns-clause-out_after : goal.returns-clause-out_after
returns-clause-out_after c =
    let all : c.loop-n.n-index ≡ length c.args.ns.now = omega arith in
    sym (put_none c.loop-n.out c.loop-n.to) ∙ ap (put c.loop-n.out c.loop-n.to) (sym (behind_none c.args.ns.now c.loop-n.n-index all)) ∙ c.loop-n.invariant.1
