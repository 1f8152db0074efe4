-- `decimals::put_listed` meets its contract: the first number, and the others put behind it.
use Rattle.std.proofs.Common.{◌≡◌, ◌+◌, ◌≤◌, length, length-append, sym, ap, ◌∙◌, arith, slice_index_or}
use Rattle.counting.specs.Buffer.{put}
use Rattle.counting.proofs.Buffers.{put_none, put_put}
use Rattle.exchange.specs.Writer.{decimal, behind, listed}
use Rattle.exchange.proofs.Commas.{listed_none, listed_first}
use Rattle.exchange.proofs.Stepping.{behind_first}
use Rattle.exchange.proofs.decimals.put_listed.Goals.{Start}
use Rattle.exchange.proofs.decimals.put_listed.Goals as goal

parts : (s : Start) → 1 ≤ length s.args.ns.now → length (listed s.args.ns.now) ≡ length (decimal (slice_index_or s.args.ns.now 0 0)) + length (behind (behind_first s.args.ns.now))
parts s h = ap length (listed_first s.args.ns.now h) ∙ length-append (decimal (slice_index_or s.args.ns.now 0 0)) (behind (behind_first s.args.ns.now))

pub returns-in_default-clause-value : goal.returns-in_default-clause-value
returns-in_default-clause-value c = omega (arith, ap length (listed_none c.args.ns.now (omega arith)))

pub returns-in_default-clause-out_after : goal.returns-in_default-clause-out_after
returns-in_default-clause-out_after c = sym (ap (put c.args.out.now c.args.at) (listed_none c.args.ns.now (omega arith)) ∙ put_none c.args.out.now c.args.at)

pub put_decimal-to-requires : goal.put_decimal-to-requires
put_decimal-to-requires c = omega (arith, parts (goal.at.put_decimal-to-requires c).Start (omega arith))

pub put_behind-requires : goal.put_behind-requires
put_behind-requires c = omega (arith, parts (goal.at.put_behind-requires c).Start (omega arith), c.put_decimal-to.ensures.value, c.put_decimal-to.auto.out)

pub returns-clause-value : goal.returns-clause-value
returns-clause-value c = omega (arith, parts (goal.at.returns-clause-value c).Start (omega arith), c.put_decimal-to.ensures.value, c.put_behind.ensures.value)

pub returns-clause-out_after : goal.returns-clause-out_after
returns-clause-out_after c =
    let ns = c.args.ns.now in
    let p = c.put_decimal-to in
    let fits : p.result ≤ length c.args.out.now = omega (arith, parts (goal.at.returns-clause-out_after c).Start (omega arith), p.ensures.value) in
    c.put_behind.ensures.out_after
    ∙ ap (λ o. put o p.result (behind (behind_first ns))) p.ensures.out_after
    ∙ put_put c.args.out.now c.args.at (decimal (slice_index_or ns 0 0)) (behind (behind_first ns)) p.result (sym p.ensures.value) fits
    ∙ ap (put c.args.out.now c.args.at) (sym (listed_first ns (omega arith)))
