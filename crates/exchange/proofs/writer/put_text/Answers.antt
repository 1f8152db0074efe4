-- `writer::put_text` meets its contract: the arrays, and the numbers behind them.
use Prim.Native.Nat.{◌+◌, ◌≤◌}
use mathlib.Core.Path.{◌≡◌, ap, ◌∙◌}
use native.Mathlib.Omega.{arith}
use lib.ListN.{length, length-append}
use Rattle.judging.specs.Check.{chosen}
use Rattle.exchange.specs.Writer.{arrays_text, numbers_text}
use Rattle.exchange.specs.Exchange.{exchanged_of, finding_text}
use Rattle.exchange.proofs.Pieces.{text_pieces, text_stands}
use Rattle.exchange.proofs.writer.put_text.Goals.{Start}
use Rattle.exchange.proofs.writer.put_text.Goals as goal

-- both parts have room
room : (s : Start) → let f = s.args.finding in
    length (arrays_text (chosen f) s.args.order.now) + length (numbers_text f.division f.block_size f.low_first) ≤ length s.args.out.now
room s =
    let f = s.args.finding in
    let e = exchanged_of f s.args.order.now in
    let parts : length (finding_text f s.args.order.now) ≡ length (arrays_text (chosen f) s.args.order.now) + length (numbers_text f.division f.block_size f.low_first) =
    ap length (text_pieces e) ∙ length-append (arrays_text (chosen f) s.args.order.now) (numbers_text f.division f.block_size f.low_first) in
    omega (arith, parts, s.requires.order_in_bounds)

pub put_arrays-at-requires : goal.put_arrays-at-requires
put_arrays-at-requires c = omega (arith, room (goal.at.put_arrays-at-requires c).Start)

pub put_numbers-requires : goal.put_numbers-requires
put_numbers-requires c =
    omega (arith, room (goal.at.put_numbers-requires c).Start, c.put_arrays-at.ensures.value, c.put_arrays-at.auto.out)

pub returns : goal.returns
returns c =
    let whole = (let a = c.args in
    let within : c.put_arrays-at.result ≤ length a.out.now = omega (arith, room (goal.at.returns c).Start, c.put_arrays-at.ensures.value) in
    text_stands a.out.now (exchanged_of a.finding a.order.now) _ _ _ _ (c.put_arrays-at.ensures.value, (c.put_arrays-at.ensures.out_after)) (c.put_numbers.ensures.value, (c.put_numbers.ensures.out_after)) within) in record {
      value = whole.0;
      out_after = whole.1;
    }
