-- `writer::put_numbers` meets its contract: each piece stands behind the one before.
use Prim.Native.Nat.{◌+◌, ◌≤◌}
use native.Mathlib.Omega.{arith}
use lib.ListN.{length}
use Rattle.exchange.specs.Writer.{decimal, low_text}
use Rattle.exchange.proofs.Pieces.{length_numbers, length_low, numbers_stand}
use Rattle.exchange.proofs.writer.put_numbers.Goals.{Start}
use Rattle.exchange.proofs.writer.put_numbers.Goals as goal

room : (s : Start)
    → s.args.at + 32 + length (decimal s.args.division) + length (decimal s.args.block_size) + length (low_text s.args.low_first) ≤ length s.args.out.now
room s = omega (arith, length_numbers s.args.division s.args.block_size s.args.low_first, length_low s.args.low_first, s.requires)

pub put_bytes-a-requires : goal.put_bytes-a-requires
put_bytes-a-requires c = omega (arith, room (goal.at.put_bytes-a-requires c).Start)

pub put_decimal-b-requires : goal.put_decimal-b-requires
put_decimal-b-requires c =
    omega (arith, room (goal.at.put_decimal-b-requires c).Start, c.put_bytes-a.ensures.value, c.put_bytes-a.auto.out)

pub put_bytes-c-requires : goal.put_bytes-c-requires
put_bytes-c-requires c =
    omega (arith, room (goal.at.put_bytes-c-requires c).Start, c.put_bytes-a.ensures.value, c.put_bytes-a.auto.out, c.put_decimal-b.ensures.value, c.put_decimal-b.auto.out)

pub put_decimal-d-requires : goal.put_decimal-d-requires
put_decimal-d-requires c =
    omega
    (arith, room (goal.at.put_decimal-d-requires c).Start, c.put_bytes-a.ensures.value, c.put_bytes-a.auto.out, c.put_decimal-b.ensures.value, c.put_decimal-b.auto.out, c.put_bytes-c.ensures.value, c.put_bytes-c.auto.out)

pub put_low-requires : goal.put_low-requires
put_low-requires c =
    omega
    (arith, room (goal.at.put_low-requires c).Start, c.put_bytes-a.ensures.value, c.put_bytes-a.auto.out, c.put_decimal-b.ensures.value, c.put_decimal-b.auto.out, c.put_bytes-c.ensures.value, c.put_bytes-c.auto.out, c.put_decimal-d.ensures.value, c.put_decimal-d.auto.out)

pub returns : goal.returns
returns c =
    let whole = (let a = c.args in
    let fits : c.put_decimal-d.result ≤ length a.out.now =
    omega (arith, room (goal.at.returns c).Start, c.put_bytes-a.ensures.value, c.put_decimal-b.ensures.value, c.put_bytes-c.ensures.value, c.put_decimal-d.ensures.value) in
    numbers_stand a.out.now a.at a.division a.block_size a.low_first _ _ _ _ _ _ _ _ _ _
    (c.put_bytes-a.ensures.value, (c.put_bytes-a.ensures.out_after)) (c.put_decimal-b.ensures.value, (c.put_decimal-b.ensures.out_after)) (c.put_bytes-c.ensures.value, (c.put_bytes-c.ensures.out_after)) (c.put_decimal-d.ensures.value, (c.put_decimal-d.ensures.out_after)) (c.put_low.ensures.value, (c.put_low.ensures.out_after)) fits) in record {
      value = whole.0;
      out_after = whole.1;
    }
