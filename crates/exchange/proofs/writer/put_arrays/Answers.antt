-- `writer::put_arrays` meets its contract: each piece stands behind the one before.
use Prim.Native.Nat.{◌+◌, ◌≤◌}
use native.Mathlib.Omega.{arith}
use lib.ListN.{length}
use Rattle.exchange.specs.Writer.{listed}
use Rattle.exchange.proofs.Pieces.{length_arrays, arrays_stand}
use Rattle.exchange.proofs.writer.put_arrays.Goals.{Start}
use Rattle.exchange.proofs.writer.put_arrays.Goals as goal

room : (s : Start) → 29 + length (listed s.args.bits.now) + length (listed s.args.order.now) ≤ length s.args.out.now
room s = omega (arith, length_arrays s.args.bits.now s.args.order.now, s.requires)

pub put_bytes-a-requires : goal.put_bytes-a-requires
put_bytes-a-requires c = omega (arith, room (goal.at.put_bytes-a-requires c).Start)

pub put_listed-b-requires : goal.put_listed-b-requires
put_listed-b-requires c =
    omega (arith, room (goal.at.put_listed-b-requires c).Start, c.put_bytes-a.ensures.value, c.put_bytes-a.auto.out)

pub put_bytes-c-requires : goal.put_bytes-c-requires
put_bytes-c-requires c =
    omega (arith, room (goal.at.put_bytes-c-requires c).Start, c.put_bytes-a.ensures.value, c.put_bytes-a.auto.out, c.put_listed-b.ensures.value, c.put_listed-b.auto.out)

pub put_listed-requires : goal.put_listed-requires
put_listed-requires c =
    omega
    (arith, room (goal.at.put_listed-requires c).Start, c.put_bytes-a.ensures.value, c.put_bytes-a.auto.out, c.put_listed-b.ensures.value, c.put_listed-b.auto.out, c.put_bytes-c.ensures.value, c.put_bytes-c.auto.out)

pub returns : goal.returns
returns c =
    let whole = (let a = c.args in
    let fits : c.put_bytes-c.result ≤ length a.out.now = omega (arith, room (goal.at.returns c).Start, c.put_bytes-a.ensures.value, c.put_listed-b.ensures.value, c.put_bytes-c.ensures.value) in
    arrays_stand a.out.now a.bits.now a.order.now _ _ _ _ _ _ _ _ (c.put_bytes-a.ensures.value, (c.put_bytes-a.ensures.out_after)) (c.put_listed-b.ensures.value, (c.put_listed-b.ensures.out_after)) (c.put_bytes-c.ensures.value, (c.put_bytes-c.ensures.out_after)) (c.put_listed.ensures.value, (c.put_listed.ensures.out_after)) fits) in record {
      value = whole.0;
      out_after = whole.1;
    }
