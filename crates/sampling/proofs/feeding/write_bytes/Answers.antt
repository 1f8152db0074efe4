-- `feeding::write_bytes` meets its contract: the part that is written is put at its place.
use Prim.Native.Nat.{◌+◌, ◌-◌}
use native.Mathlib.Omega.{arith}
use lib.ListN.{length}
use Rattle.sampling.proofs.Taking.{put_part}
use Rattle.sampling.proofs.feeding.write_bytes.Goals as goal

pub returns : goal.returns
returns c =
    let a = c.args in
    put_part a.unfinished.now a.at (a.at + length a.bytes.now - a.at) c.copy.new.to a.bytes.now (c.copy.ensures) (omega arith)
