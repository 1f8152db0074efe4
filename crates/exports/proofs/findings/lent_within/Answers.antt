-- `findings::lent_within` meets its contract.
use Prim.Native.Nat.{ℕ, ◌<◌}
use Rattle.std.proofs.Common.{rules}
use Rattle.std.specs.Prelude.{◌↔◌, IsTrue, All}
use Rattle.subsets.proofs.Testing.{within_by_each}
use Rattle.exports.proofs.findings.lent_within.Goals as goal

pub returns : goal.returns
returns c =
    let each : IsTrue c.all.result ↔ All (λ (bit : ℕ). bit < c.args.block_size) c.args.bits.now = search rules in
    within_by_each c.args.block_size c.args.bits.now c.all.result each
