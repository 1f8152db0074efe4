-- `decimals::put_behind` meets its contract: what is left of the numbers, put behind those written, makes the whole.
use Rattle.std.proofs.Common.{◌≡◌, ◌+◌, length, drop}
use Rattle.counting.specs.Buffer.{put}
use Rattle.exchange.specs.Writer.{behind}
use Rattle.exchange.proofs.decimals.put_behind.Given as goal

abbrev pub invariant-loop-n : goal.invariant-loop-n
invariant-loop-n l =
    (l.to + length (behind (drop l.n-index l.ns)) ≡ l.at + length (behind l.ns)) × (put l.out l.to (behind (drop l.n-index l.ns)) ≡ put l.initial.out l.at (behind l.ns))
