-- `samplers::write_sampler` meets its contract: the numbers to one slice, the bytes to the other.
use mathlib.Core.Path.{◌≡◌, ◌∙◌}
use native.Mathlib.Omega.{arith}
use lib.ListN.{length}
use Rattle.counting.proofs.Buffers.{put_first}
use borrow.Author.Rules.{rules}
use Rattle.exports.proofs.samplers.write_sampler.Goals.{Start}
use Rattle.exports.proofs.samplers.write_sampler.Goals as goal

-- how many bytes there are
bytes : (s : Start) → length s.args.sampler.unfinished ≡ 2048
bytes s = search rules

pub write_head-requires : goal.write_head-requires
write_head-requires c = c.requires.0

pub write_bytes-requires : goal.write_bytes-requires
write_bytes-requires c =
    omega (arith, c.requires, bytes (goal.at.write_bytes-requires c).Start)

pub returns : goal.returns
returns c =
    record {
      first = c.write_head.ensures;
      second = c.write_bytes.ensures ∙ put_first c.args.bytes.now c.args.sampler.unfinished;
    }
