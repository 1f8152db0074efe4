-- `keys::read_name` meets its contract: what is left of the keys leads where all lead.
use Rattle.std.proofs.Common.{◌≡◌, drop}
use Rattle.exchange.specs.Reader.{names, read_name}
use Rattle.exchange.proofs.keys.read_name.Given as goal

abbrev pub invariant-loop-name : goal.invariant-loop-name
invariant-loop-name l = read_name (drop l.name-index l.name-items) l.s ≡ read_name names l.s
