-- `cursor::token` meets its contract, by what its steps promise.
use Rattle.std.proofs.Common.{ap, ◌∙◌}
use Rattle.exchange.specs.Reader.{read_exactly, read_token}
use Rattle.exchange.proofs.Stepping.{taken_off}
use Rattle.exchange.proofs.cursor.token.Goals as goal

pub returns : goal.returns
unfolding read_token
returns c = taken_off _ c.args.k.now c.skip_space.result.now c.strip_prefix.result c.strip_prefix.ensures.cases ∙ ap (read_exactly c.args.k.now) c.skip_space.ensures
