-- `decimals::put_two` meets its contract: one digit after the other.
use Rattle.exchange.proofs.Figures.{put_pair}
use Rattle.exchange.proofs.decimals.put_two.Goals as goal

pub returns : goal.returns
returns c =
    let a = c.args in
    put_pair a.out.now a.at a.n _ _ c.requires.n_bound c.requires.at_in_bounds c.digit.ensures c.digit-2.ensures
