-- `decimals::put_four` meets its contract: two digits after two.
use Rattle.exchange.proofs.Figures.{put_four_pairs}
use Rattle.exchange.proofs.decimals.put_four.Goals as goal

pub returns : goal.returns
returns c =
    let a = c.args in
    put_four_pairs a.out.now a.at a.n _ _ c.requires.at_in_bounds c.put_two.ensures c.put_two-2.ensures
