-- `Pass::begin` meets its contract: where a store is lent, the places in it stand in the run's numbers.
use Rattle.searching.proofs.Layering.{placed}
use Rattle.searching.proofs.pass.Pass.begin.Goals as goal

pub begin_run-requires-clause-tops : goal.begin_run-requires-clause-tops
begin_run-requires-clause-tops c =
    let a = c.args in
    let pass = a.self.now in
    placed _ _ _ pass.sample.searchable pass.layered pass.over c.in-Some.layered c.in-Some.is a.bits.now a.run.now c.requires.subset.size c.requires.space
