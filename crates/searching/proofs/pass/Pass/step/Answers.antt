-- `Pass::step` meets its contract: where a store is lent, the candidate's run stands.
use lib.ListN.{take}
use Rattle.searching.proofs.Layering.{stood}
use Rattle.searching.proofs.pass.Pass.step.Goals as goal

pub advance-requires-clause-run : goal.advance-requires-clause-run
advance-requires-clause-run c =
    let a = c.args in
    let pass = a.self.now in
    let layered = c.in-Some.layered in
    let width = (pass.over layered c.in-Some.is).same_width in
    rw width (stood _ _ _ pass.sample.searchable pass.layered pass.over layered c.in-Some.is (take pass.sample.k a.bits.now) a.run.now c.requires.standing)
