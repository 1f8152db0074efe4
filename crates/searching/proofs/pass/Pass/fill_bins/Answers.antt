-- `Pass::fill_bins` meets its contract: every bit's row lies within the words, or what the layers ask for stands.
use Rattle.layers.proofs.Running.{rows_in}
use Rattle.searching.proofs.Layering.{stood, shared}
use Rattle.searching.proofs.pass.Pass.fill_bins.Goals as goal

pub multi_eval_neg-requires-clause-rows_in : goal.multi_eval_neg-requires-clause-rows_in
multi_eval_neg-requires-clause-rows_in c =
    let sample = c.args.self.now.sample in
    rows_in sample.stretch.block_size _ sample.stretch.stride sample.words.now c.args.bits.now c.requires.subset sample.searchable.rows.0

pub few_bins-requires-clause-run : goal.few_bins-requires-clause-run
few_bins-requires-clause-run c =
    let a = c.args in
    let pass = a.self.now in
    stood _ _ _ pass.sample.searchable pass.layered pass.over c.in-Some.layered c.in-Some.is a.bits.now a.run.now c.requires.ready.stands

pub compute_bins-requires-clause-run : goal.compute_bins-requires-clause-run
compute_bins-requires-clause-run c =
    let a = c.args in
    let pass = a.self.now in
    stood _ _ _ pass.sample.searchable pass.layered pass.over c.in-Some.layered c.in-Some.is a.bits.now a.run.now c.requires.ready.stands

pub compute_bins-requires-clause-shared : goal.compute_bins-requires-clause-shared
compute_bins-requires-clause-shared c =
    let a = c.args in
    let pass = a.self.now in
    shared _ _ _ pass.sample.searchable pass.layered pass.over c.in-Some.layered c.in-Some.is a.bits.now a.run.now a.bins.now c.requires.ready
