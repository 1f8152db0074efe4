-- `search::search_stretch` meets its contract: the store decides the way, and each way finds the winner.
use mathlib.Core.Path.{sym, ◌∙◌}
use Rattle.layers.proofs.Sizing.{suffices_roomy}
use Rattle.searching.proofs.search.search_stretch.Goals as goal

pub brute_force-requires-clause-roomy : goal.brute_force-requires-clause-roomy
brute_force-requires-clause-roomy c =
    let a = c.args in
    (suffices_roomy a.sample.now.stretch.block_size a.sample.now.k _).roomy (sym c.store_suffices.ensures ∙ c.if-store_suffices.true)
