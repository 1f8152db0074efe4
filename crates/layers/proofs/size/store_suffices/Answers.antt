-- `size::store_suffices` meets its contract: each return has the tests that led there.
use Rattle.layers.proofs.Sizing.{too_large, by_length}
use Rattle.layers.proofs.size.store_suffices.Goals as goal

pub returns-then-size-gt4294967296 : goal.returns-then-size-gt4294967296
returns-then-size-gt4294967296 c =
    let a = c.args in
    let w = c.store_size-size in
    too_large a.block_size a.k w.result w.ensures a.a c.if-size-gt4294967296.true

pub returns : goal.returns
returns c =
    let a = c.args in
    let w = c.store_size-size in
    by_length a.block_size a.k w.result w.ensures a.a c.if-size-gt4294967296.false
