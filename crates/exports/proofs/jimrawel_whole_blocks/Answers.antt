-- `jimrawel_whole_blocks` meets its contract: the lengths of both parts written, the refusal returned.
use mathlib.Core.Path.{refl, ◌∙◌}
use native.Mathlib.Omega.{arith}
use lib.ListN.{length}
use Rattle.exports.proofs.Calling.{split_made}
use Rattle.exports.proofs.Writing.{two}
use Rattle.exports.proofs.jimrawel_whole_blocks.Goals as goal

pub returns-then-lengths-lt2 : goal.returns-then-lengths-lt2
returns-then-lengths-lt2 c = record { made = λ m. absurd (omega (arith, c.if-lengths-lt2.true)); short = λ s. (refl, refl) }

pub returns : goal.returns
returns c =
    let a = c.args in
    split_made a.raw.now a.block_size a.training a.lengths.now c.first_part-first.result.now c.second_part-second.result.now c.refusal_of.result _
    c.if-lengths-lt2.false c.first_part-first.ensures c.second_part-second.ensures (c.refusal_of.ensures ∙ c.split_refusal.ensures)
    (two a.lengths.now (length c.first_part-first.result.now) (length c.second_part-second.result.now) c.if-lengths-lt2.false)
