-- `feeding::feed_lent` meets its contract: where the piece is not taken nothing changes.
use mathlib.Core.Path.{◌≡◌, refl, ap, ◌∙◌}
use lib.ListN.{length}
use Rattle.counting.specs.Refusal.{number_of}
use Rattle.sampling.specs.Feeding.{feed_refusal, Taken, fed_unfinished, fed_words}
use Rattle.sampling.proofs.Refused.{refused}
use Rattle.sampling.proofs.Usable.{taken_refusal}
use Rattle.sampling.proofs.feeding.feed_lent.Goals.{In_err-taken}
use Rattle.sampling.proofs.feeding.feed_lent.Goals as goal

some : (e : In_err-taken) → let a = e.args in number_of e.in_err-taken.field-0.0 ≡ feed_refusal a.head (length a.words.now) a.board (length a.piece.now)
some e = let a = e.args in ap (λ (t : Taken). t.refusal) e.in_err-taken.ensures ∙ taken_refusal a.head (length a.words.now) a.board (length a.piece.now)

pub returns-in_err-taken-clause-unfinished_after : goal.returns-in_err-taken-clause-unfinished_after
unfolding fed_unfinished
returns-in_err-taken-clause-unfinished_after c =
    simp (refused _ _ (some (goal.at.returns-in_err-taken-clause-unfinished_after c).In_err-taken)) refl

pub returns-in_err-taken-clause-words_after : goal.returns-in_err-taken-clause-words_after
unfolding fed_words
returns-in_err-taken-clause-words_after c = simp (refused _ _ (some (goal.at.returns-in_err-taken-clause-words_after c).In_err-taken)) refl
