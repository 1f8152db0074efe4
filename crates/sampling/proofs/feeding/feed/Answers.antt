-- `feeding::feed` meets its contract: the unfinished bytes are lent, and what becomes of them is handed back with the numbers after the feed.
use mathlib.Core.Path.{◌≡◌, sym, ap, ◌∙◌}
use lib.ListN.{length}
use Rattle.counting.specs.Refusal.{number_of}
use Rattle.sampling.specs.Feeding.{feed_refusal, Taken, next_head, fed_head, fed_unfinished, as_fed, fed_of}
use Rattle.sampling.proofs.Refused.{refused, passed_on}
use Rattle.sampling.proofs.Usable.{taken_refusal, taken_named, head_is}
use Rattle.sampling.proofs.feeding.feed.Goals as goal

pub returns-in_err-taken-clause-value : goal.returns-in_err-taken-clause-value
unfolding fed_of fed_head fed_unfinished
returns-in_err-taken-clause-value c =
    let a = c.args in
    let s = a.sampler in
    let is : number_of _ ≡ feed_refusal s.head (length a.words.now) a.board (length a.piece.now) =
    ap (λ (t : Taken). t.refusal) c.in_err-taken.ensures.value ∙ taken_refusal s.head (length a.words.now) a.board (length a.piece.now) in
    simp (refused _ _ is) (ap (as_fed s) (passed_on c.from_residual.result _ c.from_residual.ensures.1) ∙ (λ i. record { refusal = is i; sampler = s }))

pub next_head-head-requires : goal.next_head-head-requires
next_head-head-requires c =
    let a = c.args in
    taken_named a.sampler.head (length a.words.now) a.board (length a.piece.now) (sym (ap (λ (t : Taken). t.refusal) c.in_ok-taken.ensures.value))

pub returns : goal.returns
unfolding fed_of
returns c =
    let n = c.next_head-head in
    let a = c.args in
    let s = a.sampler.head in
    let words = length a.words.now in
    let new = length a.piece.now in
    let fed = c.in_ok-taken.ensures in
    let refusal = ap (λ (t : Taken). t.refusal) fed.value ∙ taken_refusal s words a.board new in
    let head = n.ensures ∙ ap (next_head s a.board) fed.value ∙ sym (head_is s words a.board new) in record {
      value = (λ i. record { refusal = refusal i; sampler = record { head = head i; unfinished = fed.unfinished_after i } });
      words_after = fed.words_after;
    }
