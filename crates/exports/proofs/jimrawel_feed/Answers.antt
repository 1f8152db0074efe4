-- `jimrawel_feed` meets its contract: what feed promised of the sampler read, and its sampler written.
use mathlib.Core.Path.{◌≡◌, sym, ap, subst, ◌∙◌}
use mathlib.Core.List.{List, ◌++◌}
use Prim.Native.Nat.{ℕ}
use lib.ListN.{length, take, drop}
use lib.Seq.{length-take-le}
use Rattle.sampling.specs.Feeding.{Taken, as_taken}
use Rattle.sampling.proofs.Usable.{taken_named}
use Rattle.exports.specs.Samplers.{feed_unread}
use Rattle.exports.specs.Calls.{FeedCall}
use Rattle.exports.proofs.Asking.{failed, succeeded, taken_is}
use Rattle.exports.proofs.Calling.{sampler_room_is, feed_read, feed_made, feed_unread_is}
use Rattle.exports.proofs.jimrawel_feed.Goals.{Else-is_err}
use Rattle.exports.proofs.jimrawel_feed.Goals as goal

none : (e : Else-is_err) → let a = e.args in feed_unread a.sampler.now (length a.unfinished.now) ≡ 0
none e = sym e.feed_unread-unread.ensures ∙ succeeded e.feed_unread-unread.result (sym e.is_err.ensures.value ∙ e.if-is_err.false)

-- there are the bytes of a sampler
long : (e : Else-is_err) → length (take 2048 e.args.unfinished.now) ≡ 2048
long e = length-take-le 2048 e.args.unfinished.now (feed_read _ _ (none e)).1

pub returns-then-is_err : goal.returns-then-is_err
returns-then-is_err c =
    let a = c.args in
    let x = c.feed_unread-unread in
    feed_unread_is a.sampler.now a.unfinished.now a.words.now a.board a.piece.now c.refusal_of.result (c.refusal_of.ensures ∙ x.ensures)
    (λ z. failed x.result (sym c.is_err.ensures.value ∙ c.if-is_err.true) (sym c.refusal_of.ensures ∙ z))

pub read_head-requires : goal.read_head-requires
read_head-requires c = sampler_room_is _ (feed_read _ _ (none c)).0

pub slice_bounds-feed_lent-end : goal.slice_bounds-feed_lent-end
slice_bounds-feed_lent-end c = (feed_read _ _ (none (goal.at.slice_bounds-feed_lent-end c).Else-is_err)).1

pub slice_bounds-feed_lent-end-2 : goal.slice_bounds-feed_lent-end-2
slice_bounds-feed_lent-end-2 c = sym (long (goal.at.slice_bounds-feed_lent-end-2 c).Else-is_err)

pub feed_lent-taken-requires : goal.feed_lent-taken-requires
feed_lent-taken-requires c = long (goal.at.feed_lent-taken-requires c).Else-is_err

pub write_taken-requires : goal.write_taken-requires
write_taken-requires c =
    let a = c.args in
    record {
      numbers_value = (feed_read _ _ (none (goal.at.write_taken-requires c).Else-is_err)).0;
      board_bound = λ z. taken_named c.read_head.result (length a.words.now) a.board (length a.piece.now) (ap (λ (t : Taken). t.refusal) (sym c.feed_lent-taken.ensures.value) ∙ sym (taken_is c.feed_lent-taken.result) ∙ z);
    }

pub returns : goal.returns
returns c =
    let a = c.args in
    let bytes : List ℕ = c.feed_lent-taken.new.unfinished in
    let many : length bytes ≡ 2048 = c.feed_lent-taken.auto.unfinished ∙ long (goal.at.returns c).Else-is_err in
    subst (λ (r : ℕ). FeedCall a.sampler.now a.unfinished.now a.words.now a.board a.piece.now r c.write_taken.new.numbers (bytes ++ drop 2048 a.unfinished.now) c.feed_lent-taken.new.words)
    (sym (c.refusal_of-2.ensures ∙ taken_is c.feed_lent-taken.result))
    (feed_made a.sampler.now a.unfinished.now a.words.now a.board a.piece.now c.read_head.result (as_taken c.feed_lent-taken.result)
    bytes c.write_taken.new.numbers _ c.feed_lent-taken.new.words
    (none (goal.at.returns c).Else-is_err) c.read_head.ensures c.feed_lent-taken.ensures.value c.feed_lent-taken.ensures.unfinished_after c.feed_lent-taken.ensures.words_after c.write_taken.ensures
    (ap (λ (n : ℕ). bytes ++ drop n a.unfinished.now) (sym many)))
