-- `replay::replay` meets its contract: past the refusals the calls are an acquisition and its searches, of which the claim holds.
use mathlib.Core.Path.{◌≡◌, refl, sym, ap, ◌∙◌}
use mathlib.Core.List.{[]}
use Prim.Native.Nat.{◌<◌}
use native.Mathlib.Omega.{arith}
use lib.ListN.{length}
use Rattle.counting.proofs.Accepted.{valid_facts}
use Rattle.counting.proofs.Reasons.{some_number}
use Rattle.sampling.specs.Recorded.{State, started, answers_from}
use Rattle.std.specs.Prelude.{Ok, Err}
use Rattle.searching.specs.Finding.{searched_of}
use Rattle.replay.specs.Pieces.{cut, refused_in, state_of}
use Rattle.replay.proofs.Refusing.{ReplayFree, replay_free}
use Rattle.replay.proofs.Replaying.{state_after, not_refused, fresh_is, state_is, search_succeeds, replayed}
use Rattle.replay.proofs.replay.replay.Goals.{After-feed_pieces-taken, In_ok-replay_refusal}
use Rattle.replay.proofs.replay.replay.Goals as goal

free : (e : In_ok-replay_refusal) → let a = e.args in ReplayFree a.block_size (length a.recording.now) a.lengths.now a.k (length a.bins.now) (length a.order.now)
free e =
    let a = e.args in
    replay_free a.block_size (length a.recording.now) a.lengths.now a.k (length a.bins.now) (length a.order.now) (sym e.in_ok-replay_refusal.ensures)

-- the state after start and all feeds
arrived : (f : After-feed_pieces-taken) → let a = f.args in
    state_of f.feed_pieces-taken.result.sampler f.feed_pieces-taken.new.words ≡ state_after a.block_size a.low_first a.words.now (cut a.recording.now a.lengths.now)
arrived f =
    let a = f.args in
    let s = f.in_ok-sampler in
    state_is a.block_size a.low_first a.words.now (cut a.recording.now a.lengths.now) _ f.start.new.words f.feed_pieces-taken.result f.feed_pieces-taken.new.words
    s.ensures.value s.ensures.words_after f.feed_pieces-taken.ensures

-- .. and how many feeds were refused
counted : (f : After-feed_pieces-taken) → let a = f.args in
    f.feed_pieces-taken.result.refused ≡ refused_in (answers_from (started a.block_size a.low_first a.words.now) (cut a.recording.now a.lengths.now))
counted f =
    let a = f.args in
    let s = f.in_ok-sampler in
    f.feed_pieces-taken.ensures.refused
    ∙ ap (λ (q : State). refused_in (answers_from q (cut a.recording.now a.lengths.now))) (fresh_is a.block_size a.low_first a.words.now _ f.start.new.words s.ensures.value s.ensures.words_after)

pub store_suffices-layered-requires : goal.store_suffices-layered-requires
store_suffices-layered-requires c =
    let small : c.args.block_size < 4294967296 = omega (arith, valid_facts _ (free c).valid) in
    (small, (free c).width.width)

pub returns-in_err-sampler : goal.returns-in_err-sampler
returns-in_err-sampler c =
    let f = free (goal.at.returns-in_err-sampler c).In_ok-replay_refusal in
    absurd (some_number _ (not_refused _ c.args.low_first _ _ f.valid c.in_err-sampler.ensures.value))

pub feed_pieces-taken-requires : goal.feed_pieces-taken-requires
feed_pieces-taken-requires c = (free (goal.at.feed_pieces-taken-requires c).In_ok-replay_refusal).adds_up

-- neither search is refused
pub returns-in_err-stored : goal.returns-in_err-stored
returns-in_err-stored c =
    let a = c.args in
    let d = (goal.at.returns-in_err-stored c).After-feed_pieces-taken in
    let f = free (goal.at.returns-in_err-stored c).In_ok-replay_refusal in
    absurd (some_number _ (search_succeeds _ a.low_first _ (cut a.recording.now a.lengths.now) _ _ a.k a.store.now a.bins.now a.order.now f c.feed_pieces-taken.result _ (arrived d)
    _ c.blocks-n.ensures _ _ _ (searched_of (Err c.in_err-stored.field-0.0)) _ _ _ c.in_err-stored.ensures refl refl))

pub returns-in_err-direct : goal.returns-in_err-direct
returns-in_err-direct c =
    let a = c.args in
    let d = (goal.at.returns-in_err-direct c).After-feed_pieces-taken in
    let f = free (goal.at.returns-in_err-direct c).In_ok-replay_refusal in
    absurd (some_number _ (search_succeeds _ a.low_first _ (cut a.recording.now a.lengths.now) _ _ a.k a.store.now a.bins.now a.order.now f c.feed_pieces-taken.result _ (arrived d)
    _ c.blocks-n.ensures _ _ _ (searched_of (Err c.in_err-direct.field-0.0)) _ _ _ c.in_err-direct.ensures c.bottomup.auto.bins c.bottomup.auto.order))

pub returns : goal.returns
returns c =
    let a = c.args in
    let e = (goal.at.returns c).In_ok-replay_refusal in
    let d = (goal.at.returns c).After-feed_pieces-taken in
    replayed a.block_size a.low_first a.words.now (cut a.recording.now a.lengths.now) (length a.recording.now) a.lengths.now a.k a.store.now
    a.bins.now a.order.now (free e) c.feed_pieces-taken.result c.blocks-n.result (searched_of (Ok c.in_ok-stored.stored)) (searched_of (Ok c.in_ok-direct.direct)) c.feed_pieces-taken.new.words
    c.bottomup.new.store c.bottomup.new.bins c.bottomup.new.order
    [] _ c.bottomup-2.new.bins c.bottomup-2.new.order (arrived d) c.blocks-n.ensures c.in_ok-stored.ensures c.in_ok-direct.ensures
    c.bottomup.auto.bins c.bottomup.auto.order (counted d) c.store_suffices-layered.result c.store_suffices-layered.ensures
    c.same_finding.result c.same_finding.ensures _ (sym e.in_ok-replay_refusal.ensures)
