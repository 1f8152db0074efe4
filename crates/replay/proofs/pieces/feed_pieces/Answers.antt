-- `pieces::feed_pieces` meets its contract: before each turn the feeds that are left lead where all of them lead.
use mathlib.Core.Path.{refl, sym, ap, ◌∙◌}
use Prim.Native.Nat.{ℕ, ◌+◌}
use native.Mathlib.Nat.{add-zero}
use native.Mathlib.Omega.{arith}
use Rattle.std.specs.Prelude.{Ok, Err}
use Rattle.counting.proofs.Reasons.{some_number}
use Rattle.sampling.specs.Feeding.{as_fed}
use Rattle.replay.specs.Pieces.{state_of}
use Rattle.replay.proofs.Cutting.{counts_one, feeding_begun, feeding_within, feeding_turn, feeding_ended}
use Rattle.replay.proofs.pieces.feed_pieces.Goals.{in-Ok, in-Err}
use Rattle.replay.proofs.pieces.feed_pieces.Goals as goal

pub loop-length-init : goal.loop-length-init
loop-length-init c =
    record { lent = refl; feeding = feeding_begun c.args.recording.now c.args.lengths.now (state_of c.args.sampler c.args.words.now) c.requires }

pub split_at-requires : goal.split_at-requires
split_at-requires c = feeding_within _ _ _ _ _ c.loop-length.length-index _ c.loop-length.invariant.feeding c.loop-length-test.true

pub loop-length-preserved : goal.loop-length-preserved
loop-length-preserved c =
    let lent = c.feed.auto.words ∙ c.loop-length.invariant.lent in
    let was = c.loop-length.invariant.feeding in
    let cut = c.split_at.ensures in
    elim c.match-feed.branch [
      | in-Ok w ↦ record {
        lent = lent;
        feeding = feeding_turn _ _ _ _ _ c.loop-length.length-index _ was c.loop-length-test.true _ _ cut.front cut.back (as_fed c.loop-length.latest (Ok w.in-Ok.fed)) _
            w.in-Ok.ensures.value w.in-Ok.ensures.words_after _ _ w.latest-is (w.refused-is ∙ sym (add-zero c.loop-length.refused));
      }
      | in-Err w ↦ record {
        lent = lent;
        feeding = feeding_turn _ _ _ _ _ c.loop-length.length-index _ was c.loop-length-test.true _ _ cut.front cut.back (as_fed c.loop-length.latest (Err w.in-Err.field-0)) _
            w.in-Err.ensures.value w.in-Err.ensures.words_after _ _ w.latest-is (w.refused-is ∙ ap (λ (one : ℕ). c.loop-length.refused + one) (counts_one _ (some_number w.in-Err.field-0)));
      }
    ]

pub returns : goal.returns
returns c =
    let E = feeding_ended _ _ _ _ _ c.loop-length.length-index _ c.loop-length.invariant.feeding (omega arith) in
    record { state = E.0; refused = E.1 }
