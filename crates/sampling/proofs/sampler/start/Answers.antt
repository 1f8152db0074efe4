-- `sampler::start` meets its contract: each return rewrites with the test of the block size.
use mathlib.Core.Path.{◌≡◌, refl, sym, ◌∙◌}
use mathlib.Core.Bool.{true, false}
use mathlib.Core.List.{[], ◌∷◌}
use lib.ListN.{length}
use Rattle.counting.specs.Block.{valid_size}
use Rattle.sampling.specs.Sampler.{started_of, started_words}
use Rattle.sampling.proofs.sampler.start.Goals as goal

pub returns-then-not-valid_block_size : goal.returns-then-not-valid_block_size
unfolding started_of started_words
returns-then-not-valid_block_size c =
    let bad : valid_size c.args.block_size ≡ false = sym c.valid_block_size.ensures ∙ c.if-not-valid_block_size.true in
    record { value = simp bad refl; words_after = simp bad refl }

pub returns : goal.returns
unfolding started_of started_words
returns c =
    let a = c.args in
    let good : valid_size a.block_size ≡ true = sym c.valid_block_size.ensures ∙ c.if-not-valid_block_size.false in
    let same : length c.fill.new.self ≡ length a.words.now = c.fill.ensures.len in
    record {
      value = simp good (λ i. record {
        refusal = 0;
        sampler = record {
          head = record {
            block_size = a.block_size;
            words = same i;
            blocks = 0;
            low_first = a.low_first;
            lengths = 0 ∷ 0 ∷ 0 ∷ 0 ∷ [];
          };
          unfinished = c.filled-unfinished.ensures i;
        };
      });
      words_after = simp good (c.fill.ensures.after (λ y e. e));
    }
