-- `training::train` meets its contract: a start and one feed are an acquisition, and the claim holds of the search of all its blocks.
use mathlib.Core.Path.{◌≡◌, refl, subst}
use mathlib.Core.List.{List, [], ◌∷◌}
use Prim.Native.Nat.{ℕ}
use lib.ListN.{length}
use Rattle.std.specs.Prelude.{Result, Ok, Err}
use Rattle.std.specs.Result.{IsOk}
use Rattle.counting.specs.declared.refusal.Refusal.{Refusal}
use Rattle.counting.proofs.Reasons.{some_number}
use Rattle.sampling.specs.Boards.{on_board}
use Rattle.sampling.specs.Feeding.{as_fed}
use Rattle.sampling.specs.declared.sampler.Sampler.{Sampler}
use Rattle.searching.specs.Claim.{Acquisition}
use Rattle.searching.specs.Finding.{searched_of}
use Rattle.searching.specs.Search.{BottomupSearch}
use Rattle.searching.specs.declared.finding.Finding.{Finding}
use Rattle.judging.specs.Training.{Trained}
use Rattle.judging.proofs.Trained.{started_well, acquired, fed_well, training_found}
use Rattle.judging.proofs.training.train.Goals.{After-bottomup}
use Rattle.judging.proofs.training.train.Goals as goal

-- the search is not refused, and finds what is wanted
found : (d : After-bottomup) → let a = d.args in let r = searched_of d.bottomup.result in (r.refusal ≡ 0) × Trained a.block_size a.low_first a.k a.training.now r.finding d.bottomup.new.order
found d =
    let a = d.args in
    let s : Sampler = d.unwrap-sampler.result in
    let words : List ℕ = d.feed.new.words in
    let held : Acquisition a.block_size a.low_first a.words.now [] (on_board 0 (a.training.now ∷ [])) (0 ∷ []) s words =
    subst (λ (f : Result Sampler Refusal). Acquisition a.block_size a.low_first a.words.now [] (on_board 0 (a.training.now ∷ [])) ((as_fed d.unwrap-fresh.result f).refusal ∷ []) (as_fed d.unwrap-fresh.result f).sampler words) d.unwrap-sampler.ensures
    (acquired a.block_size a.low_first a.words.now a.training.now d.start.result d.start.new.words d.unwrap-fresh.result d.feed.result words d.start.ensures.value d.start.ensures.words_after d.unwrap-fresh.ensures d.feed.ensures.value d.feed.ensures.words_after) in
    training_found a.block_size a.low_first a.k a.words.now a.training.now (0 ∷ []) s words held
    a.store.now a.bins.now a.order.now d.requires
    (searched_of d.bottomup.result) d.bottomup.new.store d.bottomup.new.bins d.bottomup.new.order
    (subst (λ (m : ℕ). BottomupSearch s.head words 0 m a.k a.store.now a.bins.now a.order.now (searched_of d.bottomup.result)
    d.bottomup.new.store d.bottomup.new.bins d.bottomup.new.order) d.blocks-n.ensures d.bottomup.ensures)

pub unwrap-fresh-requires : goal.unwrap-fresh-requires
unwrap-fresh-requires c = started_well c.args.block_size c.args.low_first (length c.args.words.now) c.start.result c.start.ensures.value c.requires.valid

pub unwrap-sampler-requires : goal.unwrap-sampler-requires
unwrap-sampler-requires c =
    let a = c.args in
    fed_well a.block_size a.low_first a.words.now a.training.now c.start.result c.start.new.words c.unwrap-fresh.result c.feed.result c.feed.new.words c.start.ensures.value c.start.ensures.words_after c.unwrap-fresh.ensures c.feed.ensures.value c.feed.ensures.words_after
    a.k (length a.bins.now) (length a.order.now) c.requires

pub unwrap-requires : goal.unwrap-requires
unwrap-requires c = taken c.bottomup.result (found (goal.at.unwrap-requires c).After-bottomup).0
  where
    taken : (r : Result Finding Refusal) → (searched_of r).refusal ≡ 0 → IsOk r
    taken (Ok f) e = refl
    taken (Err r) e = absurd (some_number r e)

pub returns : goal.returns
returns c =
    let a = c.args in
    subst (λ (r : Result Finding Refusal). Trained a.block_size a.low_first a.k a.training.now (searched_of r).finding c.bottomup.new.order) c.unwrap.ensures (found (goal.at.returns c).After-bottomup).1
