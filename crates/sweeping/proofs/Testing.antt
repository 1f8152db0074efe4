-- What can be tested can be searched on its training half and judged on its testing half.
use mathlib.Core.Path.{◌≡◌, refl, sym, ap, subst, ◌∙◌}
use mathlib.Core.Bool.{Bool, true, false}
use mathlib.Core.List.{List}
use Prim.Native.Nat.{ℕ, suc, ◌-◌, ◌*◌, ◌/◌, ◌≤◌, ◌<◌, min}
use native.Mathlib.Nat.{mul-le-mul_right, mul-div_cancel}
use native.Mathlib.Omega.{arith}
use lib.Dec.{leb}
use lib.ListN.{length, take}
use lib.Seq.{length-take-le, take_all}
use borrow.Author.Tests.{leb-true, leb-false}
use Rattle.counting.specs.Recording.{block_bytes, blocks_in}
use Rattle.counting.proofs.Accepted.{Valid, valid_facts}
use Rattle.subsets.proofs.Filling.{padded_length}
use Rattle.searching.specs.declared.finding.Finding.{Finding}
use Rattle.judging.specs.Split.{split_refusal, first_blocks, first_part, second_part}
use Rattle.judging.specs.Training.{chosen_of, trained_of, trained_order, Trainable}
use Rattle.judging.proofs.Splitting.{split_free, first_length, second_length}
use Rattle.judging.proofs.Unrefused.{chosen_subset, evaluation_free}
use Rattle.sweeping.specs.Pair.{tested_blocks, tested_part, Judgeable, Testable}
use Rattle.sweeping.specs.declared.pair.Pair.{Pair}
use Rattle.sweeping.proofs.Judging.{evaluated_bracketed}

module _ (p : Pair) (raw : List ℕ) (words bins order scratch entries : ℕ) (t : Testable p (length raw) words bins order scratch entries) where
  abbrev B : ℕ
  B = p.block_size

  abbrev k : ℕ
  k = p.width

  abbrev m : ℕ
  m = blocks_in B raw

  abbrev w : ℕ
  w = block_bytes B

  abbrev training : List ℕ
  training = first_part raw B true

  abbrev f : Finding
  f = trained_of B p.low_first k training

  abbrev its_order : List ℕ
  its_order = trained_order B p.low_first k training

  ok : split_refusal raw B ≡ 0
  ok = split_free raw B t.sizes.valid t.two

  valid : Valid B
  valid = valid_facts B t.sizes.valid

  pub trainable : Trainable B k (length training) words bins order
  unfolding first_blocks
  trainable = record {
    valid = t.sizes.valid;
    some = t.sizes.some;
    width = t.sizes.width;
    chosen = t.sizes.fits;
    held = omega (arith, first_length raw B ok, t.held);
    room = (t.room.0, t.room.1);
  }

  -- the blocks that are evaluated
  tested_length : length (tested_part raw B) ≡ tested_blocks m * w
  unfolding tested_part tested_blocks first_blocks
  tested_length = by_number (leb 4096 (m - m / 2)) refl
    where
      all : length (second_part raw B true) ≡ (m - m / 2) * w
      all = second_length raw B ok

      by_number : (b : Bool) → leb 4096 (m - m / 2) ≡ b → length (take (4096 * w) (second_part raw B true)) ≡ min (m - m / 2) 4096 * w
      by_number true e =
          let more : 4096 ≤ m - m / 2 = leb-true 4096 (m - m / 2) e in
          let fits : 4096 * w ≤ length (second_part raw B true) = omega (arith, all, mul-le-mul_right w more) in
          let least : min (m - m / 2) 4096 ≡ 4096 = omega arith in
          length-take-le (4096 * w) (second_part raw B true) fits ∙ ap (λ (x : ℕ). x * w) (sym least)
      by_number false e =
          let fewer : m - m / 2 ≤ 4096 = omega (arith, leb-false 4096 (m - m / 2) e) in
          let fits : length (second_part raw B true) ≤ 4096 * w = omega (arith, all, mul-le-mul_right w fewer) in
          let least : min (m - m / 2) 4096 ≡ m - m / 2 = omega arith in
          ap length (take_all (4096 * w) (second_part raw B true) fits) ∙ all ∙ ap (λ (x : ℕ). x * w) (sym least)

  pub tested_blocks_is : blocks_in B (tested_part raw B) ≡ tested_blocks m
  tested_blocks_is = let pos : 0 < w = omega (arith, valid.low) in ap (λ (l : ℕ). l / w) tested_length ∙ mul-div_cancel (tested_blocks m) pos

  some_tested : (1 ≤ tested_blocks m) × (tested_blocks m ≤ 4096)
  unfolding tested_blocks first_blocks
  some_tested = (omega (arith, t.two), omega arith)

  block_is : f.block_size ≡ B
  unfolding trained_of
  block_is = refl

  bits_long : length f.bits ≡ 20
  unfolding trained_of
  bits_long =
      let few = (chosen_subset B p.low_first k training t.sizes.valid t.sizes.some t.sizes.width t.sizes.fits).size in
      let within : length (chosen_of B p.low_first k training) ≤ 20 = omega (arith, few, t.sizes.width) in
      padded_length (chosen_of B p.low_first k training) within

  pub judgeable : Judgeable f its_order (tested_part raw B) scratch entries
  judgeable =
      let s = some_tested in
      let n = blocks_in B (tested_part raw B) in
      let least : 1 ≤ n = omega (arith, tested_blocks_is, s.0) in
      let most : n ≤ 16777216 = omega (arith, tested_blocks_is, s.1) in
      let few : blocks_in f.block_size (tested_part raw B) ≤ 4096 = rw block_is (omega (arith, tested_blocks_is, s.1)) in
      let room : suc (blocks_in f.block_size (tested_part raw B)) ≤ entries = rw block_is (omega (arith, tested_blocks_is, t.bracketing)) in
      evaluated_bracketed f its_order (tested_part raw B) scratch entries bits_long
      (evaluation_free B p.low_first k training t.sizes.valid t.sizes.some t.sizes.width t.sizes.fits (tested_part raw B) scratch least most t.room.2)
      few room

-- the same of what equals the finding, its order and the testing bytes
pub judgeable_as : {f f' : Finding} {o o' t t' : List ℕ} {scratch entries : ℕ} → f ≡ f' → o ≡ o' → t ≡ t' → Judgeable f' o' t' scratch entries → Judgeable f o t scratch entries
judgeable_as {scratch = scratch} {entries = entries} p q r j = subst (λ (x : Finding × List ℕ × List ℕ). Judgeable x.0 x.1 x.2 scratch entries) (λ i. (sym p i, sym q i, sym r i)) j
