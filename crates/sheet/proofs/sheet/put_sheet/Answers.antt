-- `sheet::put_sheet` meets its contract: the halves of an input that is not refused are judged and printed.
use mathlib.Core.Path.{◌≡◌, sym, ap, ◌∙◌}
use mathlib.Core.List.{List}
use mathlib.Core.Bool.{true}
use Prim.Native.Nat.{ℕ, ◌+◌, ◌*◌, ◌≤◌, ◌<◌}
use native.Mathlib.Omega.{arith}
use lib.ListN.{length}
use Rattle.judging.specs.Split.{first_part, second_part}
use Rattle.counting.specs.Buffer.{put}
use Rattle.sheet.specs.Header.{block_size_of, width_of}
use Rattle.sheet.specs.Judgement.{lines_of}
use Rattle.sheet.specs.Sheet.{training_of, testing_of, sheet_of}
use Rattle.sheet.proofs.Accepting.{Accepted, accepted, judgeable, judgeable_as, lines_length, sheet_lines}
use Rattle.sheet.proofs.Reading.{raw_is}
use Rattle.sheet.proofs.Writing.{printed, unprinted}
use Rattle.sheet.proofs.sheet.put_sheet.Goals.{After-field_at-k, After-second_part-testing, Start}
use Rattle.sheet.proofs.sheet.put_sheet.Goals as goal

has : (c : Start) → Accepted c.args.input.now
has c = accepted c.args.input.now c.requires

sheet_length : (c : Start) → length (sheet_of c.args.input.now) ≡ 91 + 8 * width_of c.args.input.now
sheet_length c =
    let s = c.args.input.now in
    ap length (sheet_lines s c.requires) ∙ lines_length (block_size_of s) (width_of s) (training_of s) (testing_of s) (judgeable s (has c))

width_few : (c : After-field_at-k) → c.field_at-k.result ≤ 8
width_few c = omega (arith, c.field_at-k.ensures, (has (goal.at.overflow_mul-k c).Start).taken.width)

-- what was read and cut is the input's

module _ (c : After-second_part-testing) where
  abbrev s : List ℕ
  s = c.args.input.now

  block_is : c.field_at-block_size.result ≡ block_size_of s
  block_is = c.field_at-block_size.ensures

  width_is : c.field_at-k.result ≡ width_of s
  width_is = c.field_at-k.ensures

  training_is : c.first_part-training.result.now ≡ training_of s
  training_is = c.first_part-training.ensures ∙ (λ i. first_part (raw_is s i) (block_is i) true)

  testing_is : c.second_part-testing.result.now ≡ testing_of s
  testing_is = c.second_part-testing.ensures ∙ (λ i. second_part (raw_is s i) (block_is i) true)

  fits : length (sheet_of s) ≤ length c.args.out.now
  fits = omega (
    arith,
    (let sheet_length' : length (sheet_of c.args.input.now) ≡ 91 + 8 * width_of c.args.input.now = let s = c.args.input.now in
        ap length (sheet_lines s c.requires) ∙ lines_length (block_size_of s) (width_of s) (training_of s) (testing_of s) (judgeable s (let has' : Accepted c.args.input.now = accepted c.args.input.now c.requires in has')) in sheet_length'),
    width_is,
    c.if-out-k.false,
  )

pub field_at-block_size-requires : goal.field_at-block_size-requires
field_at-block_size-requires c = omega (arith, (has (goal.at.field_at-block_size-requires c).Start).taken.long)

pub field_at-k-requires : goal.field_at-k-requires
field_at-k-requires c = omega (arith, (has (goal.at.field_at-k-requires c).Start).taken.long)

pub overflow_mul-k : goal.overflow_mul-k
overflow_mul-k c = omega (arith, width_few c)

pub overflow_add-k : goal.overflow_add-k
overflow_add-k c = omega (arith, width_few c)

pub returns-then-out-k : goal.returns-then-out-k
returns-then-out-k c =
    let s = c.args.input.now in
    let long : length c.args.out.now < length (sheet_of s) = omega (arith, sheet_length (goal.at.returns-then-out-k c).Start, c.field_at-k.ensures) in
    unprinted (sheet_of s) c.args.out.now long

pub slice_bounds-raw-count : goal.slice_bounds-raw-count
slice_bounds-raw-count c = omega (arith, (has (goal.at.slice_bounds-raw-count c).Start).taken.long)

pub slice_bounds-raw-start : goal.slice_bounds-raw-start
slice_bounds-raw-start c = let h = (has (goal.at.slice_bounds-raw-start c).Start).taken.long in omega arith

pub put_judged-requires : goal.put_judged-requires
put_judged-requires c =
    let j = judgeable (s (goal.at.put_judged-requires c).After-second_part-testing) (has (goal.at.put_judged-requires c).Start) in
    record {
      judgeable = judgeable_as (block_is (goal.at.put_judged-requires c).After-second_part-testing) (width_is (goal.at.put_judged-requires c).After-second_part-testing) (training_is (goal.at.put_judged-requires c).After-second_part-testing) (testing_is (goal.at.put_judged-requires c).After-second_part-testing) j;
      k_in_bounds = c.if-out-k.false;
    }

pub returns : goal.returns
returns c =
    let p = c.put_judged in
    let o = c.args.out.now in
    let same : lines_of c.field_at-block_size.result c.field_at-k.result c.first_part-training.result.now c.second_part-testing.result.now
    ≡ sheet_of (s (goal.at.returns c).After-second_part-testing) = (λ i. lines_of (block_is (goal.at.returns c).After-second_part-testing i) (width_is (goal.at.returns c).After-second_part-testing i) (training_is (goal.at.returns c).After-second_part-testing i) (testing_is (goal.at.returns c).After-second_part-testing i)) ∙ sym (sheet_lines (s (goal.at.returns c).After-second_part-testing) c.requires) in
    rw (p.ensures.value ∙ ap length same, p.ensures.out_after ∙ ap (put o 0) same) (printed (sheet_of (s (goal.at.returns c).After-second_part-testing)) o (fits (goal.at.returns c).After-second_part-testing))
