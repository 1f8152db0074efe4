-- What an input that is not refused has: halves that can be searched and judged, and three lines.
use mathlib.Core.Path.{◌≡◌, refl, sym, ap, ◌∙◌}
use mathlib.Core.Bool.{true, false}
use mathlib.Core.List.{List, [], ◌∷◌}
use mathlib.Core.Logic.{◌⊎◌, inl, inr}
use Prim.Native.Nat.{ℕ, zero, suc, ◌+◌, ◌-◌, ◌*◌, ◌/◌, ◌^◌, ◌≤◌, ◌<◌}
use native.Mathlib.Nat.{mul-le-mul_right, mul-div_cancel, pow-le-pow_right, div-le_self}
use native.Mathlib.Omega.{arith}
use lib.Ieee.{to_bits, binary64}
use lib.ListN.{length, take}
use Rattle.counting.specs.Recording.{block_bytes, blocks_in}
use Rattle.counting.proofs.Accepted.{passed, valid_facts}
use Rattle.subsets.specs.Bits.{valid_width}
use Rattle.subsets.proofs.Refusing.{width_bounds}
use Rattle.searching.proofs.Refusing.{neither}
use Rattle.judging.specs.Split.{split_refusal, second_part}
use Rattle.judging.specs.Evaluation.{positive_in, z_in, evaluated_of}
use Rattle.judging.specs.Training.{chosen_of, trained_of, trained_order, Trainable}
use Rattle.judging.specs.declared.evaluation.Score.TheVariants.{Z}
use Rattle.judging.proofs.Splitting.{splits, blocks_end, size_valid, first_length, second_length}
use Rattle.judging.proofs.Unrefused.{chosen_subset, bits_are, finding_evaluated}
use Rattle.sheet.specs.Columns.{line}
use Rattle.sheet.specs.Header.{block_size_of, width_of, raw_of, input_refusal}
use Rattle.sheet.specs.Lines.{three_lines}
use Rattle.sheet.specs.Judgement.{judged_of, lines_of, Judgeable}
use Rattle.sheet.specs.Refusal.{sheet_refusal}
use Rattle.sheet.specs.Sheet.{training_of, testing_of, sheet_with, sheet_of, SheetsFit}
use Rattle.sheet.specs.declared.judgement.Judged.{Judged}
use Rattle.sheet.proofs.Reading.{Taken, taken}
use Rattle.sheet.proofs.Writing.{length_line, length_lines}
use Rattle.sheet.proofs.Fitting.{training_fits}

-- ---- the halves

module _ (raw : List ℕ) (B : ℕ) (ok : split_refusal raw B ≡ 0) where
  abbrev m : ℕ
  m = blocks_in B raw

  abbrev w : ℕ
  w = block_bytes B

  half : 2 * (m / 2 * w) ≤ m * w
  half = let h : 2 * (m / 2) ≤ m = omega arith in omega (arith, mul-le-mul_right w h)

  second_blocks : 1 ≤ blocks_in B (second_part raw B true)
  second_blocks =
      let v = splits raw B ok in
      let pos : 0 < w = omega arith in
      rw (second_length raw B ok, mul-div_cancel (m - m / 2) pos) (omega arith)

  second_few : length (second_part raw B true) ≤ m * w
  second_few = let h : m - m / 2 ≤ m = omega arith in omega (arith, second_length raw B ok, mul-le-mul_right w h)

-- ---- an input that is not refused

pub record Accepted (s : List ℕ) : Type 0 where
  pub taken : Taken s
  pub split : split_refusal (raw_of s) (block_size_of s) ≡ 0
  pub some : 1 ≤ width_of s

pub accepted : (s : List ℕ) → sheet_refusal s ≡ 0 → Accepted s
unfolding sheet_refusal
accepted s e =
    let p = neither (input_refusal s) _ e in
    let q = neither (split_refusal (raw_of s) (block_size_of s)) _ p.1 in
    let pos : 0 < 2 = omega arith in
    let r = passed (valid_width (width_of s)) 0 2 pos q.1 in
    record { taken = taken s p.0; split = q.0; some = (width_bounds (width_of s) r.0).0 }

pub judgeable : (s : List ℕ) → Accepted s → Judgeable (block_size_of s) (width_of s) (training_of s) (testing_of s)
judgeable s a =
    let raw = raw_of s in
    let B = block_size_of s in
    let ok = a.split in
    let ok-size = size_valid raw B ok in
    let two : 0 < 2 = omega arith in
    let room : 2 ^ width_of s ≤ 2 ^ 8 = pow-le-pow_right two a.taken.width in
    let bins : 2 ^ width_of s ≤ 256 = omega arith in
    let few : length (training_of s) ≤ 4096 = omega (arith, first_length raw B ok, half raw B ok, blocks_end raw B, a.taken.raw) in
    record {
      trainable = record {
        valid = ok-size;
        some = a.some;
        width = omega (arith, a.taken.width);
        chosen = omega (arith, a.taken.width, (valid_facts B ok-size).low);
        held = training_fits B (length (training_of s)) ok-size a.taken.block few;
        room = (bins, bins);
      };
      some = second_blocks raw B ok;
      few = omega (arith, second_few raw B ok, blocks_end raw B, a.taken.raw);
    }

-- the same of what equals B, k and the halves
pub judgeable_as : {B B' k k' : ℕ} {training training' testing testing' : List ℕ} → B ≡ B' → k ≡ k' → training ≡ training' → testing ≡ testing'
    → Judgeable B' k' training' testing' → Judgeable B k training testing
judgeable_as p q r u j = rw (p, q, r, u) j

-- ---- its lines

module _ (B k : ℕ) (training testing : List ℕ) (g : Judgeable B k training testing) where
  abbrev t : Trainable B k (length training) 576 256 256
  t = g.trainable

  pub lines_are : (j : Judged) → j ≡ judged_of B k training testing → (bits : List ℕ) → bits ≡ j.finding.bits
      → (p q : ℕ) → p ≡ to_bits binary64 j.finding.z → q ≡ to_bits binary64 j.z
      → three_lines (B ∷ k ∷ blocks_in B training ∷ blocks_in B testing ∷ j.finding.division ∷ j.positive ∷ []) (take k bits) (p ∷ q ∷ []) ≡ lines_of B k training testing
  unfolding lines_of judged_of
  lines_are j e bits b p q x y =
      let chosen : take k bits ≡ chosen_of B false k training =
      ap (take k) (b ∙ ap (λ (i : Judged). i.finding.bits) e) ∙ bits_are B false k training t.valid t.some t.width t.chosen in
      let left : p ≡ to_bits binary64 (judged_of B k training testing).finding.z = x ∙ ap (λ (i : Judged). to_bits binary64 i.finding.z) e in
      let right : q ≡ to_bits binary64 (judged_of B k training testing).z = y ∙ ap (λ (i : Judged). to_bits binary64 i.z) e in
      λ i. three_lines (B ∷ k ∷ blocks_in B training ∷ blocks_in B testing ∷ (e i).finding.division ∷ (e i).positive ∷ []) (chosen i) (left i ∷ right i ∷ [])

  pub lines_length : length (lines_of B k training testing) ≡ 91 + 8 * k
  unfolding lines_of
  lines_length =
      length_lines _ (chosen_of B false k training) _ refl refl
      ∙ ap (λ (n : ℕ). 91 + 8 * n) (chosen_subset B false k training t.valid t.some t.width t.chosen).size

pub judged_evaluated : (B k : ℕ) (training testing : List ℕ) → Judgeable B k training testing
    → let f = trained_of B false k training in
    let order = trained_order B false k training in
    evaluated_of f order testing 256 ≡ record { refusal = 0; positive = positive_in f order testing; score = Z (z_in f order testing) }
judged_evaluated B k training testing g =
    let t = g.trainable in
    let few : blocks_in B testing ≤ 16777216 = omega (arith, div-le_self (length testing) (B / 8), g.few) in
    finding_evaluated B false k training testing 256 t.valid t.some t.width t.chosen g.some few t.room.0

-- ---- the sheet

pub sheet_lines : (s : List ℕ) → sheet_refusal s ≡ 0 → sheet_of s ≡ lines_of (block_size_of s) (width_of s) (training_of s) (testing_of s)
unfolding sheet_of
sheet_lines s e = ap (λ (r : ℕ). sheet_with r s) e

pub sheet_refused : (s : List ℕ) (r : ℕ) → r ≡ sheet_refusal s → (r ≡ 0 → ⊥) → sheet_of s ≡ line 8 (r ∷ [])
unfolding sheet_of
sheet_refused s zero e h = absurd (h refl)
sheet_refused s (suc r) e h = ap (λ (q : ℕ). sheet_with q s) (sym e)

-- a refusal's line, or the three lines
sheet_length : (s : List ℕ) → (length (sheet_of s) ≡ 9) ⊎ ((length (sheet_of s) ≡ 91 + 8 * width_of s) × (width_of s ≤ 8))
sheet_length s = by_refusal (sheet_refusal s) refl
  where
    by_refusal : (r : ℕ) → sheet_refusal s ≡ r → (length (sheet_of s) ≡ 9) ⊎ ((length (sheet_of s) ≡ 91 + 8 * width_of s) × (width_of s ≤ 8))
    by_refusal zero e =
        let a = accepted s e in
        inr (ap length (sheet_lines s e) ∙ lines_length (block_size_of s) (width_of s) (training_of s) (testing_of s) (judgeable s a), a.taken.width)
    by_refusal (suc r) e =
        let some : suc r ≡ 0 → ⊥ = λ z. omega arith in
        inl (ap length (sheet_refused s (suc r) (sym e) some) ∙ length_line 8 (suc r ∷ []))

pub sheets_fit : SheetsFit
sheets_fit s = elim (sheet_length s) [ inl n ↦ (omega arith, omega arith) | inr (n, few) ↦ (omega arith, omega arith) ]
