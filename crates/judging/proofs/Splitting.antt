-- What a split that is not refused has, and that its parts are the whole blocks.
use mathlib.Core.Path.{◌≡◌, refl, ap, sym, ◌∙◌}
use mathlib.Core.Bool.{Bool, true, false, cond, false≢true}
use mathlib.Core.List.{List}
use Prim.Native.Nat.{ℕ, ◌+◌, ◌-◌, ◌*◌, ◌/◌, ◌≤◌}
use native.Mathlib.Nat.{div-mul-le_self, mul-le-mul_right, add-mul}
use native.Mathlib.Omega.{arith}
use lib.Dec.{leb}
use lib.ListN.{length, take, drop, length-take, length-drop}
use lib.Seq.{take-add, length-take-le}
use borrow.Author.Tests.{leb-true, le-leb, eq-eqb}
use Rattle.std.specs.Prelude.{Result, Ok, Err}
use Rattle.std.specs.Result.{is_err}
use Rattle.counting.specs.Block.{valid_size}
use Rattle.counting.specs.Refusal.{refusal_of}
use Rattle.counting.specs.declared.refusal.Refusal.{Refusal}
use Rattle.counting.proofs.Reasons.{some_number}
use Rattle.counting.specs.Recording.{block_bytes, blocks_in}
use Rattle.counting.proofs.Accepted.{Valid, valid_facts}
use Rattle.judging.specs.Split.{split_refusal, first_blocks, first_part, second_part, Parts, BlocksOfSixteen}

-- what the answer's test says of its number

pub no_refusal : {A : Type 0} (r : Result A Refusal) (n : ℕ) → refusal_of r ≡ n → is_err r ≡ false → n ≡ 0
no_refusal (Ok x) n e t = sym e
no_refusal (Err r) n e t = absurd (false≢true (sym t))

pub some_refusal : {A : Type 0} (r : Result A Refusal) (n : ℕ) → refusal_of r ≡ n → is_err r ≡ true → n ≡ 0 → ⊥
some_refusal (Ok x) n e t z = absurd (false≢true t)
some_refusal (Err r) n e t z = some_number r (e ∙ z)

neither : (a b : Bool) → ◌≡◌ {A = ℕ} (cond a (cond b 0 8) 1) 0 → (a ≡ true) × (b ≡ true)
neither true true h = (refl, refl)
neither true false h = absurd (omega arith)
neither false b h = absurd (omega arith)

-- a valid block size and two blocks
pub record Splits (raw : List ℕ) (B : ℕ) : Type 0 where
  pub valid : Valid B
  pub two : 2 ≤ blocks_in B raw

pub splits : (raw : List ℕ) (B : ℕ) → split_refusal raw B ≡ 0 → Splits raw B
unfolding split_refusal
splits raw B h =
    let p = neither (valid_size B) (leb 2 (blocks_in B raw)) h in
    record { valid = valid_facts B p.0; two = leb-true _ _ p.1 }

pub first_within : (m : ℕ) (training : Bool) → first_blocks m training ≤ m
unfolding first_blocks
first_within m true = omega arith
first_within m false = omega arith

-- the first part ends within the whole blocks, and these within the raw bytes
pub first_ends : (m : ℕ) (training : Bool) (w : ℕ) → first_blocks m training * w ≤ m * w
first_ends m training w = mul-le-mul_right w (first_within m training)

pub blocks_end : (raw : List ℕ) (B : ℕ) → blocks_in B raw * block_bytes B ≤ length raw
blocks_end raw B = div-mul-le_self (length raw) (block_bytes B)

-- the bytes past the first part are those of the other blocks
pub rest_bytes : (m f w : ℕ) → f ≤ m → m * w - f * w ≡ (m - f) * w
rest_bytes m f w h =
    let e : m ≡ (m - f) + f = omega arith in
    let d : m * w ≡ (m - f) * w + f * w = ap (λ (n : ℕ). n * w) e ∙ add-mul (m - f) f w in
    omega arith

pub parts : Parts
unfolding Parts first_part second_part
parts raw B training h =
    let m = blocks_in B raw in
    let f = first_blocks m training in
    let w = block_bytes B in
    let e : f * w + (m - f) * w ≡ m * w = omega (arith, rest_bytes m f w (first_within m training), first_ends m training w) in
    simp h (sym (take-add (f * w) ((m - f) * w) raw) ∙ ap (λ (n : ℕ). take n raw) e)

-- ---- the halves of a split that is not refused

pub split_free : (raw : List ℕ) (B : ℕ) → valid_size B ≡ true → 2 ≤ blocks_in B raw → split_refusal raw B ≡ 0
unfolding split_refusal
split_free raw B valid two = simp (valid, le-leb 2 (blocks_in B raw) two)

module _ (raw : List ℕ) (B : ℕ) (ok : split_refusal raw B ≡ 0) where
  abbrev m : ℕ
  m = blocks_in B raw

  abbrev w : ℕ
  w = block_bytes B

  pub size_valid : valid_size B ≡ true
  unfolding split_refusal
  size_valid = (neither (valid_size B) (leb 2 m) ok).0

  pub first_length : length (first_part raw B true) ≤ m / 2 * w
  unfolding first_part first_blocks
  first_length = simp (eq-eqb _ _ ok) (omega (arith, length-take (m / 2 * w) raw))

  pub second_length : length (second_part raw B true) ≡ (m - m / 2) * w
  unfolding second_part first_blocks
  second_length =
      let h : m / 2 ≤ m = omega arith in
      let fits : (m - m / 2) * w ≤ length (drop (m / 2 * w) raw) =
      omega (arith, length-drop (m / 2 * w) raw, rest_bytes m (m / 2) w h, blocks_end raw B) in
      simp (eq-eqb _ _ ok) (length-take-le ((m - m / 2) * w) (drop (m / 2 * w) raw) fits)

pub blocks_of_sixteen : BlocksOfSixteen
unfolding valid_size split_refusal first_blocks first_part second_part
blocks_of_sixteen = record {
  refused = λ a b c. refl;
  accepted = λ a b c d e f g. refl;
  training = λ a b c d e f g. refl;
  testing = λ a b c d e f g. refl;
}
