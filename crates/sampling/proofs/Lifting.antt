-- What the carry-over's code knows of an earlier sampler that is not refused, and the bits of a byte by their numbers.
use mathlib.Core.Path.{◌≡◌, refl}
use mathlib.Core.List.{List, [], ◌∷◌}
use Prim.Native.Nat.{ℕ, zero, suc, ◌+◌, ◌*◌, ◌≤◌, ◌<◌}
use native.Mathlib.Omega.{arith}
use native.Mathlib.Decide.{dec_lt}
use native.Mathlib.Nat.{le_trans, mul-le-mul_right, mod-lt, div-add-mod'}
use lib.ListN.{get_or}
use Rattle.counting.specs.Recording.{block_bytes, stride}
use Rattle.counting.proofs.Accepted.{Valid, valid_facts}
use Rattle.sampling.specs.Carrying.{BlockIn, whole_of, left_of}
use Rattle.sampling.specs.Earlier.{earlier_refusal}
use Rattle.sampling.specs.declared.carrying.Earlier.{Earlier}
use Rattle.sampling.proofs.Usable.{EarlierUsable, earlier_usable, room_words, room_bytes}

-- the bits of a byte
abbrev pub eight : List ℕ
eight = 0 ∷ 1 ∷ 2 ∷ 3 ∷ 4 ∷ 5 ∷ 6 ∷ 7 ∷ []

pub nth : (i : ℕ) → i < 8 → get_or eight i 0 ≡ i
nth zero h = refl
nth (suc zero) h = refl
nth (suc (suc zero)) h = refl
nth (suc (suc (suc zero))) h = refl
nth (suc (suc (suc (suc zero)))) h = refl
nth (suc (suc (suc (suc (suc zero))))) h = refl
nth (suc (suc (suc (suc (suc (suc zero)))))) h = refl
nth (suc (suc (suc (suc (suc (suc (suc zero))))))) h = refl
nth (suc (suc (suc (suc (suc (suc (suc (suc i)))))))) h = absurd (omega arith)

pub record Lifts (s : Earlier) (words : ℕ) : Type 0 where
  pub size : 8 ≤ s.block_size
  pub few : left_of s < block_bytes s.block_size
  pub at_most : block_bytes s.block_size ≤ 512
  -- where bytes are left over, their block has a lane
  pub inside : BlockIn (stride s.block_size words) words (whole_of s) (8 * left_of s)

module _ (s : Earlier) (words : ℕ) (free : earlier_refusal s words ≡ 0) where
  abbrev size : ℕ
  size = block_bytes s.block_size

  abbrev S : ℕ
  S = stride s.block_size words

  known : EarlierUsable s words
  known = earlier_usable s words free

  valid : Valid s.block_size
  valid = valid_facts s.block_size known.valid

  some_bytes : 0 < size
  some_bytes = omega (arith, valid)

  few : left_of s < size
  few = mod-lt s.taken some_bytes

  all : whole_of s * size + left_of s ≡ s.taken
  all = div-add-mod' s.taken size

  lane : 0 < 8 * left_of s → whole_of s < 64 * S
  lane some = by_order (dec_lt (whole_of s) (64 * S))
    where
      by_order : Dec (whole_of s < 64 * S) → whole_of s < 64 * S
      by_order (yes h) = h
      by_order (no h) =
          let far : 64 * S * size ≤ whole_of s * size = mul-le-mul_right size (let g : 64 * S ≤ whole_of s = omega arith in g) in
          absurd (omega (arith, all, known.within, room_bytes s.block_size words))

  pub lifts : Lifts s words
  lifts = record {
    size = valid.low;
    few = few;
    at_most = omega (arith, valid);
    inside = (le_trans (mul-le-mul_right S (let h : 8 * left_of s ≤ 8 * size = omega (arith, few) in h)) (room_words s.block_size words valid), lane);
  }
