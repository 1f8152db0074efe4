-- Bits of a block that are cleared: these have none then, and every other bit stays (`stored_cleared`, `stored_kept`).
use mathlib.Core.Path.{◌≡◌, refl, sym, ap, ◌∙◌}
use mathlib.Core.List.{List}
use Prim.Native.Nat.{ℕ, zero, suc, ◌+◌, ◌*◌, ◌/◌, ◌%◌, ◌^◌, ◌<◌}
use native.Mathlib.Omega.{arith}
use native.Mathlib.Decide.{ℕ_discrete}
use native.Mathlib.Nat.{suc-mul}
use lib.Arith.{digits_div, digits_mod}
use lib.Bits.{differ}
use lib.ListN.{length, get_or, length-set}
use lib.Seq.{get_or-set_same, get_or-set_other}
use Rattle.counting.specs.Block.{bit_at}
use Rattle.counting.specs.Words.{stored_bit}
use Rattle.counting.proofs.Lanes.{bit_lt, bit_of_xor, moved_at, moved_off}
use Rattle.sampling.specs.Carrying.{BlockIn, clear_bit, clear_bits}

differ_self : (x : ℕ) → x < 2 → differ x x ≡ 0
differ_self zero h = refl
differ_self (suc zero) h = refl
differ_self (suc (suc x)) h = absurd (omega arith)

differ_none : (x : ℕ) → x < 2 → differ x 0 ≡ x
differ_none zero h = refl
differ_none (suc zero) h = refl
differ_none (suc (suc x)) h = absurd (omega arith)

module _ (ws : List ℕ) (i k : ℕ) (inside : i < length ws) where
  clear_at : bit_at (get_or (clear_bit ws i k) i 0) k ≡ 0
  unfolding clear_bit
  clear_at =
      let w = get_or ws i 0 in
      ap (λ (x : ℕ). bit_at x k) (get_or-set_same ws i _ 0 inside) ∙ bit_of_xor w (bit_at w k * 2 ^ k) k
      ∙ ap (differ (bit_at w k)) (moved_at (bit_at w k) k (bit_lt w k)) ∙ differ_self (bit_at w k) (bit_lt w k)

  clear_off : (p j : ℕ) → (p ≡ i → j ≡ k → ⊥) → bit_at (get_or (clear_bit ws i k) p 0) j ≡ bit_at (get_or ws p 0) j
  unfolding clear_bit
  clear_off p j other = by_word (ℕ_discrete p i)
    where
      same_word : (j ≡ k → ⊥) → bit_at (get_or (clear_bit ws i k) i 0) j ≡ bit_at (get_or ws i 0) j
      same_word off =
          let w = get_or ws i 0 in
          ap (λ (x : ℕ). bit_at x j) (get_or-set_same ws i _ 0 inside) ∙ bit_of_xor w (bit_at w k * 2 ^ k) j
          ∙ ap (differ (bit_at w j)) (moved_off (bit_at w k) k j (bit_lt w k) off) ∙ differ_none (bit_at w j) (bit_lt w j)

      by_word : Dec (p ≡ i) → bit_at (get_or (clear_bit ws i k) p 0) j ≡ bit_at (get_or ws p 0) j
      by_word (yes e) = rw e (same_word (other e))
      by_word (no ne) = ap (λ (w : ℕ). bit_at w j) (get_or-set_other ws i p _ 0 ne)

pub length_clears : (S : ℕ) (ws : List ℕ) (e m : ℕ) → length (clear_bits S ws e m) ≡ length ws
unfolding clear_bits clear_bit
length_clears S ws e zero = refl
length_clears S ws e (suc m) = length-set (clear_bits S ws e m) _ _ ∙ length_clears S ws e m

-- the first m bits of block n
module _ (S : ℕ) (ws : List ℕ) (n : ℕ) where
  -- the word of its bit m
  word_in : (m : ℕ) → BlockIn S (length ws) n (suc m) → m * S + n / 64 < length (clear_bits S ws n m)
  word_in m (room, lane) =
      let far = rw suc-mul at room in
      rw length_clears (omega (arith, lane (omega arith)))

  fewer : (m : ℕ) → BlockIn S (length ws) n (suc m) → BlockIn S (length ws) n m
  fewer m (room, lane) = let far = rw suc-mul at room in (omega arith, λ h. lane (omega arith))

  pub stored_kept : (m : ℕ) → BlockIn S (length ws) n m → (e b : ℕ) → e < 64 * S → (e ≡ n → b < m → ⊥) → stored_bit S (clear_bits S ws n m) e b ≡ stored_bit S ws e b
  unfolding clear_bits stored_bit
  stored_kept zero inside e b le other = refl
  stored_kept (suc m) inside e b le other =
      clear_off (clear_bits S ws n m) (m * S + n / 64) (n % 64) (word_in m inside) (b * S + e / 64) (e % 64) clash
      ∙ stored_kept m (fewer m inside) e b le (λ f g. other f (omega arith))
    where
      clash : b * S + e / 64 ≡ m * S + n / 64 → e % 64 ≡ n % 64 → ⊥
      clash word bit =
          let here : e / 64 < S = omega arith in
          let there : n / 64 < S = omega (arith, inside.1 (omega arith)) in
          let b-is : b ≡ m = sym (digits_div b here) ∙ ap (λ (x : ℕ). x / S) word ∙ digits_div m there in
          let w-is : e / 64 ≡ n / 64 = sym (digits_mod b here) ∙ ap (λ (x : ℕ). x % S) word ∙ digits_mod m there in
          other (let is : e ≡ n = omega arith in is) (omega arith)

  pub stored_cleared : (m : ℕ) → BlockIn S (length ws) n m → (b : ℕ) → b < m → stored_bit S (clear_bits S ws n m) n b ≡ 0
  unfolding clear_bits stored_bit
  stored_cleared zero inside b h = absurd (omega arith)
  stored_cleared (suc m) inside b h = by_turn (ℕ_discrete b m) (stored_cleared m (fewer m inside) b)
    where
      now : m * S + n / 64 < length (clear_bits S ws n m)
      now = word_in m inside

      by_word : Dec (b * S + n / 64 ≡ m * S + n / 64) → bit_at (get_or (clear_bits S ws n m) (b * S + n / 64) 0) (n % 64) ≡ 0
          → bit_at (get_or (clear_bit (clear_bits S ws n m) (m * S + n / 64) (n % 64)) (b * S + n / 64) 0) (n % 64) ≡ 0
      by_word (yes w) before = rw w (clear_at (clear_bits S ws n m) (m * S + n / 64) (n % 64) now)
      by_word (no w) before = clear_off (clear_bits S ws n m) (m * S + n / 64) (n % 64) now (b * S + n / 64) (n % 64) (λ z y. w z) ∙ before

      by_turn : Dec (b ≡ m) → (b < m → bit_at (get_or (clear_bits S ws n m) (b * S + n / 64) 0) (n % 64) ≡ 0)
          → bit_at (get_or (clear_bit (clear_bits S ws n m) (m * S + n / 64) (n % 64)) (b * S + n / 64) 0) (n % 64) ≡ 0
      by_turn (yes e) before = rw e (clear_at (clear_bits S ws n m) (m * S + n / 64) (n % 64) now)
      by_turn (no ne) before = by_word (ℕ_discrete (b * S + n / 64) (m * S + n / 64)) (before (omega arith))
