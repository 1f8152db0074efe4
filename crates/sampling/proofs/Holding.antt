-- The bits of a recording that holds some bytes, in every lane of the rows, and what more bytes add to them.
use mathlib.Core.Path.{◌≡◌, refl, sym, ap, ◌∙◌}
use mathlib.Core.Bool.{Bool, true, false}
use mathlib.Core.List.{List, ◌++◌}
use Prim.Native.Nat.{ℕ, ◌+◌, ◌-◌, ◌*◌, ◌/◌, ◌%◌, ◌≤◌, ◌<◌, max}
use native.Mathlib.Omega.{arith}
use native.Mathlib.Decide.{dec_lt}
use lib.Dec.{leb}
use lib.ListN.{length, get_or, drop, replicate, length-replicate, get_or-replicate, get_or-append, get_or-eq_default}
use lib.Seq.{get_or-take, get_or-drop, get_or-append-add}
use borrow.Author.Tests.{le-leb, lt-leb}
use Rattle.counting.specs.Block.{bit_at, place_in, block_bit}
use Rattle.counting.specs.Recording.{block_bytes, recorded_bit}
use Rattle.counting.proofs.Accepted.{Valid}
use Rattle.counting.proofs.Lanes.{bit_zero}
use Rattle.sampling.specs.Putting.{arriving_bit}

-- bit b of block e of the bytes held, 0 past them
unfoldable pub held_bit : Bool → ℕ → List ℕ → ℕ → ℕ → ℕ
held_bit low size held e b = bit_at (get_or held (e * size + b / 8) 0) (place_in low (b % 8))

pub held_is : (low : Bool) (size : ℕ) (held : List ℕ) (e b : ℕ) → held_bit low size held e b ≡ bit_at (get_or held (e * size + b / 8) 0) (place_in low (b % 8))
unfolding held_bit
held_is low size held e b = refl

-- what arrives is the part of the longer recording that the shorter has not
pub held_more : (low : Bool) (size : ℕ) (held piece : List ℕ) (e b : ℕ)
    → held_bit low size (held ++ piece) e b ≡ max (held_bit low size held e b) (arriving_bit low size (length held) piece e b)
unfolding held_bit arriving_bit
held_more low size held piece e b = by_order (dec_lt (e * size + b / 8) (length held))
  where
    byte : ℕ
    byte = e * size + b / 8

    by_order : Dec (byte < length held) → held_bit low size (held ++ piece) e b ≡ max (held_bit low size held e b) (arriving_bit low size (length held) piece e b)
    by_order (yes below) =
        let early : leb (length held) byte ≡ false = lt-leb (length held) byte below in
        let same : get_or (held ++ piece) byte 0 ≡ get_or held byte 0 = get_or-append held piece 0 byte below in
        rw (early, same) (omega arith)
    by_order (no above) =
        let past : length held ≤ byte = omega arith in
        let late : leb (length held) byte ≡ true = le-leb (length held) byte past in
        let none : get_or held byte 0 ≡ 0 = get_or-eq_default held 0 past in
        let is : byte ≡ length held + (byte - length held) = omega arith in
        let new : get_or (held ++ piece) byte 0 ≡ get_or piece (byte - length held) 0 =
        ap (λ (m : ℕ). get_or (held ++ piece) m 0) is ∙ get_or-append-add held piece (byte - length held) 0 in
        rw (late, new, none) (omega (arith, bit_zero (place_in low (b % 8))))

-- past the bytes there is no bit
pub held_past : (low : Bool) (size : ℕ) (held : List ℕ) (e b : ℕ) → length held ≤ e * size + b / 8 → held_bit low size held e b ≡ 0
held_past low size held e b past =
    held_is low size held e b ∙ ap (λ (x : ℕ). bit_at x (place_in low (b % 8))) (get_or-eq_default held 0 past) ∙ bit_zero (place_in low (b % 8))

-- within a block it is the recording's
pub held_recorded : (B : ℕ) (low : Bool) (held : List ℕ) (e b : ℕ) → Valid B → b < B → held_bit low (block_bytes B) held e b ≡ recorded_bit B low held e b
unfolding recorded_bit block_bit held_bit
held_recorded B low held e b v lb =
    let within : b / 8 < B / 8 = omega (arith, v) in
    ap (λ (x : ℕ). bit_at x (place_in low (b % 8))) (sym (get_or-take (B / 8) (drop (e * (B / 8)) held) (b / 8) 0 within ∙ get_or-drop (e * (B / 8)) held (b / 8) 0))

-- a word that was cleared, or none, has no bit
pub cleared_bit : (n p j : ℕ) → bit_at (get_or (replicate n 0) p 0) j ≡ 0
cleared_bit n p j = ap (λ (w : ℕ). bit_at w j) (by_place (dec_lt p n)) ∙ bit_zero j
  where
    by_place : Dec (p < n) → ◌≡◌ {A = ℕ} (get_or (replicate n 0) p 0) 0
    by_place (yes below) = get_or-replicate n p 0 0 below
    by_place (no above) =
        let past : length (replicate {A = ℕ} n 0) ≤ p = rw length-replicate (omega arith) in
        get_or-eq_default (replicate n 0) 0 past
