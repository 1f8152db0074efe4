-- The blocks of a stretch are those of a recording that holds its bytes alone (theorem `stretches_alone`).
use mathlib.Core.Path.{◌≡◌, sym, ap, ◌∙◌}
use mathlib.Core.List.{List}
use Prim.Native.Nat.{ℕ, suc, ◌+◌, ◌-◌, ◌*◌, ◌/◌, ◌%◌, ◌≤◌, ◌<◌}
use native.Mathlib.Omega.{arith}
use native.Mathlib.Nat.{add-mul, mul-le-mul_right, div-mul-le_self, mul-div_cancel}
use lib.ListN.{length, get_or, take, drop, length-take, length-drop}
use lib.Seq.{get_or-take, get_or-drop}
use Rattle.counting.specs.Block.{bit_at, place_in, block_bit}
use Rattle.counting.specs.Recording.{recorded_bit}
use Rattle.counting.specs.Stretch.{stretch_bytes, StretchesAlone}
use Rattle.counting.proofs.Accepted.{valid_facts}

-- a byte of a block of w bytes
byte_of : (w : ℕ) (held : List ℕ) (e i : ℕ) → i < w → get_or (take w (drop (e * w) held)) i 0 ≡ get_or held (e * w + i) 0
byte_of w held e i h = get_or-take w (drop (e * w) held) i 0 h ∙ get_or-drop (e * w) held i 0

-- .. of a block of the stretch
byte_alone : (w : ℕ) (held : List ℕ) (first n e i : ℕ) → e < n → i < w → get_or (take (n * w) (drop (first * w) held)) (e * w + i) 0 ≡ get_or held ((first + e) * w + i) 0
byte_alone w held first n e i he hi =
    let next : suc e ≤ n = he in
    let room : e * w + i < n * w = omega (arith, mul-le-mul_right w next, add-mul 1 e w) in
    let far : first * w + (e * w + i) ≡ (first + e) * w + i = omega (arith, add-mul first e w) in
    get_or-take (n * w) (drop (first * w) held) (e * w + i) 0 room ∙ get_or-drop (first * w) held (e * w + i) 0 ∙ ap (λ (k : ℕ). get_or held k 0) far

pub stretches_alone : StretchesAlone
unfolding recorded_bit block_bit
stretches_alone B low held first end ok order has =
    let v = valid_facts B ok in
    let w = B / 8 in
    let n = end - first in
    let some : 0 < w = omega (arith, v) in
    let sum : first * w + n * w ≡ end * w = let e : first + n ≡ end = omega arith in sym (add-mul first n w) ∙ ap (λ (k : ℕ). k * w) e in
    let ends : end * w ≤ length held = omega (arith, mul-le-mul_right w has, div-mul-le_self (length held) w) in
    let size : length (stretch_bytes B held first end) ≡ n * w = simp (length-take, length-drop) (omega arith) in
    record {
      blocks = ap (λ (k : ℕ). k / w) size ∙ mul-div_cancel n some;
      bits = λ e b he hb.
          let within : b / 8 < w = omega (arith, v) in
          ap (λ (x : ℕ). bit_at x (place_in low (b % 8)))
          (byte_of w held (first + e) (b / 8) within
          ∙ sym (byte_of w (stretch_bytes B held first end) e (b / 8) within ∙ byte_alone w held first n e (b / 8) he within));
    }
