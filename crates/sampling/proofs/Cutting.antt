-- Bytes cut into whole blocks and a rest: what comes behind is cut from the rest on (`whole_append`, `rest_append`), and both put together are the bytes.
use mathlib.Core.Path.{◌≡◌, refl, sym, ap, ap₂, ◌∙◌}
use mathlib.Core.List.{List, [], ◌∷◌, ◌++◌, append_assoc, append-nil}
use Prim.Native.Nat.{ℕ, ◌+◌, ◌*◌, ◌/◌, ◌%◌, ◌≤◌, ◌<◌}
use native.Mathlib.Omega.{arith}
use native.Mathlib.Nat.{add-mul, zero-mul, zero-div, div-mul-le_self, lt-div-mul-add, mul-add-div_right, mul-div_cancel, mod-eq-sub-div-mul}
use lib.ListN.{length, take, drop, length-append, length-drop, take-append-drop}
use lib.Seq.{take-append-le, drop-append-le, take-append-add, drop-append-add, drop-drop, take-add, drop-nil, length-take-le}
use Rattle.counting.specs.Recording.{block_bytes, blocks_in}
use Rattle.sampling.specs.Cut.{whole, rest, joined}

pub joined_append : (s t : List (List ℕ)) → joined (s ++ t) ≡ joined s ++ joined t
unfolding joined
joined_append [] t = refl
joined_append (p ∷ s) t = ap (λ (l : List ℕ). p ++ l) (joined_append s t) ∙ sym (append_assoc p (joined s) (joined t))

pub joined_one : (p : List ℕ) → joined (p ∷ []) ≡ p
unfolding joined
joined_one p = append-nil p

-- ---- by their text

pub whole_is : (B : ℕ) (x : List ℕ) → whole B x ≡ take (blocks_in B x * block_bytes B) x
unfolding whole
whole_is B x = refl

pub rest_is : (B : ℕ) (x : List ℕ) → rest B x ≡ drop (blocks_in B x * block_bytes B) x
unfolding rest
rest_is B x = refl

pub whole_rest : (B : ℕ) (x : List ℕ) → whole B x ++ rest B x ≡ x
unfolding whole rest
whole_rest B x = take-append-drop (blocks_in B x * block_bytes B) x

pub length_whole : (B : ℕ) (x : List ℕ) → length (whole B x) ≡ blocks_in B x * block_bytes B
unfolding whole
length_whole B x = length-take-le (blocks_in B x * block_bytes B) x (div-mul-le_self (length x) (block_bytes B))

pub length_rest : (B : ℕ) (x : List ℕ) → length (rest B x) ≡ length x % block_bytes B
unfolding rest
length_rest B x = length-drop (blocks_in B x * block_bytes B) x ∙ sym (mod-eq-sub-div-mul (length x) (block_bytes B))

-- of nothing there is neither
pub whole_none : (B : ℕ) → whole B [] ≡ []
unfolding whole
whole_none B = ap (λ (k : ℕ). take k []) (ap (λ (k : ℕ). k * block_bytes B) (zero-div (block_bytes B)) ∙ zero-mul (block_bytes B))

pub rest_none : (B : ℕ) → rest B [] ≡ []
unfolding rest
rest_none B = drop-nil (blocks_in B [] * block_bytes B)

module _ (B : ℕ) (pos : 0 < block_bytes B) where
  abbrev size : ℕ
  size = block_bytes B

  pub rest_short : (x : List ℕ) → length (rest B x) < size
  unfolding rest
  rest_short x = rw length-drop (omega (arith, lt-div-mul-add {a = length x} {b = size} pos))

  pub blocks_whole : (x : List ℕ) → blocks_in B (whole B x) ≡ blocks_in B x
  blocks_whole x = ap (λ (k : ℕ). k / size) (length_whole B x) ∙ mul-div_cancel (blocks_in B x) pos

  pub blocks_append : (x y : List ℕ) → blocks_in B (x ++ y) ≡ blocks_in B x + blocks_in B (rest B x ++ y)
  unfolding rest
  blocks_append x y =
      let n = length x / size in
      let sum : length (x ++ y) ≡ n * size + length (drop (n * size) x ++ y) =
      simp (length-append, length-drop) (omega (arith, div-mul-le_self (length x) size)) in
      ap (λ (l : ℕ). l / size) sum ∙ mul-add-div_right pos n (length (drop (n * size) x ++ y))

  -- behind whole blocks the blocks are those of what follows
  pub blocks_behind : (x y : List ℕ) → length x ≡ blocks_in B x * size → blocks_in B (x ++ y) ≡ blocks_in B x + blocks_in B y
  blocks_behind x y full =
      let sum : length (x ++ y) ≡ blocks_in B x * size + length y = length-append x y ∙ ap (λ (k : ℕ). k + length y) full in
      ap (λ (l : ℕ). l / size) sum ∙ mul-add-div_right pos (blocks_in B x) (length y)

  past_whole : (x y : List ℕ) → drop (blocks_in B x * size) (x ++ y) ≡ rest B x ++ y
  unfolding rest
  past_whole x y = drop-append-le (blocks_in B x * size) x y (div-mul-le_self (length x) size)

  both_blocks : (x y : List ℕ) → blocks_in B (x ++ y) * size ≡ blocks_in B x * size + blocks_in B (rest B x ++ y) * size
  both_blocks x y = ap (λ (k : ℕ). k * size) (blocks_append x y) ∙ add-mul (blocks_in B x) (blocks_in B (rest B x ++ y)) size

  -- the law of the cut
  pub whole_append : (x y : List ℕ) → whole B (x ++ y) ≡ whole B x ++ whole B (rest B x ++ y)
  whole_append x y =
      let n = blocks_in B x * size in
      let m = blocks_in B (rest B x ++ y) * size in
      whole_is B (x ++ y)
      ∙ ap (λ (k : ℕ). take k (x ++ y)) (both_blocks x y)
      ∙ take-add n m (x ++ y)
      ∙ ap₂ (λ (a b : List ℕ). a ++ b)
      (take-append-le n x y (div-mul-le_self (length x) size) ∙ sym (whole_is B x))
      (ap (take m) (past_whole x y) ∙ sym (whole_is B (rest B x ++ y)))

  pub rest_append : (x y : List ℕ) → rest B (x ++ y) ≡ rest B (rest B x ++ y)
  rest_append x y =
      let n = blocks_in B x * size in
      let m = blocks_in B (rest B x ++ y) * size in
      rest_is B (x ++ y)
      ∙ ap (λ (k : ℕ). drop k (x ++ y)) (both_blocks x y)
      ∙ sym (drop-drop m n (x ++ y))
      ∙ ap (drop m) (past_whole x y)
      ∙ sym (rest_is B (rest B x ++ y))

-- ---- a piece behind unfinished bytes, as code takes it

module _ (B : ℕ) (tail piece : List ℕ) where
  abbrev all : List ℕ
  all = tail ++ piece

  -- where no block is completed
  pub none_whole : blocks_in B all ≡ 0 → whole B all ≡ []
  none_whole e = whole_is B all ∙ ap (λ (k : ℕ). take k all) (ap (λ (k : ℕ). k * block_bytes B) e ∙ zero-mul (block_bytes B))

  pub none_rest : blocks_in B all ≡ 0 → rest B all ≡ all
  none_rest e = rest_is B all ∙ ap (λ (k : ℕ). drop k all) (ap (λ (k : ℕ). k * block_bytes B) e ∙ zero-mul (block_bytes B))

  -- where the blocks that are completed end with byte `used` of the piece
  module _ (used : ℕ) (reach : length tail + used ≡ blocks_in B all * block_bytes B) where
    pub some_whole : whole B all ≡ tail ++ take used piece
    some_whole = whole_is B all ∙ ap (λ (k : ℕ). take k all) (sym reach) ∙ take-append-add tail piece used

    pub some_rest : rest B all ≡ drop used piece
    some_rest = rest_is B all ∙ ap (λ (k : ℕ). drop k all) (sym reach) ∙ drop-append-add tail piece used

    pub used_within : used ≤ length piece
    used_within = omega (arith, div-mul-le_self (length all) (block_bytes B), length-append tail piece)
