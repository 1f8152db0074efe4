-- The boards' unfinished bytes in a sampler: each board's stand where they belong (`tail_kept`), and one board's are replaced without touching the others' (`put_kept`).
use mathlib.Core.Path.{◌≡◌, refl, sym, ap, ◌∙◌}
use mathlib.Core.Bool.{Bool, cond}
use mathlib.Core.List.{List, [], ◌∷◌, ◌++◌}
use Prim.Native.Nat.{ℕ, zero, suc, ◌+◌, ◌-◌, ◌*◌, ◌/◌, ◌%◌, ◌≤◌, ◌<◌}
use native.Mathlib.Omega.{arith}
use native.Mathlib.Decide.{dec_lt, ℕ_discrete}
use lib.ListN.{length, get_or, take, drop, set, replicate, length-append, length-drop, length-replicate, get_or-replicate, get_or-append, get_or-eq_default}
use lib.Seq.{length-take-le, get_or-take, get_or-drop, get_or-append-add, ext_get_or}
use borrow.Author.Tests.{eq-eqb, ne_eqb}
use Rattle.counting.specs.Buffer.{put}
use Rattle.counting.proofs.Buffers.{length_put}
use Rattle.counting.proofs.Counts.{length_list, get_d_list}
use Rattle.sampling.specs.Boards.{changed}
use Rattle.sampling.specs.Recorded.{kept_bytes}

-- ---- one board changed

pub changed_same {ℓ} : {A : Type ℓ} (board : ℕ) (x : A) (was : ℕ → A) (b : ℕ) → b ≡ board → changed board x was b ≡ x
unfolding changed
changed_same board x was b e = ap (λ (t : Bool). cond t x (was b)) (eq-eqb b board e)

pub changed_other {ℓ} : {A : Type ℓ} (board : ℕ) (x : A) (was : ℕ → A) (b : ℕ) → (b ≡ board → ⊥) → changed board x was b ≡ was b
unfolding changed
changed_other board x was b ne = ap (λ (t : Bool). cond t x (was b)) (ne_eqb b board ne)

-- ---- the numbers of unfinished bytes

abbrev pub lengths_of : (ℕ → List ℕ) → List ℕ
lengths_of tail = length (tail 0) ∷ length (tail 1) ∷ length (tail 2) ∷ length (tail 3) ∷ []

pub length_on : (tail : ℕ → List ℕ) (board : ℕ) → board < 4 → get_or (lengths_of tail) board 0 ≡ length (tail board)
length_on tail zero h = refl
length_on tail (suc zero) h = refl
length_on tail (suc (suc zero)) h = refl
length_on tail (suc (suc (suc zero))) h = refl
length_on tail (suc (suc (suc (suc board)))) h = absurd (omega arith)

pub length_set_on : (tail : ℕ → List ℕ) (board : ℕ) (x : List ℕ) → board < 4 → set (lengths_of tail) board (length x) ≡ lengths_of (changed board x tail)
unfolding changed
length_set_on tail zero x h = refl
length_set_on tail (suc zero) x h = refl
length_set_on tail (suc (suc zero)) x h = refl
length_set_on tail (suc (suc (suc zero))) x h = refl
length_set_on tail (suc (suc (suc (suc board)))) x h = absurd (omega arith)

-- ---- entries of a buffer after others were put into it

module _ (out : List ℕ) (at : ℕ) (s : List ℕ) (inside : at ≤ length out) where
  front : length (take at out) ≡ at
  front = length-take-le at out inside

  both_long : length (take at out ++ s) ≡ at + length s
  both_long = length-append (take at out) s ∙ ap (λ (k : ℕ). k + length s) front

  put_before : (p : ℕ) → p < at → get_or (put out at s) p 0 ≡ get_or out p 0
  unfolding put
  put_before p h =
      let low : p < length (take at out ++ s) = rw both_long (omega arith) in
      let first : p < length (take at out) = rw front h in
      get_or-append (take at out ++ s) (drop (at + length s) out) 0 p low ∙ get_or-append (take at out) s 0 p first ∙ get_or-take at out p 0 h

  put_within : (i : ℕ) → i < length s → get_or (put out at s) (at + i) 0 ≡ get_or s i 0
  unfolding put
  put_within i h =
      let low : at + i < length (take at out ++ s) = rw both_long (omega arith) in
      get_or-append (take at out ++ s) (drop (at + length s) out) 0 (at + i) low
      ∙ ap (λ (k : ℕ). get_or (take at out ++ s) (k + i) 0) (sym front) ∙ get_or-append-add (take at out) s i 0

  put_past : (p : ℕ) → at + length s ≤ p → get_or (put out at s) p 0 ≡ get_or out p 0
  unfolding put
  put_past p h =
      let j = p - (at + length s) in
      let is : p ≡ length (take at out ++ s) + j = rw both_long (omega arith) in
      let back : at + length s + j ≡ p = omega arith in
      ap (λ (k : ℕ). get_or (take at out ++ s ++ drop (at + length s) out) k 0) is
      ∙ get_or-append-add (take at out ++ s) (drop (at + length s) out) j 0 ∙ get_or-drop (at + length s) out j 0 ∙ ap (λ (k : ℕ). get_or out k 0) back

-- bytes with zeros behind them have no others
padded_at : (x : List ℕ) (m i : ℕ) → get_or (x ++ replicate m 0) i 0 ≡ get_or x i 0
padded_at x m i = by_order (dec_lt i (length x))
  where
    zero_at : (j : ℕ) → Dec (j < m) → ◌≡◌ {A = ℕ} (get_or (replicate m 0) j 0) 0
    zero_at j (yes h) = get_or-replicate m j 0 0 h
    zero_at j (no h) = get_or-eq_default (replicate m 0) 0 (let l : length (replicate {A = ℕ} m 0) ≤ j = rw length-replicate (omega arith) in l)

    by_order : Dec (i < length x) → get_or (x ++ replicate m 0) i 0 ≡ get_or x i 0
    by_order (yes h) = get_or-append x (replicate m 0) 0 i h
    by_order (no h) =
        let past : length x ≤ i = omega arith in
        let is : i ≡ length x + (i - length x) = omega arith in
        ap (λ (k : ℕ). get_or (x ++ replicate m 0) k 0) is ∙ get_or-append-add x (replicate m 0) (i - length x) 0
        ∙ zero_at (i - length x) (dec_lt (i - length x) m) ∙ sym (get_or-eq_default x 0 past)

-- ---- the bytes of all boards

pub length_kept : (tail : ℕ → List ℕ) → length (kept_bytes tail) ≡ 2048
unfolding kept_bytes
length_kept tail = length_list 2048 (λ p. get_or (tail (p / 512)) (p % 512) 0)

pub kept_at : (tail : ℕ → List ℕ) (p : ℕ) → p < 2048 → get_or (kept_bytes tail) p 0 ≡ get_or (tail (p / 512)) (p % 512) 0
unfolding kept_bytes
kept_at tail p h = get_d_list 2048 (λ p. get_or (tail (p / 512)) (p % 512) 0) p h

-- two of them with the same entries
pub kept_ext : (l : List ℕ) (tail : ℕ → List ℕ) → length l ≡ 2048 → ((p : ℕ) → p < 2048 → get_or l p 0 ≡ get_or (tail (p / 512)) (p % 512) 0) → l ≡ kept_bytes tail
kept_ext l tail long each =
    ext_get_or 0 l (kept_bytes tail) (long ∙ sym (length_kept tail)) (λ p h. let low : p < 2048 = omega (arith, long) in each p low ∙ sym (kept_at tail p low))

module _ (tail : ℕ → List ℕ) (board : ℕ) (named : board < 4) (fits : length (tail board) ≤ 512) where
  entry : (i : ℕ) → i < 512 → get_or (kept_bytes tail) (512 * board + i) 0 ≡ get_or (tail board) i 0
  entry i h =
      let b : (512 * board + i) / 512 ≡ board = omega arith in
      let r : (512 * board + i) % 512 ≡ i = omega arith in
      kept_at tail (512 * board + i) (omega arith) ∙ (λ j. get_or (tail (b j)) (r j) 0)

  pub tail_kept : take (length (tail board)) (drop (512 * board) (kept_bytes tail)) ≡ tail board
  tail_kept =
      let n = length (tail board) in
      let room : n ≤ length (drop (512 * board) (kept_bytes tail)) = rw (length-drop (512 * board) (kept_bytes tail), length_kept tail) (omega arith) in
      let long : length (take n (drop (512 * board) (kept_bytes tail))) ≡ n = length-take-le n (drop (512 * board) (kept_bytes tail)) room in
      ext_get_or 0 (take n (drop (512 * board) (kept_bytes tail))) (tail board) long
      (λ i h.
      let low : i < n = omega (arith, long) in
      get_or-take n (drop (512 * board) (kept_bytes tail)) i 0 low ∙ get_or-drop (512 * board) (kept_bytes tail) i 0 ∙ entry i (omega arith))

  pub put_kept : (x : List ℕ) → length x ≤ 512
      → put (kept_bytes tail) (512 * board) (x ++ replicate (length (tail board) - length x) 0) ≡ kept_bytes (changed board x tail)
  put_kept x room =
      let s = x ++ replicate (length (tail board) - length x) 0 in
      let at = 512 * board in
      let len : length s ≡ length x + (length (tail board) - length x) =
      length-append x (replicate (length (tail board) - length x) 0) ∙ ap (λ (k : ℕ). length x + k) (length-replicate {A = ℕ} (length (tail board) - length x) 0) in
      let inside : at ≤ length (kept_bytes tail) = omega (arith, length_kept tail) in
      let whole : at + length s ≤ length (kept_bytes tail) = omega (arith, length_kept tail) in
      kept_ext (put (kept_bytes tail) at s) (changed board x tail) (length_put (kept_bytes tail) at s whole ∙ length_kept tail)
      (λ p h. elim (ℕ_discrete (p / 512) board) [
        | yes e ↦
            let i = p % 512 in
            let is : p ≡ at + i = omega arith in
            let other : get_or (changed board x tail (p / 512)) i 0 ≡ get_or x i 0 = ap (λ (l : List ℕ). get_or l i 0) (changed_same board x tail (p / 512) e) in
            elim (dec_lt i (length s)) [
              | yes l ↦
                  ap (λ (k : ℕ). get_or (put (kept_bytes tail) at s) k 0) is ∙ put_within (kept_bytes tail) at s inside i l
                  ∙ padded_at x (length (tail board) - length x) i ∙ sym other
              | no g ↦
                  let none : get_or (tail board) i 0 ≡ 0 = get_or-eq_default (tail board) 0 (let q : length (tail board) ≤ i = omega arith in q) in
                  let none' : get_or x i 0 ≡ 0 = get_or-eq_default x 0 (let q : length x ≤ i = omega arith in q) in
                  put_past (kept_bytes tail) at s inside p (omega arith) ∙ ap (λ (k : ℕ). get_or (kept_bytes tail) k 0) is
                  ∙ entry i (omega arith) ∙ none ∙ sym (other ∙ none')
            ]
        | no ne ↦
            let other : get_or (changed board x tail (p / 512)) (p % 512) 0 ≡ get_or (tail (p / 512)) (p % 512) 0 =
            ap (λ (l : List ℕ). get_or l (p % 512) 0) (changed_other board x tail (p / 512) ne) in
            elim (dec_lt p at) [
              | yes l ↦ put_before (kept_bytes tail) at s inside p l ∙ kept_at tail p h ∙ sym other
              | no g ↦ put_past (kept_bytes tail) at s inside p (omega arith) ∙ kept_at tail p h ∙ sym other
            ]
      ])
