-- A list of which a part was put back: an entry before the part, in it and after it.
use mathlib.Core.Path.{◌≡◌, sym, ap, ◌∙◌}
use Prim.Native.Nat.{ℕ, ◌+◌, ◌-◌, ◌≤◌, ◌<◌}
use native.Mathlib.Omega.{arith}
use mathlib.Core.List.{List, ◌++◌}
use lib.ListN.{length, get_or, take, drop, get_or-append}
use lib.Seq.{length-take-le, get_or-append-add, get_or-take, get_or-drop, drop-drop}
use borrow.Rule.Slice.PartMut.{mid_of, put_mid, drop_put}

pub part_before : (at k i : ℕ) (xs ys : List ℕ) → at ≤ length xs → i < at → get_or (put_mid at k xs ys) i 0 ≡ get_or xs i 0
part_before at k i xs ys h l =
    get_or-append (take at xs) (ys ++ drop k (drop at xs)) 0 i (omega (arith, length-take-le at xs h)) ∙ get_or-take at xs i 0 l

pub part_at : (at k u : ℕ) (xs ys : List ℕ) → at ≤ length xs → u < length ys → get_or (put_mid at k xs ys) (at + u) 0 ≡ get_or ys u 0
part_at at k u xs ys h l =
    let e : at + u ≡ length (take at xs) + u = omega (arith, length-take-le at xs h) in
    ap (λ (i : ℕ). get_or (put_mid at k xs ys) i 0) e ∙ get_or-append-add (take at xs) (ys ++ drop k (drop at xs)) u 0 ∙ get_or-append ys (drop k (drop at xs)) 0 u l

pub part_after : (at end i : ℕ) (xs ys : List ℕ) → at ≤ end → end ≤ length xs → length ys ≡ end - at → end ≤ i → get_or (put_mid at (end - at) xs ys) i 0 ≡ get_or xs i 0
part_after at end i xs ys a b e h =
    let s : end + (i - end) ≡ i = omega arith in
    ap (λ (x : ℕ). get_or (put_mid at (end - at) xs ys) x 0) (sym s) ∙ sym (get_or-drop end (put_mid at (end - at) xs ys) (i - end) 0)
    ∙ ap (λ (l : List ℕ). get_or l (i - end) 0) (drop_put at end xs ys a b e) ∙ get_or-drop end xs (i - end) 0 ∙ ap (λ (x : ℕ). get_or xs x 0) s

-- an entry of the part that was taken
pub mid_at : (at k u : ℕ) (xs : List ℕ) → u < k → get_or (mid_of at k xs) u 0 ≡ get_or xs (at + u) 0
mid_at at k u xs h = get_or-take k (drop at xs) u 0 h ∙ get_or-drop at xs u 0

-- what is the same past a place is so past every later one
pub past_larger : (L W : ℕ) (xs ys : List ℕ) → L ≤ W → drop L xs ≡ drop L ys → drop W xs ≡ drop W ys
past_larger L W xs ys h e =
    let split : L + (W - L) ≡ W = omega arith in
    ap (λ (x : ℕ). drop x xs) (sym split) ∙ sym (drop-drop (W - L) L xs) ∙ ap (drop (W - L)) e ∙ drop-drop (W - L) L ys ∙ ap (λ (x : ℕ). drop x ys) split
