-- Laws of entries put into a buffer.
use mathlib.Core.Path.{◌≡◌, sym, ap, ◌∙◌}
use mathlib.Core.List.{List, [], ◌∷◌, ◌++◌, append_assoc, append-nil}
use Prim.Native.Nat.{ℕ, suc, ◌+◌, ◌≤◌, ◌<◌}
use native.Mathlib.Nat.{zero-add, add-zero}
use native.Mathlib.Numerals.{add-one}
use native.Mathlib.Omega.{arith}
use lib.ListN.{length, take, drop, get_or, set, length-append, length-drop, take-append-drop}
use lib.Seq.{length-take-le, take-suc, take-length, drop-cons, set_at, take_at, drop_at, drop-drop, append_snoc}
use Rattle.counting.specs.Buffer.{put}

length_head : (out : List ℕ) (at : ℕ) (s : List ℕ) → at ≤ length out → length (take at out ++ s) ≡ at + length s
length_head out at s h = length-append (take at out) s ∙ rw (length-take-le at out h)

pub put_none : (out : List ℕ) (at : ℕ) → put out at [] ≡ out
unfolding put
put_none out at = simp (append-nil, add-zero) (take-append-drop at out)

pub length_put : (out : List ℕ) (at : ℕ) (s : List ℕ) → at + length s ≤ length out → length (put out at s) ≡ length out
unfolding put
length_put out at s h =
    let a : at ≤ length out = omega arith in
    length-append (take at out ++ s) (drop (at + length s) out) ∙ rw (length_head out at s a, length-drop (at + length s) out) (omega arith)

pub put_more : (out : List ℕ) (at : ℕ) (s : List ℕ) (x m : ℕ) → at + length s ≡ m → m < length out → set (put out at s) m x ≡ put out at (s ++ (x ∷ []))
unfolding put
put_more out at s x m e h =
    let a : at ≤ length out = omega arith in
    let last : at + length (s ++ (x ∷ [])) ≡ suc m = rw length-append (omega arith) in
    ap (λ (k : ℕ). set (take at out ++ s ++ drop k out) m x) e
    ∙ ap (λ (r : List ℕ). set (take at out ++ s ++ r) m x) (drop-cons out m 0 h)
    ∙ set_at (take at out ++ s) (get_or out m 0) (drop (suc m) out) x m (length_head out at s a ∙ e)
    ∙ sym (append_snoc (take at out ++ s) x (drop (suc m) out))
    ∙ ap (λ (r : List ℕ). r ++ drop (suc m) out) (append_assoc (take at out) s (x ∷ []))
    ∙ ap (λ (k : ℕ). take at out ++ (s ++ (x ∷ [])) ++ drop k out) (sym last)

pub put_put : (out : List ℕ) (at : ℕ) (s t : List ℕ) (m : ℕ) → at + length s ≡ m → m ≤ length out → put (put out at s) m t ≡ put out at (s ++ t)
unfolding put
put_put out at s t m e h =
    let a : at ≤ length out = omega arith in
    let P = take at out ++ s in
    let Q = drop (at + length s) out in
    let here : length P ≡ m = length_head out at s a ∙ e in
    let all : at + length (s ++ t) ≡ at + length s + length t = rw length-append (omega arith) in
    ap (λ (r : List ℕ). r ++ t ++ drop (m + length t) (P ++ Q)) (take_at P Q m here)
    ∙ ap (λ (r : List ℕ). P ++ t ++ r) (sym (drop-drop (length t) m (P ++ Q)) ∙ ap (drop (length t)) (drop_at P Q m here) ∙ drop-drop (length t) (at + length s) out)
    ∙ ap (λ (r : List ℕ). r ++ drop (at + length s + length t) out) (append_assoc (take at out) s t)
    ∙ ap (λ (k : ℕ). take at out ++ (s ++ t) ++ drop k out) (sym all)

pub put_first : (out s : List ℕ) → put out 0 s ≡ s ++ drop (length s) out
unfolding put
put_first out s = ap (λ (m : ℕ). s ++ drop m out) (zero-add (length s))

-- one entry more of s
pub put_next : (out : List ℕ) (at : ℕ) (s : List ℕ) (i : ℕ) → i < length s → at + i < length out
    → set (put out at (take i s)) (at + i) (get_or s i 0) ≡ put out at (take (i + 1) s)
put_next out at s i h room =
    let few : i ≤ length s = omega arith in
    put_more out at (take i s) (get_or s i 0) (at + i) (rw (length-take-le i s few)) room ∙ ap (put out at) (sym (take-suc s i 0 h) ∙ rw add-one)

pub put_all : (out : List ℕ) (at : ℕ) (s : List ℕ) (i : ℕ) → i ≡ length s → put out at (take i s) ≡ put out at s
put_all out at s i e = ap (put out at) (ap (λ (j : ℕ). take j s) e ∙ take-length s)
