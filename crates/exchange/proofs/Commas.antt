-- Laws of numbers with commas between them: how long they are, and one more of them put into a buffer.
use mathlib.Core.Path.{◌≡◌, refl, ap, ◌∙◌}
use mathlib.Core.List.{List, [], ◌∷◌, ◌++◌}
use Prim.Native.Nat.{ℕ, suc, ◌+◌, ◌-◌, ◌*◌, ◌≤◌, ◌<◌}
use native.Mathlib.Nat.{suc-mul}
use native.Mathlib.Numerals.{add-one}
use native.Mathlib.Omega.{arith}
use lib.ListN.{length, get_or, drop, set, length-append}
use lib.Seq.{drop-cons, drop-length}
use Rattle.std.specs.Prelude.{slice_index_or}
use Rattle.counting.specs.Buffer.{put}
use Rattle.exchange.specs.Writer.{decimal, behind, listed}
use Rattle.counting.proofs.Buffers.{put_put}
use Rattle.exchange.proofs.Stepping.{behind_first, front}
use Rattle.exchange.proofs.Figures.{put_one, digits_ten}

-- ---- what is left of the numbers from place i on

pub behind_next : (ns : List ℕ) (i : ℕ) → i < length ns → behind (drop i ns) ≡ ((44 ∷ []) ++ decimal (get_or ns i 0)) ++ behind (drop (i + 1) ns)
unfolding behind
behind_next ns i h = rw (add-one, drop-cons ns i 0 h)

pub behind_none : (ns : List ℕ) (i : ℕ) → i ≡ length ns → behind (drop i ns) ≡ []
unfolding behind
behind_none ns i e = rw (e, drop-length ns)

pub listed_first : (ns : List ℕ) → 1 ≤ length ns → listed ns ≡ decimal (slice_index_or ns 0 0) ++ behind (behind_first ns)
unfolding listed
listed_first [] h = absurd (omega arith)
listed_first (n ∷ ns) h =
    let same : n ∷ ns ≡ n ∷ behind_first (n ∷ ns) = front (n ∷ ns) h in
    let rest : ns ≡ behind_first (n ∷ ns) = cc in
    ap (λ (ms : List ℕ). decimal n ++ behind ms) rest

pub listed_none : (ns : List ℕ) → length ns ≡ 0 → listed ns ≡ []
unfolding listed
listed_none [] e = refl
listed_none (n ∷ ns) e = absurd (omega arith)

-- ---- how long they are

pub length_next : (ns : List ℕ) (i : ℕ) → i < length ns → length (behind (drop i ns)) ≡ 1 + length (decimal (get_or ns i 0)) + length (behind (drop (i + 1) ns))
length_next ns i h =
    ap length (behind_next ns i h)
    ∙ length-append ((44 ∷ []) ++ decimal (get_or ns i 0)) (behind (drop (i + 1) ns))
    ∙ ap (λ (m : ℕ). m + length (behind (drop (i + 1) ns))) (length-append (44 ∷ []) (decimal (get_or ns i 0)))

-- a comma less than the numbers behind another
pub length_listed : (ns : List ℕ) → 0 < length ns → length (listed ns) + 1 ≡ length (behind ns)
unfolding listed behind
length_listed [] h = absurd (omega arith)
length_listed (n ∷ ns) h =
    let a : length (decimal n ++ behind ns) ≡ length (decimal n) + length (behind ns) = length-append (decimal n) (behind ns) in
    let b : length ((44 ∷ []) ++ decimal n ++ behind ns) ≡ length ((44 ∷ []) ++ decimal n) + length (behind ns) = length-append ((44 ∷ []) ++ decimal n) (behind ns) in
    omega (arith, a, b, length-append (44 ∷ []) (decimal n))

pub length_first : (ns : List ℕ) → length ns - 1 + length (behind ns) ≡ length (listed ns) + length ns
unfolding listed behind
length_first [] = refl
length_first (n ∷ ns) = omega (arith, length_listed (n ∷ ns) (omega arith))

-- numbers of at most d digits
pub behind_most : (d : ℕ) (ns : List ℕ) → ((i : ℕ) → i < length ns → length (decimal (get_or ns i 0)) ≤ d) → length (behind ns) ≤ length ns * (d + 1)
unfolding behind
behind_most d [] h = omega arith
behind_most d (n ∷ ns) h =
    let rest : length (behind ns) ≤ length ns * (d + 1) = behind_most d ns (λ i l. h (suc i) (omega arith)) in
    let first : length (decimal n) ≤ d = h 0 (omega arith) in
    let a : length ((44 ∷ []) ++ decimal n ++ behind ns) ≡ length ((44 ∷ []) ++ decimal n) + length (behind ns) = length-append ((44 ∷ []) ++ decimal n) (behind ns) in
    let b : suc (length ns) * (d + 1) ≡ length ns * (d + 1) + (d + 1) = suc-mul (length ns) (d + 1) in
    omega (arith, a, length-append (44 ∷ []) (decimal n))

pub listed_most : (d : ℕ) (ns : List ℕ) → 0 < length ns → ((i : ℕ) → i < length ns → length (decimal (get_or ns i 0)) ≤ d) → length (listed ns) + 1 ≤ length ns * (d + 1)
listed_most d ns some h = omega (arith, length_listed ns some, behind_most d ns h)

pub listed_ten : (ns : List ℕ) → length (listed ns) ≤ 11 * length ns
unfolding listed
listed_ten [] = omega arith
listed_ten (n ∷ ns) = omega (arith, listed_most 10 (n ∷ ns) (omega arith) (λ i h. digits_ten (get_or (n ∷ ns) i 0)))

-- ---- one more of them

pub comma_put : (out : List ℕ) (to n : ℕ) (s : List ℕ) (out' : List ℕ) (to' : ℕ) → to + (1 + length (decimal n) + length s) ≤ length out
    → out' ≡ put (set out to 44) (to + 1) (decimal n) → to' ≡ to + 1 + length (decimal n)
    → put out' to' s ≡ put out to (((44 ∷ []) ++ decimal n) ++ s)
comma_put out to n s out' to' room e f =
    let here : to < length out = omega arith in
    let all : to + length ((44 ∷ []) ++ decimal n) ≡ to' = omega (arith, length-append (44 ∷ []) (decimal n)) in
    ap (λ (o : List ℕ). put o to' s)
    (e ∙ ap (λ (o : List ℕ). put o (to + 1) (decimal n)) (put_one out to 44 here) ∙ put_put out to (44 ∷ []) (decimal n) (to + 1) refl (omega arith))
    ∙ put_put out to ((44 ∷ []) ++ decimal n) s to' all (omega arith)
