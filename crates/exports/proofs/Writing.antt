-- What stands in a slice after numbers were written to its front.
use mathlib.Core.Path.{◌≡◌, refl, sym, ap, ◌∙◌}
use mathlib.Core.List.{List, [], ◌∷◌, ◌++◌, append_assoc, append-nil}
use Prim.Native.Nat.{ℕ, zero, suc, ◌+◌, ◌-◌, ◌≤◌, ◌<◌}
use native.Mathlib.Nat.{zero-add}
use native.Mathlib.Numerals.{add-one}
use native.Mathlib.Omega.{arith}
use lib.ListN.{length, set, take, drop, get_or, replicate, length-append}
use lib.Seq.{take-suc, drop-cons, drop-drop, drop-length, set_at, take_at, drop_at, length-take-le}
use borrow.Rule.Slice.PartMut.{put_mid}
use Rattle.searching.specs.declared.finding.Finding.{Finding}
use Rattle.judging.specs.Plan.{sizes_in, widths_in}
use Rattle.judging.specs.declared.plan.Planned.{Planned}
use Rattle.sweeping.specs.declared.pair.Tested.{Tested}
use Rattle.exports.specs.Records.{order_number, finding_numbers, tested_numbers, written}

-- one entry more of s, after p
pub copy_next :
    (p s l : List ℕ) (m i : ℕ)
    → length p ≡ m
    → i < length s
    → m + i < length l
    → set ((p ++ take i s) ++ drop (m + i) l) (m + i) (get_or s i 0) ≡ (p ++ take (i + 1) s) ++ drop (m + (i + 1)) l
copy_next p s l m i e h r =
    let front : drop (m + i) l ≡ get_or l (m + i) 0 ∷ drop (suc (m + i)) l = drop-cons l (m + i) 0 r in
    let within : i ≤ length s = omega arith in
    let size : length (p ++ take i s) ≡ m + i = omega (arith, length-append p (take i s), length-take-le i s within) in
    let more : take (i + 1) s ≡ take i s ++ (get_or s i 0 ∷ []) = rw add-one (take-suc s i 0 h) in
    let place : m + (i + 1) ≡ suc (m + i) = omega arith in
    ap (λ (t : List ℕ). set ((p ++ take i s) ++ t) (m + i) (get_or s i 0)) front
    ∙ set_at (p ++ take i s) (get_or l (m + i) 0) (drop (suc (m + i)) l) (get_or s i 0) (m + i) size
    ∙ sym (rw (more, place) (simp append_assoc))

-- the same from the first entry on
pub copy_first : (s l : List ℕ) (i : ℕ) → i < length s → i < length l → set (take i s ++ drop i l) i (get_or s i 0) ≡ take (i + 1) s ++ drop (i + 1) l
copy_first s l i h r = let room : 0 + i < length l = omega arith in simp zero-add at (copy_next [] s l 0 i refl h room)

-- the zeros left of m
pub drop_zeros : (n m : ℕ) → drop n (replicate {A = ℕ} m 0) ≡ replicate (m - n) 0
drop_zeros zero m = let e : m ≡ m - 0 = omega arith in ap (λ (x : ℕ). replicate x 0) e
drop_zeros (suc n) zero = let e : 0 ≡ 0 - suc n = omega arith in ap (λ (x : ℕ). replicate x 0) e
drop_zeros (suc n) (suc m) = let e : m - n ≡ suc m - suc n = omega arith in drop_zeros n m ∙ ap (λ (x : ℕ). replicate x 0) e

-- two stores are two numbers written
pub two : (l : List ℕ) (a b : ℕ) → 2 ≤ length l → set (set l 0 a) 1 b ≡ written (a ∷ b ∷ []) l
two [] a b h = absurd (omega arith)
two (x ∷ []) a b h = absurd (omega arith)
two (x ∷ y ∷ l) a b h = refl

-- three stores are three numbers written
pub three : (l : List ℕ) (a b c : ℕ) → 3 ≤ length l → set (set (set l 0 a) 1 b) 2 c ≡ written (a ∷ b ∷ c ∷ []) l
three [] a b c h = absurd (omega arith)
three (x ∷ []) a b c h = absurd (omega arith)
three (x ∷ y ∷ []) a b c h = absurd (omega arith)
three (x ∷ y ∷ z ∷ l) a b c h = refl

-- four stores, and bits after them
pub four :
    (l bits : List ℕ) (a b c d : ℕ)
    → 4 ≤ length l
    → let m = set (set (set (set l 0 a) 1 b) 2 c) 3 d in
    (take 4 m ++ bits) ++ drop (4 + length bits) m ≡ written (a ∷ b ∷ c ∷ d ∷ bits) l
four [] bits a b c d h = absurd (omega arith)
four (x ∷ []) bits a b c d h = absurd (omega arith)
four (x ∷ y ∷ []) bits a b c d h = absurd (omega arith)
four (x ∷ y ∷ z ∷ []) bits a b c d h = absurd (omega arith)
four (x ∷ y ∷ z ∷ w ∷ l) bits a b c d h =
    let e : 4 + length bits ≡ suc (suc (suc (suc (length bits)))) = omega arith in
    ap (λ (n : ℕ). a ∷ b ∷ c ∷ d ∷ (bits ++ drop n (a ∷ b ∷ c ∷ d ∷ l))) e

-- a store behind numbers that were written
pub one_more : (s l : List ℕ) (v : ℕ) → length s < length l → set (written s l) (length s) v ≡ written (s ++ (v ∷ [])) l
one_more s l v room =
    let front : drop (length s) l ≡ get_or l (length s) 0 ∷ drop (suc (length s)) l = drop-cons l (length s) 0 room in
    let size : length (s ++ (v ∷ [])) ≡ suc (length s) = omega (arith, length-append s (v ∷ [])) in
    ap (λ (t : List ℕ). set (s ++ t) (length s) v) front
    ∙ set_at s (get_or l (length s) 0) (drop (suc (length s)) l) v (length s) refl
    ∙ sym (append_assoc s (v ∷ []) (drop (suc (length s)) l))
    ∙ ap (λ (n : ℕ). (s ++ (v ∷ [])) ++ drop n l) (sym size)

-- one store, and two lists of 7 after it
pub plan_written :
    (l blocks widths : List ℕ) (a : ℕ)
    → 1 ≤ length l
    → length blocks ≡ 7
    → length widths ≡ 7
    → let n = (take 1 (set l 0 a) ++ blocks) ++ drop (1 + length blocks) (set l 0 a) in
    (take 8 n ++ widths) ++ drop (8 + length widths) n ≡ written (a ∷ (blocks ++ widths)) l
plan_written [] blocks widths a h b w = absurd (omega arith)
plan_written (x ∷ l) blocks widths a h b w =
    let p : List ℕ = a ∷ blocks in
    let d : List ℕ = drop (1 + length blocks) (a ∷ l) in
    let size : length p ≡ 8 = omega (arith, b) in
    let first : take 8 (p ++ d) ≡ p = take_at p d 8 size in
    let one : 1 + length blocks ≡ suc (length blocks) = omega arith in
    let rest : drop (8 + length widths) (p ++ d) ≡ drop (length (blocks ++ widths)) l =
    sym (drop-drop (length widths) 8 (p ++ d))
    ∙ ap (drop (length widths)) (drop_at p d 8 size ∙ ap (λ (n : ℕ). drop n (a ∷ l)) one)
    ∙ drop-drop (length widths) (length blocks) l
    ∙ ap (λ (n : ℕ). drop n l) (sym (length-append blocks widths)) in
    ap (λ (t : List ℕ). (t ++ widths) ++ drop (8 + length widths) (p ++ d)) first ∙ ap (λ (t : List ℕ). (p ++ widths) ++ t) rest

-- seven pairs one by one
abbrev none : Planned
none = record { block_size = 0; width = 0 }

abbrev pub seven_sizes : List Planned → List ℕ
seven_sizes l = (get_or l 0 none).block_size ∷ (get_or l 1 none).block_size ∷ (get_or l 2 none).block_size ∷ (get_or l 3 none).block_size ∷ (get_or l 4 none).block_size ∷ (get_or l 5 none).block_size ∷ (get_or l 6 none).block_size ∷ []

abbrev pub seven_widths : List Planned → List ℕ
seven_widths l = (get_or l 0 none).width ∷ (get_or l 1 none).width ∷ (get_or l 2 none).width ∷ (get_or l 3 none).width ∷ (get_or l 4 none).width ∷ (get_or l 5 none).width ∷ (get_or l 6 none).width ∷ []

pub seven_pairs : (l : List Planned) → length l ≡ 7 → (seven_sizes l ≡ sizes_in l) × (seven_widths l ≡ widths_in l)
seven_pairs [] h = absurd (omega (arith, h))
seven_pairs (a ∷ []) h = absurd (omega (arith, h))
seven_pairs (a ∷ b ∷ []) h = absurd (omega (arith, h))
seven_pairs (a ∷ b ∷ c ∷ []) h = absurd (omega (arith, h))
seven_pairs (a ∷ b ∷ c ∷ d ∷ []) h = absurd (omega (arith, h))
seven_pairs (a ∷ b ∷ c ∷ d ∷ e ∷ []) h = absurd (omega (arith, h))
seven_pairs (a ∷ b ∷ c ∷ d ∷ e ∷ f ∷ []) h = absurd (omega (arith, h))
seven_pairs (a ∷ b ∷ c ∷ d ∷ e ∷ f ∷ g ∷ []) h = (refl, refl)
seven_pairs (a ∷ b ∷ c ∷ d ∷ e ∷ f ∷ g ∷ x ∷ l) h = absurd (omega (arith, h))

-- the same at the place that the numbers end at
end_more : (s l : List ℕ) (m v : ℕ) → length s ≡ m → m < length l → set (written s l) m v ≡ written (s ++ (v ∷ [])) l
end_more s l m v e room = let h : length s < length l = omega arith in ap (λ (n : ℕ). set (written s l) n v) (sym e) ∙ one_more s l v h

-- four stores behind 25 numbers
pub four_more :
    (s l : List ℕ) (a b c d : ℕ)
    → length s ≡ 25
    → 29 ≤ length l
    → set (set (set (set (written s l) 25 a) 26 b) 27 c) 28 d ≡ written (s ++ (a ∷ b ∷ c ∷ d ∷ [])) l
four_more s l a b c d e room =
    let p : List ℕ = s ++ (a ∷ []) in
    let q : List ℕ = p ++ (b ∷ []) in
    let r : List ℕ = q ++ (c ∷ []) in
    let ep : length p ≡ 26 = omega (arith, length-append s (a ∷ [])) in
    let eq : length q ≡ 27 = omega (arith, length-append p (b ∷ [])) in
    let er : length r ≡ 28 = omega (arith, length-append q (c ∷ [])) in
    let joined : r ++ (d ∷ []) ≡ s ++ (a ∷ b ∷ c ∷ d ∷ []) = simp append_assoc in
    ap (λ (t : List ℕ). set (set (set t 26 b) 27 c) 28 d) (end_more s l 25 a e (omega arith))
    ∙ ap (λ (t : List ℕ). set (set t 27 c) 28 d) (end_more p l 26 b ep (omega arith))
    ∙ ap (λ (t : List ℕ). set t 28 d) (end_more q l 27 c eq (omega arith))
    ∙ end_more r l 28 d er (omega arith)
    ∙ ap (λ (t : List ℕ). written t l) joined

-- how many numbers a finding and a tested pair are
pub finding_size : (f : Finding) → length f.bits ≡ 20 → length (finding_numbers f) ≡ 25
finding_size f e = let n : length (f.bits ++ (order_number f.low_first ∷ [])) ≡ length f.bits + 1 = length-append f.bits (order_number f.low_first ∷ []) in omega arith

pub tested_size : (t : Tested) → length t.finding.bits ≡ 20 → length (tested_numbers t) ≡ 29
tested_size t e =
    let n : length (tested_numbers t) ≡ length (finding_numbers t.finding) + 4 = length-append (finding_numbers t.finding) (t.blocks ∷ t.positive ∷ t.low ∷ t.high ∷ []) in
    let f : length (finding_numbers t.finding) ≡ 25 = finding_size t.finding e in
    omega arith

-- numbers written over as many
pub all_written : (s l : List ℕ) → length s ≡ length l → written s l ≡ s
all_written s l e = ap (λ (n : ℕ). s ++ drop n l) e ∙ ap (λ (t : List ℕ). s ++ t) (drop-length l) ∙ append-nil s

-- two stores, and two lists of 29 put after them
pub swept_written :
    (l best last : List ℕ) (v t : ℕ)
    → 2 ≤ length l
    → length best ≡ 29
    → length last ≡ 29
    → put_mid 31 29 (put_mid 2 29 (set (set l 0 v) 1 t) best) last ≡ written (v ∷ t ∷ (best ++ last)) l
swept_written [] best last v t h b w = absurd (omega arith)
swept_written (x ∷ []) best last v t h b w = absurd (omega arith)
swept_written (x ∷ y ∷ l) best last v t h b w =
    let p : List ℕ = v ∷ t ∷ best in
    let d : List ℕ = drop 29 l in
    let size : length p ≡ 31 = omega (arith, b) in
    let both : 58 ≡ length (best ++ last) = omega (arith, length-append best last) in
    let rest : drop 29 (drop 31 (p ++ d)) ≡ drop (length (best ++ last)) l =
    ap (drop 29) (drop_at p d 31 size) ∙ drop-drop 29 29 l ∙ ap (λ (n : ℕ). drop n l) both in
    ap (λ (z : List ℕ). z ++ (last ++ drop 29 (drop 31 (p ++ d)))) (take_at p d 31 size)
    ∙ ap (λ (z : List ℕ). p ++ (last ++ z)) rest
    ∙ sym (append_assoc p last (drop (length (best ++ last)) l))
