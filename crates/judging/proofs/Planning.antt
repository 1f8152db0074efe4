-- The sizes of a plan one after the other, and the arrays that are filled with them.
use mathlib.Core.Path.{◌≡◌, refl, ap, sym, ◌∙◌}
use mathlib.Core.Bool.{Bool, true, false, cond}
use mathlib.Core.List.{List, [], ◌∷◌, ◌++◌, map, append_assoc}
use Prim.Native.Nat.{ℕ, zero, suc, ◌+◌, ◌-◌, ◌*◌, ◌^◌, ◌≤◌, ◌<◌, max}
use native.Mathlib.Nat.{pow-succ', mul_comm}
use native.Mathlib.Numerals.{add-one}
use native.Mathlib.Omega.{arith}
use lib.Dec.{leb, eqb}
use lib.ListN.{length, take, drop, set, get_or, replicate, length-drop}
use lib.Seq.{drop-cons, take-suc, take_all, length-take-le, set_at}
use borrow.Author.Tests.{le-leb, lt-leb, eqb-true, eqb-false, ne_eqb, leb-true, leb-false}
use Rattle.counting.proofs.Accepted.{Valid}
use Rattle.subsets.proofs.Filling.{drop_next}
use Rattle.judging.specs.Plan.{width_for, sizes_from, sizes_of, widths_of, after_eight, padded_to_seven}

-- ---- sizes

-- past the top there is none
pub past : (n top size : ℕ) → top < size → sizes_from n top size ≡ []
unfolding sizes_from
past zero top size h = refl
past (suc n) top size h = simp (lt-leb _ _ h)

-- up to the top each comes before its double
pub one_more : (n top size : ℕ) → 8 < size → size ≤ top → sizes_from (suc n) top size ≡ size ∷ sizes_from n top (2 * size)
unfolding sizes_from
one_more n top size big h =
    let new : (size ≡ 8 → ⊥) = λ e. omega arith in
    simp (le-leb _ _ h, ne_eqb _ _ new)

-- a second 8 is skipped
pub eight : (n top : ℕ) → 8 ≤ top → sizes_from (suc n) top 8 ≡ sizes_from n top 16
unfolding sizes_from
eight n top h = simp (le-leb 8 top h)

doubled : (n top size : ℕ) → top < size * 2 ^ suc n → top < 2 * size * 2 ^ n
doubled n top size h = omega (arith, ap (λ (p : ℕ). size * p) (pow-succ' 2 n))

-- where n of them lead past the top, more are none
pub enough : (n top size : ℕ) → 8 < size → top < size * 2 ^ n → sizes_from (suc n) top size ≡ sizes_from n top size
enough zero top size big h = past 1 top size (omega arith) ∙ sym (past 0 top size (omega arith))
enough (suc n) top size big h =
    let big' : 8 < 2 * size = omega arith in
    by_test (enough n top (2 * size) big' (doubled n top size h)) (leb size top) refl
  where
    by_test : sizes_from (suc n) top (2 * size) ≡ sizes_from n top (2 * size) → (t : Bool) → leb size top ≡ t → sizes_from (suc (suc n)) top size ≡ sizes_from (suc n) top size
    by_test rest true e =
        let low = leb-true _ _ e in
        one_more (suc n) top size big low ∙ ap (λ (l : List ℕ). size ∷ l) rest ∙ sym (one_more n top size big low)
    by_test rest false e =
        let over = leb-false _ _ e in
        past (suc (suc n)) top size over ∙ sym (past (suc n) top size over)

-- so the seven from B on are the six past the first 8
pub from_first : (B : ℕ) → Valid B → sizes_from 7 (max B 512) B ≡ sizes_from 6 (max B 512) (after_eight B)
from_first B v = by_test (eqb B 8) refl
  where
    by_test : (t : Bool) → eqb B 8 ≡ t → sizes_from 7 (max B 512) B ≡ sizes_from 6 (max B 512) (cond t 16 B)
    by_test true e = rw (eqb-true B 8 e) (eight 6 512 (omega arith))
    by_test false e =
        let big : 8 < B = omega (arith, eqb-false B 8 e) in
        enough 6 (max B 512) B big (omega arith)

-- they begin above 8 ..
pub after_big : (B : ℕ) → Valid B → 8 < after_eight B
after_big B v = by_test (eqb B 8) refl
  where
    by_test : (t : Bool) → eqb B 8 ≡ t → 8 < cond t 16 B
    by_test true e = omega arith
    by_test false e = omega (arith, eqb-false B 8 e)

-- .. and six lead past the top
after_room : (B : ℕ) → Valid B → max B 512 < after_eight B * 64
after_room B v = by_test (eqb B 8) refl
  where
    by_test : (t : Bool) → eqb B 8 ≡ t → max B 512 < cond t 16 B * 64
    by_test true e = omega (arith, eqb-true B 8 e)
    by_test false e = omega (arith, eqb-false B 8 e)

-- ---- the arrays

-- the first p entries of the list are written, and the others are 0
pub record Written (p : ℕ) (l a : List ℕ) : Type 0 where
  pub reached : p ≤ length l
  pub is : a ≡ take p l ++ replicate (7 - p) 0

pub write : (p x : ℕ) (l rest a : List ℕ) → p < 7 → drop p l ≡ x ∷ rest → Written p l a → Written (suc p) l (set a p x)
write p x l rest a h e w =
    let size : length l - p ≡ suc (length rest) = sym (length-drop p l) ∙ ap length e in
    let more : p < length l = omega arith in
    let next : get_or l p 0 ≡ x = cc (drop-cons l p 0 more) in
    let split : 7 - p ≡ suc (7 - suc p) = omega arith in
    let put : set a p x ≡ take p l ++ (x ∷ replicate (7 - suc p) 0) = rw (w.is, split) (set_at (take p l) 0 (replicate (7 - suc p) 0) x p (length-take-le p l w.reached)) in
    record {
      reached = omega arith;
      is = put ∙ sym (append_assoc (take p l) (x ∷ []) (replicate (7 - suc p) 0)) ∙ ap (λ (s : List ℕ). s ++ replicate (7 - suc p) 0) (sym (rw next at (take-suc l p 0 more)));
    }

pub written : (p : ℕ) (l a : List ℕ) → drop p l ≡ [] → Written p l a → (p ≡ length l) × (a ≡ padded_to_seven l)
written p l a e w =
    let size : length l - p ≡ 0 = sym (length-drop p l) ∙ ap length e in
    let full : p ≡ length l = omega (arith, w.reached) in
    (full, w.is ∙ ap (λ (s : List ℕ). s ++ replicate (7 - p) 0) (take_all p l (omega arith)) ∙ ap (λ (n : ℕ). l ++ replicate (7 - n) 0) full)

-- ---- the loop: p pairs are written, and the sizes from `size` on are left
pub record Planned (B bytes top p size : ℕ) (blocks widths : List ℕ) : Type 0 where
  pub few : p ≤ 7
  pub big : 8 < size
  pub room : top < size * 2 ^ (7 - p)
  pub sizes_left : drop p (sizes_of B) ≡ sizes_from (7 - p) top size
  pub widths_left : drop p (widths_of B bytes) ≡ map (λ s. width_for s bytes) (sizes_from (7 - p) top size)
  pub blocks_are : Written p (sizes_of B) blocks
  pub widths_are : Written p (widths_of B bytes) widths

abbrev first_entry : List ℕ
first_entry = set (replicate 7 0) 0 8

pub begun : (B bytes : ℕ) → Valid B → Planned B bytes (max B 512) 1 (after_eight B) first_entry first_entry
unfolding sizes_of widths_of
begun B bytes v = record {
  few = omega arith;
  big = after_big B v;
  room = after_room B v;
  sizes_left = from_first B v;
  widths_left = ap (map (λ s. width_for s bytes)) (from_first B v);
  blocks_are = record { reached = omega arith; is = refl };
  widths_are = record { reached = omega arith; is = refl };
}

module _ (B bytes top p size : ℕ) (blocks widths : List ℕ) (d : Planned B bytes top p size blocks widths) where
  -- there is an entry for the next pair
  pub entry_left : size ≤ top → p < 7
  entry_left h = by_test (eqb p 7) refl
    where
      by_test : (t : Bool) → eqb p 7 ≡ t → p < 7
      by_test true e =
          let none : 7 - p ≡ 0 = omega (arith, eqb-true p 7 e) in
          absurd (omega (arith, rw none at d.room))
      by_test false e = omega (arith, eqb-false p 7 e, d.few)

  pub turn : size ≤ top → Planned B bytes top (p + 1) (size * 2) (set blocks p size) (set widths p (width_for size bytes))
  turn h =
      let within = entry_left h in
      let next : 7 - p ≡ suc (7 - suc p) = omega arith in
      let front : sizes_from (7 - p) top size ≡ size ∷ sizes_from (7 - suc p) top (2 * size) = rw next (one_more (7 - suc p) top size d.big h) in
      let s : drop p (sizes_of B) ≡ size ∷ sizes_from (7 - suc p) top (2 * size) = d.sizes_left ∙ front in
      let w : drop p (widths_of B bytes) ≡ width_for size bytes ∷ map (λ s. width_for s bytes) (sizes_from (7 - suc p) top (2 * size)) = d.widths_left ∙ ap (map (λ s. width_for s bytes)) front in
      rw (add-one, mul_comm size 2)
      (record {
        few = omega arith;
        big = omega (arith, d.big);
        room = doubled (7 - suc p) top size (rw next at d.room);
        sizes_left = drop_next p (sizes_of B) ∙ ap (drop 1) s;
        widths_left = drop_next p (widths_of B bytes) ∙ ap (drop 1) w;
        blocks_are = write p size (sizes_of B) _ blocks within s d.blocks_are;
        widths_are = write p (width_for size bytes) (widths_of B bytes) _ widths within w d.widths_are;
      })

  pub all_sizes : top < size → (p ≡ length (sizes_of B)) × (blocks ≡ padded_to_seven (sizes_of B))
  all_sizes h = written p (sizes_of B) blocks (d.sizes_left ∙ past (7 - p) top size h) d.blocks_are

  pub all_widths : top < size → widths ≡ padded_to_seven (widths_of B bytes)
  all_widths h = (written p (widths_of B bytes) widths (d.widths_left ∙ ap (map (λ s. width_for s bytes)) (past (7 - p) top size h)) d.widths_are).1
