-- The store, filled run by run from one width to the next: what it holds up to a run, with that run, and when none is left.
use mathlib.Core.Path.{◌≡◌, refl, sym, ap, ap₂, subst, ◌∙◌}
use Prim.Native.Nat.{ℕ, zero, suc, ◌+◌, ◌-◌, ◌*◌, ◌≤◌, ◌<◌}
use native.Mathlib.Omega.{arith}
use native.Mathlib.Nat.{mul-le-mul_right}
use native.Mathlib.Decide.{dec_lt, ℕ_discrete}
use mathlib.Core.List.Memᴰ
use mathlib.Core.List.{List, [], ◌∷◌, ◌++◌, map, Memᴰ}
use lib.ListN.{length, get_or, take, drop, set, length-drop, length-map, get_or-append}
use lib.Seq.{take-suc, take-suc-set, take-take, take-add, split_at, ext_get_or, length-take-le, get_or-append_seam, get_or-take, get_or-drop, get_or-set_same, get_or-set_other}
use borrow.Rule.Slice.PartMut.{mid_of, put_mid, same_len_mid, mid_len, take_put, drop_put}
use Rattle.counting.specs.Sample.{all_set}
use Rattle.counting.specs.Rows.{RowsIn}
use Rattle.subsets.specs.Subsets.{Subset, subsets, numbers_from, padded, Next, Last}
use Rattle.subsets.specs.Choose.{choose}
use Rattle.subsets.specs.Rank.{rank_of}
use Rattle.subsets.proofs.Listing.{bits_below, listed}
use Rattle.subsets.proofs.Carrying.{snoc, length_snoc, bump}
use Rattle.subsets.proofs.Ranking.{ranks}
use Rattle.subsets.proofs.Walking.{rank_here}
use Rattle.subsets.proofs.Visiting.{length_numbers, numbers_subset}
use Rattle.subsets.proofs.Filling.{padded_front}
use Rattle.layers.specs.Store.{store_to, size_to, HoldsTo}
use Rattle.layers.proofs.Parting.{part_before, part_at, past_larger}
use Rattle.layers.proofs.Keeping.{at_rank}

-- ---- the last of an array's first d entries apart

pub last_apart : (d : ℕ) (l : List ℕ) → 1 ≤ d → d ≤ length l → take d l ≡ snoc (take (d - 1) l) (get_or l (d - 1) 0)
last_apart d l h g =
    let e : d ≡ suc (d - 1) = omega arith in
    ap (λ (m : ℕ). take m l) e ∙ take-suc l (d - 1) 0 (omega arith)

pub last_set : (d v : ℕ) (l : List ℕ) → 1 ≤ d → d ≤ length l → take d (set l (d - 1) v) ≡ snoc (take (d - 1) l) v
last_set d v l h g =
    let e : d ≡ suc (d - 1) = omega arith in
    ap (λ (m : ℕ). take m (set l (d - 1) v)) e ∙ take-suc-set l (d - 1) v (omega arith)

pub next_apart : (B d v : ℕ) (l l' : List ℕ) → 1 ≤ d → d ≤ length l → d ≤ length l' → Next B d (take d (set l (d - 1) v)) (take d l')
    → Next B d (snoc (take (d - 1) l) v) (snoc (take (d - 1) l') (get_or l' (d - 1) 0))
next_apart B d v l l' h g g' next =
    subst (λ (s : List ℕ). Next B d s (snoc (take (d - 1) l') (get_or l' (d - 1) 0))) (last_set d v l h g)
    (subst (Next B d (take d (set l (d - 1) v))) (last_apart d l' h g') next)

-- the last bit is in the block
pub last_below : (B d : ℕ) (p : List ℕ) (x : ℕ) → 1 ≤ d → Subset B d (snoc p x) → x < B
last_below B d p x h s =
    let e : get_or (snoc p x) (length p) 0 ≡ x = get_or-append_seam p x [] 0 in
    omega (arith, bits_below B d (snoc p x) s (length p) (omega (arith, length_snoc p x)))

-- ---- the subsets of a run stand one after the other

pub along : (B d : ℕ) (p : List ℕ) (x j : ℕ) → 1 ≤ d → Subset B d (snoc p x) → x + j < B
    → Subset B d (snoc p (x + j)) × (rank_of B (snoc p (x + j)) ≡ rank_of B (snoc p x) + j)
along B zero p x j h s l = absurd (omega arith)
along B (suc k) p x zero h s l =
    let e : x + 0 ≡ x = omega arith in
    rw e (s, omega arith)
along B (suc k) p x (suc j) h s l =
    let w = along B (suc k) p x j h s (omega arith) in
    let e : x + suc j ≡ suc (x + j) = omega arith in
    let n = bump B k p (x + j) w.0 (omega arith) in
    rw e (n.subset, omega (arith, w.1, (ranks B (suc k)).next (snoc p (x + j)) (snoc p (suc (x + j))) w.0 n))

-- ---- what the store holds

-- from `start` on, the counts of every d-subset whose rank is below r
abbrev pub Upto : (ℕ → ℕ → ℕ) → ℕ → ℕ → ℕ → ℕ → ℕ → List ℕ → Type 0
Upto bit n B d start r store = (s : List ℕ) → Subset B d s → rank_of B s < r → get_or store (start + rank_of B s) 0 ≡ all_set bit n s

-- the first r counts of the width are stored, and nothing has changed before it and past it
pub record Written (bit : ℕ → ℕ → ℕ) (n B d start : ℕ) (store₀ : List ℕ) (r : ℕ) (store : List ℕ) : Type 0 where
  pub size : length store ≡ length store₀
  pub front : take start store ≡ take start store₀
  pub upto : Upto bit n B d start r store
  pub rest : drop (start + choose B d) store ≡ drop (start + choose B d) store₀

-- the counts of the subsets before the leading bits p and the last bit x are stored, and those of its run belong at `at`
pub record Filled (bit : ℕ → ℕ → ℕ) (n B d start : ℕ) (store₀ p : List ℕ) (x at : ℕ) (store : List ℕ) : Type 0 where
  pub current : Subset B d (snoc p x)
  pub place : at ≡ start + rank_of B (snoc p x)
  pub written : Written bit n B d start store₀ (rank_of B (snoc p x)) store

-- ---- the first run

pub begins : (bit : ℕ → ℕ → ℕ) (n B d start : ℕ) (store l : List ℕ) → 1 ≤ d → d ≤ B → l ≡ padded (numbers_from 0 d) → d ≤ length l
    → Filled bit n B d start store (take (d - 1) l) (get_or l (d - 1) 0) start store
begins bit n B d start store l h g e room =
    let first : snoc (take (d - 1) l) (get_or l (d - 1) 0) ≡ numbers_from 0 d =
    sym (last_apart d l h room) ∙ ap (take d) e ∙ padded_front d (numbers_from 0 d) (length_numbers 0 d) in
    let none : rank_of B (snoc (take (d - 1) l) (get_or l (d - 1) 0)) ≡ 0 = ap (rank_of B) first ∙ (ranks B d).first g in
    record {
      current = subst (Subset B d) (sym first) (numbers_subset B d g);
      place = omega arith;
      written = record { size = refl; front = refl; upto = λ s a b. absurd (omega arith); rest = refl };
    }

-- ---- one run's counts, in their place

-- what is as lent before a place is so before an earlier one
before_earlier : (a b : ℕ) (xs ys : List ℕ) → a ≤ b → take b xs ≡ take b ys → take a xs ≡ take a ys
before_earlier a b xs ys h e = sym (take-take a b xs h) ∙ ap (take a) e ∙ take-take a b ys h

module _ {bit : ℕ → ℕ → ℕ} {n B d start : ℕ} {store₀ p : List ℕ} {x at : ℕ} {store : List ℕ} (pos : 1 ≤ d) (room : start + choose B d ≤ length store₀)
    (f : Filled bit n B d start store₀ p x at store) (inside : x < B) where
  -- the last subset of the run
  pub run_last : Subset B d (snoc p (B - 1)) × (suc (rank_of B (snoc p (B - 1))) ≡ rank_of B (snoc p x) + (B - x))
  run_last =
      let e : x + (B - 1 - x) ≡ B - 1 = omega arith in
      let w = along B d p x (B - 1 - x) pos f.current (omega arith) in
      let r : rank_of B (snoc p (B - 1)) ≡ rank_of B (snoc p x) + (B - 1 - x) = ap (λ (b : ℕ). rank_of B (snoc p b)) (sym e) ∙ w.1 in
      (subst (λ (b : ℕ). Subset B d (snoc p b)) e w.0, omega arith)

  -- the run is within its width, so in the store
  fits : at + (B - x) ≤ start + choose B d
  fits = omega (arith, f.place, run_last.1, (ranks B d).below (snoc p (B - 1)) run_last.0)

  pub in_store : at + (B - x) ≤ length store
  in_store = omega (arith, fits, f.written.size)

  pub part_size : length (mid_of at (at + (B - x) - at) store) ≡ B - x
  part_size = let e : at + (B - x) - at ≡ B - x = omega arith in mid_len at (at + (B - x)) store in_store ∙ e

  module _ (ys : List ℕ) (same : length ys ≡ length (mid_of at (at + (B - x) - at) store))
      (each : (j : ℕ) → j < length (mid_of at (at + (B - x) - at) store) → get_or ys j 0 ≡ all_set bit n (p ++ ((x + j) ∷ []))) where
    pub run_written : Written bit n B d start store₀ (rank_of B (snoc p x) + (B - x)) (put_mid at (at + (B - x) - at) store ys)
    run_written = record { size = size; front = front; upto = λ s g l. go s g l (dec_lt (rank_of B s) (rank_of B (snoc p x))); rest = rest }
      where
        size : length (put_mid at (at + (B - x) - at) store ys) ≡ length store₀
        size = same_len_mid at (at + (B - x) - at) store ys same ∙ f.written.size

        front : take start (put_mid at (at + (B - x) - at) store ys) ≡ take start store₀
        front =
            before_earlier start at (put_mid at (at + (B - x) - at) store ys) store (omega (arith, f.place)) (take_put at (at + (B - x) - at) store ys (omega (arith, in_store)))
            ∙ f.written.front

        rest : drop (start + choose B d) (put_mid at (at + (B - x) - at) store ys) ≡ drop (start + choose B d) store₀
        rest =
            past_larger (at + (B - x)) (start + choose B d) (put_mid at (at + (B - x) - at) store ys) store fits
            (drop_put at (at + (B - x)) store ys (omega arith) in_store (same ∙ mid_len at (at + (B - x)) store in_store))
            ∙ f.written.rest

        go : (s : List ℕ) → Subset B d s → rank_of B s < rank_of B (snoc p x) + (B - x) → Dec (rank_of B s < rank_of B (snoc p x))
            → get_or (put_mid at (at + (B - x) - at) store ys) (start + rank_of B s) 0 ≡ all_set bit n s
        go s g l (yes q) =
            part_before at (at + (B - x) - at) (start + rank_of B s) store ys (omega (arith, in_store)) (omega (arith, f.place))
            ∙ f.written.upto s g q
        go s g l (no q) =
            let j = rank_of B s - rank_of B (snoc p x) in
            let low : x + j < B = omega arith in
            let w = along B d p x j pos f.current low in
            let one : s ≡ snoc p (x + j) = (ranks B d).same s (snoc p (x + j)) g w.0 (omega (arith, w.1)) in
            let here : start + rank_of B s ≡ at + j = omega (arith, f.place) in
            let short : j < length (mid_of at (at + (B - x) - at) store) = omega (arith, part_size) in
            ap (λ (i : ℕ). get_or (put_mid at (at + (B - x) - at) store ys) i 0) here
            ∙ part_at at (at + (B - x) - at) j store ys (omega (arith, in_store)) (omega (arith, same))
            ∙ each j short ∙ ap (all_set bit n) (sym one)

  -- ---- the next run, or none

  module _ (store' : List ℕ) (w : Written bit n B d start store₀ (rank_of B (snoc p x) + (B - x)) store') where
    pub next_run : (q : List ℕ) (y : ℕ) → Next B d (snoc p (B - 1)) (snoc q y) → Filled bit n B d start store₀ q y (at + (B - x)) store'
    next_run q y next =
        let step : rank_of B (snoc q y) ≡ rank_of B (snoc p x) + (B - x) = (ranks B d).next (snoc p (B - 1)) (snoc q y) run_last.0 next ∙ run_last.1 in
        record {
          current = next.subset;
          place = omega (arith, f.place);
          written = subst (λ (r : ℕ). Written bit n B d start store₀ r store') (sym step) w;
        }

    pub all_written : Last B d (snoc p (B - 1)) → (at + (B - x) ≡ start + choose B d) × Written bit n B d start store₀ (choose B d) store'
    all_written last =
        let all : rank_of B (snoc p x) + (B - x) ≡ choose B d = sym run_last.1 ∙ (ranks B d).last (snoc p (B - 1)) run_last.0 last in
        (omega (arith, f.place), subst (λ (r : ℕ). Written bit n B d start store₀ r store') all w)

  -- the measure
  pub run_falls : (q : List ℕ) (y : ℕ) → Next B d (snoc p (B - 1)) (snoc q y) → choose B d - rank_of B (snoc q y) < choose B d - rank_of B (snoc p x)
  run_falls q y next =
      omega (arith, (ranks B d).next (snoc p (B - 1)) (snoc q y) run_last.0 next, run_last.1, (ranks B d).below (snoc q y) next.subset)

-- ---- all of the width

-- at each place of the list stands a subset of that rank
pub record Ranked (B d i : ℕ) : Type 0 where
  pub bits : List ℕ
  pub subset : Subset B d bits
  pub rank : rank_of B bits ≡ i

pub of_rank : (B d i : ℕ) → i < choose B d → Ranked B d i
of_rank B d i h =
    let all = subsets B d in
    let room : i < length all = omega (arith, (ranks B d).total) in
    let s = get_or all i [] in
    let here : all ≡ take i all ++ (s ∷ drop (suc i) all) = split_at all i [] room in
    let sub : Subset B d s = (listed B d).sound s (subst (Memᴰ s) (sym here) (Memᴰ.append_right (take i all) (Memᴰ.head refl))) in
    record { bits = s; subset = sub; rank = rank_here B d (take i all) s (drop (suc i) all) here sub.size ∙ length-take-le i all (omega arith) }

pub holds_width : (bit : ℕ → ℕ → ℕ) (n B d start : ℕ) (store₀ store : List ℕ) → 1 ≤ d → start ≡ size_to B (d - 1) → start + choose B d ≤ length store₀
    → HoldsTo bit n B (d - 1) store₀ → Written bit n B d start store₀ (choose B d) store → HoldsTo bit n B d store
unfolding store_to size_to
holds_width bit n B zero start store₀ store pos e room h w = absurd (omega arith)
holds_width bit n B (suc m) start store₀ store pos e room h w =
    let c = choose B (suc m) in
    let f = all_set bit n in
    let q : suc m - 1 ≡ m = omega arith in
    let e' : start ≡ size_to B m = e ∙ ap (size_to B) q in
    let size : length (take c (drop start store)) ≡ c = length-take-le c (drop start store) (omega (arith, length-drop start store, w.size)) in
    let entries : (i : ℕ) → i < length (take c (drop start store)) → get_or (take c (drop start store)) i 0 ≡ get_or (map f (subsets B (suc m))) i 0 =
    (λ i l.
    let low : i < c = omega (arith, size) in
    let r = of_rank B (suc m) i low in
    get_or-take c (drop start store) i 0 low ∙ get_or-drop start store i 0 ∙ ap (λ (u : ℕ). get_or store (start + u) 0) (sym r.rank)
    ∙ w.upto r.bits r.subset (omega (arith, r.rank)) ∙ sym (at_rank f B (suc m) r.bits r.subset) ∙ ap (λ (u : ℕ). get_or (map f (subsets B (suc m))) u 0) r.rank) in
    let new : take c (drop start store) ≡ map f (subsets B (suc m)) =
    ext_get_or 0 (take c (drop start store)) (map f (subsets B (suc m))) (size ∙ sym (length-map (subsets B (suc m)) f ∙ (ranks B (suc m)).total)) entries in
    let old : take start store ≡ store_to bit n B m = w.front ∙ ap (λ (u : ℕ). take u store₀) e ∙ h ∙ ap (store_to bit n B) q in
    ap (λ (u : ℕ). take (u + c) store) (sym e') ∙ take-add start c store ∙ ap₂ (λ (a b : List ℕ). a ++ b) old new

-- no width yet
pub holds_none : (bit : ℕ → ℕ → ℕ) (n B : ℕ) (store : List ℕ) → HoldsTo bit n B 0 store
unfolding store_to size_to
holds_none bit n B store = refl

-- ---- the places of the last subsets

-- those of up to m bits
abbrev pub TopsTo : ℕ → ℕ → List ℕ → Type 0
TopsTo B m run = (d : ℕ) → 1 ≤ d → d ≤ m → get_or run d 0 + 1 ≡ size_to B d

pub tops_next : (B m v : ℕ) (run : List ℕ) → m + 1 < length run → v + 1 ≡ size_to B (m + 1) → TopsTo B m run → TopsTo B (m + 1) (set run (m + 1) v)
tops_next B m v run room e t d pos h = go (ℕ_discrete d (m + 1))
  where
    go : Dec (d ≡ m + 1) → get_or (set run (m + 1) v) d 0 + 1 ≡ size_to B d
    go (yes p) = rw p (ap (λ (x : ℕ). x + 1) (get_or-set_same run (m + 1) v 0 room) ∙ e)
    go (no p) = ap (λ (x : ℕ). x + 1) (get_or-set_other run (m + 1) d v 0 p) ∙ t d pos (omega arith)

-- ---- the rows of the leading bits lie within words that hold B rows

pub rows_leading : (B d S : ℕ) (words p : List ℕ) (x : ℕ) → Subset B d (snoc p x) → B * S ≤ length words → RowsIn words S p
rows_leading B d S words p x g room i h =
    let low : suc (get_or p i 0) ≤ B = omega (arith, get_or-append p (x ∷ []) 0 i h, bits_below B d (snoc p x) g i (omega (arith, length_snoc p x))) in
    omega (arith, mul-le-mul_right S low)
