-- A run: the ways above its bits, its counts, its beginning and the step within it.
use mathlib.Core.Path.{◌≡◌, refl, sym, ap, ap₂, subst, ◌∙◌}
use mathlib.Core.Logic.{◌⊎◌, inl, inr}
use Prim.Native.Nat.{ℕ, zero, suc, ◌+◌, ◌-◌, ◌*◌, ◌^◌, ◌≤◌, ◌<◌, min}
use native.Mathlib.Omega.{arith}
use native.Mathlib.Nat.{le_trans, mul-le-mul_right, pow-suc}
use native.Mathlib.Decide.{dec_lt, ℕ_discrete}
use mathlib.Core.List.{List, [], ◌∷◌, ◌++◌}
use lib.ListN.{length, get_or, take, drop, set, length-set, get_or-append}
use lib.Seq.{take-suc, take-suc-set, take-set-le, take-take, take-append_seam, drop-drop, get_or-append_seam, get_or-set_same, get_or-set_other, get_or-take, length-take-le}
use borrow.Rule.Slice.PartMut.{mid_of, put_mid, mid_len, take_put}
use Rattle.counting.specs.Sample.{count_in, all_set, counts_of, Bits}
use Rattle.counting.specs.Rows.{RowsIn}
use Rattle.counting.proofs.Counts.{get_d_list, count_le}
use Rattle.subsets.specs.Subsets.{Rising, Subset}
use Rattle.subsets.specs.Choose.{choose}
use Rattle.subsets.specs.Rank.{rank_of}
use Rattle.subsets.proofs.Listing.{bits_below}
use Rattle.subsets.proofs.Ranking.{ranks}
use Rattle.subsets.proofs.Carrying.{snoc, length_snoc}
use Rattle.layers.specs.Store.{store_to, size_to, widest, store_size, offset, Holds}
use Rattle.layers.specs.Gather.{Tops, Tables}
use Rattle.layers.specs.Run.{last_bit, leading, Halved, Run}
use Rattle.layers.proofs.Keeping.{keeps}
use Rattle.layers.proofs.Parting.{part_at}
use Rattle.layers.proofs.Sizing.{size_step, size_grows}
use Rattle.layers.proofs.Settling.{joined}

-- ---- binomials

choose_some : (n r : ℕ) → r ≤ n → 1 ≤ choose n r
choose_some n zero h = omega arith
choose_some zero (suc r) h = absurd (omega arith)
choose_some (suc n) (suc r) h = omega (arith, choose_some n r (omega arith))

choose_more : (n r : ℕ) → choose n r ≤ choose (suc n) r
choose_more n zero = omega arith
choose_more n (suc r) = omega arith

choose_below : (m n r : ℕ) → m ≤ n → choose m r ≤ choose n r
choose_below m zero r h = let e : m ≡ 0 = omega arith in omega (arith, ap (λ (x : ℕ). choose x r) e)
choose_below m (suc n) r h = go (ℕ_discrete m (suc n)) (choose_below m n r)
  where
    go : Dec (m ≡ suc n) → (m ≤ n → choose m r ≤ choose n r) → choose m r ≤ choose (suc n) r
    go (yes e) f = omega (arith, ap (λ (x : ℕ). choose x r) e)
    go (no e) f = le_trans (f (omega arith)) (choose_more n r)

pub choose_one : (n : ℕ) → choose n 1 ≡ n
choose_one zero = refl
choose_one (suc n) = omega (arith, choose_one n)

-- fewer than all, of fewer bits
choose_less : (B m r : ℕ) → m < B → 1 ≤ r → r ≤ B → choose m r < choose B r
choose_less zero m r h pos le = absurd (omega arith)
choose_less (suc B) m zero h pos le = absurd (omega arith)
choose_less (suc B) m (suc r) h pos le = omega (arith, choose_below m B (suc r) (omega arith), choose_some B r (omega arith))

-- ---- the ways above a bit

-- as many bits are above bit i as there are entries after it
rising_room : (lo hi : ℕ) (s : List ℕ) → Rising lo hi s → (i : ℕ) → i < length s → get_or s i 0 + length s ≤ hi + i
rising_room lo hi [] r i h = absurd (omega arith)
rising_room lo hi (a ∷ []) r zero h = omega (arith, r.1)
rising_room lo hi (a ∷ []) r (suc i) h = absurd (omega arith)
rising_room lo hi (a ∷ b ∷ s) r zero h = omega (arith, r.2.0, rising_room (suc a) hi (b ∷ s) r.2 0 (omega arith))
rising_room lo hi (a ∷ b ∷ s) r (suc i) h = omega (arith, rising_room (suc a) hi (b ∷ s) r.2 i (omega arith))

pub bit_room : (B : ℕ) (bits : List ℕ) → Subset B (length bits) bits → (i : ℕ) → i < length bits → get_or bits i 0 + length bits ≤ B + i
bit_room B bits s = rising_room 0 B bits s.rising

-- they fit a number of the tables
pub ways_fit : (B : ℕ) (bits : List ℕ) → Subset B (length bits) bits → store_size B (length bits) ≤ 2 ^ 32
    → (i r : ℕ) → i < length bits → r ≤ widest (length bits) → choose (B - 1 - get_or bits i 0) r < 2 ^ 32
ways_fit B bits s few i zero h w = omega arith
ways_fit B bits s few i (suc r) h w =
    let room = bit_room B bits s i h in
    let b = get_or bits i 0 in
    let under : B - 1 - b < B = omega (arith, room) in
    let wide : suc r ≤ B = omega (arith, bit_room B bits s 0 (omega arith)) in
    omega (arith, choose_less B (B - 1 - b) (suc r) under (omega arith) wide, size_step B (suc r) (omega arith), size_grows B (suc r) (widest (length bits)) w)

-- after entry `at`, the ways to choose 1, .., `most` of m; all else is as before
pub record Row (at m most : ℕ) (run₀ run : List ℕ) : Type 0 where
  pub size : length run ≡ length run₀
  pub filled : (r : ℕ) → 1 ≤ r → r ≤ most → get_or run (at + r) 0 ≡ choose m r
  pub spared : (w : ℕ) → (w ≤ at) ⊎ (at + most < w) → get_or run w 0 ≡ get_or run₀ w 0

pub row_none : (at m : ℕ) (run : List ℕ) → Row at m 0 run run
row_none at m run = record { size = refl; filled = λ r p h. absurd (omega arith); spared = λ w h. refl }

pub row_more : (at m r x : ℕ) (run₀ run : List ℕ) → at + (r + 1) < length run → x ≡ choose m (r + 1) → Row at m r run₀ run
    → Row at m (r + 1) run₀ (set run (at + (r + 1)) x)
row_more at m r x run₀ run room e w = record {
  size = length-set run (at + (r + 1)) x ∙ w.size;
  filled = λ q p h. filled q p h (ℕ_discrete q (r + 1));
  spared = λ v h. get_or-set_other run (at + (r + 1)) v x 0 (λ z. apart v h z) ∙ w.spared v (still v h);
}
  where
    apart : (v : ℕ) → (v ≤ at) ⊎ (at + (r + 1) < v) → v ≡ at + (r + 1) → ⊥
    apart v (inl h) z = omega arith
    apart v (inr h) z = omega arith

    still : (v : ℕ) → (v ≤ at) ⊎ (at + (r + 1) < v) → (v ≤ at) ⊎ (at + r < v)
    still v (inl h) = inl h
    still v (inr h) = inr (omega arith)

    filled : (q : ℕ) → 1 ≤ q → q ≤ r + 1 → Dec (q ≡ r + 1) → get_or (set run (at + (r + 1)) x) (at + q) 0 ≡ choose m q
    filled q p h (yes z) = rw z (get_or-set_same run (at + (r + 1)) x 0 room ∙ e)
    filled q p h (no z) = get_or-set_other run (at + (r + 1)) (at + q) x 0 (λ y. omega arith) ∙ w.filled q p (omega arith)

-- the tops, and the ways above the first m of the bits
pub record Ways (B k : ℕ) (bits : List ℕ) (m : ℕ) (run : List ℕ) : Type 0 where
  pub tops : Tops B k run
  pub ways : (i r : ℕ) → i < m → 1 ≤ r → r ≤ widest k → i + r ≤ length bits → get_or run (suc i * 21 + r) 0 ≡ choose (B - 1 - get_or bits i 0) r

pub ways_none : (B k : ℕ) (bits run : List ℕ) → Tops B k run → Ways B k bits 0 run
ways_none B k bits run t = record { tops = t; ways = λ i r h. absurd (omega arith) }

pub ways_all : (B k m : ℕ) (bits run : List ℕ) → length bits ≤ m → Ways B k bits m run → Tables B k bits run
ways_all B k m bits run h w = record { tops = w.tops; ways = λ i r p l s. w.ways i r (omega arith) p l s }

pub ways_more : (B k : ℕ) (bits : List ℕ) (m here : ℕ) (run run' : List ℕ) → length bits ≡ k → k ≤ 20 → m < k → here ≡ min (k - m) (widest k)
    → Row ((m + 1) * 21) (B - 1 - get_or bits m 0) here run run' → Ways B k bits m run → Ways B k bits (m + 1) run'
ways_more B k bits m here run run' size few h e row w = record {
  tops = record {
    room = omega (arith, row.size, w.tops.room);
    top = λ d p l. ap (λ (x : ℕ). x + 1) (row.spared d (inl (omega arith))) ∙ w.tops.top d p l;
  };
  ways = λ i r l p v s. ways i r l p v s (ℕ_discrete i m);
}
  where
    ways : (i r : ℕ) → i < m + 1 → 1 ≤ r → r ≤ widest k → i + r ≤ length bits → Dec (i ≡ m) → get_or run' (suc i * 21 + r) 0 ≡ choose (B - 1 - get_or bits i 0) r
    ways i r l p v s (yes z) =
        let at : suc m * 21 + r ≡ (m + 1) * 21 + r = omega arith in
        rw z (ap (λ (x : ℕ). get_or run' x 0) at ∙ row.filled r p (omega arith))
    ways i r l p v s (no z) = row.spared (suc i * 21 + r) (inl (omega arith)) ∙ w.ways i r (omega arith) p v s

-- ---- the counts of a run

-- the entries before the part that was put back are as they were
pub part_spares : (m at k : ℕ) (xs ys : List ℕ) → m ≤ at → at ≤ length xs → take m (put_mid at k xs ys) ≡ take m xs
part_spares m at k xs ys h l =
    sym (take-take m at (put_mid at k xs ys) h) ∙ ap (take m) (take_put at k xs ys l) ∙ take-take m at xs h

-- counted from the last bit on, where they belong
pub counted_run : (bit : ℕ → ℕ → ℕ) (n B : ℕ) (bits run ys : List ℕ)
    → let x = last_bit bits in
    x < B → 441 + B ≤ length run → length ys ≡ length (mid_of (441 + x) (441 + B - (441 + x)) run)
    → ((j : ℕ) → j < length (mid_of (441 + x) (441 + B - (441 + x)) run) → get_or ys j 0 ≡ all_set bit n (leading bits ++ ((x + j) ∷ [])))
    → (b : ℕ) → x ≤ b → b < B → get_or (put_mid (441 + x) (441 + B - (441 + x)) run ys) (441 + b) 0 ≡ all_set bit n (leading bits ++ (b ∷ []))
counted_run bit n B bits run ys h room size each b l g =
    let x = last_bit bits in
    let k = 441 + B - (441 + x) in
    let at : 441 + x + (b - x) ≡ 441 + b = omega arith in
    let e : x + (b - x) ≡ b = omega arith in
    let inside : b - x < length (mid_of (441 + x) k run) = omega (arith, mid_len (441 + x) (441 + B) run room) in
    ap (λ (i : ℕ). get_or (put_mid (441 + x) k run ys) i 0) (sym at)
    ∙ part_at (441 + x) k (b - x) run ys (omega arith) (omega (arith, size))
    ∙ each (b - x) inside
    ∙ ap (λ (i : ℕ). all_set bit n (leading bits ++ (i ∷ []))) e

-- the store begins with the counts of the single bits
pub store_room : (B k : ℕ) → B ≤ store_size B k
unfolding size_to
store_room B k = omega (arith, choose_one B, size_grows B 1 (widest k) (omega arith))

single_rank : (B b : ℕ) → b < B → Subset B 1 (b ∷ []) × (rank_of B (b ∷ []) ≡ b)
single_rank B b h =
    let s : Subset B 1 (b ∷ []) = record { size = refl; rising = (omega arith, h, tt) } in
    (s, omega (arith, (ranks B 1).whole (b ∷ []) s, choose_one B, choose_one (B - 1 - b)))

pub single_at : (bit : ℕ → ℕ → ℕ) (n B k : ℕ) (store : List ℕ) → Holds bit n B k store → (b : ℕ) → b < B → get_or store b 0 ≡ all_set bit n (b ∷ [])
unfolding size_to
single_at bit n B k store holds b h =
    let w = single_rank B b h in
    let e : offset B 1 + rank_of B (b ∷ []) ≡ b = omega (arith, w.1) in
    let wide : 1 ≤ widest k = omega arith in
    sym (get_or-take (store_size B k) store b 0 (omega (arith, store_room B k)))
    ∙ ap (λ (l : List ℕ). get_or l b 0) holds.entries
    ∙ ap (λ (i : ℕ). get_or (store_to bit n B (widest k)) i 0) (sym e)
    ∙ (keeps bit n B k).entry 1 (b ∷ []) (omega arith) wide w.0

pub counted_single : (bit : ℕ → ℕ → ℕ) (n B : ℕ) (bits run store ys : List ℕ) → length bits - 1 ≡ 0 → 441 + B ≤ length run → Holds bit n B (length bits) store
    → ys ≡ take B store → (b : ℕ) → b < B → get_or (put_mid 441 (441 + B - 441) run ys) (441 + b) 0 ≡ all_set bit n (leading bits ++ (b ∷ []))
counted_single bit n B bits run store ys one room holds is b h =
    let size : length ys ≡ B = ap length is ∙ length-take-le B store (omega (arith, store_room B (length bits), holds.roomy.room)) in
    part_at 441 (441 + B - 441) b run ys (omega arith) (omega (arith, size))
    ∙ ap (λ (l : List ℕ). get_or l b 0) is ∙ get_or-take B store b 0 h
    ∙ single_at bit n B (length bits) store holds b h
    ∙ ap (λ (j : ℕ). all_set bit n (take j bits ++ (b ∷ []))) (sym one)

-- the rows of a subset's bits lie within words that hold B rows
pub rows_in : (B d S : ℕ) (words s : List ℕ) → Subset B d s → B * S ≤ length words → RowsIn words S s
rows_in B d S words s g room i h =
    let low : suc (get_or s i 0) ≤ B = bits_below B d s g i h in
    omega (arith, mul-le-mul_right S low)

-- ---- the tables stand in the first 441 entries

first_stay : (w : ℕ) (run run' : List ℕ) → w < 441 → take 441 run' ≡ take 441 run → get_or run' w 0 ≡ get_or run w 0
first_stay w run run' h e = sym (get_or-take 441 run' w 0 h) ∙ ap (λ (l : List ℕ). get_or l w 0) e ∙ get_or-take 441 run w 0 h

pub tables_stay : (B k : ℕ) (bits run run' : List ℕ) → k ≤ 20 → length bits ≤ 20 → length run' ≡ length run → take 441 run' ≡ take 441 run → Tables B k bits run → Tables B k bits run'
tables_stay B k bits run run' few short size e t = record {
  tops = record {
    room = omega (arith, t.tops.room);
    top = λ d p l. ap (λ (x : ℕ). x + 1) (first_stay d run run' (omega arith) e) ∙ t.tops.top d p l;
  };
  ways = λ i r p l s. first_stay (suc i * 21 + r) run run' (omega arith) e ∙ t.ways i r p l s;
}

pub tops_of : (bit : ℕ → ℕ → ℕ) (n B k : ℕ) (bits run : List ℕ) → length bits ≡ k → Run bit n B bits run → Tops B k run
tops_of bit n B k bits run e r = subst (λ (m : ℕ). Tops B m run) e r.tables.tops

-- ---- the last bit and those before it

leading_snoc : (p : List ℕ) (x : ℕ) → leading (snoc p x) ≡ p
leading_snoc p x =
    let e : length (snoc p x) - 1 ≡ length p = omega (arith, length_snoc p x) in
    ap (λ (k : ℕ). take k (snoc p x)) e ∙ take-append_seam p (x ∷ [])

last_snoc : (p : List ℕ) (x : ℕ) → last_bit (snoc p x) ≡ x
last_snoc p x =
    let e : length (snoc p x) - 1 ≡ length p = omega (arith, length_snoc p x) in
    ap (λ (k : ℕ). get_or (snoc p x) k 0) e ∙ get_or-append_seam p x [] 0

-- ---- one step further in a run: the counts stand, and one entry of the tables is another

tables_step : (B k : ℕ) (p : List ℕ) (x : ℕ) (run : List ℕ) → k ≡ suc (length p) → k ≤ 20 → Tables B k (snoc p x) run → Tables B k (snoc p (suc x)) (set run (k * 21 + 1) (B - 1 - suc x))
tables_step B k p x run e few t = record {
  tops = record {
    room = omega (arith, t.tops.room, length-set run at new);
    top = λ d q l. ap (λ (y : ℕ). y + 1) (other d (omega arith)) ∙ t.tops.top d q l;
  };
  ways = λ i r q l s. ways i r q l s (dec_lt i (length p));
}
  where
    at : ℕ
    at = k * 21 + 1

    new : ℕ
    new = B - 1 - suc x

    other : (w : ℕ) → w < at → get_or (set run at new) w 0 ≡ get_or run w 0
    other w h = get_or-set_other run at w new 0 (λ z. omega arith)

    ways : (i r : ℕ) → 1 ≤ r → r ≤ widest k → i + r ≤ length (snoc p (suc x)) → Dec (i < length p) → get_or (set run at new) (suc i * 21 + r) 0 ≡ choose (B - 1 - get_or (snoc p (suc x)) i 0) r
    ways i r q l s (yes h) =
        other (suc i * 21 + r) (omega arith) ∙ t.ways i r q l (omega (arith, length_snoc p x, length_snoc p (suc x)))
        ∙ ap (λ (b : ℕ). choose (B - 1 - b) r) (get_or-append p (x ∷ []) 0 i h ∙ sym (get_or-append p (suc x ∷ []) 0 i h))
    ways i r q l s (no h) =
        let last : i ≡ length p = omega (arith, length_snoc p (suc x)) in
        let one : r ≡ 1 = omega (arith, length_snoc p (suc x)) in
        let here : suc (length p) * 21 + 1 ≡ at = omega arith in
        rw (last, one)
        (ap (λ (w : ℕ). get_or (set run at new) w 0) here
        ∙ get_or-set_same run at new 0 (omega (arith, t.tops.room))
        ∙ sym (ap (λ (b : ℕ). choose (B - 1 - b) 1) (get_or-append_seam p (suc x) [] 0) ∙ choose_one (B - 1 - suc x)))

step : (bit : ℕ → ℕ → ℕ) (n B k : ℕ) (p : List ℕ) (x : ℕ) (run : List ℕ) → k ≡ suc (length p) → k ≤ 20 → Run bit n B (snoc p x) run
    → Run bit n B (snoc p (suc x)) (set run (k * 21 + 1) (B - 1 - suc x))
step bit n B k p x run e few r = record {
  tables =
      subst (λ (m : ℕ). Tables B m (snoc p (suc x)) (set run (k * 21 + 1) (B - 1 - suc x))) (e ∙ sym (length_snoc p (suc x)))
      (tables_step B k p x run e few (subst (λ (m : ℕ). Tables B m (snoc p x) run) (length_snoc p x ∙ sym e) r.tables));
  counted = λ b h g.
      get_or-set_other run (k * 21 + 1) (441 + b) (B - 1 - suc x) 0 (λ z. omega arith)
      ∙ r.counted b (omega (arith, last_snoc p x, last_snoc p (suc x))) g
      ∙ ap (λ (q : List ℕ). all_set bit n (snoc q b)) (leading_snoc p x ∙ sym (leading_snoc p (suc x)));
}

-- as the code has it: the bits are the first k entries of an array
pub stepped : (bit : ℕ → ℕ → ℕ) (n B k q v : ℕ) (l run : List ℕ) → k ≡ suc q → k ≤ 20 → k ≤ length l → v ≡ suc (get_or l q 0)
    → Run bit n B (take k l) run → Run bit n B (take k (set l q v)) (set run (k * 21 + 1) (B - 1 - v))
stepped bit n B k q v l run e few room f r =
    let inside : q < length l = omega arith in
    let size : length (take q l) ≡ q = length-take-le q l (omega arith) in
    let old : take k l ≡ snoc (take q l) (get_or l q 0) = ap (λ (m : ℕ). take m l) e ∙ take-suc l q 0 inside in
    let new : take k (set l q v) ≡ snoc (take q l) (suc (get_or l q 0)) = ap (λ (m : ℕ). take m (set l q v)) e ∙ take-suc-set l q v inside ∙ ap (snoc (take q l)) f in
    rw (new, f) (step bit n B k (take q l) (get_or l q 0) run (omega arith) few (subst (λ (m : List ℕ). Run bit n B m run) old r))

-- ---- the bins of the bits, put together to those of the leading bits

module _ (bit : ℕ → ℕ → ℕ) (n k q : ℕ) (l bins : List ℕ) (e : k ≡ suc q) (room : k ≤ length l) (held : take (2 ^ k) bins ≡ counts_of bit n (take k l)) where
  size : length (take k l) ≡ k
  size = length-take-le k l room

  twice : 2 ^ k ≡ 2 * 2 ^ q
  twice = ap (λ (m : ℕ). 2 ^ m) e ∙ pow-suc 2 q ∙ omega arith

  bin_at : (u : ℕ) → u < 2 ^ k → get_or bins u 0 ≡ count_in bit n (take k l) u
  unfolding counts_of
  bin_at u h =
      let below : u < 2 ^ length (take k l) = rw size h in
      sym (get_or-take (2 ^ k) bins u 0 h) ∙ ap (λ (m : List ℕ). get_or m u 0) held ∙ get_d_list (2 ^ length (take k l)) (count_in bit n (take k l)) u below

  -- two bins together fit a count
  pub pair_fits : (half v : ℕ) → half ≡ 2 ^ q → n ≤ 16777216 → v < half → get_or bins v 0 + get_or bins (half + v) 0 < 4294967296
  pair_fits half v g few h =
      omega (
        arith,
        bin_at v (omega (arith, twice)),
        bin_at (half + v) (omega (arith, twice)),
        count_le bit n (take k l) v,
        count_le bit n (take k l) (half + v),
      )

  pub halved : Bits bit → (half v : ℕ) (bins' : List ℕ) → half ≡ 2 ^ q → ((u : ℕ) → u < half → get_or bins' u 0 ≡ get_or bins u 0 + get_or bins (half + u) 0)
      → Halved bit n (take k (set l q v)) bins'
  halved two half v bins' g sums u h =
      let new : length (take k (set l q v)) ≡ k = length-take-le k (set l q v) (omega (arith, length-set l q v)) in
      let less : length (take k (set l q v)) - 1 ≡ q = omega (arith, new) in
      let below : u < 2 ^ q = rw less at h in
      let same : leading (take k (set l q v)) ≡ take q (take k l) =
      ap (λ (m : ℕ). take m (take k (set l q v))) less ∙ take-take q k (set l q v) (omega arith) ∙ take-set-le q l q v (omega arith) ∙ sym (take-take q k l (omega arith)) in
      let high : get_or bins (half + u) 0 ≡ count_in bit n (take k l) (2 ^ q + u) = bin_at (half + u) (omega (arith, twice)) ∙ ap (λ (w : ℕ). count_in bit n (take k l) (w + u)) g in
      sums u (omega arith)
      ∙ ap₂ ◌+◌ (bin_at u (omega (arith, twice))) high
      ∙ sym (joined bit two n (take k l) q u (size ∙ e) below)
      ∙ ap (λ (m : List ℕ). count_in bit n m u) (sym same)

  -- past the bins nothing has changed
  pub past_bins : (half : ℕ) (bins' : List ℕ) → half ≡ 2 ^ q → drop half bins' ≡ drop half bins → drop (2 ^ k) bins' ≡ drop (2 ^ k) bins
  past_bins half bins' g same =
      let split : half + (2 ^ k - half) ≡ 2 ^ k = omega (arith, twice) in
      ap (λ (x : ℕ). drop x bins') (sym split) ∙ sym (drop-drop (2 ^ k - half) half bins') ∙ ap (drop (2 ^ k - half)) same ∙ drop-drop (2 ^ k - half) half bins ∙ ap (λ (x : ℕ). drop x bins) split
