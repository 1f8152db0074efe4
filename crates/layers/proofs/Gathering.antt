-- The entries that the subsets of a subset have in the store: where each stands, and the loop that reads them.
use mathlib.Core.Path.{◌≡◌, refl, sym, ap, ap₂, subst, ◌∙◌}
use mathlib.Core.Logic.{◌⊎◌, inl, inr}
use Prim.Native.Nat.{ℕ, suc, ◌+◌, ◌-◌, ◌*◌, ◌%◌, ◌^◌, ◌≤◌, ◌<◌, max}
use native.Mathlib.Omega.{arith}
use native.Mathlib.Decide.{ℕ_discrete, dec_lt}
use mathlib.Core.List.{List}
use lib.Count.{ones, count_trailing_zeros}
use lib.ListN.{length, get_or, set, length-set}
use lib.Pow.{pow_pos}
use lib.Seq.{get_or-set_same, get_or-set_other, get_or-take}
use Rattle.counting.specs.Sample.{all_set}
use Rattle.subsets.specs.Subsets.{Subset}
use Rattle.subsets.specs.Choose.{choose}
use Rattle.subsets.specs.Rank.{rank_of, ways_above}
use Rattle.subsets.proofs.Ranking.{ranks}
use Rattle.layers.specs.Store.{size_to, widest, store_size, offset, Roomy, Holds}
use Rattle.layers.specs.Settle.{chosen}
use Rattle.layers.specs.Gather.{Tables, Gathered, Spared}
use Rattle.layers.proofs.Keeping.{keeps}
use Rattle.layers.proofs.Sizing.{size_step, size_grows}
use Rattle.layers.proofs.Picking.{none_chosen, length_chosen, subset_chosen, Lowest, lowest, highest_stays, odd_lowest, even_lowest, ones_odd, ones_even, ones_both}

-- ---- one entry

-- what a turn at u, with i its lowest one and d the number of its ones, needs and reads
pub record Turn (B k : ℕ) (bits store run : List ℕ) (u i d : ℕ) : Type 0 where
  pub place : i < length bits
  pub has : 2 ^ i ≤ u
  pub some : 1 ≤ d
  pub width : d ≤ widest k
  pub top_in : d < length run
  pub way_in : (i + 1) * 21 + d < length run
  pub part : get_or run ((i + 1) * 21 + d) 0 + ways_above B (chosen bits (u - 2 ^ i)) ≡ ways_above B (chosen bits u)
  pub small : ways_above B (chosen bits u) < 2 ^ 32
  pub under_top : ways_above B (chosen bits u) ≤ get_or run d 0
  pub inside : get_or run d 0 - ways_above B (chosen bits u) < length store
  pub entry : (bit : ℕ → ℕ → ℕ) (n : ℕ) → Holds bit n B k store
      → get_or store (get_or run d 0 - ways_above B (chosen bits u)) 0 ≡ all_set bit n (chosen bits u)

module _ (B k : ℕ) (bits store run : List ℕ) (short : length bits ≤ 20) (narrow : k ≤ 20) (subset : Subset B (length bits) bits)
    (roomy : Roomy B k (length store)) (tables : Tables B k bits run) where
  pub turn : (u : ℕ) → 1 ≤ u → u < 2 ^ length bits → length (chosen bits u) ≤ widest k → Turn B k bits store run u (count_trailing_zeros 32 u) (ones u)
  turn u pos below fit = record {
    place = low.inside;
    has = low.has;
    some = some;
    width = width;
    top_in = omega (arith, width, tables.tops.room);
    way_in = omega (arith, low.inside, width, tables.tops.room);
    part = part;
    small = omega (arith, ranked, step, fits, roomy.few);
    under_top = omega (arith, ranked, step, tables.tops.top d some width);
    inside = omega (arith, at_rank, (keeps (λ x y. 0) 0 B k).inside d s some width own, roomy.room);
    entry = entry;
  }
    where
      i : ℕ
      i = count_trailing_zeros 32 u

      d : ℕ
      d = ones u

      s : List ℕ
      s = chosen bits u

      low : Lowest bits u i
      low = lowest 32 bits u (omega arith) (omega arith) below

      size : length s ≡ d
      size = length_chosen bits u below

      some : 1 ≤ d
      some = omega (arith, size, ap length low.parts)

      width : d ≤ widest k
      width = omega (arith, size, fit)

      own : Subset B d s
      own = subst (λ (x : ℕ). Subset B x s) size (subset_chosen B bits u subset)

      ranked : rank_of B s + 1 + ways_above B s ≡ choose B d
      ranked = (ranks B d).whole s own

      step : size_to B d ≡ offset B d + choose B d
      step = size_step B d some

      fits : size_to B d ≤ store_size B k
      fits = size_grows B d (widest k) width

      part : get_or run ((i + 1) * 21 + d) 0 + ways_above B (chosen bits (u - 2 ^ i)) ≡ ways_above B s
      part =
          let rest : List ℕ = chosen bits (u - 2 ^ i) in
          let a : ℕ = get_or bits i 0 in
          let r : suc (length rest) ≡ d = sym (ap length low.parts) ∙ size in
          let at : (i + 1) * 21 + d ≡ suc i * 21 + d = omega arith in
          let c : get_or run ((i + 1) * 21 + d) 0 ≡ choose (B - 1 - a) d =
          ap (λ (x : ℕ). get_or run x 0) at ∙ tables.ways i d some width (omega (arith, low.few, size)) in
          ap (λ (x : ℕ). x + ways_above B rest) (c ∙ ap (choose (B - 1 - a)) (sym r)) ∙ sym (ap (ways_above B) low.parts)

      at_rank : get_or run d 0 - ways_above B s ≡ offset B d + rank_of B s
      at_rank = omega (arith, ranked, step, tables.tops.top d some width)

      entry : (bit : ℕ → ℕ → ℕ) (n : ℕ) → Holds bit n B k store → get_or store (get_or run d 0 - ways_above B s) 0 ≡ all_set bit n s
      entry bit n holds =
          let kept = keeps bit n B k in
          let at : ℕ = offset B d + rank_of B s in
          ap (λ (x : ℕ). get_or store x 0) at_rank
          ∙ sym (get_or-take (store_size B k) store at 0 (kept.inside d s some width own))
          ∙ ap (λ (l : List ℕ). get_or l at 0) holds.entries ∙ kept.entry d s some width own

-- ---- one entry, from places of the run

-- what is read for u where its size's last place stands at t, its ways at y, and x is the part of u without its lowest one
pub record Entry (B k : ℕ) (bits store run : List ℕ) (u t y x : ℕ) : Type 0 where
  pub top_in : t < length run
  pub way_in : y < length run
  pub part : get_or run y 0 + x ≡ ways_above B (chosen bits u)
  pub small : get_or run y 0 + x < 2 ^ 32
  pub under_top : get_or run y 0 + x ≤ get_or run t 0
  pub inside : get_or run t 0 - (get_or run y 0 + x) < length store
  pub entry : (bit : ℕ → ℕ → ℕ) (n : ℕ) → Holds bit n B k store → get_or store (get_or run t 0 - (get_or run y 0 + x)) 0 ≡ all_set bit n (chosen bits u)

entry_at : (B k : ℕ) (bits store run : List ℕ) (u i d t y x : ℕ) → Turn B k bits store run u i d → t ≡ d → y ≡ (i + 1) * 21 + d
    → x ≡ ways_above B (chosen bits (u - 2 ^ i)) → Entry B k bits store run u t y x
entry_at B k bits store run u i d t y x h et ey ex =
    let all : ℕ = ways_above B (chosen bits u) in
    let top : get_or run t 0 ≡ get_or run d 0 = ap (λ (a : ℕ). get_or run a 0) et in
    let part : get_or run y 0 + x ≡ all = ap₂ (λ (a b : ℕ). get_or run a 0 + b) ey ex ∙ h.part in
    let at : get_or run t 0 - (get_or run y 0 + x) ≡ get_or run d 0 - all = omega arith in
    record {
      top_in = omega (arith, h.top_in);
      way_in = omega (arith, h.way_in);
      part = part;
      small = omega (arith, h.small);
      under_top = omega (arith, h.under_top);
      inside = omega (arith, h.inside);
      entry = λ bit n holds. ap (λ (a : ℕ). get_or store a 0) at ∙ h.entry bit n holds;
    }

module _ (B k : ℕ) (bits store run : List ℕ) (short : length bits ≤ 20) (narrow : k ≤ 20) (subset : Subset B (length bits) bits)
    (roomy : Roomy B k (length store)) (tables : Tables B k bits run) (u x : ℕ) where
  entry_of : (w t y : ℕ) → 1 ≤ w → w < 2 ^ length bits → length (chosen bits w) ≤ widest k → t ≡ ones w → y ≡ (count_trailing_zeros 32 w + 1) * 21 + ones w
      → x ≡ ways_above B (chosen bits (w - 2 ^ count_trailing_zeros 32 w)) → Entry B k bits store run w t y x
  entry_of w t y pos below fit =
      entry_at B k bits store run w (count_trailing_zeros 32 w) (ones w) t y x (turn B k bits store run short narrow subset roomy tables w pos below fit)

  pub own_entry : 1 ≤ u → u < 2 ^ length bits → length (chosen bits u) ≤ widest k → x ≡ ways_above B (chosen bits (u - 2 ^ count_trailing_zeros 32 u))
      → Entry B k bits store run u (ones u) ((count_trailing_zeros 32 u + 1) * 21 + ones u) x
  own_entry pos below fit e = entry_of u (ones u) ((count_trailing_zeros 32 u + 1) * 21 + ones u) pos below fit refl refl e

  -- those of the three numbers after a multiple of 4, from its ones
  pub second_entry : u % 4 ≡ 0 → u + 1 < 2 ^ length bits → length (chosen bits (u + 1)) ≤ widest k → x ≡ ways_above B (chosen bits u)
      → Entry B k bits store run (u + 1) (ones u + 1) (22 + ones u) x
  second_entry four below fit e =
      let z : count_trailing_zeros 32 (u + 1) ≡ 0 = odd_lowest 31 (u + 1) (omega arith) in
      let o : ones (u + 1) ≡ ones u + 1 = ones_odd u (omega arith) in
      let v : u ≡ u + 1 - 2 ^ count_trailing_zeros 32 (u + 1) = omega (arith, ap (λ (a : ℕ). 2 ^ a) z) in
      entry_of (u + 1) (ones u + 1) (22 + ones u) (omega arith) below fit (sym o) (omega arith) (e ∙ ap (λ (a : ℕ). ways_above B (chosen bits a)) v)

  pub third_entry : u % 4 ≡ 0 → u + 2 < 2 ^ length bits → length (chosen bits (u + 2)) ≤ widest k → x ≡ ways_above B (chosen bits u)
      → Entry B k bits store run (u + 2) (ones u + 1) (43 + ones u) x
  third_entry four below fit e =
      let z : count_trailing_zeros 32 (u + 2) ≡ 1 = even_lowest 30 (u + 2) (omega arith) in
      let o : ones (u + 2) ≡ ones u + 1 = ones_even u four in
      let v : u ≡ u + 2 - 2 ^ count_trailing_zeros 32 (u + 2) = omega (arith, ap (λ (a : ℕ). 2 ^ a) z) in
      entry_of (u + 2) (ones u + 1) (43 + ones u) (omega arith) below fit (sym o) (omega arith) (e ∙ ap (λ (a : ℕ). ways_above B (chosen bits a)) v)

  pub fourth_entry : u % 4 ≡ 0 → u + 3 < 2 ^ length bits → length (chosen bits (u + 3)) ≤ widest k → x ≡ ways_above B (chosen bits (u + 2))
      → Entry B k bits store run (u + 3) (ones u + 2) (23 + ones u) x
  fourth_entry four below fit e =
      let z : count_trailing_zeros 32 (u + 3) ≡ 0 = odd_lowest 31 (u + 3) (omega arith) in
      let o : ones (u + 3) ≡ ones u + 2 = ones_both u four in
      let v : u + 2 ≡ u + 3 - 2 ^ count_trailing_zeros 32 (u + 3) = omega (arith, ap (λ (a : ℕ). 2 ^ a) z) in
      entry_of (u + 3) (ones u + 2) (23 + ones u) (omega arith) below fit (sym o) (omega arith) (e ∙ ap (λ (a : ℕ). ways_above B (chosen bits a)) v)

-- ---- the loops

-- the part of 0, and those of the multiples of `step` from `from` to before u
pub record Parts (B : ℕ) (bits parts₀ : List ℕ) (from step u : ℕ) (parts : List ℕ) : Type 0 where
  pub size : length parts ≡ length parts₀
  pub none : get_or parts 0 0 ≡ 0
  pub known : (w : ℕ) → from ≤ w → w < u → w % step ≡ 0 → get_or parts w 0 ≡ ways_above B (chosen bits w)
  pub rest : (w : ℕ) → 2 ^ length bits ≤ w → get_or parts w 0 ≡ get_or parts₀ w 0

pub parts_none : (B : ℕ) (bits parts : List ℕ) (from step : ℕ) → get_or parts 0 0 ≡ 0 → Parts B bits parts from step from parts
parts_none B bits parts from step e = record { size = refl; none = e; known = λ w l h z. absurd (omega arith); rest = λ w h. refl }

module _ (B : ℕ) (bits parts₀ : List ℕ) (from step u : ℕ) (parts : List ℕ) (r : Parts B bits parts₀ from step u parts) where
  -- the part of u without its lowest one is known
  pub part_before : from ≡ 2 ^ (length bits - 1) → 1 ≤ length bits → length bits ≤ 20 → from ≤ u → u < 2 ^ length bits
      → (u - 2 ^ count_trailing_zeros 32 u) % step ≡ 0 → get_or parts (u - 2 ^ count_trailing_zeros 32 u) 0 ≡ ways_above B (chosen bits (u - 2 ^ count_trailing_zeros 32 u))
  part_before f some short l h z =
      let m : ℕ = length bits - 1 in
      let e : length bits ≡ suc m = omega arith in
      let to : u < 2 ^ suc m = subst (λ (x : ℕ). u < 2 ^ x) e h in
      go (highest_stays 32 m u (omega arith) (omega arith) to)
    where
      v : ℕ
      v = u - 2 ^ count_trailing_zeros 32 u

      go : (v ≡ 0) ⊎ (2 ^ (length bits - 1) ≤ v) → get_or parts v 0 ≡ ways_above B (chosen bits v)
      go (inl q) = rw q (r.none ∙ sym (ap (ways_above B) (none_chosen bits)))
      go (inr q) = r.known v (omega arith) (omega (arith, pow_pos (count_trailing_zeros 32 u), pow_pos (length bits - 1))) z

  -- u is the only multiple of `step` before v
  pub parts_more : (v x : ℕ) → 1 ≤ from → from ≤ u → u < 2 ^ length bits → u < length parts → ((w : ℕ) → u ≤ w → w < v → w % step ≡ 0 → w ≡ u)
      → x ≡ ways_above B (chosen bits u) → Parts B bits parts₀ from step v (set parts u x)
  parts_more v x pos later below inside only e = record {
    size = length-set parts u x ∙ r.size;
    none = get_or-set_other parts u 0 x 0 (λ q. omega arith) ∙ r.none;
    known = λ w l h z. known w l h z (ℕ_discrete w u);
    rest = λ w h. get_or-set_other parts u w x 0 (λ q. omega arith) ∙ r.rest w h;
  }
    where
      known : (w : ℕ) → from ≤ w → w < v → w % step ≡ 0 → Dec (w ≡ u) → get_or (set parts u x) w 0 ≡ ways_above B (chosen bits w)
      known w l h z (yes p) = rw p (get_or-set_same parts u x 0 inside ∙ e)
      known w l h z (no p) = get_or-set_other parts u w x 0 p ∙ r.known w l (under (dec_lt w u)) z
        where
          under : Dec (w < u) → w < u
          under (yes q) = q
          under (no q) = absurd (p (only w (omega arith) h z))

-- from `from` to before u the entries are read
pub record Entries (B k : ℕ) (bits store bins₀ : List ℕ) (from u : ℕ) (bins : List ℕ) : Type 0 where
  pub size : length bins ≡ length bins₀
  pub gathered : (bit : ℕ → ℕ → ℕ) (n : ℕ) → Holds bit n B k store → Gathered bit n bits from u bins
  pub spared : Spared from u bins₀ bins

pub entries_none : (B k : ℕ) (bits store bins : List ℕ) (from : ℕ) → Entries B k bits store bins from from bins
entries_none B k bits store bins from = record { size = refl; gathered = λ bit n holds w l h. absurd (omega arith); spared = λ w h. refl }

module _ (B k : ℕ) (bits store bins₀ : List ℕ) (from u : ℕ) (bins : List ℕ) (r : Entries B k bits store bins₀ from u bins) where
  pub entries_more : (v y : ℕ) → v ≡ u + 1 → from ≤ u → u < length bins₀
      → ((bit : ℕ → ℕ → ℕ) (n : ℕ) → Holds bit n B k store → y ≡ all_set bit n (chosen bits u)) → Entries B k bits store bins₀ from v (set bins u y)
  entries_more v y e later inside f = record {
    size = length-set bins u y ∙ r.size;
    gathered = λ bit n holds w l h. filled bit n holds w l h (ℕ_discrete w u);
    spared = λ w h. spared w h;
  }
    where
      filled : (bit : ℕ → ℕ → ℕ) (n : ℕ) → Holds bit n B k store → (w : ℕ) → from ≤ w → w < v → Dec (w ≡ u)
          → get_or (set bins u y) w 0 ≡ all_set bit n (chosen bits w)
      filled bit n holds w l h (yes p) = rw p (get_or-set_same bins u y 0 (omega (arith, r.size)) ∙ f bit n holds)
      filled bit n holds w l h (no p) = get_or-set_other bins u w y 0 p ∙ r.gathered bit n holds w l (omega arith)

      spared : (w : ℕ) → (w < from) ⊎ (v ≤ w) → get_or (set bins u y) w 0 ≡ get_or bins₀ w 0
      spared w (inl h) = get_or-set_other bins u w y 0 (λ q. omega arith) ∙ r.spared w (inl h)
      spared w (inr h) = get_or-set_other bins u w y 0 (λ q. omega arith) ∙ r.spared w (inr (omega arith))

-- three at once
pub entries_three : (B k : ℕ) (bits store bins₀ : List ℕ) (from u : ℕ) (bins : List ℕ) → Entries B k bits store bins₀ from u bins → (v x y z : ℕ) → v ≡ u + 3
    → from ≤ u → u + 2 < length bins₀
    → ((bit : ℕ → ℕ → ℕ) (n : ℕ) → Holds bit n B k store → x ≡ all_set bit n (chosen bits u))
    → ((bit : ℕ → ℕ → ℕ) (n : ℕ) → Holds bit n B k store → y ≡ all_set bit n (chosen bits (u + 1)))
    → ((bit : ℕ → ℕ → ℕ) (n : ℕ) → Holds bit n B k store → z ≡ all_set bit n (chosen bits (u + 2)))
    → Entries B k bits store bins₀ from v (set (set (set bins u x) (u + 1) y) (u + 2) z)
entries_three B k bits store bins₀ from u bins r v x y z e later inside f g h =
    let one = entries_more B k bits store bins₀ from u bins r (u + 1) x refl later (omega arith) f in
    let two = entries_more B k bits store bins₀ from (u + 1) (set bins u x) one (u + 2) y (omega arith) (omega arith) (omega arith) g in
    entries_more B k bits store bins₀ from (u + 2) (set (set bins u x) (u + 1) y) two v z (omega arith) (omega arith) (omega arith) h

-- what is not in a loop's stretch, up to `end`, is not in that of the entries read
pub outside : (from end u w : ℕ) → u ≤ max from end → (w < from) ⊎ (end ≤ w) → (w < from) ⊎ (u ≤ w)
outside from end u w h (inl l) = inl l
outside from end u w h (inr l) = go (dec_lt w from)
  where
    go : Dec (w < from) → (w < from) ⊎ (u ≤ w)
    go (yes q) = inl q
    go (no q) = inr (omega arith)
