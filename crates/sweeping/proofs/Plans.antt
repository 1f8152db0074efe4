-- Every plan is sound: its pairs have valid block sizes and widths that fit them.
use mathlib.Core.Path.{◌≡◌, refl, sym, ap, subst, ◌∙◌}
use mathlib.Core.Bool.{Bool, true, false, cond, ◌&&◌}
use mathlib.Core.List.{List, [], ◌∷◌}
use Prim.Native.Nat.{ℕ, zero, suc, ◌-◌, ◌*◌, ◌%◌, ◌≤◌, ◌<◌, max}
use native.Mathlib.Omega.{arith}
use lib.Dec.{leb, ltb, eqb}
use lib.ListN.{length, get_or, replicate, take, length-map, get_or-append}
use borrow.Author.Tests.{le-leb, eq-eqb, leb-true}
use Rattle.std.specs.Prelude.{Ok}
use Rattle.std.proofs.lemmas.List.{get_or-take, get_or-map}
use Rattle.counting.specs.Block.{valid_size}
use Rattle.counting.proofs.Accepted.{valid_facts}
use Rattle.ranking.proofs.Totals.{map_at}
use Rattle.judging.specs.Plan.{width_for, besides_eight, sizes_from, sizes_of, widths_of, sizes_in, widths_in, as_plan, plan_of, Sweeps}
use Rattle.judging.specs.declared.plan.Plan as code
use Rattle.judging.specs.declared.plan.Planned.{Planned}
use Rattle.judging.proofs.Sweeping.{sweeps, pairs_are, block_at}
use Rattle.sweeping.specs.Pair.{pair_at, Sizes, Sound}
use Rattle.sweeping.specs.Refusal.{pair_refusal}
use Rattle.sweeping.specs.declared.pair.Pair.{Pair}
use Rattle.sweeping.specs.declared.refusal.Room.{Room}

-- ---- block sizes

valid_size_is : (B : ℕ) → B % 8 ≡ 0 → 8 ≤ B → B ≤ 4096 → valid_size B ≡ true
unfolding valid_size
valid_size_is B whole low high = simp (eq-eqb _ _ whole, le-leb _ _ low, le-leb _ _ high)

-- every entry of a list is a valid size
abbrev AllValid : List ℕ → Type 0
AllValid l = (i : ℕ) → i < length l → valid_size (get_or l i 0) ≡ true

none_valid : AllValid []
none_valid i h = absurd (omega arith)

one_valid : (size : ℕ) (l : List ℕ) → valid_size size ≡ true → AllValid l → AllValid (size ∷ l)
one_valid size l ok rest zero h = ok
one_valid size l ok rest (suc i) h = rest i (omega arith)

besides_valid : (t : Bool) (size : ℕ) (l : List ℕ) → valid_size size ≡ true → AllValid l → AllValid (cond t l (size ∷ l))
besides_valid true size l ok rest = rest
besides_valid false size l ok rest = one_valid size l ok rest

-- the sizes up to a top of 4,096 are valid
sizes_valid : (n top size : ℕ) → size % 8 ≡ 0 → 8 ≤ size → top ≤ 4096 → AllValid (sizes_from n top size)
unfolding sizes_from
sizes_valid zero top size whole low high = none_valid
sizes_valid (suc n) top size whole low high =
    let whole' : 2 * size % 8 ≡ 0 = omega arith in
    let low' : 8 ≤ 2 * size = omega arith in
    by_top (sizes_valid n top (2 * size) whole' low' high) (leb size top) refl
  where
    by_top : AllValid (sizes_from n top (2 * size)) → (t : Bool) → leb size top ≡ t → AllValid (cond t (besides_eight size (sizes_from n top (2 * size))) [])
    by_top rest true e =
        let within : size ≤ 4096 = omega (arith, leb-true size top e) in
        besides_valid (eqb size 8) size (sizes_from n top (2 * size)) (valid_size_is size whole low within) rest
    by_top rest false e = none_valid

-- ---- widths

width_few : (size bytes : ℕ) → (1 ≤ width_for size bytes) × (width_for size bytes ≤ 8)
unfolding width_for
width_few size bytes = by_tests (leb bytes 10000000 && ltb size 128) (ltb bytes 2000000000 && ltb size 256)
  where
    by_tests : (a b : Bool) → (1 ≤ cond a 4 (cond b 3 2)) × (cond a 4 (cond b 3 2) ≤ 8)
    by_tests true b = (omega arith, omega arith)
    by_tests false true = (omega arith, omega arith)
    by_tests false false = (omega arith, omega arith)

-- ---- the plan

module _ (B bytes : ℕ) (ok : valid_size B ≡ true) where
  abbrev later : List ℕ
  later = sizes_from 7 (max B 512) B

  width_at : (i : ℕ) → i < length (widths_of B bytes) → get_or (plan_of B bytes).widths i 0 ≡ get_or (widths_of B bytes) i 0
  unfolding plan_of
  width_at i h = simp ok (get_or-append (widths_of B bytes) (replicate (7 - length (widths_of B bytes)) 0) 0 i h)

  as_long : length (widths_of B bytes) ≡ length (sizes_of B)
  unfolding widths_of sizes_of
  as_long = ap suc (length-map later (λ s. width_for s bytes))

  -- a size that is at least 8 has room for a width that is at most that
  fitting : (size k : ℕ) → valid_size size ≡ true → (1 ≤ k) × (k ≤ 8) → Sizes size k
  fitting size k valid w =
      let v = valid_facts size valid in
      record { valid = valid; some = w.0; width = omega (arith, w.1); fits = omega (arith, w.1, v.low) }

  listed : (i : ℕ) → i < length (sizes_of B) → Sizes (get_or (sizes_of B) i 0) (get_or (widths_of B bytes) i 0)
  unfolding sizes_of widths_of
  listed zero h = fitting 8 8 (valid_size_is 8 refl (omega arith) (omega arith)) (omega arith, omega arith)
  listed (suc i) h =
      let v = valid_facts B ok in
      let within : i < length later = omega arith in
      let top : max B 512 ≤ 4096 = omega (arith, v.high) in
      let size = get_or later i 0 in
      subst (Sizes size) (sym (map_at (λ s. width_for s bytes) later i within))
      (fitting size (width_for size bytes) (sizes_valid 7 (max B 512) B v.whole v.low top i within) (width_few size bytes))

  planned : (i : ℕ) → suc i ≤ (plan_of B bytes).pairs → Sizes (get_or (plan_of B bytes).blocks i 0) (get_or (plan_of B bytes).widths i 0)
  planned i h =
      let within : i < length (sizes_of B) = omega (arith, pairs_are B bytes ok) in
      let wide : i < length (widths_of B bytes) = omega (arith, as_long) in
      subst (λ (x : ℕ × ℕ). Sizes x.0 x.1) (λ j. (sym (block_at B bytes ok i within) j, sym (width_at i wide) j)) (listed i within)

  begins : (1 ≤ (plan_of B bytes).pairs) × (get_or (plan_of B bytes).blocks 0 0 ≡ 8)
  unfolding sizes_of
  begins =
      let some : 0 < length (sizes_of B) = omega arith in
      (omega (arith, pairs_are B bytes ok), block_at B bytes ok 0 some)

  sound_valid : Sound (plan_of B bytes)
  unfolding Sweeps
  sound_valid = record { few = (sweeps B bytes ok).most; sizes = planned; first = λ e. begins }

sound_refused : (B bytes : ℕ) → valid_size B ≡ false → Sound (plan_of B bytes)
unfolding plan_of
sound_refused B bytes bad = simp bad (record { few = omega arith; sizes = λ i h. absurd (omega arith); first = λ e. absurd (omega arith) })

pub sound : (B bytes : ℕ) → Sound (plan_of B bytes)
sound B bytes = by_size (valid_size B) refl
  where
    by_size : (t : Bool) → valid_size B ≡ t → Sound (plan_of B bytes)
    by_size true e = sound_valid B bytes e
    by_size false e = sound_refused B bytes e

-- ---- the pairs in the array of a plan

-- what stands for an entry past the array
abbrev pub no_pair : Planned
no_pair = record { block_size = 0; width = 0 }

module _ (p : code.Plan) (i : ℕ) (within : i < p.pairs) (few : p.pairs ≤ length p.sizes) where
  abbrev pub pair_here : Planned
  pair_here = get_or (take p.pairs p.sizes) i no_pair

  pub size_here : pair_here.block_size ≡ get_or (sizes_in p.sizes) i 0
  size_here =
      ap (λ (s : Planned). s.block_size) (get_or-take p.pairs p.sizes i no_pair within)
      ∙ sym (get_or-map (λ (s : Planned). s.block_size) p.sizes i no_pair 0 (omega arith))

  pub width_here : pair_here.width ≡ get_or (widths_in p.sizes) i 0
  width_here =
      ap (λ (s : Planned). s.width) (get_or-take p.pairs p.sizes i no_pair within)
      ∙ sym (get_or-map (λ (s : Planned). s.width) p.sizes i no_pair 0 (omega arith))

  pub sizes_here : Sound (as_plan (Ok p)) → Sizes pair_here.block_size pair_here.width
  sizes_here s = rw (size_here, width_here) (s.sizes i within)

  pub refused_here : (bytes : ℕ) (lent : Room) → pair_refusal bytes pair_here.block_size pair_here.width lent ≡ pair_refusal bytes (get_or (sizes_in p.sizes) i 0) (get_or (widths_in p.sizes) i 0) lent
  refused_here bytes lent j = pair_refusal bytes (size_here j) (width_here j) lent

  pub pair_is : (low : Bool) → ◌≡◌ {A = Pair} (record { block_size = pair_here.block_size; width = pair_here.width; low_first = low }) (pair_at (as_plan (Ok p)) low i)
  pair_is low j = record { block_size = size_here j; width = width_here j; low_first = low }
