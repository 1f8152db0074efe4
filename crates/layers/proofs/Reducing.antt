-- Entries less those that stand after them: one run of pairs, and run after run.
use mathlib.Core.Path.{◌≡◌, refl, sym, ap, ap₂, ◌∙◌}
use mathlib.Core.Logic.{◌⊎◌, inl, inr}
use Prim.Native.Nat.{ℕ, suc, ◌+◌, ◌-◌, ◌*◌, ◌/◌, ◌≤◌, ◌<◌}
use native.Mathlib.Omega.{arith}
use native.Mathlib.Decide.{ℕ_discrete}
use native.Mathlib.Nat.{mul-le-mul_right, lt_of_mul-lt-mul_right, le_refl, eq-or-lt_of_le}
use mathlib.Core.List.{List}
use lib.ListN.{length, get_or, set}
use lib.Seq.{get_or-set_same, get_or-set_other}
use Rattle.layers.specs.Settle.{Reduced, Paired, Stepped}

-- ---- one run

pub reduced_none : (at step : ℕ) (b : List ℕ) → Reduced at step 0 b b
reduced_none at step b = record { inside = λ i h. absurd (omega arith); outside = λ u h. refl }

module _ (at step m : ℕ) (b₀ b : List ℕ) (r : Reduced at step m b₀ b) where
  -- the entries that a turn reads are as they were
  pub reads_first : get_or b (at + m) 0 ≡ get_or b₀ (at + m) 0
  reads_first = r.outside (at + m) (inr (le_refl (at + m)))

  pub reads_second : m < step → get_or b (at + step + m) 0 ≡ get_or b₀ (at + step + m) 0
  reads_second h = r.outside (at + step + m) (inr (omega arith))

  pub reduced_more : (x : ℕ) → at + m < length b → x ≡ get_or b₀ (at + m) 0 - get_or b₀ (at + step + m) 0 → Reduced at step (m + 1) b₀ (set b (at + m) x)
  reduced_more x room e = record { inside = λ i h. go i h (ℕ_discrete i m); outside = λ u h. out u h }
    where
      go : (i : ℕ) → i < m + 1 → Dec (i ≡ m) → get_or (set b (at + m) x) (at + i) 0 ≡ get_or b₀ (at + i) 0 - get_or b₀ (at + step + i) 0
      go i h (yes p) = rw p (get_or-set_same b (at + m) x 0 room ∙ e)
      go i h (no p) = get_or-set_other b (at + m) (at + i) x 0 (λ q. p (omega arith)) ∙ r.inside i (omega arith)

      out : (u : ℕ) → (u < at) ⊎ (at + (m + 1) ≤ u) → get_or (set b (at + m) x) u 0 ≡ get_or b₀ u 0
      out u (inl h) = get_or-set_other b (at + m) u x 0 (λ q. omega arith) ∙ r.outside u (inl h)
      out u (inr h) = get_or-set_other b (at + m) u x 0 (λ q. omega arith) ∙ r.outside u (inr (omega arith))

-- ---- run after run

-- the runs before `at` are done, and from there on nothing has changed
pub record Through (step at : ℕ) (b₀ b : List ℕ) : Type 0 where
  pub turn : ℕ
  pub place : at ≡ turn * (2 * step)
  pub size : length b ≡ length b₀
  pub done : Stepped step turn b₀ b
  pub rest : (u : ℕ) → at ≤ u → get_or b u 0 ≡ get_or b₀ u 0

pub through_none : (step : ℕ) (b : List ℕ) → Through step 0 b b
through_none step b = record {
  turn = 0;
  place = omega arith;
  size = refl;
  done = record { first = λ hi lo l h. absurd (omega arith); second = λ hi lo l h. absurd (omega arith) };
  rest = λ u h. refl;
}

module _ (step at : ℕ) (b₀ b : List ℕ) (pairs : Paired step b₀) (t : Through step at b₀ b) (more : at < length b) where
  turn_below : t.turn < length b₀ / (2 * step)
  turn_below = lt_of_mul-lt-mul_right (2 * step) (let h : t.turn * (2 * step) < length b₀ / (2 * step) * (2 * step) = omega (arith, t.place, t.size, pairs.whole) in h)

  -- the run is there
  pub run_fits : at + 2 * step ≤ length b
  run_fits =
      let h : suc t.turn ≤ length b₀ / (2 * step) = turn_below in
      omega (arith, mul-le-mul_right (2 * step) h, t.place, t.size, pairs.whole)

  pub run_falls : (i : ℕ) → i < step → get_or b (at + step + i) 0 ≤ get_or b (at + i) 0
  run_falls i h =
      let p : t.turn * (2 * step) + step + i ≡ at + step + i = omega (arith, t.place) in
      let q : t.turn * (2 * step) + i ≡ at + i = omega (arith, t.place) in
      omega (
        arith,
        t.rest (at + step + i) (omega arith),
        t.rest (at + i) (omega arith),
        pairs.falls t.turn i h turn_below,
        ap (λ (u : ℕ). get_or b₀ u 0) p,
        ap (λ (u : ℕ). get_or b₀ u 0) q,
      )

  pub through_more : (b' : List ℕ) → length b' ≡ length b → Reduced at step step b b' → Through step (at + 2 * step) b₀ b'
  through_more b' e r = record {
    turn = suc t.turn;
    place = omega (arith, t.place);
    size = e ∙ t.size;
    done = record { first = λ hi lo l h. first hi lo l (eq-or-lt_of_le h); second = λ hi lo l h. second hi lo l (eq-or-lt_of_le h) };
    rest = λ u h. r.outside u (inr (omega arith)) ∙ t.rest u (omega arith);
  }
    where
      first : (hi lo : ℕ) → lo < step → (suc hi ≡ suc t.turn) ⊎ (suc hi < suc t.turn)
          → get_or b' (hi * (2 * step) + lo) 0 ≡ get_or b₀ (hi * (2 * step) + lo) 0 - get_or b₀ (hi * (2 * step) + step + lo) 0
      first hi lo l (inl p) =
          let w : hi ≡ t.turn = omega arith in
          let q : hi * (2 * step) ≡ at = ap (λ (x : ℕ). x * (2 * step)) w ∙ sym t.place in
          rw q (r.inside lo l ∙ ap₂ ◌-◌ (t.rest (at + lo) (omega arith)) (t.rest (at + step + lo) (omega arith)))
      first hi lo l (inr p) =
          let w : suc hi ≤ t.turn = omega arith in
          let low : hi * (2 * step) + lo < at = omega (arith, mul-le-mul_right (2 * step) w, t.place) in
          r.outside (hi * (2 * step) + lo) (inl low) ∙ t.done.first hi lo l w

      second : (hi lo : ℕ) → lo < step → (suc hi ≡ suc t.turn) ⊎ (suc hi < suc t.turn)
          → get_or b' (hi * (2 * step) + step + lo) 0 ≡ get_or b₀ (hi * (2 * step) + step + lo) 0
      second hi lo l (inl p) =
          let w : hi ≡ t.turn = omega arith in
          let q : hi * (2 * step) ≡ at = ap (λ (x : ℕ). x * (2 * step)) w ∙ sym t.place in
          rw q (r.outside (at + step + lo) (inr (omega arith)) ∙ t.rest (at + step + lo) (omega arith))
      second hi lo l (inr p) =
          let w : suc hi ≤ t.turn = omega arith in
          let low : hi * (2 * step) + step + lo < at = omega (arith, mul-le-mul_right (2 * step) w, t.place) in
          r.outside (hi * (2 * step) + step + lo) (inl low) ∙ t.done.second hi lo l w

pub all_through : (step at : ℕ) (b₀ b : List ℕ) → Paired step b₀ → Through step at b₀ b → length b ≤ at → Stepped step (length b₀ / (2 * step)) b₀ b
all_through step at b₀ b pairs t h = record { first = λ hi lo l g. t.done.first hi lo l (below hi g); second = λ hi lo l g. t.done.second hi lo l (below hi g) }
  where
    below : (hi : ℕ) → hi < length b₀ / (2 * step) → hi < t.turn
    below hi g =
        let w : suc hi ≤ length b₀ / (2 * step) = g in
        lt_of_mul-lt-mul_right (2 * step) (let l : hi * (2 * step) < t.turn * (2 * step) = omega (arith, mul-le-mul_right (2 * step) w, t.place, t.size, pairs.whole, pairs.some) in l)
