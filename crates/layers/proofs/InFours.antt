-- Two places at once, four entries at a turn: the list between the two places, and the turns.
use mathlib.Core.Path.{◌≡◌, refl, sym, ap, ap₂, ◌∙◌}
use mathlib.Core.Logic.{◌⊎◌, inl, inr}
use mathlib.Core.Bool.{cond}
use mathlib.Core.List.{List}
use Prim.Native.Nat.{ℕ, zero, suc, ◌+◌, ◌-◌, ◌*◌, ◌/◌, ◌%◌, ◌≤◌, ◌<◌}
use native.Mathlib.Omega.{arith}
use native.Mathlib.Decide.{ℕ_discrete}
use native.Mathlib.Nat.{le_refl}
use lib.Dec.{eqb}
use lib.ListN.{length, get_or, set, length-set}
use lib.Seq.{get_or-set_same, get_or-set_other}
use Rattle.counting.specs.Sample.{list_of}
use Rattle.counting.proofs.Counts.{length_list, get_d_list}
use Rattle.layers.specs.Settle.{Paired, Stepped, FallsInFours, Fours}

-- ---- the list after the first place

-- its entry u
unfoldable pub less : List ℕ → ℕ → ℕ
less b u = cond (eqb (u % 2) 0) (get_or b u 0 - get_or b (u + 1) 0) (get_or b u 0)

unfoldable pub between : List ℕ → List ℕ
between b = list_of (length b) (less b)

pub between_size : (b : List ℕ) → length (between b) ≡ length b
unfolding between
between_size b = length_list (length b) (less b)

between_even : (b : List ℕ) (u v : ℕ) → u % 2 ≡ 0 → u < length b → u + 1 ≡ v → get_or (between b) u 0 ≡ get_or b u 0 - get_or b v 0
unfolding between less
between_even b u v e h next = get_d_list (length b) (less b) u h ∙ rw e (ap (λ (x : ℕ). get_or b u 0 - get_or b x 0) next)

between_odd : (b : List ℕ) (u : ℕ) → u % 2 ≡ 1 → u < length b → get_or (between b) u 0 ≡ get_or b u 0
unfolding between less
between_odd b u e h = get_d_list (length b) (less b) u h ∙ rw e refl

pub first_stepped : (b : List ℕ) → Stepped 1 (length b / 2) b (between b)
first_stepped b = record { first = first; second = second }
  where
    first : (hi lo : ℕ) → lo < 1 → hi < length b / 2 → get_or (between b) (hi * (2 * 1) + lo) 0 ≡ get_or b (hi * (2 * 1) + lo) 0 - get_or b (hi * (2 * 1) + 1 + lo) 0
    first hi lo l h = between_even b (hi * (2 * 1) + lo) (hi * (2 * 1) + 1 + lo) (omega arith) (omega arith) (omega arith)

    second : (hi lo : ℕ) → lo < 1 → hi < length b / 2 → get_or (between b) (hi * (2 * 1) + 1 + lo) 0 ≡ get_or b (hi * (2 * 1) + 1 + lo) 0
    second hi lo l h = between_odd b (hi * (2 * 1) + 1 + lo) (omega arith) (omega arith)

-- a pair by the places of its entries
falls_at : (step : ℕ) (b : List ℕ) → Paired step b → (hi lo u v : ℕ) → lo < step → hi < length b / (2 * step) → hi * (2 * step) + lo ≡ u → hi * (2 * step) + step + lo ≡ v
    → get_or b v 0 ≤ get_or b u 0
falls_at step b p hi lo u v l h e f = omega (arith, p.falls hi lo l h, ap (λ (x : ℕ). get_or b x 0) e, ap (λ (x : ℕ). get_or b x 0) f)

-- what either place asks of its pairs
pub falls_in_fours : (b : List ℕ) → Paired 1 b → Paired 2 (between b) → FallsInFours b
falls_in_fours b p q = record {
  whole = whole;
  first = λ u e h. falls_at 1 b p (u / 2) 0 u (u + 1) (omega arith) (omega arith) (omega arith) (omega arith);
  second = λ u e h. falls_at 1 b p (u / 2 + 1) 0 (u + 2) (u + 3) (omega arith) (omega (arith, whole)) (omega arith) (omega arith);
  both = λ u e h.
      omega (
        arith,
        falls_at 2 (between b) q (u / 4) 1 (u + 1) (u + 3) (omega arith) (omega (arith, whole, size)) (omega arith) (omega arith),
        between_odd b (u + 1) (omega arith) (omega (arith, whole)),
        between_odd b (u + 3) (omega arith) (omega (arith, whole)),
      );
  none = λ u e h.
      omega (
        arith,
        falls_at 2 (between b) q (u / 4) 0 u (u + 2) (omega arith) (omega (arith, whole, size)) (omega arith) (omega arith),
        between_even b u (u + 1) (omega arith) h refl,
        between_even b (u + 2) (u + 3) (omega arith) (omega (arith, whole)) (omega arith),
      );
}
  where
    size : length (between b) ≡ length b
    size = between_size b

    whole : length b % 4 ≡ 0
    whole = omega (arith, q.whole, between_size b)

-- the second place, from the list between
pub second_stepped : (b b' : List ℕ) → Fours (length b) b b' → Stepped 2 (length (between b) / 4) (between b) b'
second_stepped b b' f = record {
  first = λ hi lo l h. first hi lo l (omega (arith, between_size b));
  second = λ hi lo l h. second hi lo l (omega (arith, between_size b));
}
  where
    first : (hi lo : ℕ) → lo < 2 → hi * 4 + 3 < length b → get_or b' (hi * (2 * 2) + lo) 0 ≡ get_or (between b) (hi * (2 * 2) + lo) 0 - get_or (between b) (hi * (2 * 2) + 2 + lo) 0
    first hi zero l h =
        let p : hi * (2 * 2) + 0 ≡ hi * 4 = omega arith in
        let q : hi * (2 * 2) + 2 + 0 ≡ hi * 4 + 2 = omega arith in
        rw (p, q) (
        f.none (hi * 4) (omega arith) (omega arith)
        ∙ ap₂ ◌-◌ (sym (between_even b (hi * 4) (hi * 4 + 1) (omega arith) (omega arith) refl)) (sym (between_even b (hi * 4 + 2) (hi * 4 + 3) (omega arith) (omega arith) (omega arith)))
        )
    first hi (suc zero) l h =
        let q : hi * (2 * 2) + 2 + 1 ≡ hi * 4 + 3 = omega arith in
        rw q (
        f.first (hi * 4) (omega arith) (omega arith)
        ∙ ap₂ ◌-◌ (sym (between_odd b (hi * 4 + 1) (omega arith) (omega arith))) (sym (between_odd b (hi * 4 + 3) (omega arith) (omega arith)))
        )
    first hi (suc (suc lo)) l h = absurd (omega arith)

    second : (hi lo : ℕ) → lo < 2 → hi * 4 + 3 < length b → get_or b' (hi * (2 * 2) + 2 + lo) 0 ≡ get_or (between b) (hi * (2 * 2) + 2 + lo) 0
    second hi zero l h =
        let q : hi * (2 * 2) + 2 + 0 ≡ hi * 4 + 2 = omega arith in
        rw q (f.second (hi * 4) (omega arith) (omega arith) ∙ sym (between_even b (hi * 4 + 2) (hi * 4 + 3) (omega arith) (omega arith) (omega arith)))
    second hi (suc zero) l h =
        let q : hi * (2 * 2) + 2 + 1 ≡ hi * 4 + 3 = omega arith in
        rw q (f.both (hi * 4) (omega arith) (omega arith) ∙ sym (between_odd b (hi * 4 + 3) (omega arith) (omega arith)))
    second hi (suc (suc lo)) l h = absurd (omega arith)

-- ---- the turns

-- the fours before `at` are done, and from there on nothing has changed
pub record FoursTo (at : ℕ) (b₀ b : List ℕ) : Type 0 where
  pub whole : at % 4 ≡ 0
  pub size : length b ≡ length b₀
  pub done : Fours at b₀ b
  pub rest : (u : ℕ) → at ≤ u → get_or b u 0 ≡ get_or b₀ u 0

pub fours_none : (b : List ℕ) → FoursTo 0 b b
fours_none b = record {
  whole = refl;
  size = refl;
  done = record {
    none = λ u e h. absurd (omega arith);
    first = λ u e h. absurd (omega arith);
    second = λ u e h. absurd (omega arith);
    both = λ u e h. absurd (omega arith);
  };
  rest = λ u h. refl;
}

module _ (at : ℕ) (b₀ b : List ℕ) (falls : FallsInFours b₀) (t : FoursTo at b₀ b) (more : at < length b) where
  inside : at < length b₀
  inside = omega (arith, more, t.size)

  -- the four is there
  pub four_fits : at + 3 < length b
  four_fits = omega (arith, inside, t.whole, t.size, falls.whole)

  -- its entries are as they were
  as_were : (k : ℕ) → get_or b (at + k) 0 ≡ get_or b₀ (at + k) 0
  as_were k = t.rest (at + k) (omega arith)

  was_first : get_or b at 0 ≡ get_or b₀ at 0
  was_first = t.rest at (le_refl at)

  pub four_first : get_or b (at + 1) 0 ≤ get_or b at 0
  four_first = omega (arith, was_first, as_were 1, falls.first at t.whole inside)

  pub four_second : get_or b (at + 3) 0 ≤ get_or b (at + 2) 0
  four_second = omega (arith, as_were 2, as_were 3, falls.second at t.whole inside)

  pub four_both : get_or b (at + 3) 0 ≤ get_or b (at + 1) 0
  four_both = omega (arith, as_were 1, as_were 3, falls.both at t.whole inside)

  pub four_none : get_or b (at + 2) 0 - get_or b (at + 3) 0 ≤ get_or b at 0 - get_or b (at + 1) 0
  four_none = omega (arith, was_first, as_were 1, as_were 2, as_were 3, falls.none at t.whole inside)

  module _ (x y z : ℕ) where
    abbrev turned : List ℕ
    turned = set (set (set b at x) (at + 1) y) (at + 2) z

    -- the entries that a turn writes, and all others
    at_none : get_or turned at 0 ≡ x
    at_none =
        get_or-set_other (set (set b at x) (at + 1) y) (at + 2) at z 0 (λ q. omega arith)
        ∙ get_or-set_other (set b at x) (at + 1) at y 0 (λ q. omega arith)
        ∙ get_or-set_same b at x 0 more

    at_first : get_or turned (at + 1) 0 ≡ y
    at_first =
        get_or-set_other (set (set b at x) (at + 1) y) (at + 2) (at + 1) z 0 (λ q. omega arith)
        ∙ get_or-set_same (set b at x) (at + 1) y 0 (simp length-set (let h : at + 1 < length b = omega (arith, four_fits) in h))

    at_second : get_or turned (at + 2) 0 ≡ z
    at_second = get_or-set_same (set (set b at x) (at + 1) y) (at + 2) z 0 (simp length-set (let h : at + 2 < length b = omega (arith, four_fits) in h))

    apart : (u : ℕ) → (u ≡ at → ⊥) → (u ≡ at + 1 → ⊥) → (u ≡ at + 2 → ⊥) → get_or turned u 0 ≡ get_or b u 0
    apart u p q r =
        get_or-set_other (set (set b at x) (at + 1) y) (at + 2) u z 0 r ∙ get_or-set_other (set b at x) (at + 1) u y 0 q ∙ get_or-set_other b at u x 0 p

    elsewhere : (u : ℕ) → (u < at) ⊎ (at + 3 ≤ u) → get_or turned u 0 ≡ get_or b u 0
    elsewhere u (inl h) = apart u (λ q. omega arith) (λ q. omega arith) (λ q. omega arith)
    elsewhere u (inr h) = apart u (λ q. omega arith) (λ q. omega arith) (λ q. omega arith)

    pub fours_more : x ≡ get_or b at 0 - get_or b (at + 1) 0 - (get_or b (at + 2) 0 - get_or b (at + 3) 0) → y ≡ get_or b (at + 1) 0 - get_or b (at + 3) 0 → z ≡ get_or b (at + 2) 0 - get_or b (at + 3) 0
        → FoursTo (at + 4) b₀ turned
    fours_more ex ey ez = record {
      whole = omega (arith, t.whole);
      size = simp length-set t.size;
      done = record {
        none = λ u e h. none u e h (ℕ_discrete u at);
        first = λ u e h. first u e h (ℕ_discrete u at);
        second = λ u e h. second u e h (ℕ_discrete u at);
        both = λ u e h. both u e h (ℕ_discrete u at);
      };
      rest = λ u h. elsewhere u (inr (omega arith)) ∙ t.rest u (omega arith);
    }
      where
        before : (u : ℕ) → u % 4 ≡ 0 → u < at + 4 → (u ≡ at → ⊥) → u + 3 < at
        before u e h ne = omega (arith, t.whole)

        none : (u : ℕ) → u % 4 ≡ 0 → u < at + 4 → Dec (u ≡ at) → get_or turned u 0 ≡ get_or b₀ u 0 - get_or b₀ (u + 1) 0 - (get_or b₀ (u + 2) 0 - get_or b₀ (u + 3) 0)
        none u e h (yes p) = rw p (at_none ∙ ex ∙ ap₂ ◌-◌ (ap₂ ◌-◌ was_first (as_were 1)) (ap₂ ◌-◌ (as_were 2) (as_were 3)))
        none u e h (no ne) = elsewhere u (inl (omega (arith, before u e h ne))) ∙ t.done.none u e (omega (arith, before u e h ne))

        first : (u : ℕ) → u % 4 ≡ 0 → u < at + 4 → Dec (u ≡ at) → get_or turned (u + 1) 0 ≡ get_or b₀ (u + 1) 0 - get_or b₀ (u + 3) 0
        first u e h (yes p) = rw p (at_first ∙ ey ∙ ap₂ ◌-◌ (as_were 1) (as_were 3))
        first u e h (no ne) = elsewhere (u + 1) (inl (omega (arith, before u e h ne))) ∙ t.done.first u e (omega (arith, before u e h ne))

        second : (u : ℕ) → u % 4 ≡ 0 → u < at + 4 → Dec (u ≡ at) → get_or turned (u + 2) 0 ≡ get_or b₀ (u + 2) 0 - get_or b₀ (u + 3) 0
        second u e h (yes p) = rw p (at_second ∙ ez ∙ ap₂ ◌-◌ (as_were 2) (as_were 3))
        second u e h (no ne) = elsewhere (u + 2) (inl (omega (arith, before u e h ne))) ∙ t.done.second u e (omega (arith, before u e h ne))

        both : (u : ℕ) → u % 4 ≡ 0 → u < at + 4 → Dec (u ≡ at) → get_or turned (u + 3) 0 ≡ get_or b₀ (u + 3) 0
        both u e h (yes p) = rw p (elsewhere (at + 3) (inr (le_refl (at + 3))) ∙ as_were 3)
        both u e h (no ne) = elsewhere (u + 3) (inl (before u e h ne)) ∙ t.done.both u e (omega (arith, before u e h ne))

pub all_fours : (at : ℕ) (b₀ b : List ℕ) → FoursTo at b₀ b → length b ≤ at → Fours (length b₀) b₀ b
all_fours at b₀ b t h = record {
  none = λ u e g. t.done.none u e (omega (arith, t.size));
  first = λ u e g. t.done.first u e (omega (arith, t.size));
  second = λ u e g. t.done.second u e (omega (arith, t.size));
  both = λ u e g. t.done.both u e (omega (arith, t.size));
}
