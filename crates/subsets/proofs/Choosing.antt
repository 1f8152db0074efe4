-- Binomials: each from the one before it in its row, their symmetry, and that they rise up to the row's middle.
use mathlib.Core.Path.{◌≡◌, refl, sym, ap, ap₂, subst, ◌∙◌}
use mathlib.Core.Logic.{◌⊎◌, inl, inr}
use Prim.Native.Nat.{ℕ, zero, suc, ◌+◌, ◌-◌, ◌*◌, ◌/◌, ◌^◌, ◌≤◌, ◌<◌, min}
use native.Mathlib.Nat.{zero-mul, mul-suc, add-mul, suc-sub-suc, zero-add, div-eq_of_eq-mul_left, mul-le-mul, mul-le-mul_left, le_of_mul-le-mul_right, le_trans, le_of_eq, eq-or-lt_of_le, min-eq_left, min-eq_right}
use native.Mathlib.Numerals.{add-one}
use native.Mathlib.Omega.{arith}
use Rattle.subsets.specs.Choose.{choose, up_to, choose_up_to}

pub none_beyond : (n r : ℕ) → n < r → choose n r ≡ 0
none_beyond n zero h = absurd (omega arith)
none_beyond zero (suc r) h = refl
none_beyond (suc n) (suc r) h = ap₂ ◌+◌ (none_beyond n r (omega arith)) (none_beyond n (suc r) (omega arith))

-- ---- from one to the next in a row

times_zero : (c x : ℕ) → c ≡ 0 → c * x ≡ 0
times_zero c x e = ap (λ (d : ℕ). d * x) e ∙ zero-mul x

step_more : (n j c₀ c₁ c₂ : ℕ) → c₁ * suc j ≡ c₀ * (n - j) → c₂ * suc (suc j) ≡ c₁ * (n - suc j) → (n < suc j → c₁ ≡ 0)
    → (suc j ≤ n) ⊎ (n < suc j) → (c₁ + c₂) * suc (suc j) ≡ (c₀ + c₁) * (suc n - suc j)
step_more n j c₀ c₁ c₂ p q z (inl h) =
    let e : n - j ≡ suc (n - suc j) = omega arith in
    let d : c₁ * (n - j) ≡ c₁ * (n - suc j) + c₁ = ap (λ (x : ℕ). c₁ * x) e ∙ mul-suc c₁ (n - suc j) in
    rw (suc-sub-suc n j) (omega (arith, add-mul c₁ c₂ (suc (suc j)), add-mul c₀ c₁ (n - j), mul-suc c₁ (suc j)))
step_more n j c₀ c₁ c₂ p q z (inr h) =
    rw (suc-sub-suc n j)
    (omega (arith, add-mul c₁ c₂ (suc (suc j)), add-mul c₀ c₁ (n - j), times_zero c₁ (suc j) (z h), times_zero c₁ (suc (suc j)) (z h), times_zero c₁ (n - suc j) (z h), times_zero c₁ (n - j) (z h)))

pub le_or_lt : (a b : ℕ) → (a ≤ b) ⊎ (b < a)
le_or_lt zero b = inl (omega arith)
le_or_lt (suc a) zero = inr (omega arith)
le_or_lt (suc a) (suc b) = elim (le_or_lt a b) [ inl h ↦ inl (omega arith) | inr h ↦ inr (omega arith) ]

pub choose_step : (n i : ℕ) → choose n (suc i) * suc i ≡ choose n i * (n - i)
choose_step zero zero = refl
choose_step zero (suc i) = zero-mul (suc (suc i)) ∙ sym (zero-mul (0 - suc i))
choose_step (suc n) zero = omega (arith, add-mul (choose n 0) (choose n 1) 1, choose_step n 0)
choose_step (suc n) (suc j) =
    step_more n j (choose n j) (choose n (suc j)) (choose n (suc (suc j))) (choose_step n j) (choose_step n (suc j)) (none_beyond n (suc j)) (le_or_lt (suc j) n)

-- ---- the two halves of a row are alike

pub choose_all : (n : ℕ) → choose n n ≡ 1
choose_all zero = refl
choose_all (suc n) = ap₂ ◌+◌ (choose_all n) (none_beyond n (suc n) (omega arith))

halves : (r m : ℕ) → choose (r + m) r ≡ choose (r + m) m
halves zero m = sym (rw (zero-add m) (choose_all m))
halves (suc r) zero = let e : suc r + 0 ≡ suc r = omega arith in rw e (choose_all (suc r))
halves (suc r) (suc m) =
    let e : suc r + suc m ≡ suc (r + suc m) = omega arith in
    let f : suc r + m ≡ r + suc m = omega arith in
    let x : choose (r + suc m) (suc r) ≡ choose (r + suc m) m = subst (λ (n : ℕ). choose n (suc r) ≡ choose n m) f (halves (suc r) m) in
    rw e (omega (arith, halves r (suc m)))

choose_other : (n r : ℕ) → r ≤ n → choose n (n - r) ≡ choose n r
choose_other n r h = let e : r + (n - r) ≡ n = omega arith in subst (λ (x : ℕ). choose x (n - r) ≡ choose x r) e (sym (halves r (n - r)))

-- ---- a row rises up to its middle

choose_rises : (n i : ℕ) → suc i + suc i ≤ n → choose n i ≤ choose n (suc i)
choose_rises n i h =
    let m : suc i ≤ n - i = omega arith in
    le_of_mul-le-mul_right (le_trans (mul-le-mul_left (choose n i) m) (le_of_eq (sym (choose_step n i)))) (omega arith)

choose_mono : (n i r : ℕ) → i ≤ r → r + r ≤ n → choose n i ≤ choose n r
choose_mono n zero zero h m = omega arith
choose_mono n (suc i) zero h m = absurd (omega arith)
choose_mono n i (suc r) h m = go (eq-or-lt_of_le h) (choose_mono n i r)
  where
    go : (i ≡ suc r) ⊎ (i < suc r) → (i ≤ r → r + r ≤ n → choose n i ≤ choose n r) → choose n i ≤ choose n (suc r)
    go (inl e) f = le_of_eq (ap (choose n) e)
    go (inr l) f = le_trans (f (omega arith) (omega arith)) (choose_rises n r m)

-- ---- as the code has it

pub exact : (n r c : ℕ) → c ≡ choose n r → c ≤ 2 ^ 32 → c ≡ choose_up_to n r
unfolding choose_up_to
exact n r c e h = e ∙ sym (min-eq_left (omega arith))

-- the answer that is not above 2^32 is exact
pub told : (n r c : ℕ) → c ≡ choose_up_to n r → choose n r ≤ 2 ^ 32 → c ≡ choose n r
unfolding choose_up_to
told n r c e h = e ∙ min-eq_left (omega arith)

pub told_above : (n r c : ℕ) → c ≡ choose_up_to n r → 2 ^ 32 < c → 2 ^ 32 < choose n r
unfolding choose_up_to
told_above n r c e h = omega arith

pub told_within : (n r c : ℕ) → c ≡ choose_up_to n r → c ≤ 2 ^ 32 → choose n r ≤ 2 ^ 32
unfolding choose_up_to
told_within n r c e h = omega arith

pub above : (n i r : ℕ) → i ≤ r → r + r ≤ n → 2 ^ 32 < choose n i → 2 ^ 32 + 1 ≡ choose_up_to n r
unfolding choose_up_to
above n i r h m l = sym (min-eq_right (omega (arith, choose_mono n i r h m)))

pub turn : (n i c : ℕ) → c ≡ choose n i → c * (n - i) / (i + 1) ≡ choose n (i + 1)
turn n i c e = rw (e, add-one) (div-eq_of_eq-mul_left (omega arith) (sym (choose_step n i)))

pub turn_fits : (n i c : ℕ) → n < 2 ^ 32 → c ≤ 2 ^ 32 → c * (n - i) < 2 ^ 64
turn_fits n i c h l = let x : n - i ≤ 2 ^ 32 - 1 = omega arith in omega (arith, mul-le-mul l x)

pub past_row : (n r : ℕ) → n < r → 0 ≡ choose_up_to n r
past_row n r h = exact n r 0 (sym (none_beyond n r h)) (omega arith)

pub either_half : (n r h c : ℕ) → r ≤ n → h ≡ min r (n - r) → c ≡ choose_up_to n h → c ≡ choose_up_to n r
unfolding choose_up_to
either_half n r h c l e f = f ∙ ap up_to (elim (le_or_lt r (n - r)) [
  | inl q ↦ ap (choose n) (e ∙ min-eq_left q)
  | inr q ↦ ap (choose n) (e ∙ min-eq_right (omega arith)) ∙ choose_other n r l
])
