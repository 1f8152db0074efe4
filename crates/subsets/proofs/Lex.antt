-- The lexicographic order of lists of numbers: irreflexive, transitive, total.
use mathlib.Core.Path.{◌≡◌, refl}
use mathlib.Core.Logic.{◌⊎◌, inl, inr}
use Prim.Native.Nat.{ℕ, ◌<◌}
use native.Mathlib.Nat.{lt_irrefl}
use native.Mathlib.Omega.{arith}
use mathlib.Core.Bool.{Bool, true, false, not, ◌||◌, ◌&&◌}
use mathlib.Core.List.{List, [], ◌∷◌}
use lib.Dec.{T, ltb, eqb, ltb→lt, lt→ltb, eqb→eq, eqb_refl, nltb→le}
use Rattle.subsets.specs.Subsets.{lex_lt}

-- ---- tests

pub or_l : (a b : Bool) → T a → T (a || b)
or_l true b t = tt
or_l false b t = absurd t

pub or_r : (a b : Bool) → T b → T (a || b)
or_r true b t = tt
or_r false b t = t

pub or_cases : (a b : Bool) → T (a || b) → T a ⊎ T b
or_cases true b t = inl tt
or_cases false b t = inr t

pub and : (a b : Bool) → T a → T b → T (a && b)
and true b t u = u
and false b t u = t

pub and_l : (a b : Bool) → T (a && b) → T a
and_l true b t = tt
and_l false b t = t

pub and_r : (a b : Bool) → T (a && b) → T b
and_r true b t = t
and_r false b t = absurd t

pub T_dec : (b : Bool) → T b ⊎ T (not b)
T_dec true = inl tt
T_dec false = inr tt

-- ---- the order

pub lex_head : (a b : ℕ) (s t : List ℕ) → a < b → T (lex_lt (a ∷ s) (b ∷ t))
lex_head a b s t h = or_l (ltb a b) (eqb a b && lex_lt s t) (lt→ltb a b h)

pub lex_tail : (a : ℕ) (s t : List ℕ) → T (lex_lt s t) → T (lex_lt (a ∷ s) (a ∷ t))
lex_tail a s t h = or_r (ltb a a) (eqb a a && lex_lt s t) (and (eqb a a) (lex_lt s t) (eqb_refl a) h)

pub lex_cases : (a b : ℕ) (s t : List ℕ) → T (lex_lt (a ∷ s) (b ∷ t)) → (a < b) ⊎ ((a ≡ b) × T (lex_lt s t))
lex_cases a b s t h = elim (or_cases (ltb a b) (eqb a b && lex_lt s t) h) [
  | inl l ↦ inl (ltb→lt a b l)
  | inr e ↦ inr (eqb→eq a b (and_l (eqb a b) (lex_lt s t) e), and_r (eqb a b) (lex_lt s t) e)
]

pub lex_irrefl : (s : List ℕ) → T (lex_lt s s) → ⊥
lex_irrefl [] h = h
lex_irrefl (a ∷ s) h = elim (lex_cases a a s s h) [
  | inl l ↦ lt_irrefl a l
  | inr e ↦ lex_irrefl s e.1
]

pub lex_trans : (s t u : List ℕ) → T (lex_lt s t) → T (lex_lt t u) → T (lex_lt s u)
lex_trans [] [] u h k = absurd h
lex_trans [] (b ∷ t) [] h k = absurd k
lex_trans [] (b ∷ t) (c ∷ u) h k = tt
lex_trans (a ∷ s) [] u h k = absurd h
lex_trans (a ∷ s) (b ∷ t) [] h k = absurd k
lex_trans (a ∷ s) (b ∷ t) (c ∷ u) h k = go (lex_trans s t u) (lex_cases a b s t h) (lex_cases b c t u k)
  where
    go : (T (lex_lt s t) → T (lex_lt t u) → T (lex_lt s u)) → (a < b) ⊎ ((a ≡ b) × T (lex_lt s t)) → (b < c) ⊎ ((b ≡ c) × T (lex_lt t u)) → T (lex_lt (a ∷ s) (c ∷ u))
    go ih (inl x) (inl y) = lex_head a c s u (omega arith)
    go ih (inl x) (inr y) = lex_head a c s u (omega arith)
    go ih (inr x) (inl y) = lex_head a c s u (omega arith)
    go ih (inr x) (inr y) = rw (x.0, y.0) (lex_tail c s u (ih x.1 y.1))

pub lex_asym : (s t : List ℕ) → T (lex_lt s t) → T (lex_lt t s) → ⊥
lex_asym s t h k = lex_irrefl s (lex_trans s t s h k)

pub lex_total : (s t : List ℕ) → T (lex_lt s t) ⊎ ((s ≡ t) ⊎ T (lex_lt t s))
lex_total [] [] = inr (inl refl)
lex_total [] (b ∷ t) = inl tt
lex_total (a ∷ s) [] = inr (inr tt)
lex_total (a ∷ s) (b ∷ t) = go (lex_total s t) (T_dec (ltb a b)) (T_dec (ltb b a))
  where
    go : T (lex_lt s t) ⊎ ((s ≡ t) ⊎ T (lex_lt t s)) → T (ltb a b) ⊎ T (not (ltb a b)) → T (ltb b a) ⊎ T (not (ltb b a))
        → T (lex_lt (a ∷ s) (b ∷ t)) ⊎ ((a ∷ s ≡ b ∷ t) ⊎ T (lex_lt (b ∷ t) (a ∷ s)))
    go ih (inl x) y = inl (lex_head a b s t (ltb→lt a b x))
    go ih (inr x) (inl y) = inr (inr (lex_head b a t s (ltb→lt b a y)))
    go ih (inr x) (inr y) = same (omega (arith, nltb→le a b x, nltb→le b a y)) ih
      where
        same : a ≡ b → T (lex_lt s t) ⊎ ((s ≡ t) ⊎ T (lex_lt t s)) → T (lex_lt (a ∷ s) (b ∷ t)) ⊎ ((a ∷ s ≡ b ∷ t) ⊎ T (lex_lt (b ∷ t) (a ∷ s)))
        same e (inl l) = inl (rw e (lex_tail b s t l))
        same e (inr (inl q)) = inr (inl (cc))
        same e (inr (inr l)) = inr (inr (rw e (lex_tail b t s l)))
