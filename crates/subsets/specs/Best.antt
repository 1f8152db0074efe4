-- The best k-subset under any score: greater score, else lexicographically smaller bits.
use Rattle.std.specs.Prelude.{ℕ, ◌≤◌, Bool, not, cond, List, [], ◌∷◌, ◌⊎◌, ◌≡◌, T}
use Rattle.subsets.specs.Subsets.{Subset, lex_lt, subsets, numbers_from, Next, Last}

-- What is needed of `less`, on the values that occur: no two are each less than the other, and what is not above a is below whatever a is below.
-- (So it is irreflexive and transitive, and where neither of two is less they stand alike to every third.)
pub record Order {S : Type 0} (less : S → S → Bool) (ok : S → Type 0) : Type 0 where
  pub asym : (a b : S) → ok a → ok b → T (less a b) → T (less b a) → ⊥
  pub co : (a b c : S) → ok a → ok b → ok c → T (less a c) → T (not (less a b)) → T (less b c)

-- the first best of b and the list: a later one takes its place only where b is less
abbrev pub best_of {ℓ} : {A : Type ℓ} → (A → A → Bool) → A → List A → A
best_of less b [] = b
best_of less b (s ∷ ss) = best_of less (cond (less b s) s b) ss

-- the first best of a list; e where the list is empty
abbrev pub first_best {ℓ} : {A : Type ℓ} → (A → A → Bool) → A → List A → A
first_best less e [] = e
first_best less e (s ∷ ss) = best_of less s ss

-- r beats s: s has the lesser score, or neither is less and r stands before
abbrev pub Beats : {S : Type 0} → (S → S → Bool) → (List ℕ → S) → List ℕ → List ℕ → Type 0
Beats less score r s =
    T (less (score s) (score r)) ⊎ (T (not (less (score r) (score s))) × T (not (less (score s) (score r))) × T (lex_lt r s))

-- r is a k-subset and beats every other
pub record Optimal {S : Type 0} (less : S → S → Bool) (score : List ℕ → S) (B k : ℕ) (r : List ℕ) : Type 0 where
  pub subset : Subset B k r
  pub beats : (s : List ℕ) → Subset B k s → (s ≡ r) ⊎ Beats less score r s

-- the same among the k-subsets up to cur: best stands no later than cur, and beats every other that stands no later
pub record Sofar {S : Type 0} (less : S → S → Bool) (score : List ℕ → S) (B k : ℕ) (cur best : List ℕ) : Type 0 where
  pub current : Subset B k cur
  pub subset : Subset B k best
  pub place : (best ≡ cur) ⊎ T (lex_lt best cur)
  pub beats : (s : List ℕ) → Subset B k s → (s ≡ cur) ⊎ T (lex_lt s cur) → (s ≡ best) ⊎ Beats less score best s

-- the first best of all k-subsets
abbrev pub best_subset : {S : Type 0} → (S → S → Bool) → (List ℕ → S) → ℕ → ℕ → List ℕ
best_subset less score B k = first_best (λ s t. less (score s) (score t)) [] (subsets B k)

-- What a search is to do: the list's first best is optimal, nothing else is, and a loop that goes from each k-subset to the next and keeps
-- the first best ends with it.
pub record Searches {S : Type 0} (less : S → S → Bool) (score : List ℕ → S) (B k : ℕ) : Type 0 where
  pub optimal : k ≤ B → Optimal less score B k (best_subset less score B k)
  pub unique : (r : List ℕ) → Optimal less score B k r → r ≡ best_subset less score B k
  pub begins : k ≤ B → Sofar less score B k (numbers_from 0 k) (numbers_from 0 k)
  pub takes : (cur best t : List ℕ) → Sofar less score B k cur best → Next B k cur t → T (less (score best) (score t)) → Sofar less score B k t t
  pub keeps : (cur best t : List ℕ) → Sofar less score B k cur best → Next B k cur t → T (not (less (score best) (score t))) → Sofar less score B k t best
  pub ends : (cur best : List ℕ) → Sofar less score B k cur best → Last B k cur → Optimal less score B k best

-- Theorem: so for every B and k, and every score whose values on the k-subsets have an order.
abbrev pub SubsetsSearched : Type 1
SubsetsSearched =
    (S : Type 0) (less : S → S → Bool) (ok : S → Type 0) → Order less ok → (score : List ℕ → S) (B k : ℕ)
    → ((s : List ℕ) → Subset B k s → ok (score s)) → Searches less score B k
