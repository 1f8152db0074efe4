-- Pascal's rule of a table: one test that antt computes over all entries, and the laws that turn it into the rule and into binomials.
use mathlib.Core.Path.{◌≡◌, refl, sym, ap, ap₂, subst, ◌∙◌}
use mathlib.Core.Logic.{◌⊎◌, inl, inr}
use mathlib.Core.Bool.{Bool, true, false, ◌&&◌}
use mathlib.Core.List.{List, [], ◌∷◌}
use Prim.Native.Nat.{ℕ, zero, suc, ◌+◌, ◌-◌, ◌*◌, ◌/◌, ◌%◌, ◌^◌, ◌≤◌, ◌<◌}
use native.Mathlib.Nat.{mul-suc, mul-le-mul, pow-suc}
use native.Mathlib.Omega.{arith}
use lib.Dec.{T, eqb, eqb→eq}
use lib.ListN.{length, get_or}
use lib.Seq.{ext_get_or}
use borrow.Author.Tests.{le-leb, lt-leb}
use Rattle.subsets.specs.Choose.{choose, choose_up_to}
use Rattle.subsets.specs.Pascal.{entry, Pascal, coefficient_in, TableAgrees}
use Rattle.subsets.proofs.Lex.{and_l, and_r}
use Rattle.subsets.proofs.Choosing.{le_or_lt, choose_step, exact}

-- ---- the test

-- n rows, of which the first is o p q r and each later one 1 and the sums of neighbours in the row before
abbrev rows : ℕ → ℕ → ℕ → ℕ → ℕ → List ℕ
rows zero o p q r = []
rows (suc n) o p q r = o ∷ p ∷ q ∷ r ∷ rows n 1 (o + p) (p + q) (q + r)

abbrev same : List ℕ → List ℕ → Bool
same [] [] = true
same [] (y ∷ ys) = false
same (x ∷ xs) [] = false
same (x ∷ xs) (y ∷ ys) = eqb x y && same xs ys

-- the table is the rows 0 to `last`
abbrev pub is_pascal : ℕ → List ℕ → Bool
is_pascal last table = same (rows (suc last) 1 0 0 0) table

-- ---- the law

same_is : (xs ys : List ℕ) → T (same xs ys) → xs ≡ ys
same_is [] [] t = refl
same_is [] (y ∷ ys) t = absurd t
same_is (x ∷ xs) [] t = absurd t
same_is (x ∷ xs) (y ∷ ys) t = ap₂ ◌∷◌ (eqb→eq x y (and_l (eqb x y) (same xs ys) t)) (same_is xs ys (and_r (eqb x y) (same xs ys) t))

-- a row on
on : (o p q r : ℕ) (xs : List ℕ) (m i : ℕ) → entry (o ∷ p ∷ q ∷ r ∷ xs) (suc m) i ≡ entry xs m i
on o p q r xs m i =
    let e : 4 * suc m + i ≡ suc (suc (suc (suc (4 * m + i)))) = omega arith in
    ap (λ (n : ℕ). get_or (o ∷ p ∷ q ∷ r ∷ xs) n 0) e

rows_size : (n o p q r : ℕ) → length (rows n o p q r) ≡ 4 * n
rows_size zero o p q r = refl
rows_size (suc n) o p q r = omega (arith, rows_size n 1 (o + p) (p + q) (q + r))

rows_one : (n p q r m : ℕ) → m < n → entry (rows n 1 p q r) m 0 ≡ 1
rows_one zero p q r m h = absurd (omega arith)
rows_one (suc n) p q r zero h = refl
rows_one (suc n) p q r (suc m) h =
    on 1 p q r (rows n 1 (1 + p) (p + q) (q + r)) m 0 ∙ rows_one n (1 + p) (p + q) (q + r) m (omega arith)

rows_rule : (n o p q r m i : ℕ) → suc m < n → i < 3
    → entry (rows n o p q r) (suc m) (suc i) ≡ entry (rows n o p q r) m i + entry (rows n o p q r) m (suc i)
rows_rule zero o p q r m i h l = absurd (omega arith)
rows_rule (suc zero) o p q r m i h l = absurd (omega arith)
rows_rule (suc (suc n)) o p q r zero zero h l = refl
rows_rule (suc (suc n)) o p q r zero (suc zero) h l = refl
rows_rule (suc (suc n)) o p q r zero (suc (suc zero)) h l = refl
rows_rule (suc (suc n)) o p q r zero (suc (suc (suc i))) h l = absurd (omega arith)
rows_rule (suc (suc n)) o p q r (suc m) i h l =
    let xs = rows (suc n) 1 (o + p) (p + q) (q + r) in
    on o p q r xs (suc m) (suc i)
    ∙ rows_rule (suc n) 1 (o + p) (p + q) (q + r) m i (omega arith) l
    ∙ sym (ap₂ ◌+◌ (on o p q r xs m i) (on o p q r xs m (suc i)))

rows_pascal : (last : ℕ) → Pascal last (rows (suc last) 1 0 0 0)
rows_pascal last = record {
  size = rows_size (suc last) 1 0 0 0;
  one = λ m h. rows_one (suc last) 0 0 0 m (omega arith);
  none = none;
  rule = λ m r h l. rows_rule (suc last) 1 0 0 0 m r (omega arith) l;
}
  where
    none : (r : ℕ) → r < 3 → entry (rows (suc last) 1 0 0 0) 0 (suc r) ≡ 0
    none zero h = refl
    none (suc zero) h = refl
    none (suc (suc zero)) h = refl
    none (suc (suc (suc r))) h = absurd (omega arith)

pub pascal : (last : ℕ) (table : List ℕ) → T (is_pascal last table) → Pascal last table
pascal last table t = subst (Pascal last) (same_is (rows (suc last) 1 0 0 0) table t) (rows_pascal last)

-- ---- a table with the rule holds the binomials

module _ {last : ℕ} {table : List ℕ} (p : Pascal last table) where
  pub entry_is : (m r : ℕ) → m ≤ last → r ≤ 3 → entry table m r ≡ choose m r
  entry_is m zero h l = p.one m h
  entry_is zero (suc r) h l = p.none r (omega arith)
  entry_is (suc m) (suc r) h l = p.rule m r h (omega arith) ∙ ap₂ ◌+◌ (entry_is m r (omega arith) (omega arith)) (entry_is m (suc r) (omega arith) (omega arith))

-- ---- and what is worked out for them: none is above 2^32

bounded : (n i : ℕ) → n ≤ 512 → choose n i ≤ 512 ^ i
bounded n zero h = omega arith
bounded n (suc i) h =
    let m : n - i ≤ 512 = omega arith in
    rw (pow-suc 512 i) (omega (arith, choose_step n i, mul-suc (choose n (suc i)) i, mul-le-mul (bounded n i h) m))

few : (n r : ℕ) → n ≤ 512 → r ≤ 3 → choose n r ≤ 2 ^ 32
few n zero h l = omega arith
few n (suc zero) h l = omega (arith, bounded n 1 h)
few n (suc (suc zero)) h l = omega (arith, bounded n 2 h)
few n (suc (suc (suc zero))) h l = omega (arith, bounded n 3 h)
few n (suc (suc (suc (suc r)))) h l = absurd (omega arith)

-- ---- what `coefficient` takes

pub read_there : (table : List ℕ) (n r : ℕ) → n ≤ 512 → r ≤ 3 → entry table n r ≡ coefficient_in table n r
unfolding coefficient_in
read_there table n r h l = simp (le-leb n 512 h, le-leb r 3 l)

pub past_rows : (table : List ℕ) (n r c : ℕ) → 512 < n → c ≡ choose_up_to n r → c ≡ coefficient_in table n r
unfolding coefficient_in
past_rows table n r c h e = e ∙ simp (lt-leb n 512 h)

pub past_columns : (table : List ℕ) (n r c : ℕ) → n ≤ 512 → 3 < r → c ≡ choose_up_to n r → c ≡ coefficient_in table n r
unfolding coefficient_in
past_columns table n r c h l e = e ∙ simp (le-leb n 512 h, lt-leb r 3 l)

-- ---- the theorem

pub table_agrees : TableAgrees
table_agrees table p = record {
  exact = entry_is p;
  agrees = agrees;
  either = λ n r. either n r (le_or_lt n 512) (le_or_lt r 3);
  alone = λ other q. ext_get_or 0 other table (q.size ∙ sym p.size) (λ i h. at other q i (omega (arith, q.size)));
}
  where
    agrees : (m r : ℕ) → m ≤ 512 → r ≤ 3 → entry table m r ≡ choose_up_to m r
    agrees m r h l = let e = entry_is p m r h l in exact m r (entry table m r) e (omega (arith, e, few m r h l))

    either : (n r : ℕ) → (n ≤ 512) ⊎ (512 < n) → (r ≤ 3) ⊎ (3 < r) → coefficient_in table n r ≡ choose_up_to n r
    either n r (inl h) (inl l) = sym (read_there table n r h l) ∙ agrees n r h l
    either n r (inl h) (inr l) = sym (past_columns table n r (choose_up_to n r) h l refl)
    either n r (inr h) l = sym (past_rows table n r (choose_up_to n r) h refl)

    at : (other : List ℕ) → Pascal 512 other → (i : ℕ) → i < 2052 → get_or other i 0 ≡ get_or table i 0
    at other q i h =
        let e : 4 * (i / 4) + i % 4 ≡ i = omega arith in
        let m : i / 4 ≤ 512 = omega arith in
        let r : i % 4 ≤ 3 = omega arith in
        subst (λ (j : ℕ). get_or other j 0 ≡ get_or table j 0) e (entry_is q (i / 4) (i % 4) m r ∙ sym (entry_is p (i / 4) (i % 4) m r))
