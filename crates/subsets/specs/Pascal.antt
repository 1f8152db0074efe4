-- Small binomials in a table: four entries to a row, row m for m and entry r of it for r.
use Rattle.std.specs.Prelude.{◌≡◌, Bool, false, cond, List, ℕ, suc, ◌+◌, ◌*◌, ◌≤◌, ◌<◌, leb, length, get_or}
use Rattle.subsets.specs.Choose.{choose, choose_up_to}

-- entry r of row m
abbrev pub entry : List ℕ → ℕ → ℕ → ℕ
entry table m r = get_or table (4 * m + r) 0

-- Pascal's rule and its edges, r = 0 and m = 0, over all entries of the rows 0 to `last`
pub record Pascal (last : ℕ) (table : List ℕ) : Type 0 where
  pub size : length table ≡ 4 * suc last
  pub one : (m : ℕ) → m ≤ last → entry table m 0 ≡ 1
  pub none : (r : ℕ) → r < 3 → entry table 0 (suc r) ≡ 0
  pub rule : (m r : ℕ) → m < last → r < 3 → entry table (suc m) (suc r) ≡ entry table m r + entry table m (suc r)

-- whether a table of 2,052 entries has n choose r: n to 512, r to 3
abbrev pub tabled : ℕ → ℕ → Bool
tabled n r = cond (leb n 512) (leb r 3) false

-- n choose r from any table of 2,052 entries: what stands there where it has it, else what is worked out
unfoldable pub coefficient_in : List ℕ → ℕ → ℕ → ℕ
coefficient_in table n r = cond (tabled n r) (entry table n r) (choose_up_to n r)

-- What a table with the rule is: each entry is the binomial, and what is worked out for it; so it makes no difference which is taken, and no other table has the
-- rule.
pub record Tabulates (table : List ℕ) : Type 0 where
  pub exact : (m r : ℕ) → m ≤ 512 → r ≤ 3 → entry table m r ≡ choose m r
  pub agrees : (m r : ℕ) → m ≤ 512 → r ≤ 3 → entry table m r ≡ choose_up_to m r
  pub either : (n r : ℕ) → coefficient_in table n r ≡ choose_up_to n r
  pub alone : (other : List ℕ) → Pascal 512 other → other ≡ table

-- Theorem: so is every table with the rule, the one that `coefficients` answers among them.
abbrev pub TableAgrees : Type 0
TableAgrees = (table : List ℕ) → Pascal 512 table → Tabulates table
