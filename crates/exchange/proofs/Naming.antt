-- Laws of keys: what the tokens that are tried in turn make of what is read.
use mathlib.Core.Path.{◌≡◌, refl, sym, ap, ◌∙◌}
use mathlib.Core.Bool.{Bool, true, false, cond}
use mathlib.Core.List.{List, [], ◌∷◌}
use mathlib.Core.Option.{none, some}
use Prim.Native.Nat.{ℕ, zero, suc, ◌+◌, ◌<◌}
use native.Mathlib.Numerals.{add-one}
use native.Mathlib.Omega.{arith}
use lib.ListN.{length, drop}
use Rattle.std.specs.Prelude.{slice_index_or}
use Rattle.exchange.specs.Grammar.{is_space}
use Rattle.exchange.specs.Reader.{either, skip, read_exactly, read_token, quoted, read_name}
use Rattle.exchange.specs.declared.keys.Name.{Name}

-- white space that was passed is not there to be passed again
skip_again : (s : List ℕ) → skip (skip s) ≡ skip s
unfolding skip
skip_again [] = refl
skip_again (c ∷ s) = by_test (is_space c) refl (skip_again s)
  where
    by_test : (b : Bool) → is_space c ≡ b → skip (skip s) ≡ skip s → skip (cond b (skip s) (c ∷ s)) ≡ cond b (skip s) (c ∷ s)
    by_test true e h = h
    by_test false e h = rw e refl

pub token_again : (k s : List ℕ) → read_token k (skip s) ≡ read_token k s
unfolding read_token
token_again k s = ap (read_exactly k) (skip_again s)

-- the name in place i is tried before those behind it
name_turn : (xs : List Name) (i : ℕ) (s : List ℕ) (d : Name) → i < length xs
    → read_name (drop i xs) s ≡ either (read_token (quoted (slice_index_or xs i d)) s) (λ t. some (slice_index_or xs i d, t)) (read_name (drop (suc i) xs) s)
unfolding read_name
name_turn [] i s d h = absurd (omega arith)
name_turn (x ∷ xs) zero s d h = refl
name_turn (x ∷ xs) (suc i) s d h = name_turn xs i s d (omega arith)

module _ (xs : List Name) (i : ℕ) (s : List ℕ) (d : Name) (less : i < length xs) where
  pub name_found : (t : List ℕ) → some t ≡ read_token (quoted (slice_index_or xs i d)) s → some (slice_index_or xs i d, t) ≡ read_name (drop i xs) s
  name_found t h = sym (name_turn xs i s d less ∙ rw (← h))

  pub name_missed : none ≡ read_token (quoted (slice_index_or xs i d)) s → read_name (drop (i + 1) xs) s ≡ read_name (drop i xs) s
  name_missed h = rw add-one (sym (name_turn xs i s d less ∙ rw (← h)))
