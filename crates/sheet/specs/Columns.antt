-- Numbers in columns: decimal digits to the right, spaces before them.
use Rattle.std.specs.Prelude.{ℕ, zero, suc, ◌+◌, ◌-◌, ◌/◌, ◌%◌, ◌^◌, List, [], ◌∷◌, ◌++◌}
use Rattle.counting.specs.Sample.{list_of}

-- the character i places before a field's end, `rest` being the number divided by 10 ^ i: a digit; a space where no digit is left, but for the last place
abbrev pub symbol : ℕ → ℕ → ℕ
symbol zero rest = 48 + rest % 10
symbol (suc i) zero = 32
symbol (suc i) (suc rest) = 48 + suc rest % 10

-- n's character i places before the field's end
unfoldable pub symbol_at : ℕ → ℕ → ℕ
symbol_at n i = symbol i (n / 10 ^ i)

-- n right-justified in w columns
unfoldable pub columns : ℕ → ℕ → List ℕ
columns w n = list_of w (λ i. symbol_at n (w - 1 - i))

-- the numbers of a line, w columns each
unfoldable pub fields : ℕ → List ℕ → List ℕ
fields w [] = []
fields w (n ∷ ns) = columns w n ++ fields w ns

-- a line: its numbers and a newline
unfoldable pub line : ℕ → List ℕ → List ℕ
line w ns = fields w ns ++ (10 ∷ [])
