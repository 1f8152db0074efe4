-- Whether two searches found the same.
use Rattle.std.specs.Prelude.{ℕ, zero, suc, min, Bool, true, false, not, ◌&&◌, List, eqb, get_or}
use Rattle.std.specs.Float.Ieee.{eq}
use Rattle.searching.specs.declared.finding.Finding.{Finding}

-- whether the first m entries are the same
unfoldable pub same_to : List ℕ → List ℕ → ℕ → Bool
same_to a b zero = true
same_to a b (suc i) = same_to a b i && eqb (get_or a i 0) (get_or b i 0)

-- whether two bit orders are the same
abbrev pub alike : Bool → Bool → Bool
alike true b = b
alike false b = not b

-- whether two findings are the same in every field: the bits up to the width, past which none is read, the scores as the doubles' == has it
unfoldable pub same_finding : Finding → Finding → Bool
same_finding a b =
    eqb a.block_size b.block_size
    && (eqb a.width b.width && (eqb a.division b.division && (same_to a.bits b.bits (min a.width 20) && (alike a.low_first b.low_first && eq a.z b.z))))
