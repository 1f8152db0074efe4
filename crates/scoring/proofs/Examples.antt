-- Roots and scores that antt computes from the definitions.
use mathlib.Core.Path.{◌≡◌, refl}
use mathlib.Core.Bool.{true, false}
use lib.IntN.{pos, negsuc}
use lib.Ieee.{fin, round, mul, sub, div, of_int}
use Rattle.scoring.specs.Halves.{part}
use Rattle.scoring.specs.Units.{isqrt, isqrt_from}
use Rattle.scoring.specs.Root.{root, root_at}
use Rattle.scoring.specs.Score.{deviation, z_over, z_score}

-- 2 has an odd exponent and a root without end
root_of_two : root (fin false 1 (pos 1)) ≡ fin false 6369051672525773 (negsuc 51)
unfolding root root_at isqrt isqrt_from round
root_of_two = refl

-- the least double is 2 ^ -1074, an exact square
root_of_least : root (fin false 1 (negsuc 1073)) ≡ fin false 1 (negsuc 536)
unfolding root root_at isqrt isqrt_from round
root_of_least = refl

-- the largest double, (2 ^ 53 - 1) * 2 ^ 971
root_of_largest : root (fin false 9007199254740991 (pos 971)) ≡ fin false 9007199254740991 (pos 459)
unfolding root root_at isqrt isqrt_from round
root_of_largest = refl

-- four of four at one half, three of four, none of four: 2, 1 and -2
all_of_four : z_score 4 4 (part 1 1) ≡ fin false 1 (pos 1)
unfolding z_score z_over deviation part root root_at isqrt isqrt_from mul sub div of_int
all_of_four = refl

three_of_four : z_score 4 3 (part 1 1) ≡ fin false 1 (pos 0)
unfolding z_score z_over deviation part root root_at isqrt isqrt_from mul sub div of_int
three_of_four = refl

none_of_four : z_score 4 0 (part 1 1) ≡ fin true 1 (pos 1)
unfolding z_score z_over deviation part root root_at isqrt isqrt_from mul sub div of_int
none_of_four = refl
