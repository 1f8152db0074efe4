-- `samplers::write_taken` meets its contract: nothing is written where the feed was refused, else two numbers are.
use mathlib.Core.Path.{◌≡◌, refl, sym, ap, ◌∙◌}
use Prim.Native.Nat.{◌≤◌, ◌<◌}
use native.Mathlib.Omega.{arith}
use lib.ListN.{length, length-set}
use Rattle.std.specs.Prelude.{Result, Ok, Err}
use Rattle.counting.specs.Refusal.{refusal_of}
use Rattle.counting.specs.declared.refusal.Refusal.{Refusal}
use Rattle.counting.proofs.Reasons.{some_number}
use Rattle.sampling.specs.Feeding.{as_taken, next_head}
use Rattle.sampling.specs.declared.feeding.Taken as taken
use Rattle.exports.specs.Records.{written}
use Rattle.exports.specs.Samplers.{sampler_numbers, head_of}
use Rattle.exports.proofs.Calling.{sampler_room_is, sampler_order}
use Rattle.exports.proofs.Numbers.{numbers_kept, numbers_fed}
use Rattle.exports.proofs.samplers.write_taken.Goals.{In-Ok, Start}
use Rattle.exports.proofs.samplers.write_taken.Goals as goal

-- there are the numbers of a sampler
long : (s : Start) → 8 ≤ length s.args.numbers.now
long s = sampler_room_is s.args.numbers.now s.requires.numbers_value

-- the board is one of the four
named : (e : In-Ok) → e.args.board < 4
named e = e.requires.board_bound (ap refusal_of e.in-Ok.is)

pub bounds-numbers-2 : goal.bounds-numbers-2
bounds-numbers-2 c = omega (arith, long (goal.at.bounds-numbers-2 c).Start)

pub overflow_add-numbers : goal.overflow_add-numbers
overflow_add-numbers c = omega (arith, named c)

pub offset_bounds-numbers-board : goal.offset_bounds-numbers-board
offset_bounds-numbers-board c = omega (arith, named c)

pub bounds-numbers-board : goal.bounds-numbers-board
bounds-numbers-board c = simp length-set (omega (arith, long (goal.at.bounds-numbers-board c).Start, named c))

pub shape_of-numbers : goal.shape_of-numbers
shape_of-numbers c = simp length-set

pub returns-in-Ok : goal.returns-in-Ok
returns-in-Ok c =
    let a = c.args in
    numbers_fed a.numbers.now (long (goal.at.returns-in-Ok c).Start) (sampler_order a.numbers.now c.requires.numbers_value) a.board (as_taken (Ok c.in-Ok.taken)) refl (named c)
    ∙ ap (λ (t : Result taken.Taken Refusal). written (sampler_numbers (next_head (head_of a.numbers.now) a.board (as_taken t))) a.numbers.now) (sym c.in-Ok.is)

-- a refusal's number is not that of none
some : (t : Result taken.Taken Refusal) → ((v : taken.Taken) → t ≡ Ok v → ⊥) → (as_taken t).refusal ≡ 0 → ⊥
some (Ok v) n z = n v refl
some (Err r) n z = some_number r z

pub returns-in_default : goal.returns-in_default
returns-in_default c =
    let a = c.args in
    numbers_kept a.numbers.now (long (goal.at.returns-in_default c).Start) (sampler_order a.numbers.now c.requires.numbers_value) a.board (as_taken a.taken.now) (some a.taken.now c.in_default.not-Ok)
