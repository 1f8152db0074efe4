-- `ranking::count_at` meets its contract: the order lists bins.
use native.Mathlib.Omega.{arith}
use Prim.Native.Nat.{◌<◌}
use lib.ListN.{length, get_or}
use Rattle.ranking.proofs.Permuting.{below_at}
use Rattle.ranking.proofs.ranking.count_at.Goals.{Start}
use Rattle.ranking.proofs.ranking.count_at.Goals as goal

listed : (d : Start) → get_or d.args.order.now d.args.place 0 < length d.args.bins.now
listed d = below_at (length d.args.bins.now) d.args.order.now d.args.place d.requires.1 d.requires.0

pub overflow_cast-v : goal.overflow_cast-v
overflow_cast-v c = let h = listed (goal.at.overflow_cast-v c).Start in omega arith

pub offset_bounds-bins-v : goal.offset_bounds-bins-v
offset_bounds-bins-v c = let h = listed (goal.at.offset_bounds-bins-v c).Start in omega arith

pub bounds-bins-v : goal.bounds-bins-v
bounds-bins-v c = listed (goal.at.bounds-bins-v c).Start
