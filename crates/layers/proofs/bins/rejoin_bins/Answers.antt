-- `bins::rejoin_bins` meets its contract: below three bits nothing is done.
use Prim.Native.Nat.{◌-◌, ◌*◌, ◌%◌, ◌^◌}
use mathlib.Core.Path.{◌≡◌}
use native.Mathlib.Omega.{arith}
use Rattle.counting.proofs.Marks.{shifted_one}
use Rattle.layers.proofs.bins.rejoin_bins.Goals.{Start}
use Rattle.layers.proofs.bins.rejoin_bins.Goals as goal

-- half of the bins, as the code has it
half_is : (s : Start) → 1 * 2 ^ (s.args.k - 1) % 2 ^ 64 ≡ 2 ^ (s.args.k - 1)
half_is s = shifted_one 64 (s.args.k - 1) (omega (arith, s.requires.le_k))

pub returns : goal.returns
returns c =
    let r = c.join_bins.ensures in
    let h = half_is (goal.at.returns c).Start in
    record { v_after = λ _. rw h at r.by_index_2; bins_unchanged = rw h at r.bins_unchanged }
