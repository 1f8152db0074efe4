-- `records::array_of` meets its contract.
use mathlib.Core.Path.{◌≡◌, sym, ap}
use mathlib.Core.List.{List, ◌++◌}
use Prim.Native.Nat.{ℕ}
use lib.ListN.{length, take, drop, replicate}
use lib.Seq.{length-take-le}
use Rattle.exports.proofs.records.array_of.Goals.{Start}
use Rattle.exports.proofs.records.array_of.Goals as goal

-- there is room for the bits
room : (s : Start) → length s.args.bits.now ≡ length (take (length s.args.bits.now) (replicate {A = ℕ} 20 0))
room s = sym (length-take-le (length s.args.bits.now) (replicate {A = ℕ} 20 0) s.requires)

pub slice_bounds-copy_from_slice-end : goal.slice_bounds-copy_from_slice-end
slice_bounds-copy_from_slice-end c = room (goal.at.slice_bounds-copy_from_slice-end c).Start

pub copy_from_slice-requires : goal.copy_from_slice-requires
copy_from_slice-requires c = sym (room (goal.at.copy_from_slice-requires c).Start)

pub returns : goal.returns
returns c = ap (λ (t : List ℕ). t ++ drop (length c.args.bits.now) (replicate 20 0)) c.copy_from_slice.ensures.after
