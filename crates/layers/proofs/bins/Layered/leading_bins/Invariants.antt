-- `Layered::leading_bins` meets its contract: with m - 1 bits taken, the first 2^(m - 1) bins are theirs.
use Prim.Native.Nat.{ℕ, ◌-◌, ◌^◌, ◌≤◌, ◌<◌}
use mathlib.Core.Path.{◌≡◌}
use mathlib.Core.List.{List}
use lib.ListN.{length, get_or, take, drop}
use Rattle.counting.specs.Sample.{count_in}
use Rattle.counting.specs.Stretch.{span, stretch_bit}
use Rattle.layers.proofs.bins.Layered.leading_bins.Given as goal

-- the first 2^(m - 1) bins are those of the first m - 1 bits, and past the 2^k bins and parts nothing has changed
pub record Split (bit : ℕ → ℕ → ℕ) (n : ℕ) (bits parts₀ bins₀ : List ℕ) (m : ℕ) (parts bins : List ℕ) : Type 0 where
  pub some : 1 ≤ m
  pub within : m ≤ length bits
  pub part_size : length parts ≡ length parts₀
  pub bin_size : length bins ≡ length bins₀
  pub counted : (v : ℕ) → v < 2 ^ (m - 1) → get_or bins v 0 ≡ count_in bit n (take (m - 1) bits) v
  pub bin_rest : drop (2 ^ length bits) bins ≡ drop (2 ^ length bits) bins₀
  pub part_rest : drop (2 ^ length bits) parts ≡ drop (2 ^ length bits) parts₀

abbrev pub invariant-loop-m : goal.invariant-loop-m
invariant-loop-m l = Split (stretch_bit l.self.stretch l.self.words.now) (span l.self.stretch) l.bits l.initial.parts l.initial.bins l.m l.parts l.bins
