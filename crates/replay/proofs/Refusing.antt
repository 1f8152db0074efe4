-- What a replay that is not refused may take for granted.
use mathlib.Core.Path.{◌≡◌}
use mathlib.Core.Bool.{true}
use mathlib.Core.List.{List}
use Prim.Native.Nat.{ℕ, ◌^◌, ◌≤◌}
use native.Mathlib.Omega.{arith}
use lib.Dec.{eqb}
use borrow.Author.Tests.{eqb-true}
use Rattle.counting.specs.Block.{valid_size}
use Rattle.searching.specs.Refusal.{width_refusal, buffer_refusal}
use Rattle.counting.proofs.Accepted.{passed}
use Rattle.searching.proofs.Refusing.{Width, width_free, buffer_free, neither}
use Rattle.counting.specs.Sample.{total}
use Rattle.replay.specs.Replay.{replay_refusal}

pub record ReplayFree (B bytes : ℕ) (lengths : List ℕ) (k bins order : ℕ) : Type 0 where
  pub adds_up : total lengths ≡ bytes
  pub valid : valid_size B ≡ true
  pub no_width : width_refusal B k ≡ 0
  pub no_buffer : buffer_refusal k bins order ≡ 0
  pub width : Width B k
  pub room : (2 ^ k ≤ bins) × (2 ^ k ≤ order)

pub replay_free : (B bytes : ℕ) (lengths : List ℕ) (k bins order : ℕ) → replay_refusal B bytes lengths k bins order ≡ 0 → ReplayFree B bytes lengths k bins order
unfolding replay_refusal
replay_free B bytes lengths k bins order e =
    let p = passed (eqb (total lengths) bytes) _ 24 (omega arith) e in
    let q = passed (valid_size B) _ 1 (omega arith) p.1 in
    let w = neither (width_refusal B k) (buffer_refusal k bins order) q.1 in
    record {
      adds_up = eqb-true (total lengths) bytes p.0;
      valid = q.0;
      no_width = w.0;
      no_buffer = w.1;
      width = width_free B k w.0;
      room = buffer_free k bins order w.1;
    }
