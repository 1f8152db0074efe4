-- `records::rank_of` meets its contract: a width above 20 is refused whatever the bits are, and a lesser one is that of the bits in the array.
use mathlib.Core.Path.{◌≡◌, refl, sym, ap, ◌∙◌}
use Prim.Native.Nat.{ℕ, ◌≤◌, ◌<◌}
use mathlib.Core.Bool.{Bool, true, false}
use mathlib.Core.List.{List}
use native.Mathlib.Omega.{arith}
use lib.ListN.{length, take, drop, replicate}
use lib.Seq.{take_at}
use borrow.Author.Tests.{le-leb, lt-leb}
use Rattle.subsets.specs.Bits.{valid_width}
use Rattle.subsets.specs.Rank.{ranked_of}
use Rattle.subsets.proofs.Refusing.{bad_size, bad_width}
use Rattle.counting.specs.Block.{valid_size}
use Rattle.exports.proofs.records.rank_of.Goals as goal

-- a width above 20 is refused whatever the bits are

module _ (B k : ℕ) (s t : List ℕ) (wide : 20 < k) where
  invalid : valid_width k ≡ false
  unfolding valid_width
  invalid = let one : 1 ≤ k = omega arith in simp (le-leb 1 k one, lt-leb k 20 wide)

  at_size : (b : Bool) → valid_size B ≡ b → ranked_of B k s ≡ ranked_of B k t
  at_size true e = sym (bad_width B k s e invalid) ∙ bad_width B k t e invalid
  at_size false e = sym (bad_size B k s e) ∙ bad_size B k t e

  refused_alike : ranked_of B k s ≡ ranked_of B k t
  refused_alike = at_size (valid_size B) refl

pub returns-then-bits-gt20 : goal.returns-then-bits-gt20
returns-then-bits-gt20 c =
    let a = c.args in
    c.compute_index.ensures ∙ refused_alike a.block_size (length a.bits.now) _ _ c.if-bits-gt20.true

pub returns : goal.returns
returns c =
    let a = c.args in
    let bits = a.bits.now in
    c.compute_index-2.ensures
    ∙ ap (λ (t : List ℕ). ranked_of a.block_size (length bits) (take (length bits) t)) c.array_of.ensures
    ∙ ap (ranked_of a.block_size (length bits)) (take_at bits (drop (length bits) (replicate 20 0)) (length bits) refl)
