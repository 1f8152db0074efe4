-- `refusal::pair_refusal` meets its contract: a skipped pair is not refused, else each return with the tests that led there.
use mathlib.Core.Path.{◌≡◌}
use mathlib.Core.Bool.{true}
use Prim.Native.Nat.{◌*◌, ◌/◌, ◌≤◌, ◌<◌}
use native.Mathlib.Omega.{arith}
use lib.Dec.{leb}
use borrow.Author.Tests.{le-leb, lt-leb}
use Rattle.counting.specs.Recording.{capacity_bytes}
use Rattle.counting.proofs.Accepted.{Valid, valid_facts}
use Rattle.judging.specs.Split.{first_blocks}
use Rattle.sweeping.specs.Refusal.{training_refusal, pair_refusal}
use Rattle.sweeping.proofs.refusal.pair_refusal.Goals.{Else-m-lt2, Start}
use Rattle.sweeping.proofs.refusal.pair_refusal.Goals as goal

has : (s : Start) → Valid s.args.block_size
has s = valid_facts s.args.block_size s.requires.block_size_value

two : (e : Else-m-lt2) → let a = e.args in leb 2 (a.bytes / (a.block_size / 8)) ≡ true
two e = let a = e.args in let h : 2 ≤ a.bytes / (a.block_size / 8) = omega (arith, e.if-m-lt2.false) in le-leb _ _ h

pub nonzero_div-m : goal.nonzero_div-m
nonzero_div-m c = omega (arith, (has c).low)

pub returns-then-m-lt2 : goal.returns-then-m-lt2
unfolding pair_refusal
returns-then-m-lt2 c = simp (lt-leb _ _ c.if-m-lt2.true)

pub capacity_bytes-requires : goal.capacity_bytes-requires
capacity_bytes-requires c = let v = has (goal.at.capacity_bytes-requires c).Start in record {
  le_block_size = v.low;
  block_size_bound = v.high;
  words_bound = c.requires.k_bound.1;
}

pub returns-then-m-size : goal.returns-then-m-size
unfolding pair_refusal training_refusal first_blocks
returns-then-m-size c =
    let a = c.args in
    let m = a.bytes / (a.block_size / 8) in
    let h : capacity_bytes a.block_size a.room.words < m / 2 * (a.block_size / 8) = omega (arith, c.if-m-size.true, c.capacity_bytes.ensures.0) in
    simp (two (goal.at.returns-then-m-size c).Else-m-lt2, lt-leb _ _ h)

pub returns : goal.returns
unfolding pair_refusal training_refusal first_blocks
returns c =
    let a = c.args in
    let m = a.bytes / (a.block_size / 8) in
    let h : m / 2 * (a.block_size / 8) ≤ capacity_bytes a.block_size a.room.words = omega (arith, c.if-m-size.false, c.capacity_bytes.ensures.0) in
    simp (two (goal.at.returns c).Else-m-lt2, le-leb _ _ h) c.room_refusal.ensures
