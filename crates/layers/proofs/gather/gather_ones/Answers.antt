-- `gather::gather_ones` meets its contract: number by number.
use Prim.Native.Nat.{ℕ, ◌+◌, ◌-◌, ◌*◌, ◌%◌, ◌^◌, ◌≤◌, ◌<◌}
use mathlib.Core.Path.{◌≡◌, refl, sym, ap, subst, ◌∙◌}
use native.Mathlib.Omega.{arith}
use lib.Count.{ones, count_trailing_zeros}
use lib.ListN.{length, get_or, set, length-set}
use lib.Pow.{pow_pos}
use lib.Seq.{get_or-set_same, get_or-set_other}
use Rattle.counting.proofs.Marks.{shifted_one}
use Rattle.subsets.specs.Rank.{ways_above}
use Rattle.layers.specs.Settle.{chosen}
use Rattle.layers.proofs.Gathering.{Turn, turn, Parts, parts_none, part_before, parts_more, Entries, entries_none, entries_more, outside}
use Rattle.layers.proofs.gather.gather_ones.Goals.{In-loop-u, Start}
use Rattle.layers.proofs.gather.gather_ones.Goals as goal

-- the first number, as the code has it
from_is : (s : Start) → let m = length s.args.bits.now - 1 in 1 * 2 ^ m % 2 ^ 64 ≡ 2 ^ m
from_is s = shifted_one 64 (length s.args.bits.now - 1) (omega (arith, s.requires.in_bounds))

-- there are numbers, and at most 2^20
some_parts : (s : Start) → 0 < length s.args.parts.now
some_parts s = omega (arith, pow_pos (length s.args.bits.now), s.requires.bits_in_bounds.0)

-- the number of a turn
below : (d : In-loop-u) → d.loop-u.u < 2 ^ length d.args.bits.now
below d = omega (arith, d.loop-u-test.true, d.requires.k_bound.1)

above : (d : In-loop-u) → 1 ≤ d.loop-u.u
above d = omega (arith, d.loop-u.invariant.0, pow_pos (length d.args.bits.now - 1))

now_turn : (d : In-loop-u)
    → let a = d.args in
    let u = d.loop-u.u in
    Turn a.block_size a.k a.bits.now a.store.now a.run.now u (count_trailing_zeros 32 u) (ones u)
now_turn d =
    let a = d.args in
    turn a.block_size a.k a.bits.now a.store.now a.run.now d.requires.in_bounds.1 d.requires.k_bound.0 d.requires.subset d.requires.roomy d.requires.tables
    d.loop-u.u (above d) (below d) (d.requires.k_bound.3 d.loop-u.u d.loop-u-test.true)

-- its lowest one, as a power
low_is : (d : In-loop-u) → let i = count_trailing_zeros 32 d.loop-u.u in 1 * 2 ^ i % 2 ^ 64 ≡ 2 ^ i
low_is d = shifted_one 64 (count_trailing_zeros 32 d.loop-u.u) (omega (arith, (now_turn d).place, d.requires.in_bounds))

-- its part
part_is : (d : In-loop-u)
    → let a = d.args in
    let u = d.loop-u.u in
    get_or a.run.now ((count_trailing_zeros 32 u + 1) * 21 + ones u) 0 + get_or d.loop-u.parts (u - 1 * 2 ^ count_trailing_zeros 32 u % 2 ^ 64) 0
    ≡ ways_above a.block_size (chosen a.bits.now u)
part_is d =
    let a = d.args in
    let l = d.loop-u in
    let i : ℕ = count_trailing_zeros 32 l.u in
    let e : l.u - 1 * 2 ^ i % 2 ^ 64 ≡ l.u - 2 ^ i = ap (λ (x : ℕ). l.u - x) (low_is d) in
    let from : ℕ = 2 ^ (length a.bits.now - 1) in
    let before : get_or l.parts (l.u - 2 ^ i) 0 ≡ ways_above a.block_size (chosen a.bits.now (l.u - 2 ^ i)) =
    part_before a.block_size a.bits.now (set a.parts.now 0 0) from 1 l.u l.parts l.invariant.2
    refl d.requires.in_bounds.0 d.requires.in_bounds.1 l.invariant.0 (below d) (omega arith) in
    ap (λ (x : ℕ). get_or a.run.now ((i + 1) * 21 + ones l.u) 0 + x) (ap (λ (x : ℕ). get_or l.parts x 0) e ∙ before) ∙ (now_turn d).part

-- the buffers hold it
in_parts : (d : In-loop-u) → d.loop-u.u < length d.loop-u.parts
in_parts d =
    omega (arith, below d, d.loop-u.invariant.2.size, length-set d.args.parts.now 0 0, d.requires.bits_in_bounds.0)

pub loop-u-init : goal.loop-u-init
loop-u-init c =
    let a = c.args in
    let from : ℕ = 2 ^ (length a.bits.now - 1) in (
      omega (arith, from_is c),
      omega (arith, from_is c),
      subst (λ (x : ℕ). Parts a.block_size a.bits.now (set a.parts.now 0 0) from 1 x (set a.parts.now 0 0)) (sym (from_is c))
          (parts_none a.block_size a.bits.now (set a.parts.now 0 0) from 1 (get_or-set_same a.parts.now 0 0 0 (some_parts c))),
      subst (λ (x : ℕ). Entries a.block_size a.k a.bits.now a.store.now a.bins.now from x a.bins.now) (sym (from_is c))
          (entries_none a.block_size a.k a.bits.now a.store.now a.bins.now from),
    )

pub bounds-run-i : goal.bounds-run-i
bounds-run-i c = omega (arith, (now_turn (goal.at.bounds-run-i c).In-loop-u).way_in)

pub overflow_sub-part : goal.overflow_sub-part
overflow_sub-part c = omega (arith, low_is (goal.at.overflow_sub-part c).In-loop-u, (now_turn (goal.at.overflow_sub-part c).In-loop-u).has)

pub overflow_add-part-in-loop-u-2 : goal.overflow_add-part-in-loop-u-2
overflow_add-part-in-loop-u-2 c = omega (arith, part_is (goal.at.overflow_add-part-in-loop-u-2 c).In-loop-u, (now_turn (goal.at.overflow_add-part-in-loop-u-2 c).In-loop-u).small)

pub overflow_sub-bins : goal.overflow_sub-bins
overflow_sub-bins c = omega (arith, part_is (goal.at.overflow_sub-bins c).In-loop-u, (now_turn (goal.at.overflow_sub-bins c).In-loop-u).under_top)

pub bounds-store-run : goal.bounds-store-run
bounds-store-run c = omega (arith, part_is (goal.at.bounds-store-run c).In-loop-u, (now_turn (goal.at.bounds-store-run c).In-loop-u).inside)

pub loop-u-preserved : goal.loop-u-preserved
loop-u-preserved c =
    let a = c.args in
    let from : ℕ = 2 ^ (length a.bits.now - 1) in
    let t = now_turn (goal.at.loop-u-preserved c).In-loop-u in (
      omega (arith, c.loop-u.invariant.0),
      omega (arith, c.loop-u-test.true),
      parts_more a.block_size a.bits.now (set a.parts.now 0 0) from 1 c.loop-u.u c.loop-u.parts c.loop-u.invariant.2 (c.loop-u.u + 1) _
          (pow_pos (length a.bits.now - 1)) c.loop-u.invariant.0 (below (goal.at.loop-u-preserved c).In-loop-u) (in_parts (goal.at.loop-u-preserved c).In-loop-u) (λ w low high z. omega arith) (part_is (goal.at.loop-u-preserved c).In-loop-u),
      entries_more a.block_size a.k a.bits.now a.store.now a.bins.now from c.loop-u.u c.loop-u.bins c.loop-u.invariant.3 (c.loop-u.u + 1) _
          refl c.loop-u.invariant.0 (omega (arith, below (goal.at.loop-u-preserved c).In-loop-u, c.requires.bits_in_bounds.1))
          (λ bit n holds. ap (λ (x : ℕ). get_or a.store.now (get_or a.run.now (ones c.loop-u.u) 0 - x) 0) (part_is (goal.at.loop-u-preserved c).In-loop-u) ∙ t.entry bit n holds),
    )

pub returns : goal.returns
returns c =
    let a = c.args in
    let from : ℕ = 2 ^ (length a.bits.now - 1) in
    let r = c.loop-u.invariant.3 in record {
      by_index = λ bit n holds w low high. r.gathered bit n holds w low (omega (arith, c.loop-u-test.false));
      spared = λ w h. r.spared w (outside from a.end c.loop-u.u w c.loop-u.invariant.1 h);
      by_index_2 = λ w h. c.loop-u.invariant.2.rest w h ∙ get_or-set_other a.parts.now 0 w 0 0 (λ q. omega (arith, pow_pos (length a.bits.now)));
    }
