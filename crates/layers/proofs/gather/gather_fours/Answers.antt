-- `gather::gather_fours` meets its contract: four numbers at a turn.
use Prim.Native.Nat.{ℕ, ◌+◌, ◌-◌, ◌*◌, ◌/◌, ◌%◌, ◌^◌, ◌≤◌, ◌<◌, min}
use mathlib.Core.Path.{◌≡◌, refl, sym, ap, subst, ◌∙◌}
use mathlib.Core.Logic.{⊎_elim, inl, inr}
use native.Mathlib.Omega.{arith}
use lib.Count.{ones, count_trailing_zeros}
use lib.ListN.{length, get_or, set, length-set}
use lib.Pow.{pow_pos}
use lib.Seq.{get_or-set_same, get_or-set_other}
use Rattle.counting.proofs.Marks.{shifted_one}
use Rattle.layers.proofs.Picking.{doubled, power_four, four_stays}
use Rattle.layers.proofs.Gathering.{Turn, turn, Entry, own_entry, second_entry, third_entry, fourth_entry}
use Rattle.layers.proofs.Gathering.{Parts, parts_none, part_before, parts_more, Entries, entries_none, entries_more, entries_three}
use Rattle.layers.proofs.gather.gather_fours.Goals.{In-loop-four, Start, else-u-end, then-u-end}
use Rattle.layers.proofs.gather.gather_fours.Goals as goal

-- ---- the first number, and how many there are

from_is : (s : Start) → let m = length s.args.bits.now - 1 in 1 * 2 ^ m % 2 ^ 64 ≡ 2 ^ m
from_is s = shifted_one 64 (length s.args.bits.now - 1) (omega (arith, s.requires.in_bounds))

some_parts : (s : Start) → 0 < length s.args.parts.now
some_parts s = omega (arith, pow_pos (length s.args.bits.now), s.requires.bits_in_bounds.0)

-- ---- the four numbers of a turn

abbrev now : In-loop-four → ℕ
now d = 4 * d.loop-four.four

whole : (d : In-loop-four) → now d % 4 ≡ 0
whole d = omega arith

before : (d : In-loop-four) → now d < d.args.end
before d = omega (arith, d.loop-four-test.true, d.div_ceil-four-end.ensures)

above : (d : In-loop-four) → 1 ≤ now d
above d = omega (arith, d.loop-four.invariant.0, pow_pos (length d.args.bits.now - 1))

-- all are below the number of all subsets, which is a multiple of 4 too
below : (d : In-loop-four) → now d + 4 ≤ 2 ^ length d.args.bits.now
below d =
    omega (arith, before d, d.requires.k_bound.1, whole d, power_four (length d.args.bits.now) (omega (arith, d.requires.in_bounds.0)))

-- and all but the last are gathered
within : (d : In-loop-four) → now d + 3 ≤ d.args.end
within d = omega (arith, below d, d.requires.k_bound.2)

now_turn : (d : In-loop-four)
    → let a = d.args in
    let u = now d in
    Turn a.block_size a.k a.bits.now a.store.now a.run.now u (count_trailing_zeros 32 u) (ones u)
now_turn d =
    let a = d.args in
    turn a.block_size a.k a.bits.now a.store.now a.run.now d.requires.in_bounds.1 d.requires.k_bound.0 d.requires.subset d.requires.roomy d.requires.tables
    (now d) (above d) (omega (arith, below d)) (d.requires.k_bound.3 (now d) (before d))

few : (d : In-loop-four) → (count_trailing_zeros 32 (now d) < 20) × (ones (now d) ≤ 20)
few d = (omega (arith, (now_turn d).place, d.requires.in_bounds), omega (arith, (now_turn d).width, d.requires.k_bound.0))

-- the lowest one, as a power
low_is : (d : In-loop-four) → let i = count_trailing_zeros 32 (now d) in 1 * 2 ^ i % 2 ^ 64 ≡ 2 ^ i
low_is d = shifted_one 64 (count_trailing_zeros 32 (now d)) (omega (arith, (few d).0))

-- the parts that the code works out: that of the first without its lowest one, of the first, of the third
abbrev rest_part : In-loop-four → ℕ
rest_part d =
    let u = now d in
    get_or d.loop-four.parts (u - 1 * 2 ^ count_trailing_zeros 32 u % 2 ^ 64) 0

abbrev first_part : In-loop-four → ℕ
first_part d =
    let u = now d in
    get_or d.args.run.now ((count_trailing_zeros 32 u + 1) * 21 + ones u) 0 + rest_part d

abbrev third-part : In-loop-four → ℕ
third-part d = get_or d.args.run.now (43 + ones (now d)) 0 + first_part d

abbrev At : (d : In-loop-four) (w t y x : ℕ) → Type 0
At d w t y x =
    let a = d.args in
    Entry a.block_size a.k a.bits.now a.store.now a.run.now w t y x

first : (d : In-loop-four)
    → let u = now d in
    At d u (ones u) ((count_trailing_zeros 32 u + 1) * 21 + ones u) (rest_part d)
first d =
    let a = d.args in
    let l = d.loop-four in
    let i : ℕ = count_trailing_zeros 32 (now d) in
    let e : (now d) - 1 * 2 ^ i % 2 ^ 64 ≡ (now d) - 2 ^ i = ap (λ (x : ℕ). (now d) - x) (low_is d) in
    own_entry a.block_size a.k a.bits.now a.store.now a.run.now d.requires.in_bounds.1 d.requires.k_bound.0 d.requires.subset d.requires.roomy d.requires.tables
    (now d) (rest_part d) (above d) (omega (arith, below d)) (d.requires.k_bound.3 (now d) (before d))
    (ap (λ (x : ℕ). get_or l.parts x 0) e
    ∙ part_before a.block_size a.bits.now (set a.parts.now 0 0) (2 ^ (length a.bits.now - 1)) 4 (now d) l.parts l.invariant.1
    refl (omega (arith, d.requires.in_bounds.0)) d.requires.in_bounds.1 l.invariant.0 (omega (arith, below d)) (four_stays 30 (now d) (whole d)))

second : (d : In-loop-four)
    → let u = now d in
    At d (u + 1) (ones u + 1) (22 + ones u) (first_part d)
second d =
    let a = d.args in
    let l = d.loop-four in
    second_entry a.block_size a.k a.bits.now a.store.now a.run.now d.requires.in_bounds.1 d.requires.k_bound.0 d.requires.subset d.requires.roomy d.requires.tables
    (now d) (first_part d) (whole d) (omega (arith, below d)) (d.requires.k_bound.3 (now d + 1) (omega (arith, within d))) (first d).part

third : (d : In-loop-four)
    → let u = now d in
    At d (u + 2) (ones u + 1) (43 + ones u) (first_part d)
third d =
    let a = d.args in
    let l = d.loop-four in
    third_entry a.block_size a.k a.bits.now a.store.now a.run.now d.requires.in_bounds.1 d.requires.k_bound.0 d.requires.subset d.requires.roomy d.requires.tables
    (now d) (first_part d) (whole d) (omega (arith, below d)) (d.requires.k_bound.3 (now d + 2) (omega (arith, within d))) (first d).part

fourth : (d : In-loop-four)
    → let u = now d in
    u + 3 < d.args.end → At d (u + 3) (ones u + 2) (23 + ones u) (third-part d)
fourth d h =
    let a = d.args in
    let l = d.loop-four in
    fourth_entry a.block_size a.k a.bits.now a.store.now a.run.now d.requires.in_bounds.1 d.requires.k_bound.0 d.requires.subset d.requires.roomy d.requires.tables
    (now d) (third-part d) (whole d) (omega (arith, below d)) (d.requires.k_bound.3 (now d + 3) h) (third d).part

-- the buffers hold them
in_parts : (d : In-loop-four) → now d + 4 ≤ length d.loop-four.parts
in_parts d =
    omega (arith, below d, d.loop-four.invariant.1.size, length-set d.args.parts.now 0 0, d.requires.bits_in_bounds.0)

in_bins : (d : In-loop-four) (j : ℕ) → j < 4 → (now d) + j < length d.loop-four.bins
in_bins d j h =
    omega (arith, below d, d.loop-four.invariant.2.size, d.requires.bits_in_bounds.1)

-- a turn keeps a part
more_parts : (d : In-loop-four)
    → let a = d.args in
    let u = now d in
    Parts a.block_size a.bits.now (set a.parts.now 0 0) (2 ^ (length a.bits.now - 1)) 4 (u + 4) (set d.loop-four.parts u (first_part d))
more_parts d =
    let a = d.args in
    let l = d.loop-four in
    parts_more a.block_size a.bits.now (set a.parts.now 0 0) (2 ^ (length a.bits.now - 1)) 4 (now d) l.parts l.invariant.1 (now d + 4) _
    (pow_pos (length a.bits.now - 1)) l.invariant.0 (omega (arith, below d)) (omega (arith, in_parts d))
    (λ w low high z. omega (arith, whole d)) (first d).part

-- so many entries stood before it
read : (d : In-loop-four)
    → let a = d.args in Entries a.block_size a.k a.bits.now a.store.now a.bins.now (2 ^ (length a.bits.now - 1)) (now d) d.loop-four.bins
read d =
    let a = d.args in
    let here : min (now d) a.end ≡ now d = omega (arith, before d) in
    subst (λ (x : ℕ). Entries a.block_size a.k a.bits.now a.store.now a.bins.now (2 ^ (length a.bits.now - 1)) x d.loop-four.bins) here d.loop-four.invariant.2

room : (d : In-loop-four) → now d + 4 ≤ length d.args.bins.now
room d = omega (arith, below d, d.requires.bits_in_bounds.1)

pub loop-four-init : goal.loop-four-init
loop-four-init c =
    let a = c.args in
    let s = (goal.at.loop-four-init c).Start in
    let m : ℕ = length a.bits.now - 1 in
    let from : ℕ = 2 ^ m in
    let start : 4 * (1 * 2 ^ m % 2 ^ 64 / 4) ≡ from = omega (arith, from_is s, power_four m (omega (arith, c.requires.in_bounds))) in
    let grows : from * 2 ≡ 2 ^ length a.bits.now = doubled (length a.bits.now) (omega (arith, c.requires.in_bounds)) in
    let least : min from a.end ≡ from = omega (arith, pow_pos m, c.requires.k_bound.2) in
    rw start (
      omega arith,
      parts_none a.block_size a.bits.now (set a.parts.now 0 0) from 4 (get_or-set_same a.parts.now 0 0 0 (some_parts s)),
      subst (λ (x : ℕ). Entries a.block_size a.k a.bits.now a.store.now a.bins.now from x a.bins.now) (sym least)
          (entries_none a.block_size a.k a.bits.now a.store.now a.bins.now from),
    )

pub bounds-run-i : goal.bounds-run-i
bounds-run-i c = (first (goal.at.bounds-run-i c).In-loop-four).way_in

pub overflow_sub-part : goal.overflow_sub-part
overflow_sub-part c = omega (arith, low_is (goal.at.overflow_sub-part c).In-loop-four, (now_turn (goal.at.overflow_sub-part c).In-loop-four).has)

pub overflow_add-part-in-loop-four-2 : goal.overflow_add-part-in-loop-four-2
overflow_add-part-in-loop-four-2 c = omega (arith, (first (goal.at.overflow_add-part-in-loop-four-2 c).In-loop-four).small)

pub overflow_add-third-in-loop-four : goal.overflow_add-third-in-loop-four
overflow_add-third-in-loop-four c = omega (arith, (third (goal.at.overflow_add-third-in-loop-four c).In-loop-four).small)

pub overflow_sub-bins : goal.overflow_sub-bins
overflow_sub-bins c = (first (goal.at.overflow_sub-bins c).In-loop-four).under_top

pub bounds-store-run : goal.bounds-store-run
bounds-store-run c = (first (goal.at.bounds-store-run c).In-loop-four).inside

pub overflow_add-bins-in-loop-four : goal.overflow_add-bins-in-loop-four
overflow_add-bins-in-loop-four c = omega (arith, (second (goal.at.overflow_add-bins-in-loop-four c).In-loop-four).small)

pub overflow_sub-bins-in-loop-four : goal.overflow_sub-bins-in-loop-four
overflow_sub-bins-in-loop-four c = (second (goal.at.overflow_sub-bins-in-loop-four c).In-loop-four).under_top

pub bounds-store-top : goal.bounds-store-top
bounds-store-top c = (second (goal.at.bounds-store-top c).In-loop-four).inside

pub bounds-bins-u-in-loop-four : goal.bounds-bins-u-in-loop-four
bounds-bins-u-in-loop-four c = simp length-set (in_bins (goal.at.bounds-bins-u-in-loop-four c).In-loop-four 1 (omega arith))

pub overflow_sub-bins-in-loop-four-2 : goal.overflow_sub-bins-in-loop-four-2
overflow_sub-bins-in-loop-four-2 c = (third (goal.at.overflow_sub-bins-in-loop-four-2 c).In-loop-four).under_top

pub bounds-store-top-in-loop-four : goal.bounds-store-top-in-loop-four
bounds-store-top-in-loop-four c = (third (goal.at.bounds-store-top-in-loop-four c).In-loop-four).inside

pub bounds-bins-u-in-loop-four-2 : goal.bounds-bins-u-in-loop-four-2
bounds-bins-u-in-loop-four-2 c = simp length-set (in_bins (goal.at.bounds-bins-u-in-loop-four-2 c).In-loop-four 2 (omega arith))

pub overflow_add-bins-then-u-end-3 : goal.overflow_add-bins-then-u-end-3
overflow_add-bins-then-u-end-3 c = omega (arith, (fourth (goal.at.overflow_add-bins-then-u-end-3 c).In-loop-four c.if-u-end.true).small)

pub overflow_sub-bins-then-u-end : goal.overflow_sub-bins-then-u-end
overflow_sub-bins-then-u-end c = (fourth (goal.at.overflow_sub-bins-then-u-end c).In-loop-four c.if-u-end.true).under_top

pub bounds-store-run-then-u-end : goal.bounds-store-run-then-u-end
bounds-store-run-then-u-end c = (fourth (goal.at.bounds-store-run-then-u-end c).In-loop-four c.if-u-end.true).inside

pub loop-four-preserved : goal.loop-four-preserved
loop-four-preserved c =
    let a = c.args in
    let from : ℕ = 2 ^ (length a.bits.now - 1) in
    let u : ℕ = 4 * c.loop-four.four in
    let d = (goal.at.loop-four-preserved c).In-loop-four in
    let entries : Entries a.block_size a.k a.bits.now a.store.now a.bins.now from (min (u + 4) a.end) c.if-u-end.bins =
    elim c.if-u-end.branch [
      | then-u-end w ↦ rw w.bins-is
          (entries_more a.block_size a.k a.bits.now a.store.now a.bins.now from (u + 3) _
          (entries_three a.block_size a.k a.bits.now a.store.now a.bins.now from u c.loop-four.bins (read d) (u + 3) _ _ _ refl
          c.loop-four.invariant.0 (omega (arith, room d)) (first d).entry (second d).entry (third d).entry)
          (min (u + 4) a.end) _ (omega (arith, w.if-u-end.true)) (omega (arith, c.loop-four.invariant.0)) (omega (arith, room d)) (fourth d w.if-u-end.true).entry)
      | else-u-end w ↦ rw w.bins-is
          (entries_three a.block_size a.k a.bits.now a.store.now a.bins.now from u c.loop-four.bins (read d) (min (u + 4) a.end) _ _ _
          (omega (arith, w.if-u-end.false, within d)) c.loop-four.invariant.0 (omega (arith, room d)) (first d).entry (second d).entry (third d).entry)
    ] in
    let next : 4 * (c.loop-four.four + 1) ≡ u + 4 = omega arith in
    rw next (omega (arith, c.loop-four.invariant.0), more_parts d, entries)

pub returns : goal.returns
returns c =
    let a = c.args in
    let r = c.loop-four.invariant.2 in record {
      by_index = λ bit n holds w low high. r.gathered bit n holds w low (omega (arith, c.loop-four-test.false, c.div_ceil-four-end.ensures));
      spared = λ w h. r.spared w (⊎_elim (λ q. inl q) (λ q. inr (omega (arith, c.loop-four-test.false, c.div_ceil-four-end.ensures))) h);
      by_index_2 = λ w h. c.loop-four.invariant.1.rest w h ∙ get_or-set_other a.parts.now 0 w 0 0 (λ q. omega (arith, pow_pos (length a.bits.now)));
    }
