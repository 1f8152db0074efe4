-- `rows::add_bins` meets its contract. The measure is the number of bits.
use mathlib.Core.List.{List}
use mathlib.Core.Path.{◌≡◌, refl, ap, sym, subst, ◌∙◌}
use lib.ListN.{length, get_or, take}
use lib.Seq.{length-take-le}
use Rattle.counting.specs.Chunk.{row_part}
use Rattle.counting.specs.Tally.{word_at, word_with}
use Rattle.counting.proofs.Halves.{half_size, upper_size, lower_size, rows_init, room_upper, room_lower, halves}
use native.Mathlib.Omega.{arith}
use Prim.Native.Nat.{ℕ, suc, ◌+◌, ◌-◌, ◌*◌, ◌/◌, ◌^◌, ◌≤◌, ◌<◌}
use Rattle.counting.proofs.rows.+add_bins.Goals.{Start}
use Rattle.counting.proofs.rows.+add_bins.Goals as goal

-- the last bit, half the bins and the bins
sized : (t : ℕ) (s : Start t)
    → (length s.args.bits.now ≡ suc (length s.args.bits.now - 1)) × (length s.args.bins.now / 2 ≡ 2 ^ (length s.args.bits.now - 1))
    × (length s.args.bins.now ≡ length s.args.bins.now / 2 + length s.args.bins.now / 2)
sized t s = half_size s.args.bits.now (length s.args.bins.now) s.requires.in_bounds.0 s.requires.in_bounds.2

-- the row of the last bit
row : (t : ℕ) (s : Start t) → get_or s.args.bits.now (length s.args.bits.now - 1) 0 * s.args.chunk.now.stride + s.args.chunk.now.stride ≤ length s.args.words.now
row t s = s.requires.rows_in (length s.args.bits.now - 1) (omega (arith, (sized t s).0))

-- the bits before the last
init_size : (t : ℕ) (s : Start t) → length (take (length s.args.bits.now - 1) s.args.bits.now) ≡ length s.args.bits.now - 1
init_size t s = length-take-le (length s.args.bits.now - 1) s.args.bits.now (omega (arith, (sized t s).0))

init_power : (t : ℕ) (s : Start t) → length s.args.bins.now / 2 ≡ 2 ^ length (take (length s.args.bits.now - 1) s.args.bits.now)
init_power t s = (sized t s).1 ∙ ap (λ (k : ℕ). 2 ^ k) (sym (init_size t s))

pub add_bins-requires : goal.add_bins-requires
add_bins-requires t c =
    let a = c.args in
    let half = length a.bins.now / 2 in (
      omega (arith, (sized t (goal.at.add_bins-requires t c).Start).0, init_size t (goal.at.add_bins-requires t c).Start),
      (
        (omega (arith, init_size t (goal.at.add_bins-requires t c).Start, c.if-last-lt2.false), omega (arith, c.requires.in_bounds, init_size t (goal.at.add_bins-requires t c).Start), upper_size a.bins.now half (sized t (goal.at.add_bins-requires t c).Start).2 ∙ init_power t (goal.at.add_bins-requires t c).Start),
        (
          rows_init a.words.now a.chunk.now.stride a.bits.now (length a.bits.now - 1) c.requires.rows_in,
          ((c.requires.lanes_in.0, omega (arith, c.and_to.auto.to, c.all_marked-part.ensures.value)), room_upper a.chunk.now.lanes half (length a.bins.now - half) a.bins.now c.requires.count_room),
        ),
      ),
    )

pub add_bins-requires-2 : goal.add_bins-requires-2
add_bins-requires-2 t c =
    let a = c.args in
    let half = length a.bins.now / 2 in
    let upper = c.add_bins.new.bins in
    let fits : half ≤ length a.bins.now = omega arith in (
      omega (arith, (sized t (goal.at.add_bins-requires-2 t c).Start).0, init_size t (goal.at.add_bins-requires-2 t c).Start),
      (
        (omega (arith, init_size t (goal.at.add_bins-requires-2 t c).Start, c.if-last-lt2.false), omega (arith, c.requires.in_bounds, init_size t (goal.at.add_bins-requires-2 t c).Start), lower_size a.bins.now upper half (length a.bins.now - half) (sized t (goal.at.add_bins-requires-2 t c).Start).2 ∙ init_power t (goal.at.add_bins-requires-2 t c).Start),
        (
          rows_init a.words.now a.chunk.now.stride a.bits.now (length a.bits.now - 1) c.requires.rows_in,
          (
            (c.requires.lanes_in.0, omega (arith, c.and_to-2.auto.to, c.and_to.auto.to, c.all_marked-part.ensures.value)),
            room_lower a.chunk.now.lanes half (length a.bins.now - half) a.bins.now upper fits c.requires.count_room,
          ),
        ),
      ),
    )

pub returns : goal.returns
returns t c =
    let a = c.args in
    let upper = c.add_bins in
    let lower = c.add_bins-2 in
    let marks = c.and_to in
    let marks' = c.and_to-2 in
    let row_is = c.row_part-row.ensures.value in
    let parted : (flip : ℕ) (to : List ℕ) → ((u : ℕ) → u < length c.row_part-row.result.now → get_or to u 0 ≡ word_with (word_at a.acc.now) c.row_part-row.result.now flip u)
    → (u : ℕ) → u < length (row_part a.chunk.now a.words.now (get_or a.bits.now (length a.bits.now - 1) 0)) → get_or to u 0 ≡ word_with (word_at a.acc.now) (row_part a.chunk.now a.words.now (get_or a.bits.now (length a.bits.now - 1) 0)) flip u =
    λ flip to p. subst (λ (row : List ℕ). (u : ℕ) → u < length row → get_or to u 0 ≡ word_with (word_at a.acc.now) row flip u) row_is p in
    halves a.words.now a.chunk.now.stride a.chunk.now.start a.chunk.now.lanes a.bits.now (length a.bits.now - 1) _ (sized t (goal.at.returns t c).Start).0 refl (word_at a.acc.now)
    a.bins.now upper.new.bins lower.new.bins (word_at marks.new.to) (word_at marks'.new.to) (length a.bins.now / 2) (sized t (goal.at.returns t c).Start).1 (sized t (goal.at.returns t c).Start).2
    (omega (arith, row t (goal.at.returns t c).Start, c.requires.lanes_in))
    upper.auto.bins lower.auto.bins (parted 0 marks.new.to marks.ensures) (parted 18446744073709551615 marks'.new.to marks'.ensures) upper.ensures lower.ensures
