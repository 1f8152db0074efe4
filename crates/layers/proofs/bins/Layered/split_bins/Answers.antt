-- `Layered::split_bins` meets its contract: the second half is gathered and settled, and the first is what is left.
use Prim.Native.Nat.{ℕ, suc, ◌+◌, ◌-◌, ◌*◌, ◌%◌, ◌^◌, ◌≤◌, ◌<◌}
use mathlib.Core.Path.{◌≡◌, sym, ap, ◌∙◌}
use native.Mathlib.Omega.{arith}
use native.Mathlib.Decide.{dec_lt}
use native.Mathlib.Nat.{pow-suc}
use lib.ListN.{length, length-set}
use lib.Pow.{pow_pos}
use borrow.Rule.Slice.PartMut.{mid_of, put_mid}
use Rattle.counting.specs.Sample.{all_set}
use Rattle.counting.specs.Stretch.{span, stretch_bit}
use Rattle.counting.proofs.Marks.{shifted_one}
use Rattle.counting.proofs.Stretches.{stretch_lt}
use Rattle.layers.specs.Settle.{Covered}
use Rattle.layers.proofs.Splitting.{few_chosen, same_rest, covered, SplitOff, split_off}
use Rattle.layers.proofs.bins.Layered.split_bins.Goals.{After-gather, After-kept_numbers-end, After-settle, Start}
use Rattle.layers.proofs.bins.Layered.split_bins.Goals as goal

-- ---- the places: the entry, the call of gather, what it left

abbrev half : Start → ℕ
half s = 1 * 2 ^ (length s.args.bits.now - 1) % 2 ^ 64

half_is : (s : Start) → half s ≡ 2 ^ (length s.args.bits.now - 1)
half_is s = shifted_one 64 (length s.args.bits.now - 1) (omega (arith, s.requires.in_bounds, s.args.self.now.width))

all_is : (s : Start) → 2 ^ length s.args.bits.now ≡ 2 * half s
all_is s =
    let j : ℕ = length s.args.bits.now - 1 in
    let e : length s.args.bits.now ≡ suc j = omega (arith, s.requires.in_bounds, s.args.self.now.width) in
    ap (λ (x : ℕ). 2 ^ x) e ∙ pow-suc 2 j ∙ omega (arith, half_is s)

some : (s : Start) → 1 ≤ half s
some s = omega (arith, half_is s, pow_pos (length s.args.bits.now - 1))

-- what `end` is
short : (d : After-kept_numbers-end) → let a = d.args in length a.bits.now < a.self.now.k → d.kept_numbers-end.result ≡ 2 * half (goal.at.overflow_sub-bins d).Start
short d h = d.kept_numbers-end.ensures.0 h

all : (d : After-kept_numbers-end) → let a = d.args in a.self.now.k ≤ length a.bits.now → d.kept_numbers-end.result + 1 ≡ 2 * half (goal.at.overflow_sub-bins d).Start
all d h = d.kept_numbers-end.ensures.1 h

-- which is at most all, and at least all but one
within : (d : After-kept_numbers-end) → let a = d.args in let e = d.kept_numbers-end.result in (e ≤ 2 ^ length a.bits.now) × (2 ^ length a.bits.now ≤ e + 1)
within d = go (dec_lt (length d.args.bits.now) d.args.self.now.k)
  where
    s : Start
    s = (goal.at.overflow_sub-bins d).Start

    go : Dec (length s.args.bits.now < s.args.self.now.k) → (d.kept_numbers-end.result ≤ 2 ^ length s.args.bits.now) × (2 ^ length s.args.bits.now ≤ d.kept_numbers-end.result + 1)
    go (yes h) = (omega (arith, short d h, all_is s), omega (arith, short d h, all_is s))
    go (no g) =
        let h : s.args.self.now.k ≤ length s.args.bits.now = omega arith in
        (omega (arith, all d h, all_is s), omega (arith, all d h, all_is s))

-- the count is the bits' own where they are k
own : (s : Start) → let a = s.args in a.self.now.k ≤ length a.bits.now → a.count ≡ all_set (stretch_bit a.self.now.stretch a.self.now.words.now) (span a.self.now.stretch) a.bits.now
own s h = s.requires.count_value (omega (arith, s.requires.in_bounds, s.args.self.now.width))

-- ---- what gather left

same_size : (d : After-gather) → length d.gather.new.bins ≡ length d.args.bins.now
same_size d = d.gather.auto.bins ∙ length-set d.args.bins.now _ d.args.count

upper_covered : (d : After-gather)
    → let a = d.args in
    let m = (1 * 2 ^ (length d.args.bits.now - 1) % 2 ^ 64) in
    Covered (stretch_bit a.self.now.stretch a.self.now.words.now) (span a.self.now.stretch) (length a.bits.now - 1) a.bits.now (mid_of m (2 * m - m) d.gather.new.bins)
upper_covered d =
    let a = d.args in
    let e : length a.bits.now ≡ suc (length a.bits.now - 1) = omega (arith, d.requires.in_bounds, d.args.self.now.width) in
    covered (stretch_bit a.self.now.stretch a.self.now.words.now) (stretch_lt a.self.now.stretch a.self.now.words.now) (span a.self.now.stretch) a.self.now.k a.bits.now (length a.bits.now - 1) (1 * 2 ^ (length d.args.bits.now - 1) % 2 ^ 64)
    d.kept_numbers-end.result a.count e (let half_is' : (1 * 2 ^ (length d.args.bits.now - 1) % 2 ^ 64) ≡ 2 ^ (length d.args.bits.now - 1) = shifted_one 64 (length d.args.bits.now - 1) (omega (arith, d.requires.in_bounds, d.args.self.now.width)) in half_is') (let short' : let a = d.args in length a.bits.now < a.self.now.k → d.kept_numbers-end.result ≡ 2 * (1 * 2 ^ (length d.args.bits.now - 1) % 2 ^ 64) = λ h. d.kept_numbers-end.ensures.0 h in short') (let all' : let a = d.args in a.self.now.k ≤ length a.bits.now → d.kept_numbers-end.result + 1 ≡ 2 * (1 * 2 ^ (length d.args.bits.now - 1) % 2 ^ 64) = λ h. d.kept_numbers-end.ensures.1 h in all') (let own' : let a = d.args in a.self.now.k ≤ length a.bits.now → a.count ≡ all_set (stretch_bit a.self.now.stretch a.self.now.words.now) (span a.self.now.stretch) a.bits.now = λ h. d.requires.count_value (omega (arith, d.requires.in_bounds, d.args.self.now.width)) in own') a.bins.now _
    (let h : 2 * (1 * 2 ^ (length d.args.bits.now - 1) % 2 ^ 64) ≤ length a.bins.now = omega (
      arith,
      (let all_is' : 2 ^ length d.args.bits.now ≡ 2 * (1 * 2 ^ (length d.args.bits.now - 1) % 2 ^ 64) = let j : ℕ = length d.args.bits.now - 1 in
          let e : length d.args.bits.now ≡ suc j = omega (arith, d.requires.in_bounds, d.args.self.now.width) in
          ap (λ (x : ℕ). 2 ^ x) e ∙ pow-suc 2 j ∙ omega (arith, (let half_is' : (1 * 2 ^ (length d.args.bits.now - 1) % 2 ^ 64) ≡ 2 ^ (length d.args.bits.now - 1) = shifted_one 64 (length d.args.bits.now - 1) (omega (arith, d.requires.in_bounds, d.args.self.now.width)) in half_is')) in all_is'),
      d.requires.bits_in_bounds.1,
    ) in h)
    (same_size d) (d.gather.ensures.by_index _ _ d.args.self.now.holds) d.gather.ensures.spared

-- ---- what settle left

split_at : (d : After-settle)
    → let a = d.args in
    let m = (1 * 2 ^ (length d.args.bits.now - 1) % 2 ^ 64) in
    SplitOff (stretch_bit a.self.now.stretch a.self.now.words.now) (span a.self.now.stretch) a.bits.now m a.bins.now
    (put_mid m (2 * m - m) d.gather.new.bins d.settle.new.upper)
split_at d =
    let a = d.args in
    let e : length a.bits.now ≡ suc (length a.bits.now - 1) = omega (arith, d.requires.in_bounds, d.args.self.now.width) in
    split_off (stretch_bit a.self.now.stretch a.self.now.words.now) (stretch_lt a.self.now.stretch a.self.now.words.now) (span a.self.now.stretch) a.self.now.k a.bits.now (length a.bits.now - 1) (1 * 2 ^ (length d.args.bits.now - 1) % 2 ^ 64)
    d.kept_numbers-end.result a.count e (let half_is' : (1 * 2 ^ (length d.args.bits.now - 1) % 2 ^ 64) ≡ 2 ^ (length d.args.bits.now - 1) = shifted_one 64 (length d.args.bits.now - 1) (omega (arith, d.requires.in_bounds, d.args.self.now.width)) in half_is') (let short' : let a = d.args in length a.bits.now < a.self.now.k → d.kept_numbers-end.result ≡ 2 * (1 * 2 ^ (length d.args.bits.now - 1) % 2 ^ 64) = λ h. d.kept_numbers-end.ensures.0 h in short') (let all' : let a = d.args in a.self.now.k ≤ length a.bits.now → d.kept_numbers-end.result + 1 ≡ 2 * (1 * 2 ^ (length d.args.bits.now - 1) % 2 ^ 64) = λ h. d.kept_numbers-end.ensures.1 h in all') (let own' : let a = d.args in a.self.now.k ≤ length a.bits.now → a.count ≡ all_set (stretch_bit a.self.now.stretch a.self.now.words.now) (span a.self.now.stretch) a.bits.now = λ h. d.requires.count_value (omega (arith, d.requires.in_bounds, d.args.self.now.width)) in own') a.bins.now _
    (let h : 2 * (1 * 2 ^ (length d.args.bits.now - 1) % 2 ^ 64) ≤ length a.bins.now = omega (
      arith,
      (let all_is' : 2 ^ length d.args.bits.now ≡ 2 * (1 * 2 ^ (length d.args.bits.now - 1) % 2 ^ 64) = let j : ℕ = length d.args.bits.now - 1 in
          let e : length d.args.bits.now ≡ suc j = omega (arith, d.requires.in_bounds, d.args.self.now.width) in
          ap (λ (x : ℕ). 2 ^ x) e ∙ pow-suc 2 j ∙ omega (arith, (let half_is' : (1 * 2 ^ (length d.args.bits.now - 1) % 2 ^ 64) ≡ 2 ^ (length d.args.bits.now - 1) = shifted_one 64 (length d.args.bits.now - 1) (omega (arith, d.requires.in_bounds, d.args.self.now.width)) in half_is')) in all_is'),
      d.requires.bits_in_bounds.1,
    ) in h)
    (let same_size' : length d.gather.new.bins ≡ length d.args.bins.now = d.gather.auto.bins ∙ length-set d.args.bins.now _ d.args.count in same_size') (d.gather.ensures.by_index _ _ d.args.self.now.holds) d.gather.ensures.spared
    d.settle.new.upper d.settle.auto.upper (d.settle.ensures _ _ _ (let upper_covered' : let a = d.args in
    let m = (1 * 2 ^ (length d.args.bits.now - 1) % 2 ^ 64) in
    Covered (stretch_bit a.self.now.stretch a.self.now.words.now) (span a.self.now.stretch) (length a.bits.now - 1) a.bits.now (mid_of m (2 * m - m) d.gather.new.bins) = let a = d.args in
    let e : length a.bits.now ≡ suc (length a.bits.now - 1) = omega (arith, d.requires.in_bounds, d.args.self.now.width) in
    covered (stretch_bit a.self.now.stretch a.self.now.words.now) (stretch_lt a.self.now.stretch a.self.now.words.now) (span a.self.now.stretch) a.self.now.k a.bits.now (length a.bits.now - 1) (1 * 2 ^ (length d.args.bits.now - 1) % 2 ^ 64)
    d.kept_numbers-end.result a.count e (let half_is' : (1 * 2 ^ (length d.args.bits.now - 1) % 2 ^ 64) ≡ 2 ^ (length d.args.bits.now - 1) = shifted_one 64 (length d.args.bits.now - 1) (omega (arith, d.requires.in_bounds, d.args.self.now.width)) in half_is') (let short' : let a = d.args in length a.bits.now < a.self.now.k → d.kept_numbers-end.result ≡ 2 * (1 * 2 ^ (length d.args.bits.now - 1) % 2 ^ 64) = λ h. d.kept_numbers-end.ensures.0 h in short') (let all' : let a = d.args in a.self.now.k ≤ length a.bits.now → d.kept_numbers-end.result + 1 ≡ 2 * (1 * 2 ^ (length d.args.bits.now - 1) % 2 ^ 64) = λ h. d.kept_numbers-end.ensures.1 h in all') (let own' : let a = d.args in a.self.now.k ≤ length a.bits.now → a.count ≡ all_set (stretch_bit a.self.now.stretch a.self.now.words.now) (span a.self.now.stretch) a.bits.now = λ h. d.requires.count_value (omega (arith, d.requires.in_bounds, d.args.self.now.width)) in own') a.bins.now _
    (let h : 2 * (1 * 2 ^ (length d.args.bits.now - 1) % 2 ^ 64) ≤ length a.bins.now = omega (
      arith,
      (let all_is' : 2 ^ length d.args.bits.now ≡ 2 * (1 * 2 ^ (length d.args.bits.now - 1) % 2 ^ 64) = let j : ℕ = length d.args.bits.now - 1 in
          let e : length d.args.bits.now ≡ suc j = omega (arith, d.requires.in_bounds, d.args.self.now.width) in
          ap (λ (x : ℕ). 2 ^ x) e ∙ pow-suc 2 j ∙ omega (arith, (let half_is' : (1 * 2 ^ (length d.args.bits.now - 1) % 2 ^ 64) ≡ 2 ^ (length d.args.bits.now - 1) = shifted_one 64 (length d.args.bits.now - 1) (omega (arith, d.requires.in_bounds, d.args.self.now.width)) in half_is')) in all_is'),
      d.requires.bits_in_bounds.1,
    ) in h)
    (let same_size' : length d.gather.new.bins ≡ length d.args.bins.now = d.gather.auto.bins ∙ length-set d.args.bins.now _ d.args.count in same_size') (d.gather.ensures.by_index _ _ d.args.self.now.holds) d.gather.ensures.spared in upper_covered')) d.requires.halved

pub overflow_sub-bins : goal.overflow_sub-bins
overflow_sub-bins c = omega (arith, some (goal.at.overflow_sub-bins c).Start)

pub gather-requires : goal.gather-requires
gather-requires c =
    let a = c.args in record {
      in_bounds = (c.requires.in_bounds.0, omega (arith, c.requires.in_bounds, c.args.self.now.width));
      subset = c.requires.subset;
      k_bound = (c.args.self.now.width.1, (within (goal.at.gather-requires c).After-kept_numbers-end).0, (within (goal.at.gather-requires c).After-kept_numbers-end).1, λ u h. few_chosen a.self.now.k a.bits.now c.kept_numbers-end.result u c.requires.in_bounds.1 (λ l. short (goal.at.gather-requires c).After-kept_numbers-end l ∙ sym (all_is (goal.at.gather-requires c).Start)) (λ l. all (goal.at.gather-requires c).After-kept_numbers-end l ∙ sym (all_is (goal.at.gather-requires c).Start)) h);
      roomy = c.args.self.now.holds.roomy;
      tables = c.requires.tables;
      bits_in_bounds = (c.requires.bits_in_bounds.0, simp length-set c.requires.bits_in_bounds.1);
    }

pub settle-requires : goal.settle-requires
settle-requires c =
    record {
      j_bound = omega (arith, c.requires.in_bounds, c.args.self.now.width);
      settles = record { bit = _; n = _; bits = _; covered = upper_covered (goal.at.settle-requires c).After-gather };
    }

pub reduce-requires : goal.reduce-requires
reduce-requires c =
    record {
      step_in_bounds = omega (arith, all_is (goal.at.reduce-requires c).Start, c.requires.bits_in_bounds.1, (split_at (goal.at.reduce-requires c).After-settle).size);
      by_index = (split_at (goal.at.reduce-requires c).After-settle).falls;
    }

pub returns : goal.returns
returns c =
    let a = c.args in record {
      bins_after = (split_at (goal.at.returns c).After-settle).split _ c.reduce.auto.bins c.reduce.ensures;
      parts_unchanged = same_rest (2 ^ length a.bits.now) _ _ c.gather.auto.parts c.gather.ensures.by_index_2;
    }
