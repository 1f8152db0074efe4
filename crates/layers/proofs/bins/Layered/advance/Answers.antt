-- `Layered::advance` meets its contract: within a run the last bit steps, with one entry of the tables, and the bins are put together; after its end another run begins.
use Prim.Native.Nat.{ℕ, suc, ◌+◌, ◌-◌, ◌^◌, ◌≤◌, ◌<◌}
use mathlib.Core.Path.{◌≡◌, refl, sym, subst}
use mathlib.Core.Bool.{Bool, true, false, false≢true}
use native.Mathlib.Omega.{arith}
use lib.ListN.{length, get_or, take, drop}
use Rattle.counting.specs.Stretch.{span, stretch_bit}
use Rattle.counting.proofs.Stretches.{stretch_lt}
use Rattle.subsets.specs.Subsets.{Subset}
use Rattle.subsets.specs.Stepping.{Stepped}
use Rattle.subsets.proofs.Carrying.{fills, code_last, code_bump}
use Rattle.layers.specs.Gather.{Tops}
use Rattle.layers.proofs.Running.{tops_of, stepped, pair_fits, halved, past_bins}
use Rattle.layers.proofs.bins.Layered.advance.Goals.{After-successor, Start}
use Rattle.layers.proofs.bins.Layered.advance.Goals as goal

-- the bits fill their entries, and the last is in the block
room : (s : Start) → s.args.self.now.k ≤ length s.args.bits.now
room s = fills s.args.self.now.stretch.block_size s.args.self.now.k s.args.bits.now s.requires.subset

width : (s : Start) → s.args.self.now.k ≡ suc (s.args.self.now.k - 1)
width s = omega (arith, s.args.self.now.width)

inside : (s : Start) → get_or s.args.bits.now (s.args.self.now.k - 1) 0 < s.args.self.now.stretch.block_size
inside s = code_last s.args.self.now.stretch.block_size s.args.self.now.k (s.args.self.now.k - 1) s.args.bits.now (width s) s.requires.subset

-- the tops, which every step leaves
tops : (s : Start) → Tops s.args.self.now.stretch.block_size s.args.self.now.k s.args.run.now
tops s =
    let a = s.args in
    tops_of (stretch_bit a.self.now.stretch a.self.now.words.now) (span a.self.now.stretch) a.self.now.stretch.block_size a.self.now.k (take a.self.now.k a.bits.now) a.run.now s.requires.subset.size s.requires.run

found : (d : After-successor) → d.successor.result ≡ true
    → Subset d.args.self.now.stretch.block_size d.args.self.now.k (take d.args.self.now.k d.successor.new.bits)
found d e = (d.successor.ensures.next e).subset

pub bounds-bits-at : goal.bounds-bits-at
bounds-bits-at c = omega (arith, room (goal.at.bounds-bits-at c).Start, c.args.self.now.width, c.requires.block_size_bound)

pub overflow_add-bit : goal.overflow_add-bit
overflow_add-bit c = omega (arith, inside (goal.at.overflow_add-bit c).Start, c.args.self.now.width, c.requires.block_size_bound)

pub overflow_cast-bit : goal.overflow_cast-bit
overflow_cast-bit c = omega (arith, inside (goal.at.overflow_cast-bit c).Start, c.args.self.now.width, c.requires.block_size_bound)

pub bounds-bits-at-then-bit-block_size : goal.bounds-bits-at-then-bit-block_size
bounds-bits-at-then-bit-block_size c = omega (arith, room (goal.at.bounds-bits-at-then-bit-block_size c).Start, c.args.self.now.width, c.requires.block_size_bound)

pub rejoin_bins-requires : goal.rejoin_bins-requires
rejoin_bins-requires c =
    let a = c.args in
    let bit = stretch_bit a.self.now.stretch a.self.now.words.now in
    let held = c.requires.bins_value in record {
      le_k = (c.args.self.now.width.0, c.args.self.now.width.1, c.requires.k_in_bounds.1);
      by_index = λ v h. pair_fits bit (span a.self.now.stretch) a.self.now.k (a.self.now.k - 1) a.bits.now a.bins.now (width (goal.at.rejoin_bins-requires c).Start) (room (goal.at.rejoin_bins-requires c).Start) held _ v refl (omega (arith, c.requires.stretch_in)) h;
    }

pub returns-then-bit-block_size : goal.returns-then-bit-block_size
returns-then-bit-block_size c =
    let a = c.args in
    let bit = stretch_bit a.self.now.stretch a.self.now.words.now in
    let n = span a.self.now.stretch in
    let B = a.self.now.stretch.block_size in
    let v = get_or a.bits.now (a.self.now.k - 1) 0 + 1 in
    let e = width (goal.at.returns-then-bit-block_size c).Start in
    let held = c.requires.bins_value in
    let moved = code_bump B a.self.now.k (a.self.now.k - 1) v a.bits.now e c.requires.subset (omega arith) (omega (arith, c.if-bit-block_size.true)) in
    let run = stepped bit n B a.self.now.k (a.self.now.k - 1) v a.bits.now a.run.now e a.self.now.width.1 (room (goal.at.returns-then-bit-block_size c).Start) (omega arith) c.requires.run in record {
      stepped = moved;
      run_2 = λ _. run;
      shared = λ _ big.
          halved bit n a.self.now.k (a.self.now.k - 1) a.bits.now a.bins.now e (room (goal.at.returns-then-bit-block_size c).Start) held (stretch_lt a.self.now.stretch a.self.now.words.now) _ v c.rejoin_bins.new.bins refl
          (c.rejoin_bins.ensures.v_after (omega (arith, (moved.next refl).subset.size)));
      tops = tops_of bit n B a.self.now.k _ _ (moved.next refl).subset.size run;
      bins_unchanged = (past_bins bit n a.self.now.k (a.self.now.k - 1) a.bits.now a.bins.now e (room (goal.at.returns-then-bit-block_size c).Start) held _ c.rejoin_bins.new.bins refl c.rejoin_bins.ensures.bins_unchanged, refl);
    }

pub returns-then-not-successor : goal.returns-then-not-successor
returns-then-not-successor c =
    let a = c.args in
    let none : c.successor.result ≡ false = c.if-not-successor.true in record {
      stepped = subst (λ (r : Bool). Stepped a.self.now.stretch.block_size a.self.now.k a.bits.now r c.successor.new.bits) none c.successor.ensures;
      run_2 = λ e. absurd (false≢true e);
      shared = λ e. absurd (false≢true e);
      tops = tops (goal.at.returns-then-not-successor c).Start;
      bins_unchanged = (refl, refl);
    }

pub slice_bounds-begin_run-end : goal.slice_bounds-begin_run-end
slice_bounds-begin_run-end c =
    omega (arith, fills c.args.self.now.stretch.block_size c.args.self.now.k c.successor.new.bits (found (goal.at.slice_bounds-begin_run-end c).After-successor c.if-not-successor.false))

pub slice_bounds-begin_run-end-2 : goal.slice_bounds-begin_run-end-2
slice_bounds-begin_run-end-2 c =
    sym (found (goal.at.slice_bounds-begin_run-end-2 c).After-successor c.if-not-successor.false).size

pub begin_run-requires : goal.begin_run-requires
begin_run-requires c =
    let F = found (goal.at.begin_run-requires c).After-successor c.if-not-successor.false in
    rw F.size (record {
      block_size_bound = c.requires.block_size_bound;
      subset = F;
      stretch_in = c.requires.stretch_in;
      tops = tops (goal.at.begin_run-requires c).Start;
      bits_in_bounds = c.requires.k_in_bounds;
    })

pub returns : goal.returns
returns c =
    let a = c.args in
    let some : c.successor.result ≡ true = c.if-not-successor.false in
    let size = (found (goal.at.returns c).After-successor some).size in
    let told = c.begin_run.ensures in record {
      stepped = subst (λ (r : Bool). Stepped a.self.now.stretch.block_size a.self.now.k a.bits.now r c.successor.new.bits) some c.successor.ensures;
      run_2 = λ _. told.run;
      shared = λ _. told.shared;
      tops = tops_of (stretch_bit a.self.now.stretch a.self.now.words.now) (span a.self.now.stretch) a.self.now.stretch.block_size a.self.now.k (take a.self.now.k c.successor.new.bits) _ size told.run;
      bins_unchanged = (
        subst (λ (m : ℕ). drop (2 ^ m) c.begin_run.new.bins ≡ drop (2 ^ m) a.bins.now) size told.bins_unchanged,
        subst (λ (m : ℕ). drop (2 ^ m) c.begin_run.new.parts ≡ drop (2 ^ m) a.parts.now) size told.parts_unchanged,
      );
    }
