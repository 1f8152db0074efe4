-- `feeding::take_piece` meets its contract: the piece is kept where it completes no block; else the unfinished bytes and the first bytes of the piece are put in one
-- behind the other, and the others are kept.
use mathlib.Core.Path.{◌≡◌, sym, ap, subst, ◌∙◌}
use Prim.Native.Nat.{ℕ, ◌+◌, ◌-◌, ◌*◌, ◌≤◌}
use native.Mathlib.Nat.{add-zero}
use native.Mathlib.Omega.{arith}
use lib.ListN.{length, take, drop, replicate}
use Rattle.counting.specs.Buffer.{put}
use Rattle.counting.specs.Recording.{block_bytes, stride}
use Rattle.sampling.specs.Feeding.{completed}
use Rattle.sampling.specs.Putting.{put_bytes}
use Rattle.sampling.specs.Sampler.{pending, tail_of}
use Rattle.sampling.proofs.Taking.{Fits, fits, Uses, uses, Keeps, keeps, uses_so_many}
use Rattle.sampling.proofs.Usable.{takes}
use Rattle.sampling.proofs.feeding.take_piece.Goals.{After-unfinished_on-t, After-split_at, Else-taken-head, Start, Then-taken-head}
use Rattle.sampling.proofs.feeding.take_piece.Goals as goal

-- what is known at the entry
has : (s : Start) → let a = s.args in Fits a.head a.unfinished.now a.words.now a.board a.piece.now
has s =
    let a = s.args in
    fits a.head a.unfinished.now a.words.now a.board a.piece.now s.requires.unfinished_len
    (takes a.head (length a.words.now) a.board (length a.piece.now) a.taken s.requires.taken_value).free

-- how many unfinished bytes the board has
is : (u : After-unfinished_on-t) → let a = u.args in u.unfinished_on-t.result ≡ pending a.head a.board
is u = u.unfinished_on-t.ensures

pub unfinished_on-t-requires : goal.unfinished_on-t-requires
unfinished_on-t-requires c = omega (arith, has (goal.at.unfinished_on-t-requires c).Start)

pub overflow_mul-at : goal.overflow_mul-at
overflow_mul-at c = omega (arith, has (goal.at.overflow_mul-at c).Start)

-- ---- no block is completed

none : (t : Then-taken-head) → let a = t.args in Keeps a.head a.unfinished.now a.words.now a.board a.piece.now
none t =
    let a = t.args in
    let told = takes a.head (length a.words.now) a.board (length a.piece.now) a.taken t.requires.taken_value in
    let no_more : completed a.head a.board (length a.piece.now) ≡ 0 = omega (arith, told, t.if-taken-head.true) in
    keeps a.head a.unfinished.now a.words.now a.board a.piece.now t.requires.unfinished_len told.free no_more

pub overflow_add-at : goal.overflow_add-at
overflow_add-at c = omega (arith, has (goal.at.overflow_add-at c).Start, is (goal.at.overflow_add-at c).After-unfinished_on-t)

pub write_bytes-requires : goal.write_bytes-requires
write_bytes-requires c = omega (arith, (none (goal.at.write_bytes-requires c).Then-taken-head).room, is (goal.at.write_bytes-requires c).After-unfinished_on-t)

pub returns-then-taken-head : goal.returns-then-taken-head
returns-then-taken-head c =
    let a = c.args in
    let k = none (goal.at.returns-then-taken-head c).Then-taken-head in
    record {
      unfinished_after = c.write_bytes.ensures ∙ ap (λ (m : ℕ). put a.unfinished.now (512 * a.board + m) a.piece.now) (is (goal.at.returns-then-taken-head c).After-unfinished_on-t) ∙ sym k.kept;
      words_after = sym k.words;
    }

-- ---- a block is completed

-- so many bytes of the piece are used
abbrev used : Else-taken-head → ℕ
used e = length e.args.piece.now - e.args.taken.left

so_many : (e : Else-taken-head) → let a = e.args in (a.taken.left ≤ length a.piece.now) × Uses a.head a.unfinished.now a.words.now a.board a.piece.now (used e)
so_many e =
    let a = e.args in
    let told = takes a.head (length a.words.now) a.board (length a.piece.now) a.taken e.requires.taken_value in
    let some : 1 ≤ completed a.head a.board (length a.piece.now) = omega (arith, told, e.if-taken-head.false) in
    let u = uses_so_many a.head a.unfinished.now a.words.now a.board a.piece.now e.requires.unfinished_len told.free some in
    subst (λ (m : ℕ). (m ≤ length a.piece.now) × Uses a.head a.unfinished.now a.words.now a.board a.piece.now (length a.piece.now - m)) (sym told.left)
    (u.0, uses a.head a.unfinished.now a.words.now a.board a.piece.now _ e.requires.unfinished_len told.free u.1)

uses_of : (e : Else-taken-head) → let a = e.args in Uses a.head a.unfinished.now a.words.now a.board a.piece.now (used e)
uses_of e = (so_many e).1

-- the part that is lent is the board's unfinished bytes
part_is : (u : After-split_at) → let a = u.args in
    take (512 * a.board + u.unfinished_on-t.result - 512 * a.board) (drop (512 * a.board) a.unfinished.now) ≡ tail_of a.head a.unfinished.now a.board
part_is u =
    let a = u.args in
    let free = (takes a.head (length a.words.now) a.board (length a.piece.now) a.taken u.requires.taken_value).free in
    let len : 512 * a.board + u.unfinished_on-t.result - 512 * a.board ≡ pending a.head a.board = omega (arith, u.unfinished_on-t.ensures) in
    ap (λ (k : ℕ). take k (drop (512 * a.board) a.unfinished.now)) len ∙ (fits a.head a.unfinished.now a.words.now a.board a.piece.now u.requires.unfinished_len free).tail

part_long : (u : After-split_at) → let a = u.args in
    length (take (512 * a.board + u.unfinished_on-t.result - 512 * a.board) (drop (512 * a.board) a.unfinished.now)) ≡ pending a.head a.board
part_long u =
    let a = u.args in
    let free = (takes a.head (length a.words.now) a.board (length a.piece.now) a.taken u.requires.taken_value).free in
    ap length (part_is u) ∙ (fits a.head a.unfinished.now a.words.now a.board a.piece.now u.requires.unfinished_len free).tail_long

pub nonzero_div-layout-2 : goal.nonzero_div-layout-2
nonzero_div-layout-2 c = omega (arith, has (goal.at.nonzero_div-layout-2 c).Start)

pub overflow_sub-piece : goal.overflow_sub-piece
overflow_sub-piece c = (so_many (goal.at.overflow_sub-piece c).Else-taken-head).0

pub overflow_add-at-2 : goal.overflow_add-at-2
overflow_add-at-2 c = omega (arith, has (goal.at.overflow_add-at-2 c).Start, is (goal.at.overflow_add-at-2 c).After-unfinished_on-t)

pub slice_bounds-put_bytes-end : goal.slice_bounds-put_bytes-end
slice_bounds-put_bytes-end c = omega (arith, has (goal.at.slice_bounds-put_bytes-end c).Start, is (goal.at.slice_bounds-put_bytes-end c).After-unfinished_on-t)

pub put_bytes-requires : goal.put_bytes-requires
put_bytes-requires c =
    let h = uses_of (goal.at.put_bytes-requires c).Else-taken-head in
    record {
      byte_lt_size = omega (arith, h.fit);
      stride_in_bounds = h.rows;
      bytes_bound = omega (arith, h.lanes, part_long (goal.at.put_bytes-requires c).After-split_at);
    }

pub put_bytes-requires-2 : goal.put_bytes-requires-2
put_bytes-requires-2 c =
    let h = uses_of (goal.at.put_bytes-requires-2 c).Else-taken-head in
    let same : length c.put_bytes.new.words ≡ length c.args.words.now = c.put_bytes.auto.words in
    record {
      byte_lt_size = omega (arith, h.fit.short, is (goal.at.put_bytes-requires-2 c).After-unfinished_on-t);
      stride_in_bounds = omega (arith, h.rows, same);
      bytes_bound = omega (arith, h.lanes, c.split_at.ensures.front_len, is (goal.at.put_bytes-requires-2 c).After-unfinished_on-t);
    }

pub keep-requires : goal.keep-requires
keep-requires c =
    let h = uses_of (goal.at.keep-requires c).Else-taken-head in
    (omega (arith, c.split_at.ensures.back_len, h.left_short, h.fit), omega (arith, h.fit, is (goal.at.keep-requires c).After-unfinished_on-t))

pub returns : goal.returns
returns c =
    let a = c.args in
    let h = uses_of (goal.at.returns c).Else-taken-head in
    let at = 512 * a.board in
    let t = is (goal.at.returns c).After-unfinished_on-t in
    let size = block_bytes a.head.block_size in
    let S = stride a.head.block_size (length a.words.now) in
    let tail = tail_of a.head a.unfinished.now a.board in
    let part = part_is (goal.at.returns c).After-split_at in
    let front = c.split_at.ensures.front in
    let back = c.split_at.ensures.back in
    let n = a.head.blocks * size in
    let first-put : c.put_bytes.new.words ≡ put_bytes a.head.low_first size S a.words.now n tail (length tail) =
    c.put_bytes.ensures ∙ (λ i. put_bytes a.head.low_first size S a.words.now (add-zero n i) (part i) (length (part i))) in record {
      unfinished_after = c.keep.ensures ∙ (λ i. put (put a.unfinished.now at (back i)) (at + length (back i)) (replicate (t i - length (back i)) 0)) ∙ sym h.kept;
      words_after = c.put_bytes-2.ensures
          ∙ (λ i. put_bytes a.head.low_first size S (first-put i) (n + (t ∙ sym h.fit.tail_long) i) (front i) (length (front i)))
          ∙ sym h.put_in;
    }
