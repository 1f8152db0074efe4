-- `stepping::successor` meets its contract. The measure is k, the number of bits that are left to step.
use mathlib.Core.Path.{◌≡◌}
use lib.ListN.{get_or}
use native.Mathlib.Omega.{arith}
use Rattle.subsets.proofs.Carrying.{code_last, code_init, code_bump, code_carry, code_ended, code_some}
use Prim.Native.Nat.{ℕ, suc, ◌+◌, ◌-◌, ◌<◌}
use Rattle.subsets.proofs.stepping.+successor.Goals.{Start}
use Rattle.subsets.proofs.stepping.+successor.Goals as goal

-- its last bit is in the block
inside : (t : ℕ) (s : Start t) → (s.args.k ≡ 0 → ⊥) → get_or s.args.bits.now (s.args.k - 1) 0 < s.args.block_size
inside t s h =
    let e : s.args.k ≡ suc (s.args.k - 1) = omega arith in
    code_last s.args.block_size s.args.k (s.args.k - 1) s.args.bits.now e s.requires.1

pub returns-then-bit-end : goal.returns-then-bit-end
returns-then-bit-end t c =
    let a = c.args in
    code_bump a.block_size a.k (a.k - 1) (get_or a.bits.now (a.k - 1) 0 + 1) a.bits.now (omega arith) c.requires.1 (omega arith) (omega arith)

pub successor-requires : goal.successor-requires
successor-requires t c =
    let a = c.args in
    let last : get_or a.bits.now (a.k - 1) 0 < a.block_size = inside t (goal.at.successor-requires t c).Start c.if-k-eq0.false in (
      omega arith,
      (omega arith, code_init a.block_size (a.block_size - 1) a.k (a.k - 1) a.bits.now (omega arith) (omega arith) c.requires.1),
    )

pub returns-then-not-successor : goal.returns-then-not-successor
returns-then-not-successor t c =
    let a = c.args in
    let r = c.successor in
    let last : get_or a.bits.now (a.k - 1) 0 < a.block_size = inside t (goal.at.returns-then-not-successor t c).Start c.if-k-eq0.false in
    code_ended a.block_size (a.block_size - 1) a.k (a.k - 1) a.bits.now r.new.bits r.result (omega arith) (omega arith)
    c.if-bit-end.false
    c.requires.1
    c.if-not-successor.true
    r.ensures

pub overflow_add-bits-2 : goal.overflow_add-bits-2
overflow_add-bits-2 t c =
    let a = c.args in
    let r = c.successor in
    let some = code_some (a.block_size - 1) (a.k - 1) a.bits.now r.new.bits r.result c.if-not-successor.false r.ensures in
    omega (arith, some.1, c.requires.0)

pub returns : goal.returns
returns t c =
    let a = c.args in
    let r = c.successor in
    let last : get_or a.bits.now (a.k - 1) 0 < a.block_size = inside t (goal.at.returns t c).Start c.if-k-eq0.false in
    code_carry a.block_size (a.block_size - 1) a.k (a.k - 1) (get_or r.new.bits (a.k - 1 - 1) 0 + 1) a.bits.now r.new.bits r.result (omega arith) (omega arith)
    c.if-bit-end.false
    c.requires.1
    c.if-not-successor.false
    r.ensures
    (omega arith)
