-- `refusal::room_refusal` meets its contract: each return with what was not refused before.
use mathlib.Core.Path.{◌≡◌, sym, ap, ◌∙◌}
use Prim.Native.Nat.{suc, ◌≤◌, ◌<◌}
use native.Mathlib.Omega.{arith}
use borrow.Author.Tests.{le-leb, lt-leb}
use Rattle.counting.specs.Refusal.{refusal_of}
use Rattle.counting.proofs.Reasons.{some_number}
use Rattle.searching.proofs.Refusing.{or_first}
use Rattle.searching.specs.Refusal.{buffer_refusal}
use Rattle.judging.specs.Check.{scratch_refusal}
use Rattle.judging.proofs.Checking.{handed_on}
use Rattle.sweeping.specs.Pair.{tested_blocks}
use Rattle.sweeping.specs.Refusal.{room_refusal}
use Rattle.sweeping.proofs.refusal.room_refusal.Goals.{In_ok-buffer_refusal, In_ok-scratch_refusal}
use Rattle.sweeping.proofs.refusal.room_refusal.Goals as goal

free : (d : In_ok-buffer_refusal) → let a = d.args in buffer_refusal a.k a.room.bins a.room.order ≡ 0
free d = sym d.in_ok-buffer_refusal.ensures

both_free : (d : In_ok-scratch_refusal) → let a = d.args in scratch_refusal a.k a.room.scratch ≡ 0
both_free d = sym d.in_ok-scratch_refusal.ensures

pub returns-in_err-buffer_refusal : goal.returns-in_err-buffer_refusal
unfolding room_refusal
returns-in_err-buffer_refusal c =
    let e = c.in_err-buffer_refusal.ensures in
    ap refusal_of (handed_on _ _ c.from_residual.ensures.1) ∙ e ∙ or_first _ _ (λ h. some_number _ (e ∙ h))

pub returns-in_err-scratch_refusal : goal.returns-in_err-scratch_refusal
unfolding room_refusal
returns-in_err-scratch_refusal c =
    let e = c.in_err-scratch_refusal.ensures in
    rw (free (goal.at.returns-in_err-scratch_refusal c).In_ok-buffer_refusal)
    (ap refusal_of (handed_on _ _ c.from_residual-in_err-scratch_refusal.ensures.1) ∙ e ∙ or_first _ _ (λ h. some_number _ (e ∙ h)))

pub returns-then-room-tested_blocks : goal.returns-then-room-tested_blocks
unfolding room_refusal
returns-then-room-tested_blocks c =
    let a = c.args in
    let h : a.room.entries < suc (tested_blocks a.m) = omega (arith, c.if-room-tested_blocks.true, c.tested_blocks.ensures) in
    simp (free (goal.at.returns-then-room-tested_blocks c).In_ok-buffer_refusal, both_free (goal.at.returns-then-room-tested_blocks c).In_ok-scratch_refusal, lt-leb _ _ h)

pub returns : goal.returns
unfolding room_refusal
returns c =
    let a = c.args in
    let h : suc (tested_blocks a.m) ≤ a.room.entries = omega (arith, c.if-room-tested_blocks.false, c.tested_blocks.ensures) in
    simp (free (goal.at.returns c).In_ok-buffer_refusal, both_free (goal.at.returns c).In_ok-scratch_refusal, le-leb _ _ h)
