-- `writer::write_finding` meets its contract: the check's refusal, 17, or the text.
use Prim.Native.Nat.{◌≤◌, ◌<◌}
use mathlib.Core.Path.{◌≡◌, sym, ap, subst, ◌∙◌}
use native.Mathlib.Omega.{arith}
use lib.ListN.{length}
use borrow.Author.Tests.{leb-true, leb-false}
use Rattle.counting.proofs.Reasons.{some_number}
use Rattle.judging.specs.Check.{check_refusal}
use Rattle.judging.proofs.Checking.{handed_on}
use Rattle.exchange.specs.Exchange.{Written, as_written, finding_text, Writes}
use Rattle.exchange.specs.Writer.{Writable}
use Rattle.exchange.proofs.Acceptance.{accepted, writes_refused, refused_first, refused_room, refused_not, writes_written}
use Rattle.exchange.proofs.writer.write_finding.Goals.{In_ok-validate}
use Rattle.exchange.proofs.writer.write_finding.Goals as goal

-- the check accepts
taken : (e : In_ok-validate) → let a = e.args in check_refusal a.finding a.order.now (length a.scratch.now) ≡ 0
taken e = sym e.in_ok-validate.ensures.value

limits : (e : In_ok-validate) → let a = e.args in Writable a.finding a.order.now
limits e = let a = e.args in accepted a.finding a.order.now (length a.scratch.now) (taken e)

pub returns-in_err-validate : goal.returns-in_err-validate
returns-in_err-validate c =
    let a = c.args in
    let is = c.in_err-validate.ensures.value in
    let answer = ap as_written (handed_on _ _ c.from_residual.ensures.1) in
    subst (λ (w : Written). Writes a.finding a.order.now a.scratch.now a.out.now w c.validate.new.scratch a.out.now) (sym answer)
    (writes_refused a.finding a.order.now a.scratch.now a.out.now _ _
    (refused_first a.finding a.order.now (length a.scratch.now) (length a.out.now) _ is (some_number _)) (some_number _) c.validate.ensures.scratch_after)

pub has_room-requires : goal.has_room-requires
has_room-requires c = limits c

pub returns-then-not-has_room : goal.returns-then-not-has_room
returns-then-not-has_room c =
    let a = c.args in
    let short : length a.out.now < length (finding_text a.finding a.order.now) =
    leb-false _ _ (sym c.has_room.ensures ∙ c.if-not-has_room.true) in
    writes_refused a.finding a.order.now a.scratch.now a.out.now 17 _
    (refused_room a.finding a.order.now (length a.scratch.now) (length a.out.now) (taken (goal.at.returns-then-not-has_room c).In_ok-validate) short) (λ z. omega arith) c.validate.ensures.scratch_after

pub put_text-requires-clause-writable : goal.put_text-requires-clause-writable
put_text-requires-clause-writable c = limits (goal.at.put_text-requires-clause-writable c).In_ok-validate

pub returns : goal.returns
returns c =
    let a = c.args in
    let room : length (finding_text a.finding a.order.now) ≤ length a.out.now = leb-true _ _ (sym c.has_room.ensures ∙ c.if-not-has_room.false) in
    writes_written a.finding a.order.now a.scratch.now a.out.now _ _ _
    (refused_not a.finding a.order.now (length a.scratch.now) (length a.out.now) (taken (goal.at.returns c).In_ok-validate) room) c.put_text.ensures.value c.put_text.ensures.out_after c.validate.ensures.scratch_after
