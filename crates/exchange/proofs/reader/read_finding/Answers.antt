-- `reader::read_finding` meets its contract: 16 and 17 before anything is stored, then what the check says of what was stored.
use borrow.Author.Rules.{rules}
use mathlib.Core.Path.{◌≡◌, refl, sym, ap, ◌∙◌}
use mathlib.Core.List.{List, ◌++◌}
use mathlib.Core.Option.{some}
use Prim.Native.Nat.{ℕ, ◌≤◌, ◌<◌}
use native.Mathlib.Omega.{arith}
use lib.ListN.{length, take, drop}
use Rattle.std.specs.Prelude.{Some}
use Rattle.counting.specs.Refusal.{number_of, refusal_of}
use Rattle.counting.proofs.Reasons.{some_number}
use Rattle.judging.specs.Check.{check_refusal, checked_scratch}
use Rattle.judging.proofs.Checking.{handed_on}
use Rattle.exchange.specs.Reader.{read_text}
use Rattle.exchange.specs.Cursor.{numbers_of, exchanged_in, said_of}
use Rattle.exchange.specs.Exchange.{said_finding, as_reading, reading_with, Reading, Reads}
use Rattle.exchange.proofs.Receiving.{order_begun, order_first, reads_short, reads_checked, with_refusal}
use Rattle.exchange.proofs.reader.read_finding.Goals.{After-validate}
use Rattle.exchange.proofs.reader.read_finding.Goals as goal

pub returns-then-order-count : goal.returns-then-order-count
returns-then-order-count c =
    let got : c.read_text.result ≡ Some c.in_ok-said.said = search rules in
    let said : read_text c.args.text.now ≡ some (exchanged_in c.in_ok-said.said) = sym c.read_text.ensures ∙ ap said_of got in
    let short : length c.args.order.now < length (numbers_of c.in_ok-said.said.indices) = omega (arith, c.in_ok-said.said.indices.counted, c.if-order-count.true) in
    reads_short c.args.text.now c.args.order.now c.args.scratch.now _ (exchanged_in c.in_ok-said.said) said short refl

-- ---- the check of what was stored

module _ (v : After-validate) where
  abbrev indices : List ℕ
  indices = numbers_of v.in_ok-said.said.indices

  abbrev count : ℕ
  count = v.in_ok-said.said.indices.count

  said : read_text v.args.text.now ≡ some (exchanged_in v.in_ok-said.said)
  said = let got : v.read_text.result ≡ Some v.in_ok-said.said = search rules in sym v.read_text.ensures ∙ ap said_of got

  room : count ≤ length v.args.order.now
  room = omega (arith, v.if-order-count.false)

  first : take count (v.store_entries.new.to ++ drop count v.args.order.now) ≡ indices
  first = order_first indices v.args.order.now v.store_entries.new.to count v.in_ok-said.said.indices.counted room v.store_entries.ensures

  checked : (r : Reading) → r ≡ reading_with (refusal_of v.validate.result) (said_finding (exchanged_in v.in_ok-said.said))
      → Reads v.args.text.now v.args.order.now v.args.scratch.now r (v.store_entries.new.to ++ drop count v.args.order.now) v.validate.new.scratch
  checked r a =
      let fits : length indices ≤ length v.args.order.now = omega (arith, room, v.in_ok-said.said.indices.counted) in
      reads_checked v.args.text.now v.args.order.now v.args.scratch.now r (exchanged_in v.in_ok-said.said) said fits (refusal_of v.validate.result)
      (v.validate.ensures.value ∙ (λ j. check_refusal (v.finding_of-finding.ensures j) (first j) (length v.args.scratch.now)))
      a _ _
      (order_begun indices v.args.order.now v.store_entries.new.to count v.in_ok-said.said.indices.counted room v.store_entries.ensures)
      (v.validate.ensures.scratch_after ∙ (λ j. checked_scratch (v.finding_of-finding.ensures j) (length (first j)) v.args.scratch.now))

pub returns-in_err-validate : goal.returns-in_err-validate
returns-in_err-validate c =
    let f = said_finding (exchanged_in c.in_ok-said.said) in
    let r = c.in_err-validate.field-0.0 in
    let told : refusal_of c.validate.result ≡ number_of r = ap refusal_of c.in_err-validate.was in
    checked (goal.at.returns-in_err-validate c).After-validate _
    (ap as_reading (handed_on _ _ c.from_residual-in_err-validate.ensures.1) ∙ with_refusal (number_of r) f _ (some_number r) refl ∙ ap (λ (q : ℕ). reading_with q f) (sym told))

pub returns : goal.returns
returns c =
    let f = said_finding (exchanged_in c.in_ok-said.said) in
    let told : refusal_of c.validate.result ≡ 0 = ap refusal_of c.in_ok-validate.was in
    checked (goal.at.returns c).After-validate _
    ((λ j. record { refusal = 0; finding = c.finding_of-finding.ensures j }) ∙ ap (λ (q : ℕ). reading_with q f) (sym told))
