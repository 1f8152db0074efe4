-- `jimrawel_validate` meets its contract: what the check promised of the finding lent.
use mathlib.Core.Path.{◌≡◌, refl, sym, ◌∙◌}
use Rattle.exports.specs.Records.{finding_unread}
use Rattle.exports.proofs.Asking.{failed, succeeded}
use Rattle.exports.proofs.Calling.{finding_room}
use Rattle.exports.proofs.jimrawel_validate.Goals.{Else-is_err}
use Rattle.exports.proofs.jimrawel_validate.Goals as goal

none : (e : Else-is_err) → finding_unread e.args.finding.now ≡ 0
none e = sym e.finding_unread-unread.ensures ∙ succeeded e.finding_unread-unread.result (sym e.is_err.ensures.value ∙ e.if-is_err.false)

pub returns-then-is_err : goal.returns-then-is_err
returns-then-is_err c =
    let x = c.finding_unread-unread in
    record {
      made = λ m. absurd (failed x.result (sym c.is_err.ensures.value ∙ c.if-is_err.true) (x.ensures ∙ m));
      refused = λ h. (c.refusal_of.ensures ∙ x.ensures, refl);
    }

pub validate_lent-requires : goal.validate_lent-requires
validate_lent-requires c = finding_room _ (none (goal.at.validate_lent-requires c).Else-is_err)

pub returns : goal.returns
returns c =
    record {
      made = λ m. (c.refusal_of-2.ensures ∙ c.validate_lent.ensures.value, c.validate_lent.ensures.scratch_after);
      refused = λ h. absurd (h (none (goal.at.returns c).Else-is_err));
    }
