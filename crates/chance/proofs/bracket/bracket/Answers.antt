-- `bracket::bracket` meets its contract: a refusal leaves the scratch; else the row is filled and summed.
use mathlib.Core.Path.{refl, sym, ap₂, ◌∙◌}
use Prim.Native.Nat.{◌+◌}
use native.Mathlib.Omega.{arith}
use lib.ListN.{length}
use Rattle.std.proofs.lemmas.Result.{err_from_is_err_and}
use Rattle.counting.proofs.Reasons.{some_number}
use Rattle.chance.specs.Bracket.{high_of}
use Rattle.chance.proofs.Filling.{fill_le, fill_low}
use Rattle.chance.proofs.Answering.{Accepted, accepted, refused, taken_scratch, taken_answer}
use Rattle.chance.proofs.bracket.bracket.Goals.{In_ok-bracket_refusal}
use Rattle.chance.proofs.bracket.bracket.Goals as goal

facts : (e : In_ok-bracket_refusal) → let a = e.args in Accepted a.n a.c a.k a.d (length a.scratch.now)
facts e =
    let a = e.args in
    accepted a.n a.c a.k a.d (length a.scratch.now) (sym e.in_ok-bracket_refusal.ensures)

pub returns-in_err-bracket_refusal : goal.returns-in_err-bracket_refusal
returns-in_err-bracket_refusal c =
    let a = c.args in
    let p = err_from_is_err_and c.from_residual.result c.from_residual.ensures.1 in
    let whole = refused a.n a.c a.k a.d _ a.scratch.now c.in_err-bracket_refusal.ensures (some_number _) in record {
      value = rw (p.1, p.2) whole.0;
      scratch_after = whole.1;
    }

pub entries_after-requires : goal.entries_after-requires
entries_after-requires c = let f = facts (goal.at.entries_after-requires c).In_ok-bracket_refusal in (f.fits, f.width, f.part)

pub sum_from-low-requires : goal.sum_from-low-requires
sum_from-low-requires c =
    let a = c.args in
    let f = facts (goal.at.sum_from-low-requires c).In_ok-bracket_refusal in record {
      c_le_n = (f.within, f.few, omega (arith, f.fits, c.entries_after.auto.scratch));
      by_index = fill_le a.n a.k a.d a.scratch.now c.entries_after.new.scratch f.part c.entries_after.ensures;
    }

pub roundings-requires : goal.roundings-requires
roundings-requires c = (facts (goal.at.roundings-requires c).In_ok-bracket_refusal).few

pub returns : goal.returns
unfolding high_of
returns c =
    let a = c.args in
    let none = c.in_ok-bracket_refusal.ensures in
    let low = c.sum_from-low.ensures.0 ∙ fill_low a.n a.c a.k a.d a.scratch.now c.entries_after.new.scratch (facts (goal.at.returns c).In_ok-bracket_refusal).within c.entries_after.ensures in record {
      value = taken_answer a.n a.c a.k a.d 0 a.scratch.now none refl c.sum_from-low.result (c.sum_from-low.result + c.roundings.result)
          low (ap₂ ◌+◌ low c.roundings.ensures.0);
      scratch_after = taken_scratch a.n a.c a.k a.d 0 a.scratch.now none refl c.entries_after.new.scratch c.entries_after.ensures;
    }
