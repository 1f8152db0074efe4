-- `sheet::sheet_refusal` meets its contract: each return rewrites with what was not refused before.
use mathlib.Core.Bool.{cond}
use mathlib.Core.Path.{◌≡◌, sym, ap, ap₂, ◌∙◌}
use Prim.Native.Nat.{ℕ, ◌≤◌}
use native.Mathlib.Omega.{arith}
use lib.ListN.{length}
use Rattle.std.proofs.lemmas.Result.{err_from_is_err_and}
use Rattle.counting.specs.Refusal.{refusal_of}
use Rattle.counting.proofs.Reasons.{some_number}
use Rattle.subsets.specs.Bits.{valid_width}
use Rattle.searching.proofs.Refusing.{or_first}
use Rattle.judging.specs.Split.{split_refusal}
use Rattle.sheet.specs.Header.{block_size_of, width_of, raw_of, input_refusal}
use Rattle.sheet.specs.Refusal.{sheet_refusal}
use Rattle.sheet.proofs.Reading.{taken, raw_is}
use Rattle.sheet.proofs.sheet.sheet_refusal.Goals.{After-split_refusal, After-valid_width, In_ok-input_refusal, In_ok-split_refusal}
use Rattle.sheet.proofs.sheet.sheet_refusal.Goals as goal

free : (c : In_ok-input_refusal) → input_refusal c.args.input.now ≡ 0
free c = sym c.in_ok-input_refusal.ensures

long : (c : In_ok-input_refusal) → 13 ≤ length c.args.input.now
long c = (taken _ (free c)).long

split_is : (c : After-split_refusal) → let s = c.args.input.now in refusal_of c.split_refusal.result ≡ split_refusal (raw_of s) (block_size_of s)
split_is c =
    let s = c.args.input.now in
    c.split_refusal.ensures ∙ ap₂ split_refusal (raw_is s) c.field_at.ensures

width_is : (c : After-valid_width) → c.valid_width.result ≡ valid_width (width_of c.args.input.now)
width_is c = c.valid_width.ensures ∙ ap valid_width c.field_at-2.ensures

pub returns-in_err-input_refusal : goal.returns-in_err-input_refusal
unfolding sheet_refusal
returns-in_err-input_refusal c =
    let p = err_from_is_err_and c.from_residual.result c.from_residual.ensures.1 in
    let e = c.in_err-input_refusal.ensures in
    rw (p.1, p.2) (e ∙ or_first (input_refusal c.args.input.now) _ (λ h. some_number _ (e ∙ h)))

pub field_at-requires : goal.field_at-requires
field_at-requires c = omega (arith, long (goal.at.field_at-requires c).In_ok-input_refusal)

pub slice_bounds-split_refusal-count : goal.slice_bounds-split_refusal-count
slice_bounds-split_refusal-count c = omega (arith, long c)

pub slice_bounds-split_refusal-start : goal.slice_bounds-split_refusal-start
slice_bounds-split_refusal-start c = let h = long c in omega arith

pub returns-in_err-split_refusal : goal.returns-in_err-split_refusal
unfolding sheet_refusal
returns-in_err-split_refusal c =
    let s = c.args.input.now in
    let r = c.from_residual-in_err-split_refusal in
    let p = err_from_is_err_and r.result r.ensures.1 in
    let e = ap refusal_of (sym c.in_err-split_refusal.was) ∙ split_is (goal.at.returns-in_err-split_refusal c).After-split_refusal in
    let rest : ℕ = cond (valid_width (width_of s)) 0 2 in
    rw (p.1, p.2, free (goal.at.returns-in_err-split_refusal c).In_ok-input_refusal) (e ∙ or_first (split_refusal (raw_of s) (block_size_of s)) rest (λ h. some_number _ (e ∙ h)))

pub field_at-requires-2 : goal.field_at-requires-2
field_at-requires-2 c = omega (arith, long (goal.at.field_at-requires-2 c).In_ok-input_refusal)

split_free : (c : In_ok-split_refusal) → let s = c.args.input.now in split_refusal (raw_of s) (block_size_of s) ≡ 0
split_free c = sym (split_is (goal.at.field_at-requires-2 c).After-split_refusal) ∙ ap refusal_of c.in_ok-split_refusal.was

pub returns-then-not-valid_width : goal.returns-then-not-valid_width
unfolding sheet_refusal
returns-then-not-valid_width c =
    let at = goal.at.returns-then-not-valid_width c in
    rw (free at.In_ok-input_refusal, split_free at.In_ok-split_refusal, sym (width_is at.After-valid_width) ∙ c.if-not-valid_width.true)

pub returns : goal.returns
unfolding sheet_refusal
returns c =
    let at = goal.at.returns c in
    rw (free at.In_ok-input_refusal, split_free at.In_ok-split_refusal, sym (width_is at.After-valid_width) ∙ c.if-not-valid_width.false)
