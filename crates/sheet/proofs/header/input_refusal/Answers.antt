-- `header::input_refusal` meets its contract: each return rewrites with the tests that led there.
use borrow.Author.Tests.{lt-leb, le-leb}
use mathlib.Core.Bool.{true}
use mathlib.Core.Path.{◌≡◌, sym, ◌∙◌}
use Prim.Native.Nat.{◌≤◌, ◌<◌}
use native.Mathlib.Omega.{arith}
use lib.ListN.{length, length-drop}
use Rattle.sheet.specs.Header.{block_size_of, width_of, raw_of, well_formed, input_refusal}
use Rattle.sheet.proofs.Reading.{formed_long}
use Rattle.sheet.proofs.header.input_refusal.Goals.{Else-field_at-gt64, Else-field_at-gt8, Else-not-well_formed}
use Rattle.sheet.proofs.header.input_refusal.Goals as goal

formed : (c : Else-not-well_formed) → well_formed c.args.input.now ≡ true
formed c = sym c.well_formed-2.ensures ∙ c.if-not-well_formed.false

long : (c : Else-not-well_formed) → 13 ≤ length c.args.input.now
long c = formed_long _ (formed c)

block_fits : (c : Else-field_at-gt64) → block_size_of c.args.input.now ≤ 64
block_fits c = omega (arith, c.field_at.ensures)

width_fits : (c : Else-field_at-gt8) → width_of c.args.input.now ≤ 8
width_fits c = omega (arith, c.field_at-2.ensures)

pub returns-then-not-well_formed : goal.returns-then-not-well_formed
unfolding input_refusal
returns-then-not-well_formed c = simp (sym c.well_formed-2.ensures ∙ c.if-not-well_formed.true)

pub field_at-requires : goal.field_at-requires
field_at-requires c = omega (arith, long c)

pub returns-then-field_at-gt64 : goal.returns-then-field_at-gt64
unfolding input_refusal
returns-then-field_at-gt64 c =
    let over : 64 < block_size_of c.args.input.now = omega (arith, c.field_at.ensures) in
    simp (formed (goal.at.returns-then-field_at-gt64 c).Else-not-well_formed, lt-leb _ _ over)

pub field_at-requires-2 : goal.field_at-requires-2
field_at-requires-2 c = omega (arith, long (goal.at.field_at-requires-2 c).Else-not-well_formed)

pub returns-then-field_at-gt8 : goal.returns-then-field_at-gt8
unfolding input_refusal
returns-then-field_at-gt8 c =
    let over : 8 < width_of c.args.input.now = omega (arith, c.field_at-2.ensures) in
    simp (formed (goal.at.returns-then-field_at-gt8 c).Else-not-well_formed, le-leb _ _ (block_fits (goal.at.returns-then-field_at-gt8 c).Else-field_at-gt64), lt-leb _ _ over)

pub overflow_sub-input : goal.overflow_sub-input
overflow_sub-input c = omega (arith, long (goal.at.overflow_sub-input c).Else-not-well_formed)

pub returns-then-input-gt8192 : goal.returns-then-input-gt8192
unfolding input_refusal
returns-then-input-gt8192 c =
    let s = c.args.input.now in
    let over : 8192 < length (raw_of s) = omega (arith, length-drop 13 s) in
    simp (formed (goal.at.returns-then-input-gt8192 c).Else-not-well_formed, le-leb _ _ (block_fits (goal.at.returns-then-input-gt8192 c).Else-field_at-gt64), le-leb _ _ (width_fits (goal.at.returns-then-input-gt8192 c).Else-field_at-gt8), lt-leb _ _ over)

pub returns : goal.returns
unfolding input_refusal
returns c =
    let s = c.args.input.now in
    let fits : length (raw_of s) ≤ 8192 = omega (arith, length-drop 13 s) in
    simp (formed (goal.at.returns c).Else-not-well_formed, le-leb _ _ (block_fits (goal.at.returns c).Else-field_at-gt64), le-leb _ _ (width_fits (goal.at.returns c).Else-field_at-gt8), le-leb _ _ fits)
