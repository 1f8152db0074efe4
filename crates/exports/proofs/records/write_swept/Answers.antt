-- `records::write_swept` meets its contract: two stores, and the numbers of the two pairs put into the parts behind them.
use mathlib.Core.Path.{◌≡◌, sym, ap, ◌∙◌}
use native.Mathlib.Omega.{arith}
use Prim.Native.Nat.{ℕ, ◌≤◌}
use mathlib.Core.List.{List, ◌∷◌, ◌++◌}
use lib.ListN.{length, set, length-set}
use borrow.Rule.Slice.PartMut.{mid_of, put_mid, mid_len, same_len_mid}
use Rattle.exports.specs.Records.{tested_numbers, written}
use Rattle.exports.proofs.Writing.{tested_size, all_written, swept_written}
use borrow.Author.Rules.{rules}
use Rattle.exports.proofs.records.write_swept.Goals.{After-slice_known-2-1, After-verdict_number, Start}
use Rattle.exports.proofs.records.write_swept.Goals as goal

-- how many bits the findings have
sizes : (s : Start) → (length s.args.swept.best.finding.bits ≡ 20) × (length s.args.swept.last.finding.bits ≡ 20)
sizes s = (search rules, search rules)

-- the slice after the two stores
abbrev stored : After-verdict_number → List ℕ
stored v = set (set v.args.numbers.now 0 v.verdict_number.result) 1 v.args.swept.tested

stored_room : (v : After-verdict_number) → 60 ≤ length (stored v)
stored_room v = simp length-set v.requires

-- .. and with the best pair's numbers put in
abbrev put : After-slice_known-2-1 → List ℕ
put c = put_mid 2 29 (set (set c.args.numbers.now 0 c.verdict_number.result) 1 c.args.swept.tested) c.write_tested.new.numbers

put_size : (c : After-slice_known-2-1) → length (put c) ≡ length (set (set c.args.numbers.now 0 c.verdict_number.result) 1 c.args.swept.tested)
put_size c = same_len_mid 2 29 (set (set c.args.numbers.now 0 c.verdict_number.result) 1 c.args.swept.tested) c.write_tested.new.numbers c.write_tested.auto.numbers

pub bounds-numbers-1 : goal.bounds-numbers-1
bounds-numbers-1 c = simp length-set (omega (arith, c.requires))

pub slice_bounds-write_tested-end : goal.slice_bounds-write_tested-end
slice_bounds-write_tested-end c = omega (arith, stored_room (goal.at.slice_bounds-write_tested-end c).After-verdict_number)

pub slice_bounds-write_tested-end-2 : goal.slice_bounds-write_tested-end-2
slice_bounds-write_tested-end-2 c = omega (arith, put_size (goal.at.slice_bounds-write_tested-end-2 c).After-slice_known-2-1, stored_room (goal.at.slice_bounds-write_tested-end-2 c).After-verdict_number)

pub shape_of-numbers : goal.shape_of-numbers
shape_of-numbers c =
    same_len_mid 31 29 (put (goal.at.shape_of-numbers c).After-slice_known-2-1) c.write_tested-2.new.numbers c.write_tested-2.auto.numbers ∙ put_size (goal.at.shape_of-numbers c).After-slice_known-2-1 ∙ simp length-set

pub returns : goal.returns
returns c =
    let l = c.args.numbers.now in
    let a = c.args.swept in
    let best : List ℕ = tested_numbers a.best in
    let last : List ℕ = tested_numbers a.last in
    let some : 2 ≤ length l = omega (arith, c.requires) in
    let room : 31 ≤ length (stored (goal.at.returns c).After-verdict_number) = omega (arith, stored_room (goal.at.returns c).After-verdict_number) in
    let more : 60 ≤ length (put (goal.at.returns c).After-slice_known-2-1) = omega (arith, put_size (goal.at.returns c).After-slice_known-2-1, stored_room (goal.at.returns c).After-verdict_number) in
    let one : c.write_tested.new.numbers ≡ best =
    c.write_tested.ensures ∙ all_written best (mid_of 2 29 (stored (goal.at.returns c).After-verdict_number)) (tested_size a.best (sizes (goal.at.returns c).Start).0 ∙ sym (mid_len 2 31 (stored (goal.at.returns c).After-verdict_number) room)) in
    let two : c.write_tested-2.new.numbers ≡ last =
    c.write_tested-2.ensures ∙ all_written last (mid_of 31 29 (put (goal.at.returns c).After-slice_known-2-1)) (tested_size a.last (sizes (goal.at.returns c).Start).1 ∙ sym (mid_len 31 60 (put (goal.at.returns c).After-slice_known-2-1) more)) in
    ap (λ (x : List ℕ). put_mid 31 29 (put_mid 2 29 (stored (goal.at.returns c).After-verdict_number) x) c.write_tested-2.new.numbers) one
    ∙ ap (λ (x : List ℕ). put_mid 31 29 (put_mid 2 29 (stored (goal.at.returns c).After-verdict_number) best) x) two
    ∙ swept_written l best last c.verdict_number.result a.tested some (tested_size a.best (sizes (goal.at.returns c).Start).0) (tested_size a.last (sizes (goal.at.returns c).Start).1)
    ∙ ap (λ (x : ℕ). written (x ∷ a.tested ∷ (best ++ last)) l) c.verdict_number.ensures
