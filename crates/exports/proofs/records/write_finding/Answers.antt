-- `records::write_finding` meets its contract: four stores, the bits after them, and the bit order after these.
use mathlib.Core.Path.{◌≡◌, sym, ap, ◌∙◌}
use native.Mathlib.Omega.{arith}
use Prim.Native.Nat.{ℕ, ◌≤◌, ◌<◌}
use mathlib.Core.List.{List, [], ◌∷◌, ◌++◌}
use lib.ListN.{length, set, length-set}
use Rattle.exports.specs.Records.{written}
use Rattle.exports.proofs.Writing.{four, one_more}
use borrow.Author.Rules.{rules}
use Rattle.exports.proofs.records.write_finding.Goals.{After-write_bits, Start}
use Rattle.exports.proofs.records.write_finding.Goals as goal

size : (s : Start) → length s.args.finding.bits ≡ 20
size s = search rules

-- the numbers and the bits are as many as before
kept : (w : After-write_bits) → length w.write_bits.new.numbers ≡ length w.args.numbers.now
kept w = w.write_bits.auto.numbers ∙ simp length-set

pub bounds-numbers-1 : goal.bounds-numbers-1
bounds-numbers-1 c = simp length-set (omega arith)

pub bounds-numbers-2 : goal.bounds-numbers-2
bounds-numbers-2 c = simp length-set (omega arith)

pub bounds-numbers-3 : goal.bounds-numbers-3
bounds-numbers-3 c = simp length-set (omega arith)

pub write_bits-requires : goal.write_bits-requires
write_bits-requires c =
    let bits : length c.args.finding.bits ≡ 20 = size (goal.at.write_bits-requires c).Start in
    simp length-set (omega (arith, c.requires))

pub bounds-numbers-24 : goal.bounds-numbers-24
bounds-numbers-24 c =
    omega (arith, kept (goal.at.bounds-numbers-24 c).After-write_bits, c.requires)

pub shape_of-numbers : goal.shape_of-numbers
shape_of-numbers c = simp length-set (kept (goal.at.shape_of-numbers c).After-write_bits)

pub returns : goal.returns
returns c =
    let f = c.args.finding in
    let l = c.args.numbers.now in
    let long : 4 ≤ length l = omega (arith, c.requires) in
    let first : List ℕ = f.block_size ∷ f.width ∷ f.division ∷ c.pattern.result ∷ f.bits in
    let size : length first ≡ 24 = omega (arith, size (goal.at.returns c).Start) in
    let room : length first < length l = omega (arith, c.requires) in
    ap (λ (t : List ℕ). set t 24 c.order_number.result)
    (c.write_bits.ensures ∙ four l f.bits f.block_size f.width f.division c.pattern.result long)
    ∙ ap (λ (n : ℕ). set (written first l) n c.order_number.result) (sym size)
    ∙ one_more first l c.order_number.result room
    ∙ (λ i. written (f.block_size ∷ f.width ∷ f.division ∷ c.pattern.ensures i ∷ (f.bits ++ (c.order_number.ensures i ∷ []))) l)
