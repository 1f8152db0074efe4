-- `bracket::bracket_refusal` meets its contract: each return rewrites with the tests that led there.
use mathlib.Core.Path.{◌≡◌, sym, ◌∙◌}
use mathlib.Core.Bool.{true}
use Prim.Native.Nat.{suc, ◌^◌, ◌≤◌, ◌<◌}
use native.Mathlib.Omega.{arith}
use lib.Dec.{leb}
use borrow.Author.Tests.{le-leb, lt-leb, lt-ltb, le-ltb}
use Rattle.subsets.specs.Bits.{valid_width}
use Rattle.subsets.proofs.Refusing.{width_bounds}
use Rattle.chance.specs.Bracket.{bracket_refusal}
use Rattle.chance.proofs.bracket.bracket_refusal.Goals.{Else-d-bin_count, Else-long, Else-not-valid_width, Then-d-bin_count}
use Rattle.chance.proofs.bracket.bracket_refusal.Goals as goal

few : (e : Else-long) → leb e.args.n 4096 ≡ true
few e = let h : e.args.n ≤ 4096 = omega (arith, e.if-long.false) in le-leb _ _ h

width_ok : (d : Else-not-valid_width) → valid_width d.args.k ≡ true
width_ok d = sym d.valid_width.ensures ∙ d.if-not-valid_width.false

-- of 2 ^ k bins some are not positive, or all are
part : (e : Else-d-bin_count) → let a = e.args in a.d < 2 ^ a.k
part e = omega (arith, e.bin_count.ensures, e.if-d-bin_count.false)

all : (t : Then-d-bin_count) → let a = t.args in 2 ^ a.k ≤ a.d
all t = omega (arith, t.bin_count.ensures, t.if-d-bin_count.true)

pub returns-then-long : goal.returns-then-long
unfolding bracket_refusal
returns-then-long c = let h : 4096 < c.args.n = omega (arith, c.if-long.true) in simp (lt-leb _ _ h)

pub returns-then-c-n : goal.returns-then-c-n
unfolding bracket_refusal
returns-then-c-n c = simp (few (goal.at.returns-then-c-n c).Else-long, lt-leb _ _ c.if-c-n.true)

pub returns-then-not-valid_width : goal.returns-then-not-valid_width
unfolding bracket_refusal
returns-then-not-valid_width c = simp (few (goal.at.returns-then-not-valid_width c).Else-long, le-leb _ _ c.if-c-n.false, sym c.valid_width.ensures ∙ c.if-not-valid_width.true)

pub returns-then-d-lt1 : goal.returns-then-d-lt1
unfolding bracket_refusal
returns-then-d-lt1 c =
    simp (few (goal.at.returns-then-d-lt1 c).Else-long, le-leb _ _ c.if-c-n.false, width_ok (goal.at.returns-then-d-lt1 c).Else-not-valid_width, lt-leb _ _ c.if-d-lt1.true)

pub bin_count-requires : goal.bin_count-requires
bin_count-requires c = (width_bounds _ (width_ok (goal.at.bin_count-requires c).Else-not-valid_width)).1

pub returns-then-d-bin_count : goal.returns-then-d-bin_count
unfolding bracket_refusal
returns-then-d-bin_count c =
    simp (few (goal.at.returns-then-d-bin_count c).Else-long, le-leb _ _ c.if-c-n.false, width_ok (goal.at.returns-then-d-bin_count c).Else-not-valid_width, le-leb _ _ c.if-d-lt1.false, le-ltb _ _ (all c))

pub returns-then-room-n : goal.returns-then-room-n
unfolding bracket_refusal
returns-then-room-n c =
    let h : c.args.room < suc c.args.n = omega arith in
    simp (few (goal.at.returns-then-room-n c).Else-long, le-leb _ _ c.if-c-n.false, width_ok (goal.at.returns-then-room-n c).Else-not-valid_width, le-leb _ _ c.if-d-lt1.false, lt-ltb _ _ (part (goal.at.returns-then-room-n c).Else-d-bin_count), lt-leb _ _ h)

pub returns : goal.returns
unfolding bracket_refusal
returns c =
    let h : suc c.args.n ≤ c.args.room = omega arith in
    simp (few (goal.at.returns c).Else-long, le-leb _ _ c.if-c-n.false, width_ok (goal.at.returns c).Else-not-valid_width, le-leb _ _ c.if-d-lt1.false, lt-ltb _ _ (part (goal.at.returns c).Else-d-bin_count), le-leb _ _ h)
