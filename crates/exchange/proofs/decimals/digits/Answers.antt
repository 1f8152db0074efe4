-- `decimals::digits` meets its contract: the powers of ten that are left lead to the number of digits.
use Prim.Native.Nat.{ℕ, ◌+◌, ◌*◌, ◌^◌, ◌<◌}
use mathlib.Core.Bool.{Bool, true, false, cond}
use mathlib.Core.Path.{◌≡◌, refl, ap, ◌∙◌}
use native.Mathlib.Nat.{pow-suc}
use native.Mathlib.Numerals.{add-one}
use native.Mathlib.Omega.{arith}
use lib.Dec.{leb}
use mir.Val.{bool_byte}
use Rattle.exchange.proofs.Figures.{decimal_reached, reached_next, reached_none_left, one_at_most}
use Rattle.exchange.proofs.decimals.digits.Goals.{After-from-count, In-loop}
use Rattle.exchange.proofs.decimals.digits.Goals as goal

as_number : (b : Bool) → bool_byte b ≡ cond b 1 0
as_number true = refl
as_number false = refl

more : (c : After-from-count) → c.from-count.result ≡ cond (leb (c.loop.power * 10) c.args.n) 1 0
more c = c.from-count.ensures ∙ as_number (leb (c.loop.power * 10) c.args.n)

pub loop-init : goal.loop-init
loop-init c = (decimal_reached c.args.n, refl, omega arith)

pub loop-preserved : goal.loop-preserved
loop-preserved c =
    let n = c.args.n in
    let i = c.loop.counter in
    let here : i < 9 = omega arith in
    let power : c.loop.power * 10 ≡ 10 ^ i * 10 = ap (λ (m : ℕ). m * 10) c.loop.invariant.1 in
    let one : c.from-count.result ≡ cond (leb (10 ^ i * 10) n) 1 0 = more c ∙ ap (λ (m : ℕ). cond (leb m n) 1 0) power in
    let next : 10 ^ i * 10 ≡ 10 ^ (i + 1) = rw (add-one, pow-suc) in (
      omega (arith, c.loop.invariant.0, one, reached_next i n here),
      power ∙ next,
      omega (arith, more c, one_at_most (leb (c.loop.power * 10) n)),
    )

pub returns : goal.returns
returns c =
    let all : c.loop.counter ≡ 9 = omega arith in
    omega (arith, c.loop.invariant.0, reached_none_left c.loop.counter c.args.n all)
