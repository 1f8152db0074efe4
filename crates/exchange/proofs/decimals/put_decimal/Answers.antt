-- `decimals::put_decimal` meets its contract: up to four digits, and four more behind them, twice at most.
use Prim.Native.Nat.{ℕ, ◌+◌, ◌/◌, ◌≤◌}
use mathlib.Core.Path.{◌≡◌, ap}
use native.Mathlib.Omega.{arith}
use lib.ListN.{length}
use Rattle.exchange.specs.Writer.{decimal}
use Rattle.exchange.proofs.Figures.{Stands, length_long, long_more}
use Rattle.exchange.proofs.decimals.put_decimal.Goals.{Else-n-lt10000, Else-n-lt100000000}
use Rattle.exchange.proofs.decimals.put_decimal.Goals as goal

-- how many digits stand in front of the last four, and of the last eight

four : (t : Else-n-lt10000) → let n = t.args.n in length (decimal n) ≡ length (decimal (n / 10000)) + 4
four t = length_long _ (omega arith) (omega arith)

eight : (t : Else-n-lt100000000) → let n = t.args.n in length (decimal n) ≡ length (decimal (n / 100000000)) + 8
eight t =
    let n = t.args.n in
    let low : 10000 ≤ n / 10000 = omega arith in
    let high : n / 10000 ≤ 4294967295 = omega arith in
    let same : n / 10000 / 10000 ≡ n / 100000000 = omega arith in
    omega (arith, (let four' : let n = t.args.n in length (decimal n) ≡ length (decimal (n / 10000)) + 4 = length_long _ (omega arith) (omega arith) in four'), length_long (n / 10000) low high, ap (λ (m : ℕ). length (decimal m)) same)

pub put_short-to-requires : goal.put_short-to-requires
put_short-to-requires c = record {
  n_bound = omega arith;
  n_in_bounds = omega (arith, four (goal.at.put_short-to-requires c).Else-n-lt10000);
}

pub put_four-requires : goal.put_four-requires
put_four-requires c = record {
  n_bound = omega arith;
  at_in_bounds = omega (arith, four (goal.at.put_four-requires c).Else-n-lt10000);
}

pub overflow_add-result : goal.overflow_add-result
overflow_add-result c = omega (arith, four (goal.at.overflow_add-result c).Else-n-lt10000)

pub returns-then-n-lt100000000 : goal.returns-then-n-lt100000000
returns-then-n-lt100000000 c =
    let whole = (let a = c.args in
    let room : c.put_short-to.result ≤ length a.out.now = omega (arith, four (goal.at.returns-then-n-lt100000000 c).Else-n-lt10000) in
    long_more a.out.now a.at a.n _ _ _ (omega arith) (omega arith) (c.put_short-to.ensures.value, (c.put_short-to.ensures.out_after)) c.put_four.ensures room) in record {
      value = whole.0;
      out_after = whole.1;
    }

pub put_short-to-requires-2 : goal.put_short-to-requires-2
put_short-to-requires-2 c = record {
  n_bound = omega arith;
  n_in_bounds = omega (arith, eight (goal.at.put_short-to-requires-2 c).Else-n-lt100000000);
}

pub put_four-requires-2 : goal.put_four-requires-2
put_four-requires-2 c = record {
  n_bound = omega arith;
  at_in_bounds = omega (arith, eight (goal.at.put_four-requires-2 c).Else-n-lt100000000);
}

pub overflow_add-to : goal.overflow_add-to
overflow_add-to c = omega (arith, eight (goal.at.overflow_add-to c).Else-n-lt100000000)

pub put_four-requires-3 : goal.put_four-requires-3
put_four-requires-3 c = record {
  n_bound = omega arith;
  at_in_bounds = omega (arith, eight (goal.at.put_four-requires-3 c).Else-n-lt100000000);
}

pub overflow_add-result-2 : goal.overflow_add-result-2
overflow_add-result-2 c = omega (arith, eight (goal.at.overflow_add-result-2 c).Else-n-lt100000000)

pub returns : goal.returns
returns c =
    let a = c.args in
    let m = a.n / 10000 in
    let low : 10000 ≤ m = omega arith in
    let high : m ≤ 4294967295 = omega arith in
    let same : a.n / 100000000 ≡ m / 10000 = omega arith in
    let room : c.put_short-to-2.result ≤ length a.out.now = omega (arith, eight (goal.at.returns c).Else-n-lt100000000) in
    let room₂ : c.put_short-to-2.result + 4 ≤ length a.out.now = omega (arith, eight (goal.at.returns c).Else-n-lt100000000) in
    let short : Stands a.out.now a.at (decimal (a.n / 100000000)) c.put_short-to-2.result c.put_short-to-2.new.out = (c.put_short-to-2.ensures.value, c.put_short-to-2.ensures.out_after) in
    let front : Stands a.out.now a.at (decimal (m / 10000)) c.put_short-to-2.result c.put_short-to-2.new.out = rw same at short in
    let middle : Stands a.out.now a.at (decimal m) (c.put_short-to-2.result + 4) c.put_four-2.new.out =
    long_more a.out.now a.at m _ _ _ low high front c.put_four-2.ensures room in
    let all : Stands a.out.now a.at (decimal a.n) (c.put_short-to-2.result + 4 + 4) c.put_four-3.new.out =
    long_more a.out.now a.at a.n _ _ _ (omega arith) (omega arith) middle c.put_four-3.ensures room₂ in
    record { value = omega (arith, all.0); out_after = all.1 }
