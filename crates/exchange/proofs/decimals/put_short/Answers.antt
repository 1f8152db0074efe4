-- `decimals::put_short` meets its contract, by the number of digits.
use Prim.Native.Nat.{◌<◌}
use mathlib.Core.Path.{◌≡◌}
use native.Mathlib.Omega.{arith}
use lib.ListN.{length, length-set}
use Rattle.exchange.specs.Writer.{decimal}
use Rattle.exchange.proofs.Figures.{digit_count, digit_count_one, short_one, short_two, short_three, short_four}
use Rattle.exchange.proofs.decimals.put_short.Goals.{Else-n-lt1000, Then-n-lt10, Then-n-lt100, Then-n-lt1000}
use Rattle.exchange.proofs.decimals.put_short.Goals as goal

-- how many digits there are

one : (t : Then-n-lt10) → 1 ≡ length (decimal t.args.n)
one t = digit_count_one _ (omega arith)

two : (t : Then-n-lt100) → 2 ≡ length (decimal t.args.n)
two t = digit_count 0 _ (omega arith) (omega arith) (omega arith)

three : (t : Then-n-lt1000) → 3 ≡ length (decimal t.args.n)
three t = digit_count 1 _ (omega arith) (omega arith) (omega arith)

four : (t : Else-n-lt1000) → 4 ≡ length (decimal t.args.n)
four t = digit_count 2 _ (omega arith) (omega arith) (omega arith)

pub bounds-out-at : goal.bounds-out-at
bounds-out-at c = omega (arith, one (goal.at.bounds-out-at c).Then-n-lt10)

pub returns-then-n-lt10 : goal.returns-then-n-lt10
returns-then-n-lt10 c =
    let whole = (let a = c.args in
    let room : a.at < length a.out.now = omega (arith, one (goal.at.returns-then-n-lt10 c).Then-n-lt10) in
    short_one a.out.now a.at a.n _ (omega arith) room c.digit.ensures) in record { value = whole.0; out_after = whole.1 }

pub put_two-requires : goal.put_two-requires
put_two-requires c = record {
  n_bound = omega arith;
  at_in_bounds = omega (arith, two (goal.at.put_two-requires c).Then-n-lt100);
}

pub returns-then-n-lt100 : goal.returns-then-n-lt100
returns-then-n-lt100 c =
    let whole = (let a = c.args in
    short_two a.out.now a.at a.n _ (omega arith) (omega arith) c.put_two.ensures) in record {
      value = whole.0;
      out_after = whole.1;
    }

pub bounds-out-at-then-n-lt1000 : goal.bounds-out-at-then-n-lt1000
bounds-out-at-then-n-lt1000 c = omega (arith, three (goal.at.bounds-out-at-then-n-lt1000 c).Then-n-lt1000)

pub put_two-requires-then-n-lt1000 : goal.put_two-requires-then-n-lt1000
put_two-requires-then-n-lt1000 c = record {
  n_bound = omega arith;
  at_in_bounds = simp length-set (omega (arith, three (goal.at.put_two-requires-then-n-lt1000 c).Then-n-lt1000));
}

pub returns-then-n-lt1000 : goal.returns-then-n-lt1000
returns-then-n-lt1000 c =
    let whole = (let a = c.args in
    let room : a.at < length a.out.now = omega (arith, three (goal.at.returns-then-n-lt1000 c).Then-n-lt1000) in
    short_three a.out.now a.at a.n _ _ (omega arith) (omega arith) room c.digit-then-n-lt1000.ensures c.put_two-then-n-lt1000.ensures) in record {
      value = whole.0;
      out_after = whole.1;
    }

pub put_four-requires : goal.put_four-requires
put_four-requires c = record {
  n_bound = omega arith;
  at_in_bounds = omega (arith, four (goal.at.put_four-requires c).Else-n-lt1000);
}

pub returns : goal.returns
returns c =
    let whole = (let a = c.args in
    short_four a.out.now a.at a.n _ (omega arith) (omega arith) c.put_four.ensures) in record {
      value = whole.0;
      out_after = whole.1;
    }
