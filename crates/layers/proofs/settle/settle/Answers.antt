-- `settle::settle` meets its contract: place after place.
use Prim.Native.Nat.{ℕ, ◌*◌, ◌/◌, ◌%◌, ◌^◌, ◌≤◌}
use mathlib.Core.Path.{◌≡◌, subst, sym}
use mathlib.Core.Logic.{◌⊎◌, inl, inr}
use mathlib.Core.List.{List}
use native.Mathlib.Omega.{arith}
use lib.ListN.{length}
use lib.Pow.{pow_mono}
use Rattle.counting.proofs.Marks.{shifted_one}
use Rattle.layers.specs.Settle.{Settles, Paired, Stepped, Fours}
use Rattle.layers.proofs.Staging.{Stage, stage_none, stage_all, paired, stage_more, starts_in_fours, stage_two}
use Rattle.layers.proofs.settle.settle.Goals.{After-reduce_each-arg-1, After-slice_known-2-1, At-loop-i}
use Rattle.layers.proofs.settle.settle.Goals as goal

-- the places that are settled there
begun : (j : ℕ) (b₀ b : List ℕ) (r : ℕ) → Settles j b₀ → length b ≡ length b₀ → ((r ≡ 0) × (b ≡ b₀)) ⊎ ((r ≡ 2) × (2 ≤ j) × Fours (length b₀) b₀ b)
    → (r ≤ j) × Stage j b₀ r b
begun j b₀ b r some e (inl (z, same)) = (omega arith, rw (z, same) (stage_none j b₀))
begun j b₀ b r some e (inr (z, two, f)) = (omega arith, rw z (stage_two j b₀ some two b e f))

begins : (d : After-slice_known-2-1)
    → let f = d.first_places-i in let a = d.args in (f.result ≤ a.j) × Stage a.j a.upper.now f.result f.new.upper
begins d =
    let f = d.first_places-i in
    begun d.args.j d.args.upper.now f.new.upper f.result d.requires.settles f.auto.upper f.ensures

-- and at any turn
stage : (l : At-loop-i) → let a = l.args in Stage a.j a.upper.now l.loop-i.i l.loop-i.upper
stage l = l.loop-i.invariant.1 l.args.upper.now l.requires.settles (let f = l.first_places-i in begun l.args.j l.args.upper.now f.new.upper f.result l.requires.settles f.auto.upper f.ensures).1

-- the distance of the pairs of a turn
step_is : (d : After-reduce_each-arg-1) → let i = d.loop-i.i in 1 * 2 ^ i % 2 ^ 64 ≡ 2 ^ i
step_is d = shifted_one 64 d.loop-i.i (omega (arith, d.loop-i-test.true, d.requires.j_bound))

pub first_places-i-requires : goal.first_places-i-requires
first_places-i-requires c =
    starts_in_fours c.args.j c.args.upper.now c.requires.settles

pub loop-i-init : goal.loop-i-init
loop-i-init c = ((begins c).0, λ b₀ some st. st)

pub reduce_each-requires : goal.reduce_each-requires
reduce_each-requires c =
    let a = c.args in
    let small : c.loop-i.i ≤ 20 = omega (arith, c.loop-i.invariant.0, c.requires.j_bound) in record {
      step_bound = omega (arith, step_is c, pow_mono small);
      paired = subst (λ (x : ℕ). Paired x c.loop-i.upper) (sym (step_is c)) (paired a.j a.upper.now c.requires.settles c.loop-i.i c.loop-i-test.true c.loop-i.upper (stage (goal.at.reduce_each-requires c).At-loop-i));
    }

pub loop-i-preserved : goal.loop-i-preserved
loop-i-preserved c =
    let a = c.args in
    let r = c.reduce_each in
    let done : Stepped (2 ^ c.loop-i.i) _ _ _ = subst (λ (x : ℕ). Stepped x (length c.loop-i.upper / (2 * x)) c.loop-i.upper r.new.bins) (step_is (goal.at.loop-i-preserved c).After-reduce_each-arg-1) r.ensures in (
      omega (arith, c.loop-i-test.true),
      λ b₀ some st. stage_more a.j b₀ some c.loop-i.i c.loop-i-test.true c.loop-i.upper (c.loop-i.invariant.1 b₀ some st) r.new.bins r.auto.bins done,
    )

pub shape_of-upper : goal.shape_of-upper
shape_of-upper c = (stage (goal.at.shape_of-upper c).At-loop-i).size

pub returns : goal.returns
returns c =
    let a = c.args in
    let e : c.loop-i.i ≡ a.j = omega (arith, c.loop-i.invariant.0, c.loop-i-test.false) in
    stage_all a.j a.upper.now c.loop-i.upper (subst (λ (x : ℕ). Stage a.j a.upper.now x c.loop-i.upper) e (stage (goal.at.returns c).At-loop-i))
