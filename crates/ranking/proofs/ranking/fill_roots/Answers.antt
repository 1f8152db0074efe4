-- `ranking::fill_roots` meets its contract. The invariant: the entries from 1 to i - 1 are worked out.
use mathlib.Core.Path.{◌≡◌, refl, sym, ap, ◌∙◌, subst}
use Prim.Native.Nat.{ℕ, ◌+◌, ◌<◌}
use native.Mathlib.Decide.{ℕ_discrete}
use native.Mathlib.Omega.{arith}
use mathlib.Core.List.{List}
use lib.ListN.{length, get_or, set, length-set}
use lib.Seq.{get_or-set_same, get_or-set_other}
use lib.Ieee.{Float, nan}
use Rattle.scoring.specs.Halves.{part}
use Rattle.scoring.specs.Score.{deviation}
use Rattle.ranking.proofs.ranking.fill_roots.Invariants.{Filled}
use Rattle.ranking.proofs.ranking.fill_roots.Goals as goal

filled_more : (n k : ℕ) (roots : List Float) (i : ℕ) (x : Float) → x ≡ deviation n (part i k) → Filled n k roots i → Filled n k (set roots i x) (i + 1)
filled_more n k roots i x e f j h l m = go (ℕ_discrete j i)
  where
    r : j < length roots
    r = rw length-set at m

    go : Dec (j ≡ i) → get_or (set roots i x) j nan ≡ deviation n (part j k)
    go (yes p) =
        ap (λ (y : ℕ). get_or (set roots i x) y nan) p ∙ get_or-set_same roots i x nan (subst (λ (y : ℕ). y < length roots) p r) ∙ e
        ∙ ap (λ (y : ℕ). deviation n (part y k)) (sym p)
    go (no p) = get_or-set_other roots i j x nan p ∙ f j h (omega arith) r

pub loop-i-init : goal.loop-i-init
loop-i-init c = (refl, omega arith, λ j h l m. let f : ⊥ = omega arith in absurd f)

pub loop-i-preserved : goal.loop-i-preserved
loop-i-preserved c = (
  simp length-set c.loop-i.invariant.0,
  omega arith,
  filled_more c.args.n c.args.k c.loop-i.roots c.loop-i.i c.deviation.result
      (c.deviation.ensures ∙ ap (deviation c.args.n) c.share.ensures) c.loop-i.invariant.2,
)

pub shape_of-roots : goal.shape_of-roots
shape_of-roots c = c.loop-i.invariant.0

pub returns : goal.returns
returns c = λ j h l. c.loop-i.invariant.2 j h (omega arith) l
