-- What the verdicts tell (`sweeps_conclude`): an invariant of the progress, pair by pair, and the exact chance between the ends.
use mathlib.Core.Path.{◌≡◌, refl, sym, ap, subst, ◌∙◌}
use mathlib.Core.Bool.{Bool, true, false, cond, ◌||◌, true≢false}
use mathlib.Core.List.{List}
use mathlib.Core.Logic.{◌⊎◌, inl, inr}
use Prim.Native.Nat.{ℕ, zero, suc, ◌+◌, ◌*◌, ◌/◌, ◌^◌, ◌≤◌, ◌<◌}
use native.Mathlib.Nat.{mul-le-mul_left, mul-le-mul_right, div-mul-le_self, mul_comm, mul_assoc, suc-mul, mul-suc, le_trans}
use native.Mathlib.Omega.{arith}
use lib.Dec.{leb, ltb}
use lib.ListN.{length, get_or}
use lib.Pow.{pow_pos}
use borrow.Author.Tests.{leb-true, leb-false, ltb-true, ltb-false, eq-eqb, ne_eqb}
use Rattle.counting.specs.Recording.{block_bytes, blocks_in}
use Rattle.counting.proofs.Accepted.{passed}
use Rattle.chance.specs.Bracket.{Between}
use Rattle.chance.proofs.Answering.{accepted}
use Rattle.chance.proofs.Bracketing.{brackets}
use Rattle.searching.proofs.Refusing.{neither}
use Rattle.judging.specs.Plan.{Plan, plan_of}
use Rattle.sweeping.specs.Pair.{pair_at, judged_of, tested_of, Sound, Testable}
use Rattle.sweeping.specs.Progress.{begun, lowest_of, counted, next_progress, progress_to}
use Rattle.sweeping.specs.Refusal.{pairs_refusal, unskipped, skipped_refusal, level_refusal, sweep_refusal}
use Rattle.sweeping.specs.Sweep.{Swept, share_of, answer_of, swept_with, swept_of}
use Rattle.sweeping.specs.Verdict.{verdict_of, verdict_number}
use Rattle.sweeping.specs.Conclusions.{chance_of, whole_of, TestOf, Lowest, Rejection, Indecision, Passing, Concludes, SweepsConclude}
use Rattle.sweeping.specs.declared.pair.Tested.{Tested}
use Rattle.sweeping.specs.declared.progress.Progress.{Progress}
use Rattle.sweeping.specs.declared.refusal.Room.{Room}
use Rattle.sweeping.specs.declared.verdict.Verdict.TheVariants.{Rejected, Undecided, NotRejected}
use Rattle.sweeping.proofs.Plans.{sound}
use Rattle.sweeping.proofs.Progressing.{stopped, skips, tests, tested_few}
use Rattle.sweeping.proofs.Refusals.{each_free, testable, sweep_free}
use Rattle.sweeping.proofs.Testing.{judgeable}

-- before a place, or at it
before_or_at : (j i : ℕ) → j < suc i → (j < i) ⊎ (j ≡ i)
before_or_at j i h = by_test (leb (suc j) i) refl
  where
    by_test : (t : Bool) → leb (suc j) i ≡ t → (j < i) ⊎ (j ≡ i)
    by_test true e = inl (leb-true (suc j) i e)
    by_test false e = inr (omega (arith, leb-false (suc j) i e))

-- ---- the invariant

module _ (share : ℕ) (plan : Plan) (low : Bool) (raw : List ℕ) where
  -- a test of a pair before i reaches down below the share
  record Reaching (i : ℕ) : Type 0 where
    pub pair : ℕ
    pub within : pair < i
    pub test : Tested
    pub tested : TestOf plan low raw pair test
    pub below : test.low < share

  -- the best so far: none, where every pair was skipped
  abbrev BestSoFar : ℕ → Progress → Type 0
  BestSoFar i p = ((p.tested ≡ 0) × ((j : ℕ) (u : Tested) → j < i → TestOf plan low raw j u → ⊥)) ⊎ ((1 ≤ p.tested) × Lowest plan low raw i p.best)

  -- no pair before i is rejected
  record Going (i : ℕ) (p : Progress) : Type 0 where
    pub going : p.rejected ≡ false
    pub each : (j : ℕ) (u : Tested) → j < i → TestOf plan low raw j u → share ≤ u.high
    pub clear : p.below ≡ false → (j : ℕ) (u : Tested) → j < i → TestOf plan low raw j u → share ≤ u.low
    pub reaching : p.below ≡ true → Reaching i
    pub best : BestSoFar i p

  -- a pair before i is, and it was the last
  record Stopped (i : ℕ) (p : Progress) : Type 0 where
    pub stopped : p.rejected ≡ true
    pub pair : ℕ
    pub within : pair < i
    pub stopping : TestOf plan low raw pair p.last
    pub below : p.last.high < share
    pub first : (j : ℕ) (u : Tested) → j < pair → TestOf plan low raw j u → share ≤ u.high
    pub best : Lowest plan low raw (suc pair) p.best

  abbrev State : ℕ → Progress → Type 0
  State i p = Going i p ⊎ Stopped i p

  -- two tests of one pair are the same
  same_low : (i j : ℕ) (t u : Tested) → TestOf plan low raw i t → TestOf plan low raw j u → j ≡ i → u.low ≡ t.low
  same_low i j t u x y e = ap (λ (v : Tested). v.low) (y.is ∙ ap (λ (l : ℕ). tested_of (pair_at plan low l) raw) e ∙ sym x.is)

  same_high : (i j : ℕ) (t u : Tested) → TestOf plan low raw i t → TestOf plan low raw j u → j ≡ i → u.high ≡ t.high
  same_high i j t u x y e = ap (λ (v : Tested). v.high) (y.is ∙ ap (λ (l : ℕ). tested_of (pair_at plan low l) raw) e ∙ sym x.is)

  -- ---- the lowest

  first_lowest : (i : ℕ) (t : Tested) → TestOf plan low raw i t → ((j : ℕ) (u : Tested) → j < i → TestOf plan low raw j u → ⊥) → Lowest plan low raw (suc i) t
  first_lowest i t x none = record {
    pair = i;
    within = omega arith;
    tested = x;
    lowest = λ j u h y. elim (before_or_at j i h) [ inl less ↦ absurd (none j u less y) | inr e ↦ omega (arith, same_low i j t u x y e) ];
    earliest = λ j u h y. absurd (none j u h y);
  }

  new_lowest : (i : ℕ) (t b : Tested) → TestOf plan low raw i t → Lowest plan low raw i b → t.low < b.low → Lowest plan low raw (suc i) t
  new_lowest i t b x l less = record {
    pair = i;
    within = omega arith;
    tested = x;
    lowest = λ j u h y. elim (before_or_at j i h) [ inl g ↦ omega (arith, l.lowest j u g y, less) | inr e ↦ omega (arith, same_low i j t u x y e) ];
    earliest = λ j u h y. omega (arith, l.lowest j u h y, less);
  }

  old_lowest : (i : ℕ) (t b : Tested) → TestOf plan low raw i t → Lowest plan low raw i b → b.low ≤ t.low → Lowest plan low raw (suc i) b
  old_lowest i t b x l more = record {
    pair = l.pair;
    within = omega (arith, l.within);
    tested = l.tested;
    lowest = λ j u h y. elim (before_or_at j i h) [ inl g ↦ l.lowest j u g y | inr e ↦ omega (arith, same_low i j t u x y e, more) ];
    earliest = l.earliest;
  }

  lowest_more : (i : ℕ) (p : Progress) (t : Tested) → TestOf plan low raw i t → BestSoFar i p → Lowest plan low raw (suc i) (lowest_of p t)
  unfolding lowest_of
  lowest_more i p t x (inl (zeroes, none)) = simp (eq-eqb _ _ zeroes) (first_lowest i t x none)
  lowest_more i p t x (inr (some, l)) =
      let ne : (p.tested ≡ 0 → ⊥) = λ e. omega arith in
      simp (ne_eqb _ _ ne) (by_test (ltb t.low p.best.low) refl)
    where
      by_test : (b : Bool) → ltb t.low p.best.low ≡ b → Lowest plan low raw (suc i) (cond b t p.best)
      by_test true e = new_lowest i t p.best x l (ltb-true t.low p.best.low e)
      by_test false e = old_lowest i t p.best x l (ltb-false t.low p.best.low e)

  -- ---- one pair more

  skip_best : (i : ℕ) (p : Progress) → ((u : Tested) → TestOf plan low raw i u → ⊥) → BestSoFar i p → BestSoFar (suc i) p
  skip_best i p never (inl (zeroes, none)) = inl (zeroes, λ j u h y. elim (before_or_at j i h) [ inl g ↦ none j u g y | inr e ↦ never u (rw (sym e) y) ])
  skip_best i p never (inr (some, l)) =
      inr (
        some,
        record {
          pair = l.pair;
          within = omega (arith, l.within);
          tested = l.tested;
          lowest = λ j u h y. elim (before_or_at j i h) [ inl g ↦ l.lowest j u g y | inr e ↦ absurd (never u (rw (sym e) y)) ];
          earliest = l.earliest;
        },
      )

  skipped : (i : ℕ) (p : Progress) → ((u : Tested) → TestOf plan low raw i u → ⊥) → Going i p → Going (suc i) p
  skipped i p never g = record {
    going = g.going;
    each = λ j u h y. elim (before_or_at j i h) [ inl less ↦ g.each j u less y | inr e ↦ absurd (never u (rw (sym e) y)) ];
    clear = λ c j u h y. elim (before_or_at j i h) [ inl less ↦ g.clear c j u less y | inr e ↦ absurd (never u (rw (sym e) y)) ];
    reaching = λ b. let r = g.reaching b in record { pair = r.pair; within = omega (arith, r.within); test = r.test; tested = r.tested; below = r.below };
    best = skip_best i p never g.best;
  }

  -- whether a bracket reaches down, before and now
  neither_below : (a b : Bool) → (a || b) ≡ false → (a ≡ false) × (b ≡ false)
  neither_below true b e = absurd (true≢false e)
  neither_below false b e = (refl, e)

  either_below : (a b : Bool) → (a || b) ≡ true → (a ≡ true) ⊎ (b ≡ true)
  either_below true b e = inl refl
  either_below false b e = inr e

  goes_on : (i : ℕ) (p : Progress) (t : Tested) → TestOf plan low raw i t → Going i p → ltb t.high share ≡ false → Going (suc i) (counted share p t)
  unfolding counted
  goes_on i p t x g e = record {
    going = e;
    each = λ j u h y. elim (before_or_at j i h) [ inl less ↦ g.each j u less y | inr s ↦ omega (arith, same_high i j t u x y s, ltb-false t.high share e) ];
    clear = λ c j u h y.
        let n = neither_below p.below (ltb t.low share) c in
        elim (before_or_at j i h) [ inl less ↦ g.clear n.0 j u less y | inr s ↦ omega (arith, same_low i j t u x y s, ltb-false t.low share n.1) ];
    reaching = λ b. elim (either_below p.below (ltb t.low share) b) [
      | inl old ↦ let r = g.reaching old in record { pair = r.pair; within = omega (arith, r.within); test = r.test; tested = r.tested; below = r.below }
      | inr new ↦ record { pair = i; within = omega arith; test = t; tested = x; below = ltb-true t.low share new }
    ];
    best = inr (omega arith, lowest_more i p t x g.best);
  }

  stops : (i : ℕ) (p : Progress) (t : Tested) → TestOf plan low raw i t → Going i p → ltb t.high share ≡ true → Stopped (suc i) (counted share p t)
  unfolding counted
  stops i p t x g e = record {
    stopped = e;
    pair = i;
    within = omega arith;
    stopping = x;
    below = ltb-true t.high share e;
    first = g.each;
    best = lowest_more i p t x g.best;
  }

  stays : (i : ℕ) (p : Progress) → Stopped i p → Stopped (suc i) p
  stays i p s = record {
    stopped = s.stopped;
    pair = s.pair;
    within = omega (arith, s.within);
    stopping = s.stopping;
    below = s.below;
    first = s.first;
    best = s.best;
  }

  one_pair : (i : ℕ) (p : Progress) → State i p → State (suc i) (next_progress share raw (pair_at plan low i) p)
  one_pair i p (inr s) = subst (State (suc i)) (stopped share raw (pair_at plan low i) p s.stopped) (inr (stays i p s))
  one_pair i p (inl g) = by_blocks (leb 2 (blocks_in (get_or plan.blocks i 0) raw)) refl
    where
      t : Tested
      t = tested_of (pair_at plan low i) raw

      by_end : (b : Bool) → ltb t.high share ≡ b → TestOf plan low raw i t → State (suc i) (counted share p t)
      by_end true e x = inr (stops i p t x g e)
      by_end false e x = inl (goes_on i p t x g e)

      by_blocks : (b : Bool) → leb 2 (blocks_in (get_or plan.blocks i 0) raw) ≡ b → State (suc i) (next_progress share raw (pair_at plan low i) p)
      by_blocks true e =
          subst (State (suc i)) (tests share raw (pair_at plan low i) p g.going e)
          (by_end (ltb t.high share) refl (record { two = leb-true 2 (blocks_in (get_or plan.blocks i 0) raw) e; is = refl }))
      by_blocks false e =
          subst (State (suc i)) (skips share raw (pair_at plan low i) p g.going e)
          (inl (skipped i p (λ u y. omega (arith, y.two, leb-false 2 (blocks_in (get_or plan.blocks i 0) raw) e)) g))

  none_yet : Going 0 begun
  none_yet = record {
    going = refl;
    each = λ j u h y. absurd (omega arith);
    clear = λ c j u h y. absurd (omega arith);
    reaching = λ b. absurd (true≢false (sym b));
    best = inl (refl, λ j u h y. omega arith);
  }

  state : (i : ℕ) → State i (progress_to share plan low raw i)
  unfolding progress_to
  state zero = inl none_yet
  state (suc i) = one_pair i (progress_to share plan low raw i) (state i)

-- where no pair of the first m can be tested, all of them are skipped
all_skipped : (plan : Plan) (low : Bool) (raw : List ℕ) (m : ℕ) → ((j : ℕ) (u : Tested) → j < m → TestOf plan low raw j u → ⊥) → unskipped plan (length raw) m ≡ 0
unfolding unskipped
all_skipped plan low raw zero none = refl
all_skipped plan low raw (suc m) none =
    let before = all_skipped plan low raw m (λ j u h y. none j u (omega arith) y) in
    by_blocks before (leb 2 (length raw / block_bytes (get_or plan.blocks m 0))) refl
  where
    by_blocks : unskipped plan (length raw) m ≡ 0 → (b : Bool) → leb 2 (length raw / block_bytes (get_or plan.blocks m 0)) ≡ b
        → unskipped plan (length raw) m + cond b 1 0 ≡ 0
    by_blocks before true e =
        let two : 2 ≤ blocks_in (get_or plan.blocks m 0) raw = leb-true 2 (blocks_in (get_or plan.blocks m 0) raw) e in
        absurd (none m (tested_of (pair_at plan low m) raw) (omega arith) (record { two = two; is = refl }))
    by_blocks before false e = omega (arith, before)

-- ---- the exact chance

-- both ends of a pair that can be tested
between : (plan : Plan) (low : Bool) (raw : List ℕ) (lent : Room) (i : ℕ) (t : Tested) → TestOf plan low raw i t
    → Testable (pair_at plan low i) (length raw) lent.words lent.bins lent.order lent.scratch lent.entries
    → Between t.low t.high t.blocks t.positive t.finding.width t.finding.division
unfolding tested_of judged_of
between plan low raw lent i t x ok =
    let j = judgeable (pair_at plan low i) raw lent.words lent.bins lent.order lent.scratch lent.entries ok in
    let b = accepted _ _ _ _ _ j.bracketed in
    subst (λ (u : Tested). Between u.low u.high u.blocks u.positive u.finding.width u.finding.division) (sym x.is)
    (brackets _ _ _ _ b.part b.within).0

-- below a share of 1 / N
share_below : (N x high a W : ℕ) → 1 ≤ N → 1 ≤ W → high < a / N → x ≤ high * W → N * x < a * W
share_below N x high a W some pos less within =
    let up : N * suc high ≤ N * (a / N) = mul-le-mul_left N less in
    let all : N * (a / N) ≤ a = omega (arith, div-mul-le_self a N, mul_comm N (a / N)) in
    let grown : N * suc high ≡ N * high + N = mul-suc N high in
    let far : suc (N * high) ≤ a = omega arith in
    let scaled : suc (N * high) * W ≤ a * W = mul-le-mul_right W far in
    let step : suc (N * high) * W ≡ N * high * W + W = suc-mul (N * high) W in
    let left : N * x ≤ N * (high * W) = mul-le-mul_left N within in
    let same : N * (high * W) ≡ N * high * W = sym (mul_assoc N high W) in
    omega arith

-- ---- the verdict

is_rejected : (a b : Bool) → verdict_of a b ≡ Rejected → a ≡ true
is_rejected true b e = refl
is_rejected false true e = absurd (let z : ◌≡◌ {A = ℕ} 0 1 = ap verdict_number e in omega arith)
is_rejected false false e = absurd (let z : ◌≡◌ {A = ℕ} 2 1 = ap verdict_number e in omega arith)

is_undecided : (a b : Bool) → verdict_of a b ≡ Undecided → (a ≡ false) × (b ≡ true)
is_undecided true b e = absurd (let z : ◌≡◌ {A = ℕ} 1 0 = ap verdict_number e in omega arith)
is_undecided false true e = (refl, refl)
is_undecided false false e = absurd (let z : ◌≡◌ {A = ℕ} 2 0 = ap verdict_number e in omega arith)

is_passed : (a b : Bool) → verdict_of a b ≡ NotRejected → (a ≡ false) × (b ≡ false)
is_passed true b e = absurd (let z : ◌≡◌ {A = ℕ} 1 2 = ap verdict_number e in omega arith)
is_passed false true e = absurd (let z : ◌≡◌ {A = ℕ} 0 2 = ap verdict_number e in omega arith)
is_passed false false e = (refl, refl)

-- a sweep that is not refused
module _ (a B : ℕ) (low : Bool) (raw : List ℕ) (lent : Room) (free : sweep_refusal a (plan_of B (length raw)) (length raw) lent ≡ 0) where
  abbrev plan : Plan
  plan = plan_of B (length raw)

  abbrev share : ℕ
  share = share_of a plan

  abbrev p : Progress
  p = progress_to share plan low raw plan.pairs

  ok : Sound plan
  ok = sound B (length raw)

  some : 1 ≤ plan.pairs
  some = (ok.first (sweep_free a plan (length raw) lent free).0).0

  can_test : (i : ℕ) (t : Tested) → i < plan.pairs → TestOf plan low raw i t
      → Testable (pair_at plan low i) (length raw) lent.words lent.bins lent.order lent.scratch lent.entries
  can_test i t h x =
      testable (pair_at plan low i) (length raw) lent (ok.sizes i h)
      (each_free plan (length raw) lent plan.pairs i h (sweep_free a plan (length raw) lent free).1) x.two

  -- a pair is not skipped
  unskipped_some : ((j : ℕ) (u : Tested) → j < plan.pairs → TestOf plan low raw j u → ⊥) → ⊥
  unfolding sweep_refusal skipped_refusal
  unskipped_some none =
      let q = neither (level_refusal a) _ free in
      let r = neither plan.refusal _ q.1 in
      let s = neither (pairs_refusal plan (length raw) lent plan.pairs) _ r.1 in
      let t = passed (leb 1 (unskipped plan (length raw) plan.pairs)) 0 8 (omega arith) s.1 in
      omega (arith, leb-true 1 (unskipped plan (length raw) plan.pairs) t.0, none_left plan.pairs (omega arith))
    where
      none_left : (m : ℕ) → m ≤ plan.pairs → unskipped plan (length raw) m ≡ 0
      none_left m h = all_skipped plan low raw m (λ j u g y. none j u (omega arith) y)

  lowest_all : BestSoFar share plan low raw plan.pairs p → Lowest plan low raw plan.pairs p.best
  lowest_all (inl (zeroes, none)) = absurd (unskipped_some none)
  lowest_all (inr (least, l)) = l

  not_stopped : p.rejected ≡ false → Going share plan low raw plan.pairs p
  not_stopped e = elim (state share plan low raw plan.pairs) [ inl g ↦ g | inr s ↦ absurd (true≢false (sym s.stopped ∙ e)) ]

  was_stopped : p.rejected ≡ true → Stopped share plan low raw plan.pairs p
  was_stopped e = elim (state share plan low raw plan.pairs) [ inl g ↦ absurd (true≢false (sym e ∙ g.going)) | inr s ↦ s ]

  rejection : p.rejected ≡ true → Rejection a plan low raw (answer_of p)
  rejection e =
      let s = was_stopped e in
      let t = p.last in
      let b = between plan low raw lent s.pair t s.stopping (can_test s.pair t s.within s.stopping) in
      record {
        pair = s.pair;
        planned = s.within;
        stopping = s.stopping;
        below = s.below;
        rare = share_below plan.pairs (2 ^ 40 * chance_of t) t.high a (whole_of t) some (pow_pos (t.finding.width * t.blocks)) s.below b.1;
        first = s.first;
        best = s.best;
      }

  indecision : (p.rejected ≡ false) × (p.below ≡ true) → Indecision a plan low raw (answer_of p)
  indecision e =
      let g = not_stopped e.0 in
      let r = g.reaching e.1 in
      record { each = g.each; pair = r.pair; planned = r.within; reaching = r.test; tested = r.tested; below = r.below; best = lowest_all g.best }

  passing : (p.rejected ≡ false) × (p.below ≡ false) → Passing a plan low raw (answer_of p)
  passing e =
      let g = not_stopped e.0 in
      record {
        each = g.clear e.1;
        usual = λ i u h y. le_trans (mul-le-mul_right (whole_of u) (g.clear e.1 i u h y)) (between plan low raw lent i u y (can_test i u h y)).0;
        best = lowest_all g.best;
      }

  concludes : Concludes a plan low raw (answer_of p)
  concludes = record {
    few = omega (arith, tested_few share plan low raw plan.pairs, ok.few);
    rejected = λ e. rejection (is_rejected p.rejected p.below e);
    undecided = λ e. indecision (is_undecided p.rejected p.below e);
    passed = λ e. passing (is_passed p.rejected p.below e);
  }

refusal_is : (r a : ℕ) (plan : Plan) (low : Bool) (raw : List ℕ) → (swept_with r a plan low raw).refusal ≡ r
refusal_is zero a plan low raw = refl
refusal_is (suc r) a plan low raw = refl

pub sweeps_conclude : SweepsConclude
unfolding swept_of
sweeps_conclude a B low raw lent r is none =
    let plan = plan_of B (length raw) in
    let m = sweep_refusal a plan (length raw) lent in
    let free : m ≡ 0 = sym (refusal_is m a plan low raw) ∙ sym (ap (λ (x : Swept). x.refusal) is) ∙ none in
    let answered : answer_of (progress_to (share_of a plan) plan low raw plan.pairs) ≡ r = ap (λ (x : ℕ). swept_with x a plan low raw) (sym free) ∙ sym is in
    subst (Concludes a plan low raw) answered (concludes a B low raw lent free)
