-- The refusals of a ranking of one subset: each test that gives one, and what a refusal of 0 tells.
use mathlib.Core.Path.{◌≡◌, refl, sym, ap, ◌∙◌}
use mathlib.Core.Bool.{true, false}
use mathlib.Core.List.{List, ◌++◌}
use Prim.Native.Nat.{ℕ, zero, suc, ◌^◌, ◌≤◌, ◌<◌}
use native.Mathlib.Omega.{arith}
use lib.Dec.{leb}
use lib.ListN.{length, take, drop}
use borrow.Author.Tests.{le-leb, lt-leb, leb-true}
use Rattle.counting.specs.Sample.{total}
use Rattle.subsets.specs.Bits.{valid_width}
use Rattle.subsets.proofs.Refusing.{width_bounds}
use Rattle.searching.specs.Refusal.{buffer_refusal}
use Rattle.counting.proofs.Accepted.{passed}
use Rattle.searching.proofs.Refusing.{or_first, neither, buffer_free}
use Rattle.ranking.specs.Order.{order_of}
use Rattle.ranking.specs.Ranking.{score_of}
use Rattle.ranking.specs.declared.ranking.Ranking.{Ranking}
use Rattle.exports.specs.Records.{written}
use Rattle.exports.specs.Single.{ranking_refusal, ranking_numbers, ranking_order, ranking_written, RankingCall}

module _ (k : ℕ) (bins : List ℕ) (order ranking : ℕ) where
  pub no_record : ranking < 2 → 25 ≡ ranking_refusal k bins order ranking
  unfolding ranking_refusal
  no_record h = simp (lt-leb 2 ranking h)

  module _ (two : 2 ≤ ranking) where
    pub no_width : valid_width k ≡ false → 2 ≡ ranking_refusal k bins order ranking
    unfolding ranking_refusal
    no_width w = simp (le-leb 2 ranking two, w)

    module _ (w : valid_width k ≡ true) where
      pub no_buffer : (r : ℕ) → r ≡ buffer_refusal k (length bins) order → (r ≡ 0 → ⊥) → r ≡ ranking_refusal k bins order ranking
      unfolding ranking_refusal
      no_buffer r e h = simp (le-leb 2 ranking two, w) (e ∙ or_first (buffer_refusal k (length bins) order) _ (λ z. h (e ∙ z)))

      module _ (b : buffer_refusal k (length bins) order ≡ 0) where
        pub too_many : 4294967295 < total (take (2 ^ k) bins) → 26 ≡ ranking_refusal k bins order ranking
        unfolding ranking_refusal
        too_many h = simp (le-leb 2 ranking two, w, b, lt-leb (total (take (2 ^ k) bins)) 4294967295 h)

        pub none : total (take (2 ^ k) bins) ≤ 4294967295 → 0 ≡ ranking_refusal k bins order ranking
        unfolding ranking_refusal
        none h = simp (le-leb 2 ranking two, w, b, le-leb (total (take (2 ^ k) bins)) 4294967295 h)

-- what a refusal of 0 tells
pub record Rankable (k : ℕ) (bins : List ℕ) (order ranking : ℕ) : Type 0 where
  pub two : 2 ≤ ranking
  pub width : k ≤ 20
  pub room : 2 ^ k ≤ length bins
  pub space : 2 ^ k ≤ order
  pub small : total (take (2 ^ k) bins) ≤ 4294967295

pub rankable : (k : ℕ) (bins : List ℕ) (order ranking : ℕ) → ranking_refusal k bins order ranking ≡ 0 → Rankable k bins order ranking
unfolding ranking_refusal
rankable k bins order ranking e =
    let p = passed (leb 2 ranking) _ 25 (omega arith) e in
    let q = passed (valid_width k) _ 2 (omega arith) p.1 in
    let r = neither (buffer_refusal k (length bins) order) _ q.1 in
    let t = passed (leb (total (take (2 ^ k) bins)) 4294967295) 0 26 (omega arith) r.1 in
    let room = buffer_free k (length bins) order r.0 in
    record {
      two = leb-true 2 ranking p.0;
      width = (width_bounds k q.0).1;
      room = room.0;
      space = room.1;
      small = leb-true (total (take (2 ^ k) bins)) 4294967295 t.0;
    }

-- ---- the call

module _ (k : ℕ) (bins order ranking : List ℕ) where
  same_order : (r : ℕ) → (r ≡ 0 → ⊥) → order ≡ ranking_order r k bins order
  same_order zero h = absurd (h refl)
  same_order (suc r) h = refl

  same_ranking : (r : ℕ) → (r ≡ 0 → ⊥) → ranking ≡ ranking_written r k bins ranking
  same_ranking zero h = absurd (h refl)
  same_ranking (suc r) h = refl

  pub ranking_refused : (r : ℕ) → r ≡ ranking_refusal k bins (length order) (length ranking) → (r ≡ 0 → ⊥) → RankingCall k bins order ranking r order ranking
  ranking_refused r e h = record { answered = e; ordered = same_order _ (λ z. h (e ∙ z)); wrote = same_ranking _ (λ z. h (e ∙ z)) }

  pub ranking_made :
      (x : Ranking) (order' ranking' : List ℕ)
      → ranking_refusal k bins (length order) (length ranking) ≡ 0
      → x ≡ score_of (total (take (2 ^ k) bins)) k (take (2 ^ k) bins)
      → order' ≡ order_of (take (2 ^ k) bins) ++ drop (2 ^ k) order
      → ranking' ≡ written (ranking_numbers x) ranking
      → RankingCall k bins order ranking 0 order' ranking'
  ranking_made x order' ranking' e s o w =
      record {
        answered = sym e;
        ordered = o ∙ ap (λ (r : ℕ). ranking_order r k bins order) (sym e);
        wrote = w ∙ ap (λ (y : Ranking). written (ranking_numbers y) ranking) s ∙ ap (λ (r : ℕ). ranking_written r k bins ranking) (sym e);
      }
