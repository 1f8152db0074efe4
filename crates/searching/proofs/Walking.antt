-- The pass over the k-subsets by their scores: what is kept, from the first subset to the last.
use mathlib.Core.Path.{◌≡◌, sym, ap, subst, ◌∙◌}
use mathlib.Core.Logic.{◌⊎◌, inl, inr}
use mathlib.Core.Bool.{Bool, true, false, not}
use mathlib.Core.List.{List}
use Prim.Native.Nat.{ℕ, ◌-◌, ◌≤◌, ◌<◌}
use native.Mathlib.Omega.{arith}
use lib.Dec.{T, not_T}
use lib.Ieee.{Float, lt}
use lib.ListN.{length, take, drop, replicate}
use Rattle.counting.specs.Sample.{count_in, counts_of, total}
use Rattle.counting.proofs.Counts.{counts_add_up}
use Rattle.scoring.specs.Score.{Number}
use Rattle.scoring.proofs.Less.{asym, co}
use Rattle.ranking.specs.Ranking.{zero_score}
use Rattle.ranking.specs.declared.ranking.Ranking.{Ranking}
use Rattle.ranking.proofs.Dividing.{score_number, empty_ranking}
use Rattle.subsets.specs.Subsets.{Subset, lex_lt, numbers_from, padded}
use Rattle.subsets.specs.Best.{Beats, Sofar, Searches}
use Rattle.subsets.specs.Choose.{choose}
use Rattle.subsets.specs.Rank.{rank_of}
use Rattle.subsets.specs.Stepping.{Stepped}
use Rattle.subsets.proofs.Filling.{padded_front, padded_rest, padded_of, padded_length}
use Rattle.subsets.proofs.Choosing.{choose_all}
use Rattle.subsets.proofs.Ranking.{ranks, next_falls}
use Rattle.subsets.proofs.Visiting.{searches, length_numbers, numbers_subset, numbers_first}
use Rattle.searching.specs.Finding.{ranking_of, z_of, winner_of, ScoresOrdered, WinnerOptimal, WinnerAlone, EmptySamples}

-- ---- the order of the scores

pub scores : ScoresOrdered
scores = record { asym = λ a b A B. asym a b; co = λ a b c A B C. co a b c B }

pub z_number : (bit : ℕ → ℕ → ℕ) (n : ℕ) (bits : List ℕ) → Number (z_of bit n bits)
z_number bit n bits = score_number n (length bits) (counts_of bit n bits)

-- what holds of a search by z
pub by_z : (bit : ℕ → ℕ → ℕ) (n B k : ℕ) → Searches lt (z_of bit n) B k
by_z bit n B k = searches Float lt Number scores (z_of bit n) B k (λ s X. z_number bit n s)

-- a float test, taken or not
pub holds : (b : Bool) → b ≡ true → T b
holds true e = tt
holds false e = let z : ◌≡◌ {A = ℕ} 0 1 = cc in absurd (omega arith)

pub fails : (b : Bool) → b ≡ false → T (not b)
fails true e = let z : ◌≡◌ {A = ℕ} 0 1 = cc in absurd (omega arith)
fails false e = tt

-- ---- the pass

-- the arrays hold the current subset and the best so far, with zeros past them, and z is the best's score
pub record Walked (bit : ℕ → ℕ → ℕ) (n B k : ℕ) (bits best : List ℕ) (z : Float) : Type 0 where
  pub sofar : Sofar lt (z_of bit n) B k (take k bits) (take k best)
  pub size : length bits ≡ 20
  pub rest : drop k bits ≡ replicate (20 - k) 0
  pub kept : best ≡ padded (take k best)
  pub scored : z ≡ z_of bit n (take k best)

module _ (bit : ℕ → ℕ → ℕ) (n B k : ℕ) (chosen : k ≤ B) (width : k ≤ 20) where
  pub first_front : (bits : List ℕ) → bits ≡ padded (numbers_from 0 k) → take k bits ≡ numbers_from 0 k
  first_front bits e = ap (take k) e ∙ padded_front k (numbers_from 0 k) (length_numbers 0 k)

  pub begun : (bits : List ℕ) (z : Float) → bits ≡ padded (numbers_from 0 k) → z ≡ z_of bit n (take k bits) → Walked bit n B k bits bits z
  begun bits z e s = record {
    sofar = subst (λ (t : List ℕ). Sofar lt (z_of bit n) B k t t) (sym (first_front bits e)) ((by_z bit n B k).begins chosen);
    size = ap length e ∙ padded_length (numbers_from 0 k) (omega (arith, length_numbers 0 k));
    rest = ap (drop k) e ∙ padded_rest k (numbers_from 0 k) (length_numbers 0 k);
    kept = e ∙ ap padded (sym (first_front bits e));
    scored = s;
  }

  module _ (bits best bits' : List ℕ) (z : Float) (w : Walked bit n B k bits best z) (same : length bits' ≡ length bits) (found : Bool) (step : Stepped B k bits found bits') where
    pub current : Subset B k (take k bits)
    current = w.sofar.current

    pub falls : found ≡ true → choose B k - rank_of B (take k bits') < choose B k - rank_of B (take k bits)
    falls e = next_falls B k (take k bits) (take k bits') current (step.next e)

    pub takes : found ≡ true → (z' : Float) → z' ≡ z_of bit n (take k bits') → T (lt z z') → Walked bit n B k bits' bits' z'
    takes e z' s l =
        let rest : drop k bits' ≡ replicate (20 - k) 0 = step.rest ∙ w.rest in
        record {
          sofar = (by_z bit n B k).takes (take k bits) (take k best) (take k bits') w.sofar (step.next e) (rw (← w.scored, ← s) l);
          size = same ∙ w.size;
          rest = rest;
          kept = padded_of k bits' (omega (arith, same, w.size)) rest;
          scored = s;
        }

    pub keeps : found ≡ true → (z' : Float) → z' ≡ z_of bit n (take k bits') → T (not (lt z z')) → Walked bit n B k bits' best z
    keeps e z' s l = record {
      sofar = (by_z bit n B k).keeps (take k bits) (take k best) (take k bits') w.sofar (step.next e) (rw (← w.scored, ← s) l);
      size = same ∙ w.size;
      rest = step.rest ∙ w.rest;
      kept = w.kept;
      scored = w.scored;
    }

    pub ends : found ≡ false → best ≡ padded (winner_of bit n B k)
    unfolding winner_of
    ends e = w.kept ∙ ap padded ((by_z bit n B k).unique (take k best) ((by_z bit n B k).ends (take k bits) (take k best) w.sofar (step.last e)))

-- ---- the winner

pub winner_optimal : WinnerOptimal
unfolding winner_of
winner_optimal bit n B k chosen = (by_z bit n B k).optimal chosen

pub winner_alone : WinnerAlone
unfolding winner_of
winner_alone bit n B k = (by_z bit n B k).unique

-- a block of k bits has one k-subset
pub only_winner : (bit : ℕ → ℕ → ℕ) (n B k : ℕ) → k ≡ B → winner_of bit n B k ≡ numbers_from 0 k
only_winner bit n B k e =
    let won = (winner_optimal bit n B k (omega arith)).subset in
    let first : k ≤ B = omega arith in
    let one : choose B k ≡ 1 = ap (choose B) e ∙ choose_all B in
    (ranks B k).same (winner_of bit n B k) (numbers_from 0 k) won (numbers_subset B k first)
    (let low : rank_of B (winner_of bit n B k) < choose B k = (ranks B k).below (winner_of bit n B k) won in
    let zero : rank_of B (numbers_from 0 k) ≡ 0 = (ranks B k).first first in
    omega arith)

pub winner_front : (bit : ℕ → ℕ → ℕ) (n B k : ℕ) (bits : List ℕ) → k ≤ B → bits ≡ padded (winner_of bit n B k) → take k bits ≡ winner_of bit n B k
winner_front bit n B k bits chosen e = ap (take k) e ∙ padded_front k (winner_of bit n B k) (winner_optimal bit n B k chosen).subset.size

-- ---- an empty sample

counts_none : (bit : ℕ → ℕ → ℕ) (bits : List ℕ) → total (counts_of bit 0 bits) ≡ 0
unfolding counts_of count_in
counts_none bit bits = counts_add_up 0 (λ e b. 0) (λ e b. omega arith) bits

module _ (bit : ℕ → ℕ → ℕ) where
  empty_ranked : (bits : List ℕ) → ranking_of bit 0 bits ≡ record { division = 1; z = zero_score }
  empty_ranked bits = empty_ranking (length bits) (counts_of bit 0 bits) (counts_none bit bits)

  level : (s t : List ℕ) → T (not (lt (z_of bit 0 s) (z_of bit 0 t)))
  level s t =
      let same : z_of bit 0 t ≡ z_of bit 0 s = ap (λ (r : Ranking). r.z) (empty_ranked t ∙ sym (empty_ranked s)) in
      let own : T (not (lt (z_of bit 0 s) (z_of bit 0 s))) = not_T (lt (z_of bit 0 s) (z_of bit 0 s)) (λ l. asym (z_of bit 0 s) (z_of bit 0 s) l l) in
      subst (λ (x : Float). T (not (lt (z_of bit 0 s) x))) (sym same) own

  empty_wins : (B k : ℕ) → k ≤ B → winner_of bit 0 B k ≡ numbers_from 0 k
  empty_wins B k h = sym (winner_alone bit 0 B k (numbers_from 0 k) (record { subset = numbers_subset B k h; beats = λ s X. go s (numbers_first B k s X) }))
    where
      go : (s : List ℕ) → (s ≡ numbers_from 0 k) ⊎ T (lex_lt (numbers_from 0 k) s) → (s ≡ numbers_from 0 k) ⊎ Beats lt (z_of bit 0) (numbers_from 0 k) s
      go s (inl e) = inl e
      go s (inr l) = inr (inr (level (numbers_from 0 k) s, level s (numbers_from 0 k), l))

pub empty_samples : EmptySamples
empty_samples bit = record { ranked = empty_ranked bit; wins = empty_wins bit }
