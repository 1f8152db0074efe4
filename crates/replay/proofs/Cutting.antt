-- What is left of the lengths and of the pieces after each turn.
use mathlib.Core.Path.{◌≡◌, refl, sym, ap, ◌∙◌}
use mathlib.Core.Bool.{Bool, true, false}
use mathlib.Core.List.{List, [], ◌∷◌}
use Prim.Native.Nat.{ℕ, zero, suc, ◌+◌, ◌-◌, ◌≤◌, ◌<◌}
use native.Mathlib.Nat.{zero-add}
use native.Mathlib.Numerals.{add-one}
use native.Mathlib.Omega.{arith}
use lib.Dec.{eqb}
use lib.ListN.{length, get_or, take, drop, length-drop}
use lib.Seq.{drop-cons, drop-length}
use borrow.Author.Tests.{eqb-true, eqb-false, eq-eqb, ne_eqb}
use Rattle.counting.specs.Sample.{total}
use Rattle.sampling.specs.Boards.{Feed}
use Rattle.sampling.specs.Feeding.{Fed, fed_of, fed_words}
use Rattle.sampling.specs.Recorded.{State, fed, fed_all, answers_from}
use Rattle.sampling.specs.declared.sampler.Sampler.{Sampler}
use Rattle.replay.specs.Pieces.{cut, refused_one, refused_in, state_of}

pub total_step : (l : List ℕ) (i : ℕ) → i < length l → total (drop i l) ≡ get_or l i 0 + total (drop (i + 1) l)
unfolding total
total_step l i h = rw (add-one, drop-cons l i 0)

-- what is left adds up to what is left: without the next length on both sides, and at the end
pub eqb_left : (a n b left : ℕ) → a ≡ n + b → n ≤ left → eqb a left ≡ eqb b (left - n)
eqb_left a n b left e h = by_test (eqb b (left - n)) refl
  where
    by_test : (t : Bool) → eqb b (left - n) ≡ t → eqb a left ≡ eqb b (left - n)
    by_test true p = eq-eqb a left (omega (arith, eqb-true b (left - n) p)) ∙ sym p
    by_test false p = ne_eqb a left (λ q. eqb-false b (left - n) p (omega arith)) ∙ sym p

pub eqb_none : (a left : ℕ) → a ≡ 0 → eqb a left ≡ eqb left 0
eqb_none a zero e = rw e
eqb_none a (suc left) e = ne_eqb a (suc left) (λ q. omega arith) ∙ sym (ne_eqb (suc left) 0 (λ q. omega arith))

pub total_end : (l : List ℕ) (i : ℕ) → i ≡ length l → total (drop i l) ≡ 0
unfolding total
total_end l i e = rw (e, drop-length)

cut_step : (rest l : List ℕ) (i : ℕ) → i < length l
    → cut rest (drop i l) ≡ record { board = 0; piece = take (get_or l i 0) rest } ∷ cut (drop (get_or l i 0) rest) (drop (i + 1) l)
unfolding cut
cut_step rest l i h = rw (add-one, drop-cons l i 0)

-- a refusal counts as one
pub counts_one : (r : ℕ) → (r ≡ 0 → ⊥) → 1 ≡ refused_one r
counts_one zero some = absurd (some refl)
counts_one (suc r) some = refl

few_more : (r n : ℕ) → n + refused_one r ≤ n + 1
few_more zero n = omega arith
few_more (suc r) n = omega arith

-- Before piece i, with the bytes `rest` left: the feeds that are left lead from st to where all feeds lead from st₀, and `refused` were refused so far.
pub record Feeding (bytes lengths : List ℕ) (st₀ st : State) (refused i : ℕ) (rest : List ℕ) : Type 0 where
  pub size : total (drop i lengths) ≡ length rest
  pub state : fed_all st₀ (cut bytes lengths) ≡ fed_all st (cut rest (drop i lengths))
  pub count : refused_in (answers_from st₀ (cut bytes lengths)) ≡ refused + refused_in (answers_from st (cut rest (drop i lengths)))
  pub few : refused ≤ i

module _ (bytes lengths : List ℕ) (st₀ : State) where
  pub feeding_begun : total lengths ≡ length bytes → Feeding bytes lengths st₀ st₀ 0 0 bytes
  feeding_begun h = record { size = h; state = refl; count = sym (zero-add _); few = omega arith }

  module _ (st : State) (refused i : ℕ) (rest : List ℕ) (F : Feeding bytes lengths st₀ st refused i rest) where
    pub feeding_within : i < length lengths → get_or lengths i 0 ≤ length rest
    feeding_within h = omega (arith, F.size, total_step lengths i h)

    pub feeding_turn : i < length lengths → (p after : List ℕ) → p ≡ take (get_or lengths i 0) rest → after ≡ drop (get_or lengths i 0) rest
        → (r : Fed) (ws' : List ℕ) → r ≡ fed_of st.sampler (length st.words) 0 p → ws' ≡ fed_words st.sampler.head st.sampler.unfinished st.words 0 p
        → (s : Sampler) (count : ℕ) → s ≡ r.sampler → count ≡ refused + refused_one r.refusal
        → Feeding bytes lengths st₀ (state_of s ws') count (i + 1) after
    unfolding fed_all fed answers_from refused_in
    feeding_turn h p after is left r ws' e g s count l o =
        let step : cut rest (drop i lengths) ≡ record { board = 0; piece = p } ∷ cut after (drop (i + 1) lengths) =
        cut_step rest lengths i h ∙ λ j. record { board = 0; piece = sym is j } ∷ cut (sym left j) (drop (i + 1) lengths) in
        let latest = l ∙ ap (λ (q : Fed). q.sampler) e in
        let now : state_of s ws' ≡ fed st (record { board = 0; piece = p }) = λ j. record { sampler = latest j; words = g j } in
        let one-is : count ≡ refused + refused_one (fed_of st.sampler (length st.words) 0 p).refusal = o ∙ ap (λ (q : Fed). refused + refused_one q.refusal) e in
        record {
          size = omega (arith, F.size, total_step lengths i h, ap length left, length-drop (get_or lengths i 0) rest);
          state = F.state ∙ ap (fed_all st) step ∙ ap (λ (q : State). fed_all q (cut after (drop (i + 1) lengths))) (sym now);
          count = rw now (omega (arith, F.count ∙ ap (λ (ps : List Feed). refused + refused_in (answers_from st ps)) step, one-is));
          few = omega (arith, F.few, few_more r.refusal refused, o);
        }

    -- nothing is left: st is where the feeds lead
    pub feeding_ended : i ≡ length lengths → (st ≡ fed_all st₀ (cut bytes lengths)) × (refused ≡ refused_in (answers_from st₀ (cut bytes lengths)))
    unfolding fed_all answers_from refused_in cut
    feeding_ended e =
        let none : drop i lengths ≡ [] = rw e (drop-length lengths) in (
          sym (F.state ∙ ap (λ (l : List ℕ). fed_all st (cut rest l)) none),
          (let c : refused_in (answers_from st₀ (cut bytes lengths)) ≡ refused + 0 =
              F.count ∙ ap (λ (l : List ℕ). refused + refused_in (answers_from st (cut rest l))) none in omega arith),
        )
