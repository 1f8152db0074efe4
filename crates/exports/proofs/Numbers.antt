-- A sampler's numbers after a feed: two of them are others, and the rest stand as they were read.
use mathlib.Core.Path.{◌≡◌, refl, sym, ap, ◌∙◌}
use mathlib.Core.Bool.{Bool, cond}
use mathlib.Core.List.{List, [], ◌∷◌}
use Prim.Native.Nat.{ℕ, zero, suc, ◌+◌, ◌≤◌, ◌<◌}
use native.Mathlib.Omega.{arith}
use lib.Dec.{eqb}
use lib.ListN.{length, set, drop, get_or}
use borrow.Author.Tests.{eq-eqb, ne_eqb}
use Rattle.sampling.specs.Feeding.{next_head}
use Rattle.sampling.specs.Feeding.{Taken}
use Rattle.sampling.specs.declared.sampler.Head.{Head}
use Rattle.exports.specs.Records.{order_number, written}
use Rattle.exports.specs.Samplers.{sampler_numbers, head_of}

order_is : (d : ℕ) → d ≤ 1 → order_number (eqb d 1) ≡ d
order_is zero h = refl
order_is (suc zero) h = refl
order_is (suc (suc d)) h = absurd (omega arith)

-- the first eight, one by one
eight : (l : List ℕ) → 8 ≤ length l
    → l ≡ get_or l 0 0 ∷ get_or l 1 0 ∷ get_or l 2 0 ∷ get_or l 3 0 ∷ get_or l 4 0 ∷ get_or l 5 0 ∷ get_or l 6 0 ∷ get_or l 7 0 ∷ drop 8 l
eight [] h = absurd (omega arith)
eight (a ∷ []) h = absurd (omega arith)
eight (a ∷ b ∷ []) h = absurd (omega arith)
eight (a ∷ b ∷ c ∷ []) h = absurd (omega arith)
eight (a ∷ b ∷ c ∷ d ∷ []) h = absurd (omega arith)
eight (a ∷ b ∷ c ∷ d ∷ e ∷ []) h = absurd (omega arith)
eight (a ∷ b ∷ c ∷ d ∷ e ∷ f ∷ []) h = absurd (omega arith)
eight (a ∷ b ∷ c ∷ d ∷ e ∷ f ∷ g ∷ []) h = absurd (omega arith)
eight (a ∷ b ∷ c ∷ d ∷ e ∷ f ∷ g ∷ i ∷ l) h = refl

module _ (l : List ℕ) (long : 8 ≤ length l) (order : get_or l 3 0 ≤ 1) (board : ℕ) (t : Taken) where
  -- what the head is by whether the feed was refused
  next : Bool → Head
  next free =
      cond free
      (record {
        block_size = (head_of l).block_size;
        words = (head_of l).words;
        blocks = t.blocks;
        low_first = (head_of l).low_first;
        lengths = set (head_of l).lengths board t.left;
      })
      (head_of l)

  pub numbers_kept : (t.refusal ≡ 0 → ⊥) → l ≡ written (sampler_numbers (next_head (head_of l) board t)) l
  unfolding next_head next
  numbers_kept some =
      eight l long
      ∙ ap (λ (d : ℕ). get_or l 0 0 ∷ get_or l 1 0 ∷ get_or l 2 0 ∷ d ∷ get_or l 4 0 ∷ get_or l 5 0 ∷ get_or l 6 0 ∷ get_or l 7 0 ∷ drop 8 l) (sym (order_is (get_or l 3 0) order))
      ∙ ap (λ (b : Bool). written (sampler_numbers (next b)) l) (sym (ne_eqb t.refusal 0 some))

  -- the two stores, in a list of eight numbers and more
  stores : (b : ℕ) → b < 4 → (d : ℕ)
      → let m = get_or l 0 0 ∷ get_or l 1 0 ∷ get_or l 2 0 ∷ d ∷ get_or l 4 0 ∷ get_or l 5 0 ∷ get_or l 6 0 ∷ get_or l 7 0 ∷ drop 8 l in
      set (set m 2 t.blocks) (4 + b) t.left
      ≡ written (get_or l 0 0 ∷ get_or l 1 0 ∷ t.blocks ∷ d ∷ set (head_of l).lengths b t.left) l
  stores zero h d = refl
  stores (suc zero) h d = refl
  stores (suc (suc zero)) h d = refl
  stores (suc (suc (suc zero))) h d = refl
  stores (suc (suc (suc (suc b)))) h d = absurd (omega arith)

  pub numbers_fed : t.refusal ≡ 0 → board < 4 → set (set l 2 t.blocks) (4 + board) t.left ≡ written (sampler_numbers (next_head (head_of l) board t)) l
  unfolding next_head next
  numbers_fed none named =
      ap (λ (m : List ℕ). set (set m 2 t.blocks) (4 + board) t.left) (eight l long)
      ∙ stores board named (get_or l 3 0)
      ∙ ap (λ (d : ℕ). written (get_or l 0 0 ∷ get_or l 1 0 ∷ t.blocks ∷ d ∷ set (head_of l).lengths board t.left) l) (sym (order_is (get_or l 3 0) order))
      ∙ ap (λ (b : Bool). written (sampler_numbers (next b)) l) (sym (eq-eqb t.refusal 0 none))
