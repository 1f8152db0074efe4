-- A finding that a host lends: its bits, what is not read of it, what is refused by its bits alone, and that a division which 32 bits do not hold is refused
-- as the largest that they hold.
use mathlib.Core.Path.{◌≡◌, refl, sym, ap, subst, subst₂, ◌∙◌}
use mathlib.Core.Bool.{cond}
use mathlib.Core.List.{List, [], ◌∷◌}
use Prim.Native.Nat.{ℕ, zero, suc, ◌+◌, ◌-◌, ◌^◌, ◌≤◌, ◌<◌, min}
use native.Mathlib.Decide.{dec_le}
use native.Mathlib.Nat.{zero-add}
use native.Mathlib.Omega.{arith}
use lib.Dec.{eqb}
use lib.Ieee.{Float}
use lib.ListN.{length, get_or, take, drop, length-drop}
use lib.Pow.{pow_mono, pow_pos}
use lib.Seq.{length-take-le, get_or-take}
use borrow.Author.Tests.{le-leb, le-ltb}
use Rattle.std.specs.Prelude.{Result, Err}
use Rattle.counting.specs.Refusal.{number_of}
use Rattle.counting.specs.declared.refusal.Refusal.{Refusal}
use Rattle.counting.specs.Sample.{Below}
use Rattle.counting.proofs.Accepted.{valid_facts}
use Rattle.ranking.specs.Ranking.{zero_score}
use Rattle.subsets.specs.Bits.{bits_refusal}
use Rattle.subsets.specs.Subsets.{padded}
use Rattle.subsets.proofs.Filling.{padded_front}
use Rattle.subsets.proofs.Listing.{bits_below}
use Rattle.subsets.proofs.Testing.{accepted}
use Rattle.searching.specs.Refusal.{or_else}
use Rattle.searching.specs.declared.finding.Finding.{Finding}
use Rattle.searching.proofs.Refusing.{or_first, neither}
use Rattle.judging.specs.Check.{chosen, limit_refusal, length_refusal, shape_refusal, scratch_refusal, division_refusal, order_refusal, early_check_refusal, check_refusal, checked_scratch}
use Rattle.judging.specs.Permutation.{each_once}
use Rattle.judging.specs.Evaluation.{testing_blocks, counts_in, blocks_refusal, early_evaluation_refusal, evaluation_refusal, Evaluated, as_evaluated, answer_with, evaluated_of, scratch_after, evaluated_scratch}
use Rattle.judging.specs.declared.evaluation.Evaluated as found
use Rattle.judging.specs.declared.evaluation.Score.TheVariants.{NoSample}
use Rattle.judging.proofs.Checking.{Limits, limits, ordered, as_lent}
use Rattle.judging.proofs.Evaluating.{answer_refused, scratch_lent}
use Rattle.exchange.specs.Exchange.{Writes, Written}
use Rattle.exchange.proofs.Acceptance.{writes_refused, refused_answer, refused_first}
use Rattle.exports.specs.Records.{finding_read}
use Rattle.exports.specs.Findings.{subset_refusal, narrowed, Readable, ReadsNoFurther}

-- ---- the bits

pub bits_lent : (l : List ℕ) → get_or l 1 0 ≤ 20 → 25 ≤ length l → length (take (get_or l 1 0) (drop 4 l)) ≡ get_or l 1 0
bits_lent l w room =
    let long : get_or l 1 0 ≤ length (drop 4 l) = omega (arith, length-drop 4 l) in
    length-take-le (get_or l 1 0) (drop 4 l) long

pub bits_read : (l : List ℕ) → get_or l 1 0 ≤ 20 → padded (take (get_or l 1 0) (drop 4 l)) ≡ (finding_read l).bits
bits_read l w =
    let e : get_or l 1 0 ≡ min (get_or l 1 0) 20 = omega arith in
    ap (λ (k : ℕ). padded (take k (drop 4 l))) e

pub chosen_read : (l : List ℕ) → get_or l 1 0 ≤ 20 → 25 ≤ length l → take (get_or l 1 0) (drop 4 l) ≡ chosen (finding_read l)
chosen_read l w room =
    sym (padded_front (get_or l 1 0) (take (get_or l 1 0) (drop 4 l)) (bits_lent l w room)) ∙ ap (take (get_or l 1 0)) (bits_read l w)

-- the part of the numbers that the bits are
pub part_is : (l : List ℕ) (k : ℕ) → take (4 + k - 4) (drop 4 l) ≡ take k (drop 4 l)
part_is l k = let e : 4 + k - 4 ≡ k = omega arith in ap (λ (n : ℕ). take n (drop 4 l)) e

-- a finding that is not refused by them can be read
pub readable : (l : List ℕ) → 25 ≤ length l → subset_refusal (finding_read l) ≡ 0 → Readable l
unfolding subset_refusal
readable l room e =
    let f = finding_read l in
    let p = neither (limit_refusal f) _ e in
    let w : Limits f = limits f p.0 in
    let is : take (get_or l 1 0) (drop 4 l) ≡ chosen f = chosen_read l w.width room in
    let size : length (chosen f) ≡ f.width = sym (ap length is) ∙ bits_lent l w.width room in
    let small : Below 4294967296 (chosen f) = λ i h.
    omega (arith, bits_below f.block_size f.width (chosen f) (accepted f.block_size f.width (chosen f) size p.1) i h, (valid_facts f.block_size w.valid).high) in
    record { room = room; width = w.width; small = subst (Below 4294967296) (sym is) small }

pub width_read : (f : Finding) → subset_refusal f ≡ 0 → f.width ≤ 20
unfolding subset_refusal
width_read f e = (limits f (neither (limit_refusal f) _ e).0).width

-- ---- what is not read

take_none : (k : ℕ) → [] ≡ take {A = ℕ} k []
take_none zero = refl
take_none (suc k) = refl

drop_part : (n k : ℕ) (l : List ℕ) → drop n (take (n + k) l) ≡ take k (drop n l)
drop_part zero k l = ap (λ (m : ℕ). take m l) (zero-add k)
drop_part (suc n) k [] = let e : suc n + k ≡ suc (n + k) = omega arith in ap (λ (m : ℕ). drop (suc n) (take {A = ℕ} m [])) e ∙ take_none k
drop_part (suc n) k (a ∷ l) = let e : suc n + k ≡ suc (n + k) = omega arith in ap (λ (m : ℕ). drop (suc n) (take m (a ∷ l))) e ∙ drop_part n k l

pub reads_no_further : ReadsNoFurther
unfolding ReadsNoFurther
reads_no_further l m e order =
    let k : ℕ = min (get_or l 1 0) 20 in
    let same : (i : ℕ) → i < 4 → get_or l i 0 ≡ get_or m i 0 = λ i h.
    let below : i < 4 + k = omega arith in
    sym (get_or-take (4 + k) l i 0 below) ∙ ap (λ (t : List ℕ). get_or t i 0) e ∙ get_or-take (4 + k) m i 0 below in
    let width : get_or l 1 0 ≡ get_or m 1 0 = same 1 (omega arith) in
    let size : get_or l 0 0 ≡ get_or m 0 0 = same 0 (omega arith) in
    let division : get_or l 2 0 ≡ get_or m 2 0 = same 2 (omega arith) in
    let bits : take k (drop 4 l) ≡ take (min (get_or m 1 0) 20) (drop 4 m) =
    sym (drop_part 4 k l) ∙ ap (drop 4) e ∙ drop_part 4 k m ∙ ap (λ (w : ℕ). take (min w 20) (drop 4 m)) width in
    λ i. record { block_size = size i; width = width i; bits = padded (bits i); division = division i; z = zero_score; low_first = eqb (order i) 1 }

-- ---- the first that applies is that of the bits

or_more : (a b c : ℕ) → (or_else a b ≡ 0 → ⊥) → or_else a b ≡ or_else a (or_else b c)
or_more zero zero c h = absurd (h refl)
or_more zero (suc b) c h = refl
or_more (suc a) b c h = refl

shape_first : (f : Finding) (order : ℕ) → (subset_refusal f ≡ 0 → ⊥) → subset_refusal f ≡ shape_refusal f order
unfolding subset_refusal shape_refusal
shape_first f order h = or_more (limit_refusal f) (bits_refusal f.block_size (chosen f)) (length_refusal f.width order) h

module _ (f : Finding) (r : ℕ) (is : r ≡ subset_refusal f) (some : r ≡ 0 → ⊥) where
  shape_is : (order : ℕ) → r ≡ shape_refusal f order
  shape_is order = is ∙ shape_first f order (λ z. some (is ∙ z))

  -- r is also the first of refusals of which the first is that of the shape
  early_is : (order next : ℕ) → r ≡ or_else (shape_refusal f order) next
  early_is order next = shape_is order ∙ or_first _ next (λ z. some (shape_is order ∙ z))

  pub check_refused :
      (order scratch : List ℕ) → (r ≡ check_refusal f order (length scratch)) × (scratch ≡ checked_scratch f (length order) scratch)
  unfolding check_refusal checked_scratch early_check_refusal
  check_refused order scratch =
      let e : r ≡ early_check_refusal f (length order) (length scratch) = early_is (length order) (scratch_refusal f.width (length scratch)) in
      let h : early_check_refusal f (length order) (length scratch) ≡ 0 → ⊥ = λ z. some (e ∙ z) in
      (e ∙ or_first _ _ h, as_lent _ f.width scratch h)

  pub write_refused :
      (order scratch out : List ℕ) → Writes f order scratch out (record { refusal = r; length = 0 }) scratch out
  write_refused order scratch out =
      let c = check_refused order scratch in
      writes_refused f order scratch out r scratch (refused_first f order (length scratch) (length out) r c.0 some) some c.1

  pub evaluation_refused :
      (order bytes scratch : List ℕ) (a : Result found.Evaluated Refusal) (e : Refusal) → a ≡ Err e → number_of e ≡ r
      → (as_evaluated a ≡ evaluated_of f order bytes (length scratch)) × (scratch ≡ evaluated_scratch f order bytes scratch)
  unfolding evaluated_of evaluated_scratch evaluation_refusal early_evaluation_refusal
  evaluation_refused order bytes scratch a e answer number =
      let n = testing_blocks f bytes in
      let first : r ≡ early_evaluation_refusal f (length order) n (length scratch) = early_is (length order) (or_else (blocks_refusal n) (scratch_refusal f.width (length scratch))) in
      let h : early_evaluation_refusal f (length order) n (length scratch) ≡ 0 → ⊥ = λ z. some (first ∙ z) in
      let whole = first ∙ or_first _ (order_refusal f.width f.division order) h in (
        answer_refused a e _ _ _ _ answer (number ∙ whole),
        scratch_lent _ _ f.width _ scratch h,
      )

-- ---- a division that 32 bits do not hold

-- the answer beside a refusal
answer_by : (r n positive : ℕ) (z : Float) → (r ≡ 0 → ⊥) → ◌≡◌ {A = Evaluated} (record { refusal = r; positive = 0; score = NoSample }) (answer_with r n positive z)
answer_by zero n positive z h = absurd (h refl)
answer_by (suc r) n positive z h = refl

large : (d m : ℕ) → 1 ≤ m → m ≤ d → division_refusal d m ≡ 14
unfolding division_refusal
large d m one h = let some : 1 ≤ d = omega arith in simp (le-leb 1 d some, le-ltb d m h)

-- the finding is itself where they hold its division
held : (f : Finding) → f.division ≤ 4294967295 → narrowed f ≡ f
held f h =
    let e : min f.division 4294967295 ≡ f.division = omega arith in
    λ i. record { block_size = f.block_size; width = f.width; bits = f.bits; division = e i; z = f.z; low_first = f.low_first }

module _ (f : Finding) (w : f.width ≤ 20) (above : 4294967295 < f.division) where
  bins : 2 ^ f.width ≤ 4294967295
  bins = let h : 2 ^ f.width ≤ 2 ^ 20 = pow_mono {j = 20} w in omega arith

  order_alike : (order : List ℕ) → order_refusal f.width (narrowed f).division order ≡ order_refusal f.width f.division order
  unfolding order_refusal
  order_alike order =
      let most : 2 ^ f.width ≤ min f.division 4294967295 = omega (arith, bins) in
      let more : 2 ^ f.width ≤ f.division = omega (arith, bins) in
      ap (λ (x : ℕ). cond (each_once (2 ^ f.width) order) x 13)
      (large (min f.division 4294967295) (2 ^ f.width) (pow_pos f.width) most ∙ sym (large f.division (2 ^ f.width) (pow_pos f.width) more))

  order_refused : (order : List ℕ) → order_refusal f.width f.division order ≡ 0 → ⊥
  order_refused order e = omega (arith, bins, (ordered f.width f.division order e).below)

  check_above : (order : List ℕ) (scratch : ℕ) → check_refusal (narrowed f) order scratch ≡ check_refusal f order scratch
  unfolding check_refusal early_check_refusal shape_refusal limit_refusal
  check_above order scratch = ap (or_else (early_check_refusal f (length order) scratch)) (order_alike order)

  some_check : (order : List ℕ) (scratch : ℕ) → check_refusal f order scratch ≡ 0 → ⊥
  unfolding check_refusal
  some_check order scratch e = order_refused order (neither (early_check_refusal f (length order) scratch) _ e).1

  writes_above : (order scratch out : List ℕ) (w : Written) (scratch' out' : List ℕ)
      → Writes (narrowed f) order scratch out w scratch' out' → Writes f order scratch out w scratch' out'
  unfolding checked_scratch early_check_refusal shape_refusal limit_refusal
  writes_above order scratch out w scratch' out' W =
      let r = check_refusal f order (length scratch) in
      let some : r ≡ 0 → ⊥ = some_check order (length scratch) in
      let first = refused_first (narrowed f) order (length scratch) (length out) r (sym (check_above order (length scratch))) some in
      let a = refused_answer (narrowed f) order scratch out w scratch' out' r W first some in
      subst₂ (λ (v : Written) (o : List ℕ). Writes f order scratch out v scratch' o) (sym a.0) (sym a.1)
      (writes_refused f order scratch out r scratch' (refused_first f order (length scratch) (length out) r refl some) some W.checked)

  evaluation_above : (order bytes : List ℕ) (scratch : ℕ) → evaluation_refusal (narrowed f) order bytes scratch ≡ evaluation_refusal f order bytes scratch
  unfolding evaluation_refusal early_evaluation_refusal shape_refusal limit_refusal
  evaluation_above order bytes scratch = ap (or_else (early_evaluation_refusal f (length order) (testing_blocks f bytes) scratch)) (order_alike order)

  some_above : (order bytes : List ℕ) (scratch : ℕ) → evaluation_refusal f order bytes scratch ≡ 0 → ⊥
  unfolding evaluation_refusal
  some_above order bytes scratch e = order_refused order (neither (early_evaluation_refusal f (length order) (testing_blocks f bytes) scratch) _ e).1

  evaluated_above : (order bytes : List ℕ) (scratch : ℕ) → evaluated_of (narrowed f) order bytes scratch ≡ evaluated_of f order bytes scratch
  unfolding evaluated_of
  evaluated_above order bytes scratch =
      let r = evaluation_above order bytes scratch in
      let some = some_above order bytes scratch in
      sym (answer_by _ _ _ _ (λ z. some (sym r ∙ z))) ∙ ap (λ (x : ℕ). record { refusal = x; positive = 0; score = NoSample }) r ∙ answer_by _ _ _ _ some

  scratch_above : (order bytes scratch : List ℕ) → evaluated_scratch (narrowed f) order bytes scratch ≡ evaluated_scratch f order bytes scratch
  unfolding evaluated_scratch early_evaluation_refusal shape_refusal limit_refusal
  scratch_above order bytes scratch =
      ap (λ (x : ℕ). scratch_after (early_evaluation_refusal f (length order) (testing_blocks f bytes) (length scratch)) x (counts_in f bytes) f.width scratch) (order_alike order)

module _ (f : Finding) (w₀ : f.width ≤ 20) where
  pub check_alike : (order : List ℕ) (scratch : ℕ) → check_refusal (narrowed f) order scratch ≡ check_refusal f order scratch
  check_alike order scratch = by_size (dec_le f.division 4294967295)
    where
      by_size : Dec (f.division ≤ 4294967295) → check_refusal (narrowed f) order scratch ≡ check_refusal f order scratch
      by_size (yes h) = ap (λ (g : Finding). check_refusal g order scratch) (held f h)
      by_size (no h) = check_above f w₀ (omega arith) order scratch

  pub cleared_alike : (order : ℕ) (scratch : List ℕ) → checked_scratch (narrowed f) order scratch ≡ checked_scratch f order scratch
  unfolding checked_scratch early_check_refusal shape_refusal limit_refusal
  cleared_alike order scratch = refl

  pub writes_alike : (g : Finding) → g ≡ narrowed f → (order scratch out : List ℕ) (w : Written) (scratch' out' : List ℕ)
      → Writes g order scratch out w scratch' out' → Writes f order scratch out w scratch' out'
  writes_alike g e order scratch out w scratch' out' G = by_size (dec_le f.division 4294967295)
    where
      W : Writes (narrowed f) order scratch out w scratch' out'
      W = subst (λ (h : Finding). Writes h order scratch out w scratch' out') e G

      by_size : Dec (f.division ≤ 4294967295) → Writes f order scratch out w scratch' out'
      by_size (yes h) = subst (λ (g : Finding). Writes g order scratch out w scratch' out') (held f h) W
      by_size (no h) = writes_above f w₀ (omega arith) order scratch out w scratch' out' W

  pub evaluated_alike : (order bytes : List ℕ) (scratch : ℕ) → evaluated_of (narrowed f) order bytes scratch ≡ evaluated_of f order bytes scratch
  evaluated_alike order bytes scratch = by_size (dec_le f.division 4294967295)
    where
      by_size : Dec (f.division ≤ 4294967295) → evaluated_of (narrowed f) order bytes scratch ≡ evaluated_of f order bytes scratch
      by_size (yes h) = ap (λ (g : Finding). evaluated_of g order bytes scratch) (held f h)
      by_size (no h) = evaluated_above f w₀ (omega arith) order bytes scratch

  pub counted_alike : (order bytes scratch : List ℕ) → evaluated_scratch (narrowed f) order bytes scratch ≡ evaluated_scratch f order bytes scratch
  counted_alike order bytes scratch = by_size (dec_le f.division 4294967295)
    where
      by_size : Dec (f.division ≤ 4294967295) → evaluated_scratch (narrowed f) order bytes scratch ≡ evaluated_scratch f order bytes scratch
      by_size (yes h) = ap (λ (g : Finding). evaluated_scratch g order bytes scratch) (held f h)
      by_size (no h) = scratch_above f w₀ (omega arith) order bytes scratch
