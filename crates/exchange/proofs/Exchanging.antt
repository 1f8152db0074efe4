-- The theorems of the two calls.
use mathlib.Core.Path.{◌≡◌, refl, sym, ap, ◌∙◌, subst}
use mathlib.Core.Bool.{Bool, cond}
use mathlib.Core.List.{List, ◌++◌}
use mathlib.Core.Option.{Option, some}
use Prim.Native.Nat.{ℕ, zero, suc, ◌^◌, ◌≤◌}
use native.Mathlib.Omega.{arith}
use lib.ListN.{length, take, drop}
use lib.Seq.{take_at, take_all}
use borrow.Author.Tests.{le-leb}
use Rattle.subsets.specs.Subsets.{padded}
use Rattle.subsets.proofs.Filling.{padded_front, padded_length}
use Rattle.ranking.specs.Ranking.{zero_score}
use Rattle.counting.specs.Stretch.{stretch_bytes}
use Rattle.sampling.specs.Boards.{recording}
use Rattle.searching.specs.Claim.{BestIn}
use Rattle.searching.specs.declared.finding.Finding.{Finding}
use Rattle.searching.proofs.Refusing.{neither}
use Rattle.searching.proofs.Claiming.{claims}
use Rattle.judging.specs.Check.{chosen, limit_refusal, shape_refusal, scratch_refusal, early_check_refusal, check_refusal}
use Rattle.judging.specs.Evaluation.{testing_blocks, blocks_refusal, early_evaluation_refusal, evaluation_refusal}
use Rattle.judging.specs.Agreement.{Agrees}
use Rattle.judging.proofs.Agreeing.{all_agree}
use Rattle.judging.proofs.Checking.{chosen_length}
use Rattle.exchange.specs.Grammar.{Exchanged}
use Rattle.exchange.specs.Reader.{read_text}
use Rattle.exchange.specs.Writer.{Writable}
use Rattle.exchange.specs.Exchange.{room_refusal, begun, exchanged_of, finding_text, write_refusal, written_with, output_after, said_finding, said_refusal, reading_with, reading_of, read_order, Written}
use Rattle.exchange.specs.Length.{longest_text}
use Rattle.exchange.specs.Theorems.{ReaderAgrees, bare, RoundTrip, AcceptedWritten, scoreless, Passes, SearchesExchange}
use Rattle.exchange.proofs.Objects.{text_sound, text_complete, text_unique}
use Rattle.exchange.proofs.Written.{text_back}
use Rattle.exchange.proofs.Acceptance.{accepted, accepted_fits, refused_not}
use Rattle.exchange.proofs.Bounds.{text_fits}

pub reader_agrees : ReaderAgrees
reader_agrees = record { sound = text_sound; complete = λ s e t. text_complete t; one = λ s e e' t u. text_unique t u }

-- ---- what was written

-- the refusal that a writing answers
said : (r : ℕ) (s : List ℕ) (w : Written) → w ≡ written_with r s → w.refusal ≡ 0 → r ≡ 0
said zero s w e z = refl
said (suc r) s w e z = sym (ap (λ (a : Written). a.refusal) e) ∙ z

-- what stands in the output where nothing was refused
stands : (r : ℕ) (s out : List ℕ) (w : Written) (out' : List ℕ) → r ≡ 0 → w ≡ written_with r s → out' ≡ output_after r s out → take w.length out' ≡ s
stands r s out w out' e p q =
    let n : w.length ≡ length s = ap (λ (a : Written). a.length) (p ∙ ap (λ (x : ℕ). written_with x s) e) in
    let o : out' ≡ s ++ drop (length s) out = q ∙ ap (λ (x : ℕ). output_after x s out) e in
    ap (λ (l : List ℕ). take w.length l) o ∙ take_at s (drop (length s) out) w.length (sym n)

-- ---- the finding that is read

bare_of : (f : Finding) (order : List ℕ) → f.width ≤ 20 → length f.bits ≡ 20 → said_finding (exchanged_of f order) ≡ bare f
bare_of f order h size =
    let n : length (chosen f) ≡ f.width = chosen_length f h size in
    let most : length (chosen f) ≤ 20 = omega arith in
    let bits : padded (take 20 (chosen f)) ≡ padded (chosen f) = ap padded (take_all 20 (chosen f) most) in
    λ i. record { block_size = f.block_size; width = n i; bits = bits i; division = f.division; z = zero_score; low_first = f.low_first }

-- the check does not see the score and the entries past the width
bare_accepted : (f : Finding) (order : List ℕ) (scratch scratch₂ : ℕ) → length f.bits ≡ 20 → check_refusal f order scratch ≡ 0 → 2 ^ f.width ≤ scratch₂
    → check_refusal (bare f) order scratch₂ ≡ 0
unfolding check_refusal early_check_refusal shape_refusal limit_refusal scratch_refusal
bare_accepted f order scratch scratch₂ size e room =
    let w = accepted f order scratch e in
    let n : length (chosen f) ≡ f.width = chosen_length f w.width size in
    let front : take f.width (padded (chosen f)) ≡ chosen f = padded_front f.width (chosen f) n in
    let p = neither (early_check_refusal f (length order) scratch) _ e in
    let q = neither (shape_refusal f (length order)) _ p.0 in
    rw (front, q.0, le-leb (2 ^ f.width) scratch₂ room, p.1)

-- what a text says of an accepted finding is not refused
said_none : (f : Finding) (order : List ℕ) (room scratch₂ : ℕ) → said_finding (exchanged_of f order) ≡ bare f → length order ≤ room → check_refusal (bare f) order scratch₂ ≡ 0
    → said_refusal (exchanged_of f order) room scratch₂ ≡ 0
unfolding said_refusal room_refusal
said_none f order room scratch₂ same h e =
    let none : check_refusal (said_finding (exchanged_of f order)) order scratch₂ ≡ 0 = ap (λ (g : Finding). check_refusal g order scratch₂) same ∙ e in
    rw (le-leb (length order) room h) none

pub round_trip : RoundTrip
unfolding write_refusal
round_trip f order scratch out w scratch' out' size W z order₂ scratch₂ r order₂' scratch₂' R h g =
    let s = finding_text f order in
    let e = exchanged_of f order in
    let none = said (write_refusal f order (length scratch) (length out)) s w W.answered z in
    let check : check_refusal f order (length scratch) ≡ 0 = (neither (check_refusal f order (length scratch)) _ none).0 in
    let a = accepted f order (length scratch) check in
    let text = stands (write_refusal f order (length scratch) (length out)) s out w out' none W.answered W.output in
    let read : read_text (take w.length out') ≡ some e = ap read_text text ∙ text_back e (accepted_fits f order a) in
    let same = bare_of f order a.width size in
    let free = said_none f order (length order₂) (length scratch₂) same h (bare_accepted f order (length scratch) (length scratch₂) size check g) in (
      R.answered
          ∙ ap (λ (o : Option Exchanged). reading_of o (length order₂) (length scratch₂)) read
          ∙ ap (λ (n : ℕ). reading_with n (said_finding e)) free
          ∙ ap (λ (g : Finding). record { refusal = 0; finding = g }) same,
      R.indices ∙ ap (λ (o : Option Exchanged). read_order o order₂) read ∙ ap (λ (t : Bool). cond t (begun order order₂) order₂) (le-leb (length order) (length order₂) h),
    )

pub accepted_written : AcceptedWritten
accepted_written f order scratch out w scratch' out' size W check room =
    let fits : length (finding_text f order) ≤ length out = omega (arith, text_fits f order (length scratch) size check) in
    ap (λ (a : Written). a.refusal)
    (W.answered ∙ ap (λ (n : ℕ). written_with n (finding_text f order)) (sym (refused_not f order (length scratch) (length out) check fits)))

-- ---- what the searches leave

-- an evaluation's refusals have the check's among them
evaluated_checked : (f : Finding) (order bytes : List ℕ) (scratch : ℕ) → evaluation_refusal f order bytes scratch ≡ 0 → check_refusal f order scratch ≡ 0
unfolding evaluation_refusal early_evaluation_refusal check_refusal early_check_refusal
evaluated_checked f order bytes scratch e =
    let p = neither (early_evaluation_refusal f (length order) (testing_blocks f bytes) scratch) _ e in
    let q = neither (shape_refusal f (length order)) _ p.0 in
    let r = neither (blocks_refusal (testing_blocks f bytes)) (scratch_refusal f.width scratch) q.1 in
    rw (q.0, r.1, p.1)

module _ (B : ℕ) (low : Bool) (held : List ℕ) (first end k : ℕ) (f : Finding) (bins order : List ℕ) (best : BestIn B low held first end k f bins order)
    (agrees : (scratch : ℕ) → 2 ^ k ≤ scratch → Agrees B (stretch_bytes B held first end) k f bins order scratch) where
  abbrev order' : List ℕ
  order' = take (2 ^ k) order

  check : (scratch : ℕ) → 2 ^ k ≤ scratch → check_refusal f order' scratch ≡ 0
  check scratch h = evaluated_checked f order' (stretch_bytes B held first end) scratch (agrees scratch h).taken

  facts : Writable f order'
  facts = accepted f order' (2 ^ k) (check (2 ^ k) (omega arith))

  size : length f.bits ≡ 20
  size =
      let few : length (take k f.bits) ≤ 20 = omega (arith, best.chosen.size, best.width, facts.width) in
      ap length best.zeros ∙ padded_length (take k f.bits) few

  -- nothing stands past its width
  whole : bare f ≡ scoreless f
  whole =
      let bits : padded (chosen f) ≡ f.bits = ap (λ (w : ℕ). padded (take w f.bits)) best.width ∙ sym best.zeros in
      λ i. record { block_size = f.block_size; width = f.width; bits = bits i; division = f.division; z = zero_score; low_first = f.low_first }

  passes : Passes k f order'
  passes =
      record {
        accepted = check;
        written = λ scratch out w scratch' out' W h room.
            accepted_written f order' scratch out w scratch' out' size W (check (length scratch) h) (subst (λ (n : ℕ). longest_text n ≤ length out) (sym best.width) room);
        back = λ scratch out w scratch' out' W z order₂ scratch₂ r order₂' scratch₂' R h g.
            let bins_are : 2 ^ f.width ≡ 2 ^ k = ap (λ (n : ℕ). 2 ^ n) best.width in
            let sized : length order' ≡ 2 ^ k = facts.sized ∙ bins_are in
            let t = round_trip f order' scratch out w scratch' out' size W z order₂ scratch₂ r order₂' scratch₂' R (omega (arith, sized)) (omega (arith, bins_are)) in
            (t.0 ∙ ap (λ (g : Finding). record { refusal = 0; finding = g }) whole, ap (take (2 ^ k)) t.1 ∙ take_at order' _ (2 ^ k) sized);
      }

pub searches_exchange : SearchesExchange
searches_exchange B low ws old feeds answers s ws' acquired first end k store bins order r store' bins' order' S z =
    passes B low (recording B (length ws) old feeds) first end k r.finding bins' order'
    (((claims B low ws old feeds answers s ws' acquired).search first end k store bins order r store' bins' order' S).best z)
    (all_agree B low ws old feeds answers s ws' acquired first end k store bins order r store' bins' order' S z)
