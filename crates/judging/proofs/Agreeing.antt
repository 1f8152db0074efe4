-- A finding evaluated on the recording that it was found in (`findings_agree`), and so after every acquisition (`all_agree`).
use mathlib.Core.Path.{◌≡◌, refl, sym, ap, ◌∙◌, subst}
use mathlib.Core.Bool.{Bool, true}
use mathlib.Core.List.{List}
use Prim.Native.Nat.{ℕ, ◌^◌, ◌≤◌, ◌<◌}
use native.Mathlib.Nat.{le_trans, min-le_right}
use native.Mathlib.Omega.{arith}
use lib.ListN.{length, take}
use borrow.Author.Tests.{le-leb, lt-ltb, eq-eqb}
use Rattle.counting.specs.Block.{valid_size}
use Rattle.counting.specs.Recording.{blocks_in, recorded_bit}
use Rattle.counting.specs.Sample.{total}
use Rattle.counting.specs.Stretch.{stretch_bytes}
use Rattle.counting.proofs.Alone.{stretches_alone}
use Rattle.sampling.specs.Boards.{recording}
use Rattle.scoring.specs.Halves.{part}
use Rattle.scoring.specs.Score.{z_score, abs}
use Rattle.ranking.specs.Order.{order_of}
use Rattle.ranking.specs.Ranking.{in_bin_order, size_at}
use Rattle.ranking.proofs.Dividing.{score_low, score_high, ranking_is_right}
use Rattle.ranking.proofs.Sorting.{order_permutes}
use Rattle.ranking.proofs.Totals.{order_length}
use Rattle.subsets.proofs.Refusing.{valid_width_is}
use Rattle.subsets.proofs.Testing.{not_refused}
use Rattle.searching.proofs.Filled.{length_counts}
use Rattle.searching.proofs.Refusing.{bottomup_free, said_is}
use Rattle.searching.proofs.Claiming.{claims, acquired_valid, recorder}
use Rattle.searching.proofs.Stretches.{whole_recordings, best_alone}
use Rattle.searching.specs.Claim.{BestOf}
use Rattle.searching.specs.Refusal.{bottomup_refusal}
use Rattle.searching.specs.declared.finding.Finding.{Finding}
use Rattle.judging.specs.Permutation.{each_once, Permutation}
use Rattle.judging.specs.Check.{limit_refusal, length_refusal, shape_refusal, scratch_refusal, division_refusal, order_refusal}
use Rattle.judging.specs.Evaluation.{counts_in, positive_of, positive_in, z_in, blocks_refusal, early_evaluation_refusal, evaluation_refusal}
use Rattle.judging.specs.Agreement.{FindingsAgree, AllAgree}
use Rattle.judging.proofs.Once.{once_permutes}

module _ (B : ℕ) (low : Bool) (held : List ℕ) (k : ℕ) (f : Finding) (bins order : List ℕ) (scratch : ℕ)
    (W : valid_size B ≡ true) (K : 1 ≤ k) (L : k ≤ 20) (M : blocks_in B held ≤ 16777216) (S : 2 ^ k ≤ scratch)
    (best : BestOf B low held k f bins order) where
  abbrev counts : List ℕ
  counts = take (2 ^ k) bins

  abbrev order' : List ℕ
  order' = take (2 ^ k) order

  counted : counts_in f held ≡ counts
  counted = rw (best.block, best.width, best.bit_order) (sym best.counted)

  counts_length : length counts ≡ 2 ^ k
  counts_length =
      ap length best.counted ∙ length_counts (recorded_bit B low held) (blocks_in B held) (take k f.bits) ∙ ap (λ (w : ℕ). 2 ^ w) best.chosen.size

  listed : length order' ≡ 2 ^ k
  listed = ap length best.ordered ∙ order_length counts ∙ counts_length

  -- ---- nothing is refused

  shape_none : shape_refusal f (length order') ≡ 0
  unfolding shape_refusal limit_refusal length_refusal
  shape_none =
      rw (best.block, best.width, W, valid_width_is k K L, not_refused B k (take k f.bits) best.chosen, eq-eqb (length order') (2 ^ k) listed) refl

  once : each_once (2 ^ k) order' ≡ true
  once =
      (once_permutes (2 ^ k) order' listed).1
      (subst (Permutation (2 ^ k)) (sym best.ordered) (subst (λ (m : ℕ). Permutation m (order_of counts)) counts_length (order_permutes counts)))

  order_none : order_refusal f.width f.division order' ≡ 0
  unfolding order_refusal division_refusal
  order_none =
      let least : 1 ≤ f.division = rw best.division (score_low (blocks_in B held) k counts) in
      let high : f.division < 2 ^ k = rw best.division (score_high (blocks_in B held) k counts K) in
      rw (best.width, once, le-leb 1 f.division least, lt-ltb f.division (2 ^ k) high) refl

  none : evaluation_refusal f order' held scratch ≡ 0
  unfolding evaluation_refusal early_evaluation_refusal blocks_refusal scratch_refusal
  none = rw (shape_none, order_none, best.block, best.width, le-leb (blocks_in B held) 16777216 M, le-leb (2 ^ k) scratch S) refl

  -- ---- the sum and the score

  summed : positive_in f order' held ≡ total (take f.division (in_bin_order counts))
  unfolding positive_of in_bin_order
  summed = ap (λ (c : List ℕ). positive_of c order' f.division) counted ∙ ap (λ (o : List ℕ). positive_of counts o f.division) best.ordered

  scored : 1 ≤ blocks_in B held → abs (z_in f order' held) ≡ f.z
  unfolding size_at
  scored N =
      let n = blocks_in B held in
      let r = ranking_is_right n k counts N M K L in
      ap (λ (m : ℕ). abs (z_score (blocks_in m held) (positive_in f order' held) (part f.division f.width))) best.block
      ∙ ap (λ (w : ℕ). abs (z_score n (positive_in f order' held) (part f.division w))) best.width
      ∙ ap (λ (c : ℕ). abs (z_score n c (part f.division k))) summed
      ∙ ap (size_at n k (in_bin_order counts)) best.division ∙ sym r.attained ∙ sym best.z

pub findings_agree : FindingsAgree
findings_agree B low held k f bins order scratch W K L M S best =
    record {
      taken = none B low held k f bins order scratch W K L M S best;
      counts = counted B low held k f bins order scratch W K L M S best;
      positive = summed B low held k f bins order scratch W K L M S best;
      score = scored B low held k f bins order scratch W K L M S best;
    }

-- ---- after an acquisition

pub all_agree : AllAgree
all_agree B low ws old feeds answers s ws' acquired first end k store bins order r store' bins' order' S z scratch room =
    let held = recording B (length ws) old feeds in
    let valid = acquired_valid acquired in
    let d = bottomup_refusal s.head (length ws') first end k (length bins) (length order) in
    let f = (bottomup_free s.head (length ws') first end k (length bins) (length order) (sym (said_is d _ _ _ _ k r S.search.answered) ∙ z)).search in
    let has : end ≤ blocks_in B held = omega (arith, f.ordered.held, (whole_recordings B low ws old feeds answers s ws' acquired).blocks) in
    let all : blocks_in B held ≤ 16777216 = le_trans (recorder acquired).within (min-le_right _ _) in
    let few : blocks_in B (stretch_bytes B held first end) ≤ 16777216 = omega (arith, (stretches_alone B low held first end valid f.ordered.order has).blocks) in
    let best = ((claims B low ws old feeds answers s ws' acquired).search first end k store bins order r store' bins' order' S).best z in
    findings_agree B low (stretch_bytes B held first end) k r.finding bins' order' scratch valid f.width.some f.width.width few room
    (best_alone B low held first end k r.finding bins' order' valid f.ordered.order has best)
