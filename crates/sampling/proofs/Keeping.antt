-- After any feeds the recording is that of the pieces that were accepted, told by their boards (theorems `all_kept`, `bytes_alike`).
use mathlib.Core.Path.{◌≡◌, refl, sym, ap, ap₂, subst, ◌∙◌}
use mathlib.Core.Bool.{Bool, true}
use mathlib.Core.List.{List, [], ◌∷◌, ◌++◌, map-id}
use Prim.Native.Nat.{ℕ, ◌+◌, ◌^◌, ◌≤◌, ◌<◌}
use native.Mathlib.Omega.{arith}
use native.Mathlib.Decide.{ℕ_discrete}
use native.Mathlib.Nat.{zero-div}
use lib.Dec.{leb}
use lib.ListN.{length}
use borrow.Author.Tests.{leb-true}
use Rattle.counting.specs.Block.{valid_size, block_bit, bin_of}
use Rattle.counting.specs.Recording.{block_bytes, capacity, capacity_bytes, blocks_in, recorded_bit}
use Rattle.counting.specs.Sample.{same, count_in, counts_of, list_of, sum_to}
use Rattle.counting.proofs.Accepted.{passed, valid_facts}
use Rattle.counting.proofs.Counts.{sum_ext}
use Rattle.sampling.specs.Boards.{Boards, Feed, changed, arriving, board_refusal, taken, boards_from, accepted_from, on_board, carried, boards_of, accepted_of}
use Rattle.sampling.specs.Cut.{whole, rest, joined}
use Rattle.sampling.specs.Earlier.{taken_pieces, earlier_recording}
use Rattle.sampling.specs.Kept.{bytes_on, summed_counts, Kept, AllKept, SameBytes, BytesAlike, PiecesBytes}
use Rattle.sampling.proofs.Accepting.{some_bytes, bytes_same, bytes_other, pieces_none, taken_arrives, taken_tail, old_bytes, held_within, through}
use Rattle.sampling.proofs.Adding.{block_at, over, Full, whole_full, append_full, over_behind, over_whole, over_append, over_number, over_count, sum_changed}
use Rattle.sampling.proofs.Cutting.{rest_none, rest_short, blocks_whole, blocks_behind}
use Rattle.sampling.proofs.Tails.{changed_same, changed_other}
use Rattle.sampling.proofs.Usable.{room_blocks}

-- the recording of the accepted feeds s: every sum over the blocks that are held is the sum over the boards' bytes
record Stands (B words : ℕ) (st : Boards) (s : List Feed) : Type 0 where
  tails : (b : ℕ) → st.tail b ≡ rest B (bytes_on b s)
  full : Full B st.held
  within : blocks_in B st.held ≤ capacity B words
  sums : (g : List ℕ → ℕ) → over B g st.held ≡ sum_to (λ b. over B g (bytes_on b s)) 4

-- what a refusal of 0 tells
accepted : (B words : ℕ) (st : Boards) (f : Feed) → board_refusal B words st f ≡ 0
    → (f.board < 4) × (blocks_in B st.held + blocks_in B (arriving st f) ≤ capacity B words)
unfolding board_refusal
accepted B words st f free =
    let p = passed (leb f.board 3) _ 21 (omega arith) free in
    let q = passed (leb (blocks_in B st.held + blocks_in B (arriving st f)) (capacity B words)) 0 5 (omega arith) p.1 in
    let low : f.board ≤ 3 = leb-true _ _ p.0 in
    (omega arith, leb-true _ _ q.0)

over_none : (B : ℕ) (g : List ℕ → ℕ) → over B g [] ≡ 0
unfolding over sum_to
over_none B g = ap (sum_to (λ e. g (block_at B [] e))) (zero-div (block_bytes B))

module _ (B words : ℕ) (ok : valid_size B ≡ true) where
  pos : 0 < block_bytes B
  pos = some_bytes B ok

  stands_taken : (st : Boards) (s : List Feed) (f : Feed) → Stands B words st s → board_refusal B words st f ≡ 0 → Stands B words (taken B st f) (s ++ (f ∷ []))
  unfolding taken
  stands_taken st s f S free =
      let c = f.board in
      let x = bytes_on c s in
      let new = arriving st f in
      let R = accepted B words st f free in
      let left : changed c (rest B new) st.tail c ≡ rest B (bytes_on c (s ++ (f ∷ []))) =
      taken_tail B pos st f x (S.tails c) ∙ ap (rest B) (sym (bytes_same s f)) in
      record {
        tails = λ b. elim (ℕ_discrete b c) [
          | yes e ↦ subst (λ (k : ℕ). changed c (rest B new) st.tail k ≡ rest B (bytes_on k (s ++ (f ∷ [])))) (sym e) left
          | no ne ↦ changed_other c (rest B new) st.tail b ne ∙ S.tails b ∙ ap (rest B) (sym (bytes_other s f b ne))
        ];
        full = append_full B pos st.held (whole B new) S.full (whole_full B pos new);
        within = rw (blocks_behind B pos st.held (whole B new) S.full, blocks_whole B pos) R.1;
        sums = λ g.
            over_behind B pos g st.held (whole B new) S.full ∙ ap₂ ◌+◌ (S.sums g) (over_whole B pos g new)
            ∙ sym (sum_changed (λ b. over B g (bytes_on b s)) (λ b. over B g (bytes_on b (s ++ (f ∷ [])))) 4 c (over B g new) R.0
            (λ b ne. ap (over B g) (bytes_other s f b ne))
            (ap (over B g) (bytes_same s f) ∙ over_append B pos g x f.piece
            ∙ ap (λ (l : List ℕ). over B g x + over B g l) (sym (taken_arrives B pos st f x (S.tails c)))));
      }

  -- what is carried over is board 0's
  stands_carried : (old : List (List ℕ)) → Stands B words (carried B (earlier_recording B words old)) (on_board 0 (taken_pieces B words [] old))
  unfolding carried sum_to joined
  stands_carried old =
      let bytes = earlier_recording B words old in
      let s = on_board 0 (taken_pieces B words [] old) in
      let fits : length bytes ≤ capacity_bytes B words = held_within B words [] old (omega arith) in
      let none : (b : ℕ) → (b ≡ 0 → ⊥) → bytes_on b s ≡ [] = λ b ne. ap joined (pieces_none b ne (taken_pieces B words [] old)) in
      let left : changed 0 (rest B bytes) (λ c. []) 0 ≡ rest B (bytes_on 0 s) =
      changed_same 0 (rest B bytes) (λ c. []) 0 refl ∙ ap (rest B) (sym (old_bytes B words old)) in
      record {
        tails = λ b. elim (ℕ_discrete b 0) [
          | yes e ↦ subst (λ (k : ℕ). changed 0 (rest B bytes) (λ c. []) k ≡ rest B (bytes_on k s)) (sym e) left
          | no ne ↦ changed_other 0 (rest B bytes) (λ c. []) b ne ∙ sym (rest_none B) ∙ ap (rest B) (sym (none b ne))
        ];
        full = whole_full B pos bytes;
        within = rw (blocks_whole B pos) (room_blocks B words (length bytes) (valid_facts B ok) fits);
        sums = λ g.
            let empty : (b : ℕ) → (b ≡ 0 → ⊥) → over B g (bytes_on b s) ≡ 0 = λ b ne. ap (over B g) (none b ne) ∙ over_none B g in
            over_whole B pos g bytes ∙ ap (over B g) (sym (old_bytes B words old))
            ∙ omega (arith, empty 1 (λ e. omega arith), empty 2 (λ e. omega arith), empty 3 (λ e. omega arith));
      }

  stands_all : (old : List (List ℕ)) (feeds : List Feed) → Stands B words (boards_of B words old feeds) (accepted_of B words old feeds)
  stands_all old feeds =
      let start = carried B (earlier_recording B words old) in
      let before = on_board 0 (taken_pieces B words [] old) in
      subst (λ (l : List Feed). Stands B words (boards_from B words start l) (before ++ accepted_from B words start l)) (map-id feeds)
      (through B words (Stands B words) (λ f. f) stands_taken start before feeds (stands_carried old))

-- ---- what that tells

module _ (B words : ℕ) (ok : valid_size B ≡ true) (st : Boards) (s : List Feed) (S : Stands B words st s) where
  number : blocks_in B st.held ≡ sum_to (λ b. blocks_in B (bytes_on b s)) 4
  number =
      sym (over_number B st.held) ∙ S.sums (λ block. 1)
      ∙ sum_ext (λ b. over B (λ block. 1) (bytes_on b s)) (λ b. blocks_in B (bytes_on b s)) 4 (λ b h. over_number B (bytes_on b s))

  count : (low : Bool) (bits : List ℕ) (v : ℕ)
      → count_in (recorded_bit B low st.held) (blocks_in B st.held) bits v
      ≡ sum_to (λ b. count_in (recorded_bit B low (bytes_on b s)) (blocks_in B (bytes_on b s)) bits v) 4
  count low bits v =
      let g : List ℕ → ℕ = λ block. same (bin_of (block_bit low block) bits) v in
      sym (over_count B low bits v st.held) ∙ S.sums g
      ∙ sum_ext (λ b. over B g (bytes_on b s)) (λ b. count_in (recorded_bit B low (bytes_on b s)) (blocks_in B (bytes_on b s)) bits v) 4
      (λ b h. over_count B low bits v (bytes_on b s))

  kept : Kept B words st (λ b. bytes_on b s)
  unfolding counts_of summed_counts
  kept = record {
    tails = λ b h. S.tails b;
    short = λ b. rw (S.tails b) (rest_short B (some_bytes B ok) (bytes_on b s));
    full = S.full;
    within = S.within;
    number = number;
    counts = λ low bits i. list_of (2 ^ length bits) (λ v. count low bits v i);
  }

pub all_kept : AllKept
all_kept B words ok old feeds = kept B words ok (boards_of B words old feeds) (accepted_of B words old feeds) (stands_all B words ok old feeds)

-- ---- bytes that are, board by board, the same

same_summed : (B : ℕ) (low : Bool) (bits : List ℕ) (s t : List Feed) → SameBytes s t
    → summed_counts B low (λ b. bytes_on b s) bits ≡ summed_counts B low (λ b. bytes_on b t) bits
unfolding summed_counts
same_summed B low bits s t e =
    λ i. list_of (2 ^ length bits) (λ v.
    sum_ext (λ b. count_in (recorded_bit B low (bytes_on b s)) (blocks_in B (bytes_on b s)) bits v)
    (λ b. count_in (recorded_bit B low (bytes_on b t)) (blocks_in B (bytes_on b t)) bits v) 4
    (λ b h. ap (λ (l : List ℕ). count_in (recorded_bit B low l) (blocks_in B l) bits v) (e b h)) i)

pub bytes_alike : BytesAlike
bytes_alike B words words' ok old old' feeds feeds' e =
    let s = accepted_of B words old feeds in
    let t = accepted_of B words' old' feeds' in
    let K = all_kept B words ok old feeds in
    let L = all_kept B words' ok old' feeds' in
    record {
      number = K.number ∙ sum_ext (λ b. blocks_in B (bytes_on b s)) (λ b. blocks_in B (bytes_on b t)) 4 (λ b h. ap (blocks_in B) (e b h)) ∙ sym L.number;
      counts = λ low bits. K.counts low bits ∙ same_summed B low bits s t e ∙ sym (L.counts low bits);
    }

pub pieces_bytes : PiecesBytes
pieces_bytes feeds feeds' e board h = ap joined (e board h)
