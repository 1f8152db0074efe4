-- One board alone: the blocks stand in the order of its bytes, and what the earlier rule takes is taken (theorem `all_sole`).
use mathlib.Core.Path.{◌≡◌, refl, sym, ap, ap₂, subst, ◌∙◌}
use mathlib.Core.Bool.{Bool, true, false, cond}
use mathlib.Core.List.{List, [], ◌∷◌, ◌++◌}
use Prim.Native.Nat.{ℕ, ◌+◌, ◌≤◌, ◌<◌}
use native.Mathlib.Omega.{arith}
use lib.Dec.{leb, eqb}
use lib.ListN.{length, replicate, length-append}
use borrow.Author.Tests.{leb-true, le-leb, eq-eqb}
use Rattle.counting.specs.Block.{valid_size, block_bit}
use Rattle.counting.specs.Recording.{block_bytes, capacity, capacity_bytes, blocks_in, recorded_bit}
use Rattle.counting.proofs.Accepted.{passed, valid_facts}
use Rattle.sampling.specs.Boards.{Boards, Feed, arriving, board_refusal, taken, boards_after, refusals_from, accepted_from, on_board, carried, boards_of}
use Rattle.sampling.specs.Cut.{whole, rest, joined}
use Rattle.sampling.specs.Earlier.{piece_refusal, piece_refusals, held_after, held_from, taken_pieces, earlier_recording}
use Rattle.sampling.specs.Kept.{bytes_on, sole_bytes, AllSole}
use Rattle.sampling.proofs.Accepting.{some_bytes, bytes_append, bytes_same, pieces_zero, taken_arrives, taken_tail, held_joined, old_bytes, through}
use Rattle.sampling.proofs.Adding.{at_whole}
use Rattle.sampling.proofs.Cutting.{whole_append, blocks_append, blocks_whole}
use Rattle.sampling.proofs.Tails.{changed_same}
use Rattle.sampling.proofs.Usable.{room_blocks}

-- a feed of board 0
abbrev zeroth : List ℕ → Feed
zeroth p = record { board = 0; piece = p }

-- the recording is that of these bytes, board 0's
record Single (B : ℕ) (st : Boards) (bytes : List ℕ) : Type 0 where
  held : st.held ≡ whole B bytes
  tail : st.tail 0 ≡ rest B bytes

module _ (B words : ℕ) (ok : valid_size B ≡ true) where
  pos : 0 < block_bytes B
  pos = some_bytes B ok

  single_taken : (st : Boards) (bytes p : List ℕ) → Single B st bytes → Single B (taken B st (zeroth p)) (bytes ++ p)
  unfolding taken
  single_taken st bytes p S =
      record {
        held = ap₂ ◌++◌ S.held (ap (whole B) (taken_arrives B pos st (zeroth p) bytes S.tail)) ∙ sym (whole_append B pos bytes p);
        tail = taken_tail B pos st (zeroth p) bytes S.tail;
      }

  single_carried : (bytes : List ℕ) → Single B (carried B bytes) bytes
  unfolding carried
  single_carried bytes = record { held = refl; tail = changed_same 0 (rest B bytes) (λ b. []) 0 refl }

  single_all : (old pieces : List (List ℕ)) → Single B (boards_of B words old (on_board 0 pieces)) (sole_bytes B words old pieces)
  single_all old pieces =
      let start = carried B (earlier_recording B words old) in
      through B words (λ st s. Single B st (bytes_on 0 s)) zeroth
      (λ st s p S free. subst (Single B (taken B st (zeroth p))) (sym (bytes_same s (zeroth p))) (single_taken st (bytes_on 0 s) p S))
      start (on_board 0 (taken_pieces B words [] old)) pieces
      (subst (Single B start) (sym (old_bytes B words old)) (single_carried (earlier_recording B words old)))

  single_number : (st : Boards) (bytes : List ℕ) → Single B st bytes → blocks_in B st.held ≡ blocks_in B bytes
  single_number st bytes S = ap (blocks_in B) S.held ∙ blocks_whole B pos bytes

  single_refusal : (st : Boards) (bytes p : List ℕ) → Single B st bytes
      → board_refusal B words st (zeroth p) ≡ cond (leb (blocks_in B (bytes ++ p)) (capacity B words)) 0 5
  unfolding board_refusal
  single_refusal st bytes p S =
      let all : blocks_in B st.held + blocks_in B (arriving st (zeroth p)) ≡ blocks_in B (bytes ++ p) =
      ap₂ ◌+◌ (single_number st bytes S) (ap (λ (l : List ℕ). blocks_in B (l ++ p)) S.tail) ∙ sym (blocks_append B pos bytes p) in
      ap (λ (m : ℕ). cond (leb m (capacity B words)) 0 5) all

  -- ---- what the earlier rule takes

  early : (held p : List ℕ) → piece_refusal B words held p ≡ 0 → (length held + length p ≤ capacity_bytes B words) × (held_after B words held p ≡ held ++ p)
  unfolding piece_refusal held_after
  early held p free =
      let fits = (passed (leb (length held + length p) (capacity_bytes B words)) 0 5 (omega arith) free).0 in
      (leb-true _ _ fits, ap (λ (t : Bool). cond t (held ++ p) held) fits)

  after_taken : (st : Boards) (f : Feed) → board_refusal B words st f ≡ 0 → boards_after B words st f ≡ taken B st f
  unfolding boards_after
  after_taken st f free = ap (λ (t : Bool). cond t (taken B st f) st) (eq-eqb _ _ free)

  still_taken : (st : Boards) (held : List ℕ) (pieces : List (List ℕ)) → Single B st held → piece_refusals B words held pieces ≡ replicate (length pieces) 0
      → refusals_from B words st (on_board 0 pieces) ≡ replicate (length pieces) 0
  unfolding piece_refusals refusals_from
  still_taken st held [] S h = refl
  still_taken st held (p ∷ ps) S h =
      let E = early held p (cc) in
      let few : blocks_in B (held ++ p) ≤ capacity B words = room_blocks B words (length (held ++ p)) (valid_facts B ok) (rw length-append E.0) in
      let free : board_refusal B words st (zeroth p) ≡ 0 = single_refusal st held p S ∙ ap (λ (t : Bool). cond t 0 5) (le-leb _ _ few) in
      let next : Single B (boards_after B words st (zeroth p)) (held_after B words held p) =
      rw (after_taken st (zeroth p) free, E.1) (single_taken st held p S) in
      ap₂ ◌∷◌ free (still_taken (boards_after B words st (zeroth p)) (held_after B words held p) ps next (cc))

  -- ---- where both rules refuse the same

  same_accepted : (st : Boards) (held : List ℕ) (pieces : List (List ℕ)) → refusals_from B words st (on_board 0 pieces) ≡ piece_refusals B words held pieces
      → accepted_from B words st (on_board 0 pieces) ≡ on_board 0 (taken_pieces B words held pieces)
  unfolding refusals_from piece_refusals accepted_from taken_pieces
  same_accepted st held [] h = refl
  same_accepted st held (p ∷ ps) h =
      let one : board_refusal B words st (zeroth p) ≡ piece_refusal B words held p = cc in
      ap₂ (λ (m : ℕ) (l : List Feed). cond (eqb m 0) (zeroth p ∷ l) l) one
      (same_accepted (boards_after B words st (zeroth p)) (held_after B words held p) ps (cc))
      ∙ by_test (eqb (piece_refusal B words held p) 0)
    where
      by_test : (t : Bool) → let later = taken_pieces B words (held_after B words held p) ps in
          cond t (zeroth p ∷ on_board 0 later) (on_board 0 later) ≡ on_board 0 (cond t (p ∷ later) later)
      by_test true = refl
      by_test false = refl

  held_append : (held : List ℕ) (old pieces : List (List ℕ)) → held_from B words held (old ++ pieces) ≡ held_from B words (held_from B words held old) pieces
  unfolding held_from
  held_append held [] pieces = refl
  held_append held (p ∷ old) pieces = held_append (held_after B words held p) old pieces

  same_bytes : (old pieces : List (List ℕ))
      → refusals_from B words (carried B (earlier_recording B words old)) (on_board 0 pieces) ≡ piece_refusals B words (earlier_recording B words old) pieces
      → sole_bytes B words old pieces ≡ earlier_recording B words (old ++ pieces)
  same_bytes old pieces h =
      let held = earlier_recording B words old in
      let later = taken_pieces B words held pieces in
      let accepted : bytes_on 0 (accepted_from B words (carried B held) (on_board 0 pieces)) ≡ joined later =
      ap (bytes_on 0) (same_accepted (carried B held) held pieces h) ∙ ap joined (pieces_zero later) in
      bytes_append 0 (on_board 0 (taken_pieces B words [] old)) (accepted_from B words (carried B held) (on_board 0 pieces))
      ∙ ap₂ ◌++◌ (old_bytes B words old) accepted ∙ sym (held_joined B words held pieces) ∙ sym (held_append [] old pieces)

pub all_sole : AllSole
unfolding recorded_bit
all_sole B words ok old pieces =
    let held = earlier_recording B words old in
    let st = boards_of B words old (on_board 0 pieces) in
    let bytes = sole_bytes B words old pieces in
    let S = single_all B words ok old pieces in
    record {
      held = S.held;
      number = single_number B words ok st bytes S;
      bits = λ low e b h l.
          ap (λ (x : List ℕ). recorded_bit B low x e b) S.held
          ∙ ap (λ (block : List ℕ). block_bit low block b) (at_whole B (some_bytes B ok) bytes e h);
      limit = λ piece. single_refusal B words ok st bytes piece S;
      taken = still_taken B words ok (carried B held) held pieces (single_carried B words ok held);
      same = same_bytes B words ok old pieces;
    }
