-- The feeds that are accepted: their bytes board by board, the pieces that the earlier rule takes, and what holds as each is taken holds after all (`through`).
use mathlib.Core.Path.{◌≡◌, refl, sym, ap, subst, ◌∙◌}
use mathlib.Core.Bool.{Bool, true, false, cond}
use mathlib.Core.List.{List, [], ◌∷◌, ◌++◌, map, append_assoc, append-nil}
use Prim.Native.Nat.{ℕ, ◌+◌, ◌≤◌, ◌<◌}
use native.Mathlib.Omega.{arith}
use lib.Dec.{leb, eqb}
use lib.ListN.{length, length-append}
use lib.Seq.{append_snoc}
use borrow.Author.Tests.{leb-true, eqb-true, eq-eqb, ne_eqb}
use Rattle.counting.specs.Block.{valid_size}
use Rattle.counting.specs.Recording.{block_bytes, capacity_bytes}
use Rattle.counting.proofs.Accepted.{valid_facts}
use Rattle.sampling.specs.Boards.{Boards, Feed, changed, arriving, board_refusal, taken, boards_after, boards_from, accepted_from, pieces_on, on_board}
use Rattle.sampling.specs.Cut.{rest, joined}
use Rattle.sampling.specs.Earlier.{piece_refusal, held_after, held_from, taken_pieces, earlier_recording}
use Rattle.sampling.specs.Kept.{bytes_on}
use Rattle.sampling.proofs.Cutting.{joined_append, joined_one, rest_append}
use Rattle.sampling.proofs.Tails.{changed_same}

pub some_bytes : (B : ℕ) → valid_size B ≡ true → 0 < block_bytes B
some_bytes B ok = omega (arith, valid_facts B ok)

-- ---- the bytes of a board

pieces_append : (b : ℕ) (s t : List Feed) → pieces_on b (s ++ t) ≡ pieces_on b s ++ pieces_on b t
unfolding pieces_on
pieces_append b [] t = refl
pieces_append b (f ∷ s) t =
    ap (λ (l : List (List ℕ)). cond (eqb f.board b) (f.piece ∷ l) l) (pieces_append b s t) ∙ by_test (eqb f.board b)
  where
    by_test : (c : Bool) → let all = pieces_on b s ++ pieces_on b t in cond c (f.piece ∷ all) all ≡ cond c (f.piece ∷ pieces_on b s) (pieces_on b s) ++ pieces_on b t
    by_test true = refl
    by_test false = refl

pub bytes_append : (b : ℕ) (s t : List Feed) → bytes_on b (s ++ t) ≡ bytes_on b s ++ bytes_on b t
bytes_append b s t = ap joined (pieces_append b s t) ∙ joined_append (pieces_on b s) (pieces_on b t)

-- one feed more: its board has its piece more, and the others have what they had
pub bytes_same : (s : List Feed) (f : Feed) → bytes_on f.board (s ++ (f ∷ [])) ≡ bytes_on f.board s ++ f.piece
unfolding pieces_on
bytes_same s f =
    let one : bytes_on f.board (f ∷ []) ≡ f.piece =
    ap (λ (c : Bool). joined (cond c (f.piece ∷ []) [])) (eq-eqb f.board f.board refl) ∙ joined_one f.piece in
    bytes_append f.board s (f ∷ []) ∙ ap (λ (l : List ℕ). bytes_on f.board s ++ l) one

pub bytes_other : (s : List Feed) (f : Feed) (b : ℕ) → (b ≡ f.board → ⊥) → bytes_on b (s ++ (f ∷ [])) ≡ bytes_on b s
unfolding pieces_on joined
bytes_other s f b ne =
    let none : bytes_on b (f ∷ []) ≡ [] = ap (λ (c : Bool). joined (cond c (f.piece ∷ []) [])) (ne_eqb f.board b (λ e. ne (sym e))) in
    bytes_append b s (f ∷ []) ∙ ap (λ (l : List ℕ). bytes_on b s ++ l) none ∙ append-nil (bytes_on b s)

-- where all are board 0's
pub pieces_zero : (pieces : List (List ℕ)) → pieces_on 0 (on_board 0 pieces) ≡ pieces
unfolding pieces_on
pieces_zero [] = refl
pieces_zero (p ∷ ps) = ap (λ (l : List (List ℕ)). p ∷ l) (pieces_zero ps)

pub pieces_none : (b : ℕ) → (b ≡ 0 → ⊥) → (pieces : List (List ℕ)) → pieces_on b (on_board 0 pieces) ≡ []
unfolding pieces_on
pieces_none b ne [] = refl
pieces_none b ne (p ∷ ps) =
    ap (λ (c : Bool). cond c (p ∷ pieces_on b (on_board 0 ps)) (pieces_on b (on_board 0 ps))) (ne_eqb 0 b (λ e. ne (sym e))) ∙ pieces_none b ne ps

-- ---- a board's unfinished bytes

-- a feed taken, where its board's unfinished bytes were those past the whole blocks of x
module _ (B : ℕ) (pos : 0 < block_bytes B) (st : Boards) (f : Feed) (x : List ℕ) (tail : st.tail f.board ≡ rest B x) where
  pub taken_arrives : arriving st f ≡ rest B x ++ f.piece
  taken_arrives = ap (λ (l : List ℕ). l ++ f.piece) tail

  pub taken_tail : changed f.board (rest B (arriving st f)) st.tail f.board ≡ rest B (x ++ f.piece)
  taken_tail = changed_same f.board (rest B (arriving st f)) st.tail f.board refl ∙ ap (rest B) taken_arrives ∙ sym (rest_append B pos x f.piece)

-- ---- what the earlier rule takes

module _ (B words : ℕ) where
  -- its recording is the bytes of the pieces taken, behind what was held
  pub held_joined : (held : List ℕ) (pieces : List (List ℕ)) → held_from B words held pieces ≡ held ++ joined (taken_pieces B words held pieces)
  unfolding held_from held_after taken_pieces piece_refusal joined
  held_joined held [] = sym (append-nil held)
  held_joined held (p ∷ ps) = by_test (leb (length held + length p) (capacity_bytes B words)) (λ l. held_joined l ps)
    where
      by_test : (t : Bool) → ((l : List ℕ) → held_from B words l ps ≡ l ++ joined (taken_pieces B words l ps))
          → let after = cond t (held ++ p) held in let later = taken_pieces B words after ps in
          held_from B words after ps ≡ held ++ joined (cond (eqb (cond t 0 5) 0) (p ∷ later) later)
      by_test true next = next (held ++ p) ∙ append_assoc held p (joined (taken_pieces B words (held ++ p) ps))
      by_test false next = next held

  -- .. and board 0's after a carry-over
  pub old_bytes : (old : List (List ℕ)) → bytes_on 0 (on_board 0 (taken_pieces B words [] old)) ≡ earlier_recording B words old
  old_bytes old = ap joined (pieces_zero (taken_pieces B words [] old)) ∙ sym (held_joined [] old)

  pub held_within : (held : List ℕ) (pieces : List (List ℕ)) → length held ≤ capacity_bytes B words → length (held_from B words held pieces) ≤ capacity_bytes B words
  unfolding held_from held_after
  held_within held [] h = h
  held_within held (p ∷ ps) h = held_within (held_after B words held p) ps (by_test (leb (length held + length p) (capacity_bytes B words)) refl)
    where
      by_test : (t : Bool) → leb (length held + length p) (capacity_bytes B words) ≡ t → length (cond t (held ++ p) held) ≤ capacity_bytes B words
      by_test true e = rw length-append (leb-true _ _ e)
      by_test false e = h

-- ---- feed by feed

-- what holds on as each accepted feed is taken holds after all feeds; these are made of `xs`, so that they may all be one board's
pub through : (B words : ℕ) (P : Boards → List Feed → Type 0) {A : Type 0} (feed : A → Feed)
    → ((st : Boards) (s : List Feed) (a : A) → P st s → board_refusal B words st (feed a) ≡ 0 → P (taken B st (feed a)) (s ++ (feed a ∷ [])))
    → (st : Boards) (s : List Feed) (xs : List A) → P st s
    → P (boards_from B words st (map feed xs)) (s ++ accepted_from B words st (map feed xs))
unfolding boards_from boards_after accepted_from
through B words P feed step st s [] p = rw append-nil p
through B words P feed step st s (a ∷ xs) p = by_test (eqb (board_refusal B words st (feed a)) 0) refl (λ st' s'. through B words P feed step st' s' xs)
  where
    by_test : (t : Bool) → eqb (board_refusal B words st (feed a)) 0 ≡ t
        → ((st' : Boards) (s' : List Feed) → P st' s' → P (boards_from B words st' (map feed xs)) (s' ++ accepted_from B words st' (map feed xs)))
        → let after = cond t (taken B st (feed a)) st in let later = accepted_from B words after (map feed xs) in
        P (boards_from B words after (map feed xs)) (s ++ cond t (feed a ∷ later) later)
    by_test true e next =
        let after = taken B st (feed a) in
        subst (P (boards_from B words after (map feed xs))) (append_snoc s (feed a) (accepted_from B words after (map feed xs)))
        (next after (s ++ (feed a ∷ [])) (step st s a p (eqb-true _ _ e)))
    by_test false e next = next st s p
