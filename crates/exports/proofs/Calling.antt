-- What an exported function promises, from what the function that it wraps has promised and what was written; and where a record has no room or is none.
use mathlib.Core.Path.{◌≡◌, refl, sym, ap, subst, ◌∙◌}
use mathlib.Core.Bool.{Bool}
use mathlib.Core.List.{List, [], ◌∷◌}
use Prim.Native.Nat.{ℕ, ◌≤◌, ◌<◌}
use native.Mathlib.Omega.{arith}
use lib.Dec.{leb, eqb}
use lib.ListN.{length, get_or, take}
use borrow.Author.Tests.{leb-true, eqb-true}
use Rattle.counting.proofs.Accepted.{passed}
use Rattle.sampling.specs.Carrying.{carried_of, carried_words}
use Rattle.sampling.specs.Feeding.{taken_of, next_head, fed_unfinished, fed_of, fed_words}
use Rattle.sampling.specs.Sampler.{started_of, started_words}
use Rattle.sampling.specs.Carrying.{Carried}
use Rattle.sampling.specs.declared.carrying.Earlier.{Earlier}
use Rattle.sampling.specs.Feeding.{Taken}
use Rattle.sampling.specs.declared.sampler.Head.{Head}
use Rattle.sampling.specs.Sampler.{Started}
use Rattle.sampling.proofs.Usable.{taken_refusal, head_is}
use Rattle.searching.specs.Search.{BottomupSearch}
use Rattle.searching.specs.Finding.{Searched}
use Rattle.judging.specs.Evaluation.{evaluated_of, evaluated_scratch}
use Rattle.judging.specs.Plan.{plan_of}
use Rattle.judging.specs.Split.{split_refusal, first_part, second_part}
use Rattle.judging.specs.Evaluation.{Evaluated}
use Rattle.judging.specs.Plan.{Plan}
use Rattle.sweeping.specs.Sweep.{swept_of, room_of, LentWhereRefused}
use Rattle.sweeping.specs.Sweep.{Swept}
use Rattle.exchange.specs.Exchange.{Writes, Reads}
use Rattle.exchange.specs.Exchange.{Reading}
use Rattle.exchange.specs.Exchange.{Written}
use Rattle.exports.specs.Records.{finding_numbers, finding_read, evaluated_numbers, plan_numbers, swept_numbers, written, finding_unread, evaluation_unread}
use Rattle.exports.specs.Samplers.{sampler_numbers, head_of, earlier_of, SamplerWritten, sampler_room, sampler_unread, feed_unread, search_unread, carry_unread}
use Rattle.exports.specs.Calls.{StartCall, FeedCall, CarryCall, Answered, BottomupCall, EvaluateCall, WriteCall, ReadCall, SplitCall, PlanCall, SweepCall}

-- ---- records that can be read

pub room_for : (numbers bytes : ℕ) → sampler_room numbers bytes ≡ 0 → (8 ≤ numbers) × (2048 ≤ bytes)
unfolding sampler_room
room_for numbers bytes e =
    let p = passed (leb 8 numbers) _ 25 (omega arith) e in
    (leb-true 8 numbers p.0, leb-true 2048 bytes (passed (leb 2048 bytes) 0 25 (omega arith) p.1).0)

pub sampler_room_is : (l : List ℕ) → sampler_unread l ≡ 0 → 8 ≤ length l
unfolding sampler_unread
sampler_room_is l e = leb-true 8 (length l) (passed (leb 8 (length l)) _ 25 (omega arith) e).0

-- .. and its number for the bit order is one
pub sampler_order : (l : List ℕ) → sampler_unread l ≡ 0 → get_or l 3 0 ≤ 1
unfolding sampler_unread
sampler_order l e =
    let p = passed (leb 8 (length l)) _ 25 (omega arith) e in
    leb-true (get_or l 3 0) 1 (passed (leb (get_or l 3 0) 1) 0 27 (omega arith) p.1).0

pub feed_read : (l : List ℕ) (bytes : ℕ) → feed_unread l bytes ≡ 0 → (sampler_unread l ≡ 0) × (2048 ≤ bytes)
unfolding feed_unread
feed_read l bytes e = let p = passed (leb 2048 bytes) (sampler_unread l) 25 (omega arith) e in (p.1, leb-true 2048 bytes p.0)

pub carry_room : (l : List ℕ) (numbers bytes : ℕ) → carry_unread l numbers bytes ≡ 0 → (4 ≤ length l) × (8 ≤ numbers) × (2048 ≤ bytes)
unfolding carry_unread
carry_room l numbers bytes e =
    let p = passed (leb 4 (length l)) _ 25 (omega arith) e in
    let q = passed (eqb (sampler_room numbers bytes) 0) _ 25 (omega arith) p.1 in
    let r = room_for numbers bytes (eqb-true _ _ q.0) in
    (leb-true 4 (length l) p.0, r.0, r.1)

pub search_room : (l : List ℕ) (room : ℕ) → search_unread l room ≡ 0 → (25 ≤ room) × (8 ≤ length l)
unfolding search_unread
search_room l room e = let p = passed (leb 25 room) (sampler_unread l) 25 (omega arith) e in (leb-true 25 room p.0, sampler_room_is l p.1)

pub finding_room : (l : List ℕ) → finding_unread l ≡ 0 → 25 ≤ length l
unfolding finding_unread
finding_room l e = leb-true 25 (length l) (passed (leb 25 (length l)) _ 25 (omega arith) e).0

pub evaluation_room : (l : List ℕ) (room : ℕ) → evaluation_unread l room ≡ 0 → (3 ≤ room) × (25 ≤ length l)
unfolding evaluation_unread
evaluation_room l room e = let p = passed (leb 3 room) (finding_unread l) 25 (omega arith) e in (leb-true 3 room p.0, finding_room l p.1)

-- ---- start

pub start_made :
    (B : ℕ) (low : Bool) (ws sampler unfinished : List ℕ) (a : Started) (ws' sampler' unfinished' : List ℕ)
    → sampler_room (length sampler) (length unfinished) ≡ 0
    → a ≡ started_of B low (length ws)
    → ws' ≡ started_words B ws
    → SamplerWritten a.sampler sampler unfinished sampler' unfinished'
    → StartCall B low ws sampler unfinished a.refusal ws' sampler' unfinished'
start_made B low ws sampler unfinished a ws' sampler' unfinished' room e w s =
    record {
      made = λ h. (ap (λ (x : Started). x.refusal) e, w, subst (λ (x : Started). SamplerWritten x.sampler sampler unfinished sampler' unfinished') e s);
      short = λ h. absurd (h room);
    }

pub start_short :
    (B : ℕ) (low : Bool) (ws sampler unfinished : List ℕ) → (sampler_room (length sampler) (length unfinished) ≡ 0 → ⊥)
    → StartCall B low ws sampler unfinished 25 ws sampler unfinished
start_short B low ws sampler unfinished some = record { made = λ m. absurd (some m); short = λ s. (refl, refl, refl, refl) }

-- ---- feed

pub feed_made :
    (sampler unfinished ws : List ℕ) (board : ℕ) (piece : List ℕ) (given : Head) (t : Taken) (bytes sampler' unfinished' ws' : List ℕ)
    → feed_unread sampler (length unfinished) ≡ 0
    → given ≡ head_of sampler
    → t ≡ taken_of given (length ws) board (length piece)
    → bytes ≡ fed_unfinished given (length ws) (take 2048 unfinished) board piece
    → ws' ≡ fed_words given (take 2048 unfinished) ws board piece
    → sampler' ≡ written (sampler_numbers (next_head (head_of sampler) board t)) sampler
    → unfinished' ≡ written bytes unfinished
    → FeedCall sampler unfinished ws board piece t.refusal sampler' unfinished' ws'
unfolding fed_of
feed_made sampler unfinished ws board piece given t bytes sampler' unfinished' ws' room g e b w s u =
    let taken : t ≡ taken_of (head_of sampler) (length ws) board (length piece) = e ∙ ap (λ (x : Head). taken_of x (length ws) board (length piece)) g in
    record {
      made = λ h. (
        ap (λ (x : Taken). x.refusal) taken ∙ taken_refusal (head_of sampler) (length ws) board (length piece),
        w ∙ ap (λ (x : Head). fed_words x (take 2048 unfinished) ws board piece) g,
        record {
          first =
              s
              ∙ ap (λ (x : Head). written (sampler_numbers x) sampler)
              (ap (next_head (head_of sampler) board) taken ∙ sym (head_is (head_of sampler) (length ws) board (length piece)));
          second = u ∙ ap (λ (l : List ℕ). written l unfinished) (b ∙ ap (λ (x : Head). fed_unfinished x (length ws) (take 2048 unfinished) board piece) g);
        },
      );
      refused = λ h. absurd (h room);
    }

pub feed_unread_is :
    (sampler unfinished ws : List ℕ) (board : ℕ) (piece : List ℕ) (r : ℕ) → r ≡ feed_unread sampler (length unfinished) → (r ≡ 0 → ⊥)
    → FeedCall sampler unfinished ws board piece r sampler unfinished ws
feed_unread_is sampler unfinished ws board piece r e some = record { made = λ m. absurd (some (e ∙ m)); refused = λ h. (e, refl, refl, refl) }

-- ---- the carry-over

pub carry_made :
    (earlier ws sampler unfinished : List ℕ) (given : Earlier) (a : Carried) (ws' sampler' unfinished' : List ℕ)
    → carry_unread earlier (length sampler) (length unfinished) ≡ 0
    → given ≡ earlier_of earlier
    → a ≡ carried_of given ws
    → ws' ≡ carried_words given ws
    → SamplerWritten a.sampler sampler unfinished sampler' unfinished'
    → CarryCall earlier ws sampler unfinished a.refusal ws' sampler' unfinished'
carry_made earlier ws sampler unfinished given a ws' sampler' unfinished' room g e w s =
    let f : a ≡ carried_of (earlier_of earlier) ws = e ∙ ap (λ (x : Earlier). carried_of x ws) g in
    record {
      made = λ h. (
        ap (λ (x : Carried). x.refusal) f,
        w ∙ ap (λ (x : Earlier). carried_words x ws) g,
        subst (λ (x : Carried). SamplerWritten x.sampler sampler unfinished sampler' unfinished') f s,
      );
      refused = λ h. absurd (h room);
    }

pub carry_unread_is :
    (earlier ws sampler unfinished : List ℕ) (r : ℕ) → r ≡ carry_unread earlier (length sampler) (length unfinished) → (r ≡ 0 → ⊥)
    → CarryCall earlier ws sampler unfinished r ws sampler unfinished
carry_unread_is earlier ws sampler unfinished r e some = record { made = λ m. absurd (some (e ∙ m)); refused = λ h. (e, refl, refl, refl) }

-- ---- the search

answered : (a b : Searched) (finding finding' : List ℕ) → a ≡ b → finding' ≡ written (finding_numbers a.finding) finding → Answered b finding a.refusal finding'
answered a b finding finding' e w =
    record {
      refusal = ap (λ (x : Searched). x.refusal) e;
      wrote = w ∙ ap (λ (x : Searched). written (finding_numbers x.finding) finding) e;
    }

pub bottomup_made :
    (sampler ws : List ℕ) (first end k : ℕ) (store bins order finding : List ℕ) (given : Head) (a : Searched) (store' bins' order' finding' : List ℕ)
    → search_unread sampler (length finding) ≡ 0
    → given ≡ head_of sampler
    → BottomupSearch given ws first end k store bins order a store' bins' order'
    → finding' ≡ written (finding_numbers a.finding) finding
    → BottomupCall sampler ws first end k store bins order finding a.refusal store' bins' order' finding'
bottomup_made sampler ws first end k store bins order finding given a store' bins' order' finding' room g d w =
    let s : BottomupSearch (head_of sampler) ws first end k store bins order a store' bins' order' =
    subst (λ (x : Head). BottomupSearch x ws first end k store bins order a store' bins' order') g d in
    record {
      made = λ h. (
        record {
          search = record { answered = refl; counted = s.search.counted; ordered = s.search.ordered };
          stored = s.stored;
        },
        answered a _ finding finding' s.search.answered w,
      );
      refused = λ h. absurd (h room);
    }

pub bottomup_unread :
    (sampler ws : List ℕ) (first end k : ℕ) (store bins order finding : List ℕ) (r : ℕ) → r ≡ search_unread sampler (length finding) → (r ≡ 0 → ⊥)
    → BottomupCall sampler ws first end k store bins order finding r store bins order finding
bottomup_unread sampler ws first end k store bins order finding r e some =
    record { made = λ m. absurd (some (e ∙ m)); refused = λ h. (e, refl, refl, refl, refl) }

-- ---- judging

pub evaluate_made :
    (finding order bytes scratch evaluated : List ℕ) (a : Evaluated) (scratch' evaluated' : List ℕ)
    → evaluation_unread finding (length evaluated) ≡ 0
    → a ≡ evaluated_of (finding_read finding) order bytes (length scratch)
    → scratch' ≡ evaluated_scratch (finding_read finding) order bytes scratch
    → evaluated' ≡ written (evaluated_numbers a) evaluated
    → EvaluateCall finding order bytes scratch evaluated a.refusal scratch' evaluated'
evaluate_made finding order bytes scratch evaluated a scratch' evaluated' room e s w =
    record {
      made = λ h. (ap (λ (x : Evaluated). x.refusal) e, s, w ∙ ap (λ (x : Evaluated). written (evaluated_numbers x) evaluated) e);
      refused = λ h. absurd (h room);
    }

pub evaluate_unread :
    (finding order bytes scratch evaluated : List ℕ) (r : ℕ) → r ≡ evaluation_unread finding (length evaluated) → (r ≡ 0 → ⊥)
    → EvaluateCall finding order bytes scratch evaluated r scratch evaluated
evaluate_unread finding order bytes scratch evaluated r e some = record { made = λ m. absurd (some (e ∙ m)); refused = λ h. (e, refl, refl) }

pub plan_made :
    (B size : ℕ) (plan : List ℕ) (p : Plan) (plan' : List ℕ)
    → 15 ≤ length plan
    → p ≡ plan_of B size
    → plan' ≡ written (plan_numbers p) plan
    → PlanCall B size plan p.refusal plan'
plan_made B size plan p plan' room e w =
    record {
      made = λ h. (ap (λ (x : Plan). x.refusal) e, w ∙ ap (λ (x : Plan). written (plan_numbers x) plan) e);
      short = λ h. absurd (omega arith);
    }

pub split_made :
    (raw : List ℕ) (B : ℕ) (training : Bool) (lengths first second : List ℕ) (r : ℕ) (lengths' : List ℕ)
    → 2 ≤ length lengths
    → first ≡ first_part raw B training
    → second ≡ second_part raw B training
    → r ≡ split_refusal raw B
    → lengths' ≡ written (length first ∷ length second ∷ []) lengths
    → SplitCall raw B training lengths r lengths'
split_made raw B training lengths first second r lengths' room f s e w =
    record {
      made = λ h. (
        e,
        w
            ∙ ap (λ (x : List ℕ). written (length x ∷ length second ∷ []) lengths) f
            ∙ ap (λ (x : List ℕ). written (length (first_part raw B training) ∷ length x ∷ []) lengths) s,
      );
      short = λ h. absurd (omega arith);
    }

-- ---- the sweep

-- the six buffers, as lent where refused
abbrev Lent : Swept → List ℕ → List ℕ → List ℕ → List ℕ → List ℕ → List ℕ → List ℕ → List ℕ → List ℕ → List ℕ → List ℕ → List ℕ → Type 0
Lent a words store bins order scratch entries words' store' bins' order' scratch' entries' =
    LentWhereRefused a words words'
    × LentWhereRefused a store store'
    × LentWhereRefused a bins bins'
    × LentWhereRefused a order order'
    × LentWhereRefused a scratch scratch'
    × LentWhereRefused a entries entries'

pub sweep_made :
    (raw : List ℕ) (B : ℕ) (low : Bool) (level : ℕ) (words store bins order scratch entries swept : List ℕ) (a : Swept) (words' store' bins' order' scratch' entries' swept' : List ℕ)
    → 60 ≤ length swept
    → a ≡ swept_of level B low raw (room_of words bins order scratch entries)
    → Lent a words store bins order scratch entries words' store' bins' order' scratch' entries'
    → swept' ≡ written (swept_numbers a) swept
    → SweepCall raw B low level words store bins order scratch entries swept a.refusal words' store' bins' order' scratch' entries' swept'
sweep_made raw B low level words store bins order scratch entries swept a words' store' bins' order' scratch' entries' swept' room e d w =
    let s : Lent (swept_of level B low raw (room_of words bins order scratch entries)) words store bins order scratch entries words' store' bins' order' scratch' entries' =
    subst (λ (x : Swept). Lent x words store bins order scratch entries words' store' bins' order' scratch' entries') e d in
    record {
      made = λ h. (
        ap (λ (x : Swept). x.refusal) e,
        w ∙ ap (λ (x : Swept). written (swept_numbers x) swept) e,
        s.0,
        s.1,
        s.2,
        s.3,
        s.4,
        s.5,
      );
      short = λ h. absurd (omega arith);
    }

pub sweep_short :
    (raw : List ℕ) (B : ℕ) (low : Bool) (level : ℕ) (words store bins order scratch entries swept : List ℕ) → length swept < 60
    → SweepCall raw B low level words store bins order scratch entries swept 25 words store bins order scratch entries swept
sweep_short raw B low level words store bins order scratch entries swept h =
    record { made = λ m. absurd (omega arith); short = λ s. (refl, refl, refl, refl, refl, refl, refl, refl) }

-- ---- findings as text

pub write_made :
    (finding order scratch out : List ℕ) (size : ℕ) (a : Written) (scratch' out' : List ℕ)
    → finding_unread finding ≡ 0
    → Writes (finding_read finding) order scratch out a scratch' out'
    → WriteCall finding order scratch out size a.refusal scratch' out' a.length
write_made finding order scratch out size a scratch' out' room w = record { made = λ h. w; refused = λ h. absurd (h room) }

pub write_unread : (finding order scratch out : List ℕ) (size r : ℕ) → r ≡ finding_unread finding → (r ≡ 0 → ⊥) → WriteCall finding order scratch out size r scratch out size
write_unread finding order scratch out size r e some = record { made = λ m. absurd (some (e ∙ m)); refused = λ h. (e, refl, refl, refl) }

pub read_made :
    (text order scratch finding : List ℕ) (a : Reading) (order' scratch' finding' : List ℕ)
    → 25 ≤ length finding
    → Reads text order scratch a order' scratch'
    → finding' ≡ written (finding_numbers a.finding) finding
    → ReadCall text order scratch finding a.refusal order' scratch' finding'
read_made text order scratch finding a order' scratch' finding' room r f =
    record {
      made = λ h. (
        subst (λ (x : Reading). Reads text order scratch x order' scratch') r.answered r,
        ap (λ (x : Reading). x.refusal) r.answered,
        f ∙ ap (λ (x : Reading). written (finding_numbers x.finding) finding) r.answered,
      );
      short = λ h. absurd (omega arith);
    }

pub read_short : (text order scratch finding : List ℕ) → length finding < 25 → ReadCall text order scratch finding 25 order scratch finding
read_short text order scratch finding h = record { made = λ m. absurd (omega arith); short = λ s. (refl, refl, refl, refl) }
