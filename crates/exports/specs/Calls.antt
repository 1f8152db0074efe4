-- What each exported function promises: what the function that it wraps answers and leaves, its records as numbers in lent slices.
-- Where a slice has no room for its record, or the record read has no bit order, the number is 25 or 27, and nothing is called or written.
use Rattle.std.specs.Prelude.{◌≡◌, ℕ, ◌≤◌, ◌<◌, Bool, cond, List, [], ◌∷◌, eqb, length}
use Rattle.counting.specs.Stretch.{stretch_bit, span}
use Rattle.sampling.specs.Carrying.{carried_of, carried_words}
use Rattle.sampling.specs.Feeding.{fed_of, fed_words}
use Rattle.sampling.specs.Sampler.{started_of, started_words, blocks_of}
use Rattle.sampling.specs.Stretch.{stretch_of}
use Rattle.sampling.specs.declared.sampler.Head.{Head}
use Rattle.searching.specs.Refusal.{bottomup_refusal}
use Rattle.searching.specs.Search.{answer_of, BottomupSearch}
use Rattle.searching.specs.Finding.{Searched}
use Rattle.judging.specs.Check.{check_refusal, checked_scratch}
use Rattle.judging.specs.Evaluation.{evaluated_of, evaluated_scratch}
use Rattle.chance.specs.Bracket.{bracket_of, bracket_scratch}
use Rattle.judging.specs.Plan.{plan_of}
use Rattle.judging.specs.Split.{split_refusal, first_part, second_part}
use Rattle.sweeping.specs.Sweep.{swept_of, room_of, LentWhereRefused}
use Rattle.exchange.specs.Reader.{read_text}
use Rattle.exchange.specs.Exchange.{Writes, Reads, reading_of}
use Rattle.exports.specs.Records.{finding_numbers, finding_read, evaluated_numbers, plan_numbers, swept_numbers, written, short_record, finding_unread, evaluation_unread}
use Rattle.exports.specs.Samplers.{head_of, sampler_of, earlier_of, SamplerWritten, sampler_room, sampler_unread, feed_unread, search_unread, carry_unread}

-- `start`, its sampler written to two slices
pub record StartCall (B : ℕ) (low : Bool) (ws sampler unfinished : List ℕ) (r : ℕ) (ws' sampler' unfinished' : List ℕ) : Type 0 where
  pub made :
      sampler_room (length sampler) (length unfinished) ≡ 0
      → let a = started_of B low (length ws) in
      (r ≡ a.refusal) × (ws' ≡ started_words B ws) × SamplerWritten a.sampler sampler unfinished sampler' unfinished'
  pub short :
      (sampler_room (length sampler) (length unfinished) ≡ 0 → ⊥) → (r ≡ short_record) × (ws' ≡ ws) × (sampler' ≡ sampler) × (unfinished' ≡ unfinished)

-- `feed`, the sampler read from two slices and the one it returns written there
pub record FeedCall (sampler unfinished ws : List ℕ) (board : ℕ) (piece : List ℕ) (r : ℕ) (sampler' unfinished' ws' : List ℕ) : Type 0 where
  pub made :
      feed_unread sampler (length unfinished) ≡ 0
      → let s = sampler_of sampler unfinished in
      let a = fed_of s (length ws) board piece in
      (r ≡ a.refusal) × (ws' ≡ fed_words s.head s.unfinished ws board piece) × SamplerWritten a.sampler sampler unfinished sampler' unfinished'
  pub refused :
      (feed_unread sampler (length unfinished) ≡ 0 → ⊥)
      → (r ≡ feed_unread sampler (length unfinished)) × (ws' ≡ ws) × (sampler' ≡ sampler) × (unfinished' ≡ unfinished)

-- `carry_over`, the sampler of the earlier rule read from one slice, and the one it returns written to two
pub record CarryCall (earlier ws sampler unfinished : List ℕ) (r : ℕ) (ws' sampler' unfinished' : List ℕ) : Type 0 where
  pub made :
      carry_unread earlier (length sampler) (length unfinished) ≡ 0
      → let a = carried_of (earlier_of earlier) ws in
      (r ≡ a.refusal) × (ws' ≡ carried_words (earlier_of earlier) ws) × SamplerWritten a.sampler sampler unfinished sampler' unfinished'
  pub refused :
      (carry_unread earlier (length sampler) (length unfinished) ≡ 0 → ⊥)
      → (r ≡ carry_unread earlier (length sampler) (length unfinished)) × (ws' ≡ ws) × (sampler' ≡ sampler) × (unfinished' ≡ unfinished)

-- n of the sampler read from the slice; 0 where it holds none
unfoldable pub blocks_call : List ℕ → ℕ
blocks_call sampler = cond (eqb (sampler_unread sampler) 0) (blocks_of (head_of sampler)) 0

-- the answer a: its refusal r returned, its finding written
pub record Answered (a : Searched) (finding : List ℕ) (r : ℕ) (finding' : List ℕ) : Type 0 where
  pub refusal : r ≡ a.refusal
  pub wrote : finding' ≡ written (finding_numbers a.finding) finding

-- what `bottomup` answers, whatever store it is lent
abbrev pub bottomup_answer : Head → List ℕ → ℕ → ℕ → ℕ → List ℕ → List ℕ → Searched
bottomup_answer s ws first end k bins order =
    let x = stretch_of s (length ws) first end in
    answer_of (bottomup_refusal s (length ws) first end k (length bins) (length order)) s.low_first (stretch_bit x ws) (span x) s.block_size k

-- `bottomup`, the sampler's numbers read from one slice and the finding written to another
pub record BottomupCall (sampler ws : List ℕ) (first end k : ℕ) (store bins order finding : List ℕ) (r : ℕ) (store' bins' order' finding' : List ℕ) : Type 0 where
  pub made :
      search_unread sampler (length finding) ≡ 0
      → BottomupSearch (head_of sampler) ws first end k store bins order (bottomup_answer (head_of sampler) ws first end k bins order) store' bins' order'
      × Answered (bottomup_answer (head_of sampler) ws first end k bins order) finding r finding'
  pub refused :
      (search_unread sampler (length finding) ≡ 0 → ⊥)
      → (r ≡ search_unread sampler (length finding)) × (store' ≡ store) × (bins' ≡ bins) × (order' ≡ order) × (finding' ≡ finding)

-- `validate`, the finding read from the slice
pub record CheckCall (finding order scratch : List ℕ) (r : ℕ) (scratch' : List ℕ) : Type 0 where
  pub made :
      finding_unread finding ≡ 0
      → (r ≡ check_refusal (finding_read finding) order (length scratch)) × (scratch' ≡ checked_scratch (finding_read finding) (length order) scratch)
  pub refused : (finding_unread finding ≡ 0 → ⊥) → (r ≡ finding_unread finding) × (scratch' ≡ scratch)

-- `evaluate_histogram`, the finding read from one slice and the evaluation's 3 numbers written to another
pub record EvaluateCall (finding order bytes scratch evaluated : List ℕ) (r : ℕ) (scratch' evaluated' : List ℕ) : Type 0 where
  pub made :
      evaluation_unread finding (length evaluated) ≡ 0
      → (r ≡ (evaluated_of (finding_read finding) order bytes (length scratch)).refusal)
      × (scratch' ≡ evaluated_scratch (finding_read finding) order bytes scratch)
      × (evaluated' ≡ written (evaluated_numbers (evaluated_of (finding_read finding) order bytes (length scratch))) evaluated)
  pub refused : (evaluation_unread finding (length evaluated) ≡ 0 → ⊥) → (r ≡ evaluation_unread finding (length evaluated)) × (scratch' ≡ scratch) × (evaluated' ≡ evaluated)

-- `write_finding`, the finding read from the slice, and the length of the text written to a number
pub record WriteCall (finding order scratch out : List ℕ) (size r : ℕ) (scratch' out' : List ℕ) (size' : ℕ) : Type 0 where
  pub made : finding_unread finding ≡ 0 → Writes (finding_read finding) order scratch out (record { refusal = r; length = size' }) scratch' out'
  pub refused : (finding_unread finding ≡ 0 → ⊥) → (r ≡ finding_unread finding) × (scratch' ≡ scratch) × (out' ≡ out) × (size' ≡ size)

-- `read_finding`, the finding written to the slice
pub record ReadCall (text order scratch finding : List ℕ) (r : ℕ) (order' scratch' finding' : List ℕ) : Type 0 where
  pub made :
      25 ≤ length finding
      → let a = reading_of (read_text text) (length order) (length scratch) in
      Reads text order scratch a order' scratch' × (r ≡ a.refusal) × (finding' ≡ written (finding_numbers a.finding) finding)
  pub short : length finding < 25 → (r ≡ short_record) × (order' ≡ order) × (scratch' ≡ scratch) × (finding' ≡ finding)

-- the split: the lengths of both parts of the raw bytes, which lie one after the other from the first byte on
pub record SplitCall (raw : List ℕ) (B : ℕ) (training : Bool) (lengths : List ℕ) (r : ℕ) (lengths' : List ℕ) : Type 0 where
  pub made :
      2 ≤ length lengths
      → (r ≡ split_refusal raw B)
      × (lengths' ≡ written (length (first_part raw B training) ∷ length (second_part raw B training) ∷ []) lengths)
  pub short : length lengths < 2 → (r ≡ short_record) × (lengths' ≡ lengths)

-- `configurations`, the plan's 15 numbers written to the slice
pub record PlanCall (B size : ℕ) (plan : List ℕ) (r : ℕ) (plan' : List ℕ) : Type 0 where
  pub made : 15 ≤ length plan → (r ≡ (plan_of B size).refusal) × (plan' ≡ written (plan_numbers (plan_of B size)) plan)
  pub short : length plan < 15 → (r ≡ short_record) × (plan' ≡ plan)

-- `bracket`, both ends written; a refusal, with 0 at either end, leaves the scratch as lent
pub record BracketCall (n c k d : ℕ) (scratch : List ℕ) (r : ℕ) (scratch' : List ℕ) (low high : ℕ) : Type 0 where
  pub answered : record { refusal = r; low = low; high = high } ≡ bracket_of n c k d (length scratch)
  pub left : scratch' ≡ bracket_scratch n c k d scratch

-- `sweep`, its 60 numbers written to the slice; the six buffers are free, and as lent where it is refused
pub record SweepCall (raw : List ℕ) (B : ℕ) (low : Bool) (level : ℕ) (words store bins order scratch entries swept : List ℕ) (r : ℕ) (words' store' bins' order' scratch' entries' swept' : List ℕ) : Type 0 where
  pub made :
      60 ≤ length swept
      → let a = swept_of level B low raw (room_of words bins order scratch entries) in
      (r ≡ a.refusal)
      × (swept' ≡ written (swept_numbers a) swept)
      × LentWhereRefused a words words'
      × LentWhereRefused a store store'
      × LentWhereRefused a bins bins'
      × LentWhereRefused a order order'
      × LentWhereRefused a scratch scratch'
      × LentWhereRefused a entries entries'
  pub short :
      length swept < 60
      → (r ≡ short_record)
      × (swept' ≡ swept)
      × (words' ≡ words)
      × (store' ≡ store)
      × (bins' ≡ bins)
      × (order' ≡ order)
      × (scratch' ≡ scratch)
      × (entries' ≡ entries)
