-- Worked examples: the order of the refusals and their edges.
use Rattle.std.specs.Prelude.{◌≡◌, false, [], ◌∷◌, ℕ, ◌-◌, ◌^◌}
use Rattle.judging.specs.Plan.{plan_of}
use Rattle.sweeping.specs.Refusal.{sweep_refusal}
use Rattle.sweeping.specs.Sweep.{refused_sweep, swept_of}
use Rattle.sweeping.specs.declared.refusal.Room.{Room}

-- buffers of so many words, entries for bins (as many for the order and the evaluation), and entries of the bracket
abbrev pub room_for : ℕ → ℕ → ℕ → Room
room_for words bins entries = record { words = words; bins = bins; order = bins; scratch = bins; entries = entries }

-- a recording of so many bytes at the level a
abbrev pub refusal_for : ℕ → ℕ → ℕ → Room → ℕ
refusal_for a B bytes room = sweep_refusal a (plan_of B bytes) bytes room

-- Theorem: the examples. Of 600 bytes the pairs (8, 8), (512, 2) have 600 and 9 blocks; 300 bytes of training take 8 rows of 5 words, 4 blocks 512 words.
pub record SweepExamples : Type 0 where
  pub no_level : refusal_for 0 7 0 (room_for 0 0 0) ≡ 20
  pub certain : refusal_for (2 ^ 40) 7 0 (room_for 0 0 0) ≡ 20
  pub no_plan : refusal_for (2 ^ 40 - 1) 7 0 (room_for 0 0 0) ≡ 1
  pub empty : refusal_for 1 8 1 (room_for 0 0 0) ≡ 8
  pub first_words : refusal_for 1 512 600 (room_for 39 0 0) ≡ 5
  pub first_bins : refusal_for 1 512 600 (room_for 40 255 301) ≡ 7
  pub first_entries : refusal_for 1 512 600 (room_for 40 256 300) ≡ 7
  pub second_words : refusal_for 1 512 600 (room_for 511 256 301) ≡ 5
  pub taken : refusal_for 1 512 600 (room_for 512 256 301) ≡ 0
  pub answer : swept_of 1 8 false (7 ∷ []) (room_for 0 0 0) ≡ refused_sweep 8
