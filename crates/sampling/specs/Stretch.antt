-- A stretch of the blocks that a sampler has completed.
use Rattle.std.specs.Prelude.{ℕ, cond, leb}
use Rattle.counting.specs.Recording.{stride}
use Rattle.counting.specs.declared.stretch.Stretch.{Stretch}
use Rattle.sampling.specs.Sampler.{blocks_of}
use Rattle.sampling.specs.declared.sampler.Head.{Head}

-- the sampler's blocks from `first` to before `end`, in the number of words lent
abbrev pub stretch_of : Head → ℕ → ℕ → ℕ → Stretch
stretch_of s words first end =
    record { block_size = s.block_size; stride = stride s.block_size words; first = first; end = end }

-- 18: first is above end, or end above the sampler's n; else 0
unfoldable pub stretch_refusal : Head → ℕ → ℕ → ℕ
stretch_refusal s first end = cond (leb first end) (cond (leb end (blocks_of s)) 0 18) 18
