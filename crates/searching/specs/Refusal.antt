-- What the search refuses: the first that applies.
use Rattle.std.specs.Prelude.{ℕ, zero, suc, ◌^◌, cond, leb}
use Rattle.sampling.specs.Sampler.{sampler_refusal}
use Rattle.sampling.specs.Stretch.{stretch_refusal}
use Rattle.sampling.specs.declared.sampler.Head.{Head}
use Rattle.subsets.specs.Bits.{valid_width}

-- r where it is a refusal, else what comes after it
abbrev pub or_else : ℕ → ℕ → ℕ
or_else zero next = next
or_else (suc r) next = suc r

-- 2: k is 0 or above 20; 3: k is above B
unfoldable pub width_refusal : ℕ → ℕ → ℕ
width_refusal B k = cond (valid_width k) (cond (leb k B) 0 3) 2

-- 7: a buffer, of a or of b entries, has fewer than 2 ^ k
unfoldable pub buffer_refusal : ℕ → ℕ → ℕ → ℕ
buffer_refusal k a b = cond (leb (2 ^ k) a) (cond (leb (2 ^ k) b) 0 7) 7

-- what comes before the buffers: 4, 18, 2, 3
unfoldable pub search_refusal : Head → ℕ → ℕ → ℕ → ℕ → ℕ
search_refusal s words first end k =
    or_else (sampler_refusal s words) (or_else (stretch_refusal s first end) (width_refusal s.block_size k))

-- the search, whatever store it is lent: 4, 18, 2, 3, 7
unfoldable pub bottomup_refusal : Head → ℕ → ℕ → ℕ → ℕ → ℕ → ℕ → ℕ
bottomup_refusal s words first end k bins order = or_else (search_refusal s words first end k) (buffer_refusal k bins order)
