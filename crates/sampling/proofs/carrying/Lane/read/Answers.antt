-- `carrying::Lane::read` meets its contract: after j turns the first j bytes stand in front.
use mathlib.Core.Path.{◌≡◌, sym, ap, ◌∙◌}
use mathlib.Core.List.{List, [], ◌∷◌, ◌++◌, append-nil}
use Prim.Native.Nat.{ℕ, ◌+◌, ◌<◌}
use native.Mathlib.Numerals.{add-one}
use native.Mathlib.Omega.{arith}
use lib.ListN.{length, drop, set}
use lib.Seq.{drop-length}
use Rattle.counting.specs.Buffer.{put}
use Rattle.counting.specs.Sample.{list_of}
use Rattle.counting.proofs.Buffers.{put_none, put_more, put_first}
use Rattle.counting.proofs.Counts.{length_list}
use Rattle.sampling.specs.Carrying.{stored_byte}
use Rattle.sampling.proofs.carrying.Lane.read.Goals as goal

listed_more : (f : ℕ → ℕ) (j : ℕ) → list_of (j + 1) f ≡ list_of j f ++ (f j ∷ [])
unfolding list_of
listed_more f j = rw add-one

pub loop-j-init : goal.loop-j-init
unfolding list_of
loop-j-init c = sym (put_none c.args.to.now 0)

pub loop-j-preserved : goal.loop-j-preserved
loop-j-preserved c =
    let a = c.args in
    let j = c.loop-j.j in
    let f = stored_byte a.self.low_first a.self.stride a.words.now a.self.block in
    let room : j < length a.to.now = omega arith in
    let at : 0 + length (list_of j f) ≡ j = rw length_list (omega arith) in
    (λ i. set (c.loop-j.invariant i) j (c.byte.ensures i)) ∙ put_more a.to.now 0 (list_of j f) (f j) j at room ∙ ap (put a.to.now 0) (sym (listed_more f j))

pub returns : goal.returns
returns c =
    let a = c.args in
    let to = a.to.now in
    let f = stored_byte a.self.low_first a.self.stride a.words.now a.self.block in
    let past : c.loop-j.j ≡ length to = omega arith in
    c.loop-j.invariant ∙ ap (λ (j : ℕ). put to 0 (list_of j f)) past ∙ put_first to (list_of (length to) f)
    ∙ ap (λ (k : ℕ). list_of (length to) f ++ drop k to) (length_list (length to) f)
    ∙ ap (λ (l : List ℕ). list_of (length to) f ++ l) (drop-length to) ∙ append-nil (list_of (length to) f)
