-- `feeding::wipe` meets its contract: the part that is filled is put at its place, and where there is none nothing changes.
use mathlib.Core.Path.{◌≡◌, sym, ap, ◌∙◌}
use Prim.Native.Nat.{ℕ, ◌-◌}
use native.Mathlib.Omega.{arith}
use lib.ListN.{length, take, drop, replicate, length-drop, length-replicate}
use lib.Seq.{length-take-le}
use Rattle.counting.specs.Buffer.{put}
use Rattle.counting.proofs.Buffers.{put_none}
use Rattle.sampling.proofs.Taking.{put_part}
use Rattle.sampling.proofs.feeding.wipe.Goals as goal

pub returns-then-from-end : goal.returns-then-from-end
returns-then-from-end c =
    let a = c.args in
    let n = a.end - a.from in
    let room : length (take n (drop a.from a.unfinished.now)) ≡ n = length-take-le n (drop a.from a.unfinished.now) (rw length-drop (omega (arith, c.requires))) in
    put_part a.unfinished.now a.from n c.fill.new.self (replicate n 0) (c.fill.ensures.after (λ y e. e) ∙ ap (λ (k : ℕ). replicate k 0) room) (length-replicate n 0)

pub returns-else-from-end : goal.returns-else-from-end
returns-else-from-end c =
    let a = c.args in
    let none : 0 ≡ a.end - a.from = omega arith in
    sym (put_none a.unfinished.now a.from) ∙ ap (λ (k : ℕ). put a.unfinished.now a.from (replicate k 0)) none
