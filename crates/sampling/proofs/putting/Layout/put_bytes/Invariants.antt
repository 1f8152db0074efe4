-- `putting::Layout::put_bytes` meets its contract: after n turns the words are those with n bytes put in, the place is that of the next byte, and each byte lies within the words.
use mathlib.Core.Path.{◌≡◌}
use Prim.Native.Nat.{ℕ, ◌+◌, ◌*◌, ◌<◌}
use Rattle.sampling.specs.Putting.{put_bytes}
use Rattle.sampling.specs.declared.putting.Place.{Place}
use Rattle.sampling.proofs.putting.Layout.put_bytes.Given as goal

-- the number of a place's byte in the recording
abbrev pub number : ℕ → Place → ℕ
number size p = p.block * size + p.byte

abbrev pub invariant-loop-x : goal.invariant-loop-x
invariant-loop-x l =
    (l.words ≡ put_bytes l.self.low_first l.self.size l.self.stride l.initial.words (number l.self.size l.initial.place) l.bytes l.x-index)
    × (number l.self.size l.place ≡ number l.self.size l.initial.place + l.x-index) × (l.place.byte < l.self.size)
