-- `arrays::store_entries` meets its contract. The loop's invariant: the first numbers are stored, and the others are read of what is left.
use Rattle.std.proofs.Common.{◌≡◌, ℕ, ◌+◌, ◌<◌, List, [], ◌∷◌, ◌++◌, length, take, set, add-one, refl, sym, ap, ◌∙◌, arith, length-set}
use Rattle.std.proofs.Math.Seq.{take-suc-set}
use Rattle.exchange.specs.Arrays.{numbers_in}
use Rattle.exchange.proofs.Storing.{opened, open_left, entries_word, turned}
use Rattle.exchange.proofs.Stepping.{is_read}
use Rattle.exchange.proofs.Turning.{entries_from}
use Rattle.exchange.proofs.arrays.store_entries.Invariants.{Left}
use Rattle.exchange.proofs.arrays.store_entries.Goals.{At-loop-entry}
use Rattle.exchange.proofs.arrays.store_entries.Goals as goal

pub loop-entry-init : goal.loop-entry-init
loop-entry-init c = (
  refl,
  λ h.
      let some-there : 0 < length (numbers_in c.args.s.now) = omega (arith, c.requires) in
      let o = opened c.args.s.now some-there in
      (o.behind, ap (entries_from []) (open_left c.token.result c.args.s c.unwrap_or-left.result o.inside (c.token.ensures ∙ o.bracket) c.unwrap_or-left.ensures) ∙ o.all),
)

pub known_word-value-requires : goal.known_word-value-requires
known_word-value-requires c =
    let left : Left c.loop-entry.left.now (numbers_in c.args.s.now) c.loop-entry.entry-index = c.loop-entry.invariant.1 (omega arith) in
    let word = entries_word _ _ _ left.1 in
    is_read _ _ word.1

pub unreachable-requires : goal.unreachable-requires
unreachable-requires c =
    let left : Left c.loop-entry.left.now (numbers_in c.args.s.now) c.loop-entry.entry-index = c.loop-entry.invariant.1 (omega arith) in
    let more : c.loop-entry.entry-index < length (numbers_in c.args.s.now) = omega (arith, c.requires, c.loop-entry-test.true) in
    let t = turned (numbers_in c.args.s.now) left.0 c.loop-entry.left.now c.known_word-value.result.1.now c.skip_space.result.now c.loop-entry.entry-index c.known_word-value.result.0 more left.1 (sym c.known_word-value.ensures) c.skip_space.ensures in
    omega (arith, t.marked)

pub loop-entry-preserved : goal.loop-entry-preserved
loop-entry-preserved c =
    let n = c.loop-entry.entry-index in
    let to = c.loop-entry.to in
    let v = c.known_word-value.result.0 in
    let ns = numbers_in c.args.s.now in
    let room : n < length to = omega arith in
    let left : Left c.loop-entry.left.now (numbers_in c.args.s.now) c.loop-entry.entry-index = c.loop-entry.invariant.1 room in
    let more : c.loop-entry.entry-index < length (numbers_in c.args.s.now) = omega (arith, c.requires, c.loop-entry-test.true) in
    let t = turned ns left.0 c.loop-entry.left.now c.known_word-value.result.1.now c.skip_space.result.now n v more left.1 (sym c.known_word-value.ensures) c.skip_space.ensures in
    let stored : take (n + 1) (set to n v) ≡ take (n + 1) ns =
    rw (add-one n) (take-suc-set to n v room) ∙ ap (λ (m : List ℕ). m ++ (v ∷ [])) c.loop-entry.invariant.0 ∙ sym t.grown in
    (stored, λ h. (left.0, t.again (omega (arith, h, length-set to n v, c.requires, c.loop-entry.auto.to))))
